-- A sector's place is in the object that the plain volume reads the sector from.
use Rattle.std.proofs.Common.{◌≡◌, ℕ, ◌==◌, ◌&&◌, not, true, false, Option, Some, None, is_some, List, refl, sym, ◌∙◌}
use Rattle.std.proofs.Common.{ap}
use Rattle.std.specs.Prelude.{◌↔◌}
use Rattle.std.proofs.lemmas.Bool.{and_parts, and_from, eqb-true, eq-eqb, false≢true}
use Rattle.lsvd_base.specs.declared.entry.Entry.{Entry}
use Rattle.object_stream.specs.Stream.{owners, is_own}
use Rattle.volume_maps.specs.declared.place.LogPlace.{LogPlace}
use Rattle.volume_maps.specs.declared.place.LogPlace.TheVariants.{Data, Zeros}
use Rattle.volume_maps.specs.declared.place.ObjectPlace.{ObjectPlace}
use Rattle.volume_maps.specs.declared.place.VolumePlace.TheVariants.{Object}
use Rattle.volume_maps.specs.Places.{place_in}
use Rattle.volume_maps.specs.Maps.{settled_at, logged_at}
use Rattle.volume_maps.specs.Laws.{place_owner}
use Rattle.plain_disk.specs.State.{stream_in, frontier_of, frontier_end, logged_entries}
use Rattle.plain_disk.specs.Reads.{is_read_from}
use Rattle.vol_core.specs.ReadLaws.{PlacesAreOfObjectsRead}
use Rattle.vol_core.proofs.LeftLemmas.{is_covered, LeavesAt}
use Rattle.vol_core.proofs.ShownLemmas.{counts, logged_leave}

-- the log's map has a sector exactly where an entry covers it
covered_is : (data_at : ℕ → ℕ) (first : ℕ) (entries : List Entry) (k : ℕ) (logged : Option LogPlace)
    → LeavesAt data_at first entries k logged
    → is_covered entries k ≡ is_some logged
covered_is data_at first entries k None left = left.covered
covered_is data_at first entries k (Some (Data seq at)) left = left.covered
covered_is data_at first entries k (Some (Zeros seq)) left = left.covered

-- a sector's place is in the object of a number exactly where that is its own object, and the log's map does not have it
read_where : (number : ℕ) (logged : Option LogPlace) (settled : Option ObjectPlace)
    → ((place : ObjectPlace) × (place_in logged settled ≡ Some (Object place)) × (place.level ≡ 0) × (place.number ≡ number))
    ↔ ((is_own number (place_owner settled) && not (is_some logged)) ≡ true)
read_where number (Some place) settled = (
  λ is. let bad : ⊥ = (let e = is.1 in cc) in absurd bad,
  λ is. absurd (false≢true (and_parts (is_own number (place_owner settled)) false is).1),
)
read_where number None None = (
  λ is. let bad : ⊥ = (let e = is.1 in cc) in absurd bad,
  λ is. absurd (false≢true is),
)
read_where number None (Some place) = (
  λ is.
      let e = is.1 in
      let same : place ≡ is.0 = cc in
      let own : place.level ≡ 0 = ap (λ (p : ObjectPlace). p.level) same ∙ is.2 in
      let named : place.number ≡ number = ap (λ (p : ObjectPlace). p.number) same ∙ is.3 in
      let is_own_one = and_from (place.level == 0) (place.number == number) (eq-eqb place.level 0 own)
      (eq-eqb place.number number named) in
      and_from (is_own number (place_owner (Some place))) true is_own_one refl,
  λ is.
      let is_own_one = (and_parts (is_own number (place_owner (Some place))) true is).0 in
      let parts = and_parts (place.level == 0) (place.number == number) is_own_one in
      (place, refl, eqb-true place.level 0 parts.0, eqb-true place.number number parts.1),
)

pub places_are_of_objects_read : PlacesAreOfObjectsRead
places_are_of_objects_read data_at objects log plain k number shows inside =
    let maps = objects.uploads.queue.maps in
    let same_count = counts data_at objects log plain shows in
    let owner : place_owner (settled_at maps k) ≡ owners (stream_in plain) (frontier_of plain) k =
    shows.objects_are.stream.objects.settled k ∙ ap (λ n. owners (stream_in plain) n k) same_count.frontier in
    let left = logged_leave data_at objects log plain shows k in
    let covered = covered_is data_at (frontier_end plain) (logged_entries plain) k (logged_at maps k) left in
    let reads : (is_own number (place_owner (settled_at maps k)) && not (is_some (logged_at maps k)))
    ≡ is_read_from plain number k =
    ap (λ o. is_own number o && not (is_some (logged_at maps k))) owner
    ∙ ap (λ b. is_own number (owners (stream_in plain) (frontier_of plain) k) && not b) (sym covered) in
    let where_read = read_where number (logged_at maps k) (settled_at maps k) in (
      λ is. sym reads ∙ where_read.0 is,
      λ is. where_read.1 (reads ∙ is),
    )
