-- The log is read once for each run of sectors that one same write wrote last.
use Rattle.std.proofs.Common.{◌≡◌, ℕ, ◌+◌, ◌-◌, Option, Some, None, List, refl, sym, ◌∙◌, ap, subst, arith}
use Rattle.std.specs.List.{slice_get}
use Rattle.std.proofs.lemmas.Option.{same_Some}
use Rattle.lsvd_base.specs.declared.entry.Entry.{Entry}
use Rattle.lsvd_base.specs.declared.entry.Entry.TheVariants.{Write}
use Rattle.lsvd_base.specs.Laws.{first_sector}
use Rattle.volume_maps.specs.declared.place.LogPlace.{LogPlace}
use Rattle.volume_maps.specs.declared.place.LogPlace.TheVariants.{Data, Zeros}
use Rattle.volume_maps.specs.declared.place.ObjectPlace.{ObjectPlace}
use Rattle.volume_maps.specs.declared.place.VolumePlace.TheVariants.{Log}
use Rattle.volume_maps.specs.Places.{place_in}
use Rattle.volume_maps.specs.Maps.{settled_at, logged_at, volume_place_at}
use Rattle.plain_disk.specs.State.{frontier_end, logged_entries}
use Rattle.plain_disk.specs.Writers.{last_writer}
use Rattle.vol_core.specs.ReadLaws.{RowsAreRuns}
use Rattle.vol_core.proofs.LeftLemmas.{LeavesData, LeavesAt}
use Rattle.vol_core.proofs.ShownLemmas.{logged_leave}
use Rattle.vol_core.proofs.RunLemmas.{writer_at, GoOn, runs_counted}

module _ (data_at : ℕ → ℕ) (first : ℕ) (entries : List Entry) where
  -- the last writer of a sector is told by its place
  writer_where : (k : ℕ) (logged : Option LogPlace) (settled : Option ObjectPlace) → LeavesAt data_at first entries k logged
      → last_writer entries k ≡ writer_at first (place_in logged settled)
  writer_where k None None left = left.writer 0 None
  writer_where k None (Some place) left = left.writer 0 None
  writer_where k (Some (Zeros seq)) settled left = left.writer 0 None
  writer_where k (Some (Data seq at)) settled left = left.writer 0 None ∙ ap Some (omega arith)

  -- data of one same write stand in the log as its sectors do in the volume
  data_go_on : (k n seq at other_seq other : ℕ) → LeavesData data_at first entries k seq at
      → LeavesData data_at first entries (k + n) other_seq other
      → seq - first ≡ other_seq - first → (seq ≡ other_seq) × (other ≡ at + n)
  data_go_on k n seq at other_seq other here there same =
      let same_seq : seq ≡ other_seq = omega (arith, here.from, there.from) in
      let same_entry = sym here.there ∙ (ap (slice_get entries) same ∙ there.there) in
      let same_write = same_Some (Write here.lba here.body) (Write there.lba there.body) same_entry in
      let same_lba : here.lba ≡ there.lba = ap first_sector same_write in
      let same_data = ap data_at same_seq in
      (same_seq, omega (arith, here.place, there.place, here.begins))

place_logged : (logged : Option LogPlace) (settled : Option ObjectPlace) (place : LogPlace)
    → place_in logged settled ≡ Some (Log place)
    → logged ≡ Some place
place_logged None None place is = absurd cc
place_logged None (Some other) place is = absurd cc
place_logged (Some other) settled place is = cc

pub rows_are_runs : RowsAreRuns
rows_are_runs data_at objects log plain lba sectors rows shows shortest give =
    let maps = objects.uploads.queue.maps in
    let first = frontier_end plain in
    let entries = logged_entries plain in
    let left = logged_leave data_at objects log plain shows in
    let data_left = λ (k seq at : ℕ) (is : volume_place_at maps k ≡ Some (Log (Data seq at))).
    subst (LeavesAt data_at first entries k) (place_logged (logged_at maps k) (settled_at maps k) (Data seq at) is) (left k) in
    let go_on : GoOn first (volume_place_at maps) = λ k n seq at other_seq other here there same.
    data_go_on data_at first entries k n seq at other_seq other (data_left k seq at here)
    (data_left (k + n) other_seq other there) same in
    let writers_are = λ (k : ℕ). writer_where data_at first entries k (logged_at maps k) (settled_at maps k) (left k) in
    runs_counted first (volume_place_at maps) (last_writer entries) writers_are go_on rows None lba sectors shortest give
    (λ some. refl)
