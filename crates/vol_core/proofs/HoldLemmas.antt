-- Each sector of the plain volume is where the maps have it.
use Rattle.std.proofs.Common.{◌≡◌, ℕ, zero, suc, ◌+◌, ◌-◌, ◌/◌, ◌<◌, Option, Some, None, List, [], ◌∷◌, ◌++◌, length, drop, refl}
use Rattle.std.proofs.Common.{sym, ◌∙◌, ap, subst}
use Rattle.std.proofs.Common.{arith}
use Rattle.std.specs.Prelude.{IfSome}
use Rattle.std.specs.List.{slice_get, AllByRecursion}
use Rattle.std.proofs.lemmas.Option.{slice_get_within, same_Some}
use Rattle.lsvd_base.specs.declared.entry.Entry.{Entry}
use Rattle.lsvd_base.specs.declared.entry.Entry.TheVariants.{Write}
use Rattle.cache_log.specs.declared.row.Row.{Row}
use Rattle.cache_log.specs.Rows.{seq_of, position_of, record_size, AreNumbered}
use Rattle.cache_log.specs.Log.{LogState, row_of, AreRowsOf}
use Rattle.object_stream.specs.Changes.{sector_of, change_at}
use Rattle.object_stream.specs.Laws.{changed_by}
use Rattle.volume_maps.specs.declared.place.LogPlace.{LogPlace}
use Rattle.volume_maps.specs.declared.place.LogPlace.TheVariants.{Data, Zeros}
use Rattle.volume_maps.specs.declared.place.ObjectPlace.{ObjectPlace}
use Rattle.volume_maps.specs.Places.{place_in}
use Rattle.volume_maps.specs.Maps.{settled_at, logged_at}
use Rattle.object_uploads.specs.Image.{HoldsSector}
use Rattle.obj_log.specs.State.{ObjLogState}
use Rattle.plain_disk.specs.State.{PlainState, image_now, frontier_end, logged_entries}
use Rattle.refine_objects.specs.Shows.{settled_image}
use Rattle.vol_core.specs.Places.{IsInRecord, IsHeldAt}
use Rattle.vol_core.specs.ReadLaws.{ShowsReads, PlacesHoldSectors}
use Rattle.vol_core.proofs.LeftLemmas.{LeavesData, LeavesAt}
use Rattle.vol_core.proofs.ShownLemmas.{image_has_sectors, sector_now, logged_leave}

-- ---- one of a list

item_of_rest : {A : Type 0} (n i : ℕ) (items : List A) → slice_get (drop n items) i ≡ slice_get items (n + i)
item_of_rest zero i items = ap (slice_get items) (omega arith)
item_of_rest (suc n) i [] = refl
item_of_rest (suc n) i (item ∷ items) =
    let past : suc n + i ≡ suc (n + i) = omega arith in
    item_of_rest n i items ∙ sym (ap (slice_get (item ∷ items)) past)

item_has : {A : Type 0} (P : A → Type 0) (items : List A) (i : ℕ) (item : A) → AllByRecursion P items
    → slice_get items i ≡ Some item → P item
item_has P [] i item all there = absurd cc
item_has P (first ∷ items) zero item all there = subst P (same_Some first item there) all.0
item_has P (first ∷ items) (suc i) item all there = item_has P items i item all.1 there

-- ---- the log's records

-- the record of an entry
row_there : (rows : List Row) (list : List Entry) (i : ℕ) (entry : Entry) → AreRowsOf rows list → slice_get list i ≡ Some entry
    → (row : Row) × (slice_get rows i ≡ Some row) × (row ≡ row_of (seq_of row) (position_of row) entry)
row_there [] [] i entry are there = absurd cc
row_there [] (first ∷ list) i entry are there = absurd are
row_there (row ∷ rows) [] i entry are there = absurd are
row_there (row ∷ rows) (first ∷ list) zero entry are there =
    (row, refl, subst (λ e. row ≡ row_of (seq_of row) (position_of row) e) (same_Some first entry there) are.0)
row_there (row ∷ rows) (first ∷ list) (suc i) entry are there = row_there rows list i entry are.1 there

numbered_behind : (held rows : List Row) (seq : ℕ) → AreNumbered seq (held ++ rows) → AreNumbered (seq + length held) rows
numbered_behind [] rows seq are = subst (λ s. AreNumbered s rows) (omega arith) are
numbered_behind (row ∷ held) rows seq are =
    let past : seq + 1 + length held ≡ seq + suc (length held) = omega arith in
    subst (λ s. AreNumbered s rows) past (numbered_behind held rows (seq + 1) are.1)

seq_is : (rows : List Row) (seq i : ℕ) (row : Row) → AreNumbered seq rows → slice_get rows i ≡ Some row → seq_of row ≡ seq + i
seq_is [] seq i row are there = absurd cc
seq_is (first ∷ rows) seq zero row are there =
    let same = ap seq_of (same_Some first row there) in
    omega (arith, same, are.0)
seq_is (first ∷ rows) seq (suc i) row are there = omega (arith, seq_is rows (seq + 1) i row are.1 there)

told_there : (told : Option (List Entry)) (n i : ℕ) (list : List Entry) (entry : Entry)
    → IfSome told (λ all. drop n all ≡ list) → slice_get list i ≡ Some entry
    → IfSome told (λ all. slice_get all (n + i) ≡ Some entry)
told_there None n i list entry is there = tt
told_there (Some all) n i list entry is there = sym (item_of_rest n i all) ∙ (ap (λ items. slice_get items i) is ∙ there)

-- ---- the sectors

module _ (data_at : ℕ → ℕ) (objects : ObjLogState) (log : LogState) (plain : PlainState)
    (shows : ShowsReads data_at objects log plain) where
  -- data that an entry left are in its record
  in_record : (k seq at : ℕ) (sector : List ℕ) (left : LeavesData data_at (frontier_end plain) (logged_entries plain) k seq at)
      → sector ≡ sector_of (k - left.lba) left.body → IsInRecord log seq at sector
  in_record k seq at sector left is =
      let entry : Entry = Write left.lba left.body in
      let end = frontier_end plain in
      let begun = shows.logged.first in
      let index : end - log.first + (seq - end) ≡ seq - log.first = omega (arith, left.from) in
      let found = row_there (drop (end - log.first) log.rows) (logged_entries plain) (seq - end) entry shows.logged.rows
      left.there in
      let row = found.0 in
      let there : slice_get log.rows (seq - log.first) ≡ Some row =
      sym (ap (slice_get log.rows) index) ∙ (sym (item_of_rest (end - log.first) (seq - end) log.rows) ∙ found.1) in
      let numbered : AreNumbered log.first log.rows =
      subst (λ first. AreNumbered first log.rows) shows.log_is.counted
      (numbered_behind log.held log.rows log.commits.body.tail.seq shows.log_is.numbered) in
      let seq_same : seq_of row ≡ seq = seq_is log.rows log.first (seq - log.first) row numbered there
      ∙ omega (arith, left.from) in
      let begins : data_at seq ≡ position_of row + 1 =
      ap data_at (sym seq_same)
      ∙ item_has (λ row. data_at (seq_of row) ≡ position_of row + 1) log.rows (seq - log.first) row shows.logged.placed there in
      let size : record_size row ≡ 1 + length left.body / 512 = ap record_size found.2 in
      let place = left.place in
      let low = left.begins in
      let high = left.ends in
      let part : k - left.lba ≡ at - (position_of row + 1) = omega arith in
      record {
        row = row;
        there = there;
        numbered = seq_same;
        from = omega arith;
        to = omega arith;
        entry = entry;
        is_row = found.2 ∙ ap (λ s. row_of s (position_of row) entry) seq_same;
        told =
            subst (λ i. IfSome log.entries (λ list. slice_get list i ≡ Some entry)) index
            (told_there log.entries (end - log.first) (seq - end) (logged_entries plain) entry shows.logged.entries left.there);
        part = is ∙ ap (λ i. sector_of i left.body) part;
      }

  -- a sector that no logged entry covers is where the objects' map has it
  settled_held : (settled : Option ObjectPlace) (sector : List ℕ) → HoldsSector objects.uploads.queue settled sector
      → IsHeldAt log objects.uploads.queue (place_in None settled) sector
  settled_held None sector held = held
  settled_held (Some place) sector held = held

  held_where : (k : ℕ) (logged : Option LogPlace) (sector : List ℕ)
      → LeavesAt data_at (frontier_end plain) (logged_entries plain) k logged
      → changed_by (change_at (logged_entries plain) k) (slice_get (settled_image plain) k) ≡ Some sector
      → IsHeldAt log objects.uploads.queue (place_in logged (settled_at objects.uploads.queue.maps k)) sector
  held_where k None sector left is =
      let same = ap (λ change. changed_by change (slice_get (settled_image plain) k)) left.change in
      settled_held (settled_at objects.uploads.queue.maps k) sector (shows.objects_are.image k sector (sym same ∙ is))
  held_where k (Some (Zeros seq)) sector left is =
      let same = ap (λ change. changed_by change (slice_get (settled_image plain) k)) left.change in
      sym (same_Some _ _ (sym same ∙ is))
  held_where k (Some (Data seq at)) sector left is =
      let same = ap (λ change. changed_by change (slice_get (settled_image plain) k)) left.change in
      in_record k seq at sector left (sym (same_Some _ _ (sym same ∙ is)))

pub places_hold_sectors : PlacesHoldSectors
places_hold_sectors data_at objects log plain k sector shows is =
    let inside : k < plain.geometry.sectors =
    omega (arith, slice_get_within (image_now plain) k sector is, image_has_sectors plain shows.valid) in
    held_where data_at objects log plain shows k (logged_at objects.uploads.queue.maps k) sector
    (logged_leave data_at objects log plain shows k)
    (sym (sector_now plain shows.valid k inside) ∙ is)
