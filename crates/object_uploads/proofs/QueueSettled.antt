-- What a queue knows of its objects when one more comes: the next is settled, or one is found in the store.
use Rattle.std.proofs.Common.{◌≡◌, ℕ, ◌+◌, ◌-◌, ◌/◌, ◌≤◌, false, List, [], ◌∷◌, ◌++◌, sym, ◌∙◌, ap, subst}
use Rattle.std.proofs.Common.{None, Option, arith}
use Rattle.std.specs.Prelude.{map, IfSome}
use Rattle.std.proofs.lemmas.List.{map-append}
use Rattle.extent_map.specs.declared.extent.Extent.{Extent}
use Rattle.extent_map.specs.Extents.{place_at, IsShortest}
use Rattle.extent_map.specs.State.{MapState}
use Rattle.lsvd_objstore.specs.Store.{ReceiptState}
use Rattle.object_format.specs.declared.copy_row.CopyRow.{CopyRow}
use Rattle.object_format.specs.declared.data_row.DataRow.{DataRow}
use Rattle.object_table.specs.declared.row.ObjectRow.{ObjectRow}
use Rattle.object_table.specs.Table.{TableState, numbers, row_of, IsNewest, new_row, added, passed, acknowledged}
use Rattle.object_table.specs.Table.{with_changed}
use Rattle.volume_maps.specs.declared.place.ObjectPlace.{ObjectPlace}
use Rattle.volume_maps.specs.declared.place.LogPlace.{LogPlace}
use Rattle.volume_maps.specs.Places.{object_on, log_on}
use Rattle.volume_maps.specs.Maps.{MapsState, settled_at, logged_at, settled_by, logged_by, settled_by_copy}
use Rattle.volume_maps.specs.Live.{IsCounted, but_live, HasSameObjects}
use Rattle.volume_maps.proofs.TableLemmas.{same_numbers}
use Rattle.object_uploads.specs.declared.rows.SealedRows.{SealedRows}
use Rattle.object_uploads.specs.declared.rows.SealedRows.TheVariants as sealed_rows
use Rattle.object_uploads.specs.State.{QueueState}
use Rattle.object_uploads.specs.Queue.{front_of, payload_of, copy_front_of, copy_payload_of, is_checkpoint, HasSamePlaces}
use Rattle.object_uploads.specs.Queue.{SettlesObject, SettlesCopy, SettlesSealed}
use Rattle.object_uploads.specs.Order.{IsDeadIn, UnmappedAreDead}
use Rattle.object_uploads.specs.Invariant.{IsKnown}
use Rattle.object_uploads.proofs.DeadLemmas.{GivesAlone}
use Rattle.object_uploads.proofs.DeadRows.{row_still, dead_settled, dead_passed, dead_pinned, numbers_passed, numbers_pinned}
use Rattle.object_uploads.proofs.DeadRows.{but_held}
use Rattle.object_uploads.proofs.UnmappedRows.{unmapped_settled, unmapped_passed, unmapped_found, unmapped_pinned}
use Rattle.object_uploads.proofs.QueueKept.{next_is_newest, known_same, known_more, follow_more, follow_at, dead_out}

-- ---- a data object is settled

-- an object was added, and its rows were settled
pub settles_added : (number size payload front end : ℕ) (rows : List DataRow) (old middle new : MapsState)
    → middle ≡ record old { objects = added (new_row number payload front) old.objects } → front ≡ front_of rows
    → payload ≡ size / 512 - front
    → ((k : ℕ) → settled_at new k ≡ settled_by number rows (settled_at middle k) k)
    → ((k : ℕ) → logged_at new k ≡ logged_by end rows (logged_at middle k) k) → HasSameObjects middle.objects new.objects
    → SettlesObject number size rows end old new
settles_added number size payload front end rows old middle new is front_is payload_is settled logged same =
    let row : new_row number payload front ≡ new_row number (payload_of size rows) (front_of rows) =
    ap (λ p. new_row number p front) payload_is ∙ ap (λ f. new_row number (size / 512 - f) f) front_is in
    record {
      settled = λ k. settled k ∙ ap (λ (m : MapsState). settled_by number rows (settled_at m k) k) is;
      logged = λ k. logged k ∙ ap (λ (m : MapsState). logged_by end rows (logged_at m k) k) is;
      objects = subst (λ r. HasSameObjects (added r old.objects) new.objects) row
          (subst (λ (m : MapsState). HasSameObjects m.objects new.objects) is same);
    }

-- so a copy was
pub copies_added : (number size payload front : ℕ) (rows : List CopyRow) (old middle new : MapsState)
    → middle ≡ record old { objects = added (new_row number payload front) old.objects } → front ≡ copy_front_of rows
    → payload ≡ size / 512 - front
    → ((k : ℕ) → settled_at new k ≡ settled_by_copy number rows (settled_at middle k) k)
    → new.log ≡ middle.log → HasSameObjects middle.objects new.objects
    → SettlesCopy number size rows old new
copies_added number size payload front rows old middle new is front_is payload_is settled log same =
    let row : new_row number payload front ≡ new_row number (copy_payload_of size rows) (copy_front_of rows) =
    ap (λ p. new_row number p front) payload_is ∙ ap (λ f. new_row number (size / 512 - f) f) front_is in
    record {
      settled = λ k. settled k ∙ ap (λ (m : MapsState). settled_by_copy number rows (settled_at m k) k) is;
      logged = λ k. ap (λ (l : MapState LogPlace). place_at log_on l.rows k) log ∙ ap (λ (m : MapsState). logged_at m k) is;
      objects = subst (λ r. HasSameObjects (added r old.objects) new.objects) row
          (subst (λ (m : MapsState). HasSameObjects m.objects new.objects) is same);
    }

-- it and its receipt are known then too
pub known_settled : (old new : QueueState) (middle : MapsState) (payload front : ℕ)
    (settle : Option ObjectPlace → ℕ → Option ObjectPlace) (receipt : ReceiptState)
    → GivesAlone (old.frontier + 1) settle → IsKnown old → new.frontier ≡ old.frontier + 1
    → new.receipts ≡ old.receipts ++ record { number = old.frontier + 1; receipt = receipt } ∷ [] → new.removal ≡ old.removal
    → middle ≡ record old.maps { objects = added (new_row (old.frontier + 1) payload front) old.maps.objects }
    → HasSameObjects middle.objects new.maps.objects
    → ((k : ℕ) → settled_at new.maps k ≡ settle (settled_at middle k) k)
    → IsShortest object_on new.maps.settled.rows → IsCounted new.maps.settled.rows new.maps.objects → IsKnown new
known_settled old new middle payload front settle receipt gives known frontier receipts removal is same settled shortest counted =
    let next = old.frontier + 1 in
    let row = new_row next payload front in
    let table = old.maps.objects in
    let newest = next_is_newest old known in
    let objects = subst (λ (m : MapsState). HasSameObjects m.objects new.maps.objects) is same in
    let named : numbers new.maps.objects.rows ≡ numbers table.rows ++ next ∷ [] =
    same_numbers (added row table) new.maps.objects objects
    ∙ map-append (λ (r : ObjectRow). r.number) table.rows (row ∷ []) in
    let places = λ (k : ℕ). settled k ∙ ap (λ (m : MapsState). settle (settled_at m k) k) is in
    let checkpoint : new.maps.objects.checkpoint ≡ table.checkpoint = objects.checkpoint in
    known_more old new next receipt known newest receipts removal named (omega (arith, frontier)) (omega (arith, frontier))
    (omega (arith, checkpoint, known.checkpoint, frontier))
    (follow_more old new next receipt known receipts (λ n high most. omega (arith, frontier)) checkpoint)
    (dead_settled next row settle old.maps new.maps gives known.counted newest.above_rows objects places shortest counted)
    (unmapped_settled next payload front settle old.maps new.maps gives known.counted newest.above_rows objects places shortest
    counted known.unmapped) counted shortest

-- ---- a checkpoint is acknowledged

pub known_passed : (old new : QueueState) (number : ℕ) (receipt : ReceiptState) → IsKnown old → IsNewest old.maps.objects number
    → old.frontier ≤ number → new.frontier ≡ number
    → new.receipts ≡ old.receipts ++ record { number = number; receipt = receipt } ∷ [] → new.removal ≡ old.removal
    → new.maps.objects.rows ≡ (acknowledged number old.maps.objects).rows → new.maps.objects.checkpoint ≡ number
    → IsCounted new.maps.settled.rows new.maps.objects → new.maps.settled.rows ≡ old.maps.settled.rows → IsKnown new
known_passed old new number receipt known newest later frontier receipts removal rows checkpoint counted settled =
    let before = old.maps.objects.rows in
    let named : numbers new.maps.objects.rows ≡ numbers before ++ number ∷ [] =
    ap numbers rows
    ∙ (map-append (λ (r : ObjectRow). r.number) (map passed before) (new_row number 0 0 ∷ [])
    ∙ ap (λ (list : List ℕ). list ++ number ∷ []) (numbers_passed before)) in
    known_more old new number receipt known newest receipts removal named (omega (arith, frontier)) (omega (arith, frontier))
    (omega (arith, checkpoint, frontier)) (follow_at new old.receipts number receipt receipts checkpoint frontier)
    (dead_passed number old.maps new.maps rows)
    (unmapped_passed number old.maps new.maps rows checkpoint newest.above_rows) counted
    (subst (IsShortest object_on) (sym settled) known.shortest)

-- ---- an object is found

pub known_found : (old new : QueueState) (number payload front : ℕ) (receipt : ReceiptState) → IsKnown old
    → IsNewest old.maps.objects number → number ≤ old.frontier → new.frontier ≡ old.frontier
    → new.receipts ≡ old.receipts ++ record { number = number; receipt = receipt } ∷ [] → new.removal ≡ old.removal
    → new.maps.objects.rows ≡ old.maps.objects.rows ++ new_row number payload front ∷ []
    → new.maps.objects.checkpoint ≡ old.maps.objects.checkpoint → IsCounted new.maps.settled.rows new.maps.objects
    → new.maps.settled.rows ≡ old.maps.settled.rows → IsKnown new
known_found old new number payload front receipt known newest within frontier receipts removal rows checkpoint counted settled =
    let before = old.maps.objects.rows in
    let row = new_row number payload front in
    let named : numbers new.maps.objects.rows ≡ numbers before ++ number ∷ [] =
    ap numbers rows ∙ map-append (λ (r : ObjectRow). r.number) before (row ∷ []) in
    known_more old new number receipt known newest receipts removal named (omega (arith, frontier)) (omega (arith, frontier))
    (omega (arith, checkpoint, known.checkpoint, frontier))
    (follow_more old new number receipt known receipts (λ n high most. absurd (omega (arith, frontier))) checkpoint)
    (λ n dead. (dead.0, ap (row_of n) rows ∙ row_still n before (row ∷ []) dead.0 dead.1, dead.2, dead.3))
    (unmapped_found number payload front old.maps new.maps rows checkpoint known.unmapped) counted
    (subst (IsShortest object_on) (sym settled) known.shortest)

-- ---- the same objects, with other live sectors or pins

pub known_mapped : (old new : QueueState) → IsKnown old → new.frontier ≡ old.frontier → new.receipts ≡ old.receipts
    → new.removal ≡ old.removal → old.removal ≡ None → HasSameObjects old.maps.objects new.maps.objects
    → UnmappedAreDead new.maps → IsCounted new.maps.settled.rows new.maps.objects → IsShortest object_on new.maps.settled.rows
    → IsKnown new
known_mapped old new known frontier receipts removal none same unmapped counted shortest =
    known_same old new known frontier receipts removal (same_numbers old.maps.objects new.maps.objects same) same.checkpoint
    (subst (λ o. IfSome o (IsDeadIn new.maps)) (sym (removal ∙ none)) tt) unmapped counted shortest

pub known_pinned : (change : ObjectRow → ObjectRow) (number : ℕ) (old new : QueueState)
    → ((r : ObjectRow) → but_held (change r) ≡ but_held r) → IsKnown old → new.frontier ≡ old.frontier
    → new.receipts ≡ old.receipts → new.removal ≡ old.removal
    → new.maps.objects ≡ with_changed change number old.maps.objects
    → IsCounted new.maps.settled.rows new.maps.objects → new.maps.settled.rows ≡ old.maps.settled.rows → IsKnown new
known_pinned change number old new keeps known frontier receipts removal same counted settled =
    known_same old new known frontier receipts removal
    (numbers_pinned change number old.maps.objects new.maps.objects keeps same)
    (ap (λ (t : TableState). t.checkpoint) same)
    (dead_out old.removal new.removal old.maps new.maps removal (dead_pinned change number old.maps new.maps keeps same)
    known.removal) (unmapped_pinned change number old.maps new.maps keeps same known.unmapped) counted
    (subst (IsShortest object_on) (sym settled) known.shortest)

-- ---- an object is settled in maps whose room changed before

objects_from : (row : ObjectRow) (old middle new : MapsState) → HasSamePlaces old middle
    → HasSameObjects (added row middle.objects) new.objects → HasSameObjects (added row old.objects) new.objects
objects_from row old middle new same objects = record {
  rows = objects.rows ∙ ap (λ (rs : List ObjectRow). map but_live (rs ++ row ∷ [])) same.objects;
  checkpoint = objects.checkpoint ∙ same.checkpoint;
}

settles_same : (number size end : ℕ) (rows : SealedRows) (old middle new : MapsState) → is_checkpoint rows ≡ false
    → HasSamePlaces old middle → SettlesSealed number size rows end middle new → SettlesSealed number size rows end old new
settles_same number size end (sealed_rows.Data list) old middle new kind same settles =
    let rows = list.items in
    record {
      settled = λ k. settles.settled k
          ∙ ap (λ (rs : List (Extent ObjectPlace)). settled_by number rows (place_at object_on rs k) k) same.settled;
      logged = λ k. settles.logged k
          ∙ ap (λ (rs : List (Extent LogPlace)). logged_by end rows (place_at log_on rs k) k) same.log;
      objects = objects_from (new_row number (payload_of size rows) (front_of rows)) old middle new same settles.objects;
    }
settles_same number size end (sealed_rows.Copy list) old middle new kind same settles =
    let rows = list.items in
    record {
      settled = λ k. settles.settled k
          ∙ ap (λ (rs : List (Extent ObjectPlace)). settled_by_copy number rows (place_at object_on rs k) k) same.settled;
      logged = λ k. settles.logged k ∙ ap (λ (rs : List (Extent LogPlace)). place_at log_on rs k) same.log;
      objects = objects_from (new_row number (copy_payload_of size rows) (copy_front_of rows)) old middle new same
          settles.objects;
    }
settles_same number size end sealed_rows.Checkpoint old middle new kind same settles = absurd cc

pub settles_from : (number size size_as end : ℕ) (rows : SealedRows) (old middle new : MapsState) → is_checkpoint rows ≡ false
    → size ≡ size_as → HasSamePlaces old middle → SettlesSealed number size rows end middle new
    → SettlesSealed number size_as rows end old new
settles_from number size size_as end rows old middle new kind same_size same settles =
    subst (λ n. SettlesSealed number n rows end old new) same_size
    (settles_same number size end rows old middle new kind same settles)
