-- The objects of a volume in the order of their numbers: one more that is settled, and one that is changed.
use Rattle.std.proofs.Common.{◌≡◌, ℕ, zero, suc, ◌+◌, ◌-◌, ◌<◌, ◌≤◌, Some, List, [], ◌∷◌, ◌++◌, length, take, drop}
use Rattle.std.proofs.Common.{slice_index_or, slice_set, refl, sym, ◌∙◌, ap, subst, arith, length-drop}
use Rattle.std.specs.Prelude.{IsSome, map, option_to_list}
use Rattle.std.specs.List.{AllByRecursion, sum_by}
use Rattle.std.proofs.lemmas.List.{append-nil, append_assoc, length-take-le, drop-drop}
use Rattle.std.proofs.lemmas.List.Sums.{sum_by-cons}
use Rattle.std.proofs.Math.Seq.{take-add}
use Rattle.lsvd_objstore.specs.Store.{ReceiptState}
use Rattle.object_uploads.specs.declared.rows.SealedRows.{SealedRows}
use Rattle.volume_maps.specs.Maps.{MapsState}
use Rattle.object_uploads.specs.State.{SealedState, NumberedReceipt, QueueState}
use Rattle.object_uploads.specs.Queue.{with_at, HasBytesAt, count_of_rows, row_count, end_of_last, receipts_of, SettlesSealed}
use Rattle.object_uploads.specs.Queue.{SettlesObjects}
use Rattle.object_uploads.specs.Queue.{IsSettledBy}

-- ---- settling

-- one object is settled
pub settles_one : (old new : QueueState) (first : SealedState) (rest : List SealedState) (receipt : ReceiptState)
    → old.sealed ≡ first ∷ rest → first.receipt ≡ Some receipt
    → new.frontier ≡ old.frontier + 1 → new.end ≡ first.end → new.sealed ≡ rest
    → new.receipts ≡ old.receipts ++ record { number = old.frontier + 1; receipt = receipt } ∷ [] → new.removal ≡ old.removal
    → new.inherited ≡ old.inherited → SettlesSealed (old.frontier + 1) (length first.bytes) first.rows first.end old.maps new.maps
    → IsSettledBy 1 old new
settles_one old new first rest receipt sealed given frontier end left receipts removal inherited maps =
    let one : take 1 old.sealed ≡ first ∷ [] = rw sealed refl in
    let count : length old.sealed ≡ suc (length rest) = ap length sealed in
    record {
      within = omega (arith, count);
      acknowledged = rw one (rw given refl, tt);
      receipts = rw (one, given) receipts;
      frontier = frontier;
      end = rw one end;
      sealed = rw sealed left;
      removal = removal;
      inherited = inherited;
      maps = rw one (new.maps, maps, refl);
    }

-- the same object
pub settles_as : (number size size_as end end_as : ℕ) (rows rows_as : SealedRows) (old new : MapsState) → size ≡ size_as
    → rows ≡ rows_as → end ≡ end_as → SettlesSealed number size rows end old new
    → SettlesSealed number size_as rows_as end_as old new
settles_as number size size_as end end_as rows rows_as old new same_size same_rows same_end settles =
    rw (← same_size, ← same_rows, ← same_end) settles

-- objects and then others
settles_in_parts : (number : ℕ) (a b : List SealedState) (old middle new : MapsState) → SettlesObjects number a old middle
    → SettlesObjects (number + length a) b middle new → SettlesObjects number (a ++ b) old new
settles_in_parts number [] b old middle new first second =
    let same : number + 0 ≡ number = omega arith in
    subst (λ m. SettlesObjects number b m new) first (rw same at second)
settles_in_parts number (sealed ∷ a) b old middle new first second =
    let same : number + suc (length a) ≡ number + 1 + length a = omega arith in
    (first.0, first.1, settles_in_parts (number + 1) a b first.0 middle new first.2 (rw same at second))

pub end_in_parts : (end : ℕ) (a b : List SealedState) → end_of_last end (a ++ b) ≡ end_of_last (end_of_last end a) b
end_in_parts end [] b = refl
end_in_parts end (sealed ∷ a) b = end_in_parts sealed.end a b

-- the end of the last of some objects
pub end_is_last : (end at : ℕ) (list : List SealedState) (last : SealedState) → at + 1 ≡ length list
    → last ≡ slice_index_or list at last → last.end ≡ end_of_last end list
end_is_last end at [] last size is = absurd (omega arith)
end_is_last end zero (sealed ∷ []) last size is = ap (λ (s : SealedState). s.end) is
end_is_last end zero (sealed ∷ (next ∷ more)) last size is = absurd (omega arith)
end_is_last end (suc at) (sealed ∷ []) last size is = absurd (omega arith)
end_is_last end (suc at) (sealed ∷ (next ∷ more)) last size is = end_is_last sealed.end at (next ∷ more) last (omega arith) is

receipts_in_parts : (number : ℕ) (a b : List SealedState)
    → receipts_of number (a ++ b) ≡ receipts_of number a ++ receipts_of (number + length a) b
receipts_in_parts number [] b = let same : number + 0 ≡ number = omega arith in rw same refl
receipts_in_parts number (sealed ∷ a) b =
    let same : number + suc (length a) ≡ number + 1 + length a = omega arith in
    let own : List NumberedReceipt =
    map (λ receipt. record { number = number + 1; receipt = receipt }) (option_to_list sealed.receipt) in
    rw same (
    ap (λ xs. own ++ xs) (receipts_in_parts (number + 1) a b)
    ∙ sym (append_assoc own (receipts_of (number + 1) a) (receipts_of (number + 1 + length a) b))
    )

acknowledged_in_parts : (a b : List SealedState) → AllByRecursion (λ (sealed : SealedState). IsSome sealed.receipt) a
    → AllByRecursion (λ (sealed : SealedState). IsSome sealed.receipt) b
    → AllByRecursion (λ (sealed : SealedState). IsSome sealed.receipt) (a ++ b)
acknowledged_in_parts [] b of_a of_b = of_b
acknowledged_in_parts (sealed ∷ a) b of_a of_b = (of_a.0, acknowledged_in_parts a b of_a.1 of_b)

-- none is settled, and one more
pub settles_none : (queue : QueueState) → IsSettledBy 0 queue queue
settles_none queue = record {
  within = omega arith;
  acknowledged = tt;
  receipts = sym (append-nil queue.receipts);
  frontier = omega arith;
  end = refl;
  sealed = refl;
  removal = refl;
  inherited = refl;
  maps = refl;
}

pub settles_more : (count more : ℕ) (old middle new : QueueState) → IsSettledBy count old middle → IsSettledBy more middle new
    → IsSettledBy (count + more) old new
settles_more count more old middle new first second =
    let a = take count old.sealed in
    let b = take more middle.sealed in
    let split : take (count + more) old.sealed ≡ a ++ b =
    take-add count more old.sealed ∙ ap (λ xs. a ++ take more xs) (sym first.sealed) in
    let size : length a ≡ count = length-take-le count old.sealed first.within in
    let left : length middle.sealed ≡ length old.sealed - count = ap length first.sealed ∙ length-drop count old.sealed in
    let at : old.frontier + length a ≡ middle.frontier = omega (arith, size, first.frontier) in
    record {
      within = omega (arith, left, first.within, second.within);
      acknowledged = rw split (acknowledged_in_parts a b first.acknowledged second.acknowledged);
      receipts =
          second.receipts ∙ (ap (λ xs. xs ++ receipts_of middle.frontier b) first.receipts
          ∙ (append_assoc old.receipts (receipts_of old.frontier a) (receipts_of middle.frontier b)
          ∙ ap (λ xs. old.receipts ++ xs) (ap (λ n. receipts_of old.frontier a ++ receipts_of n b) (sym at)
          ∙ (sym (receipts_in_parts old.frontier a b) ∙ sym (ap (receipts_of old.frontier) split)))));
      frontier = omega (arith, first.frontier, second.frontier);
      end = second.end ∙ (ap (λ e. end_of_last e b) first.end
          ∙ (sym (end_in_parts old.end a b) ∙ sym (ap (end_of_last old.end) split)));
      removal = second.removal ∙ first.removal;
      inherited = second.inherited ∙ first.inherited;
      sealed = second.sealed ∙ (ap (drop more) first.sealed ∙ (drop-drop more count old.sealed ∙ refl));
      maps = rw split (settles_in_parts old.frontier a b old.maps middle.maps new.maps first.maps
          (subst (λ n. SettlesObjects n b middle.maps new.maps) (sym at) second.maps));
    }

-- fewer are left
pub fewer : (old new : QueueState) → IsSettledBy 1 old new → length new.sealed < length old.sealed
fewer old new step =
    let left : length new.sealed ≡ length old.sealed - 1 = ap length step.sealed ∙ length-drop 1 old.sealed in
    omega (arith, left, step.within)

-- ---- an object that is changed

-- objects of which one is changed have as many rows, where that one has
pub rows_with : (index : ℕ) (change : SealedState → SealedState) (list : List SealedState)
    → ((s : SealedState) → (change s).rows ≡ s.rows)
    → sum_by row_count (with_at index change list) ≡ sum_by row_count list
rows_with index change [] same = refl
rows_with zero change (sealed ∷ more) same =
    sum_by-cons row_count (change sealed) more ∙ (ap (λ rows. count_of_rows rows + sum_by row_count more) (same sealed)
    ∙ sym (sum_by-cons row_count sealed more))
rows_with (suc index) change (sealed ∷ more) same =
    sum_by-cons row_count sealed (with_at index change more)
    ∙ (ap (λ n. row_count sealed + n) (rows_with index change more same) ∙ sym (sum_by-cons row_count sealed more))

-- an object that was lent and changed is changed in its place
pub set_with : (index : ℕ) (change : SealedState → SealedState) (list : List SealedState) (lent changed : SealedState)
    → lent ≡ slice_index_or list index lent → changed ≡ change lent → slice_set list index changed ≡ with_at index change list
set_with index change [] lent changed at by = refl
set_with zero change (sealed ∷ more) lent changed at by = ap (λ s. s ∷ more) (by ∙ ap change at)
set_with (suc index) change (sealed ∷ more) lent changed at by =
    ap (λ xs. sealed ∷ xs) (set_with index change more lent changed at by)

pub length-with : (index : ℕ) (change : SealedState → SealedState) (list : List SealedState)
    → length (with_at index change list) ≡ length list
length-with index change [] = refl
length-with zero change (sealed ∷ more) = refl
length-with (suc index) change (sealed ∷ more) = ap suc (length-with index change more)

-- what is asked of the object at an index is asked of the one that is lent
pub bytes_of_lent : (index : ℕ) (list : List SealedState) (lent : SealedState) (bytes : List ℕ) → index < length list
    → lent ≡ slice_index_or list index lent → HasBytesAt index list bytes → bytes ≡ lent.bytes
bytes_of_lent index [] lent bytes inside at has = absurd has
bytes_of_lent zero (sealed ∷ more) lent bytes inside at has = has ∙ sym (ap (λ (s : SealedState). s.bytes) at)
bytes_of_lent (suc index) (sealed ∷ more) lent bytes inside at has = bytes_of_lent index more lent bytes (omega arith) at has

pub lent_has : (index : ℕ) (list : List SealedState) (lent : SealedState) (bytes : List ℕ) → index < length list
    → lent ≡ slice_index_or list index lent → bytes ≡ lent.bytes → HasBytesAt index list bytes
lent_has index [] lent bytes inside at same = absurd (omega arith)
lent_has zero (sealed ∷ more) lent bytes inside at same = same ∙ ap (λ (s : SealedState). s.bytes) at
lent_has (suc index) (sealed ∷ more) lent bytes inside at same = lent_has index more lent bytes (omega arith) at same

pub none_past : (index : ℕ) (list : List SealedState) (bytes : List ℕ) → length list ≤ index → HasBytesAt index list bytes → ⊥
none_past index [] bytes past has = has
none_past zero (sealed ∷ more) bytes past has = absurd (omega arith)
none_past (suc index) (sealed ∷ more) bytes past has = none_past index more bytes (omega arith) has
