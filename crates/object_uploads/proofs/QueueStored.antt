-- The receipt of an object that is in the store.
use Rattle.std.proofs.Common.{◌≡◌, ℕ, ◌==◌, Bool, true, false, cond, not, Option, Some, None, List, [], ◌∷◌, refl, sym}
use Rattle.std.proofs.Common.{subst}
use Rattle.std.proofs.Common.{arith}
use Rattle.std.specs.Prelude.{option_map}
use Rattle.std.specs.List.{All}
use Rattle.std.proofs.lemmas.Bool.Decides.{nat_tests}
use Rattle.std.proofs.lemmas.List.Elements.{All-nil, All-cons, All-filter, recursion_from_All}
use Rattle.lsvd_objstore.specs.Store.{ReceiptState}
use Rattle.object_table.specs.declared.row.ObjectRow.{ObjectRow}
use Rattle.object_table.specs.Table.{has_number, numbers, row_of}
use Rattle.volume_maps.specs.declared.place.ObjectPlace.{ObjectPlace}
use Rattle.object_uploads.specs.State.{StoredObject, QueueState}
use Rattle.object_uploads.specs.Queue.{receipt_in, stored_with, inherited_in, stored_at}
use Rattle.object_uploads.specs.Order.{is_out}
use Rattle.object_uploads.specs.Invariant.{IsKnown}
use Rattle.object_uploads.proofs.RemovedLemmas.{without_number}

missing_by : (test : Bool) (number : ℕ) (row : ObjectRow) (rows : List ObjectRow) → has_number number row ≡ test
    → row_of number (row ∷ rows) ≡ None → (row.number ≡ number → ⊥) × (row_of number rows ≡ None)
missing_by true number row rows test none =
    let there : row_of number (row ∷ rows) ≡ Some row = rw test refl in
    absurd cc
missing_by false number row rows test none =
    let apart : row.number ≡ number → ⊥ = λ same. absurd (grind (arith, nat_tests)) in
    (apart, rw test at none)

-- an object that is absent has a number that no other has
missing : (number : ℕ) (rows : List ObjectRow) → row_of number rows ≡ None → All (λ (n : ℕ). n ≡ number → ⊥) (numbers rows)
missing number [] none = All-nil (λ (n : ℕ). n ≡ number → ⊥)
missing number (row ∷ rows) none =
    let parts = missing_by (has_number number row) number row rows refl none in
    All-cons (λ (n : ℕ). n ≡ number → ⊥) row.number (numbers rows) parts.0 (missing number rows parts.1)

-- and no receipt
no_receipt : (queue : QueueState) (number : ℕ) → IsKnown queue → row_of number queue.maps.objects.rows ≡ None
    → receipt_in queue.receipts number ≡ None
no_receipt queue number known none =
    let apart = All-filter (λ n. not (is_out queue.removal n)) (λ (n : ℕ). n ≡ number → ⊥) (numbers queue.maps.objects.rows)
    (missing number queue.maps.objects.rows none) in
    let others = subst (All (λ (n : ℕ). n ≡ number → ⊥)) (sym known.receipts) apart in
    without_number number queue.receipts (recursion_from_All (λ (n : ℕ). n ≡ number → ⊥) _ others)

stored_either : (receipt : Option ReceiptState) (row : Option ObjectRow) → (row ≡ None → receipt ≡ None)
    → option_map (λ (o : StoredObject). o.receipt) (stored_with receipt row) ≡ receipt
stored_either None row none = refl
stored_either (Some receipt) None none = let gone = none refl in absurd cc
stored_either (Some receipt) (Some row) none = refl

stored_by : (test : Bool) (receipt : Option ReceiptState) (row : Option ObjectRow) (other : Option StoredObject) → test ≡ true
    → option_map (λ (o : StoredObject). o.receipt) (stored_with receipt row) ≡ receipt
    → option_map (λ (o : StoredObject). o.receipt) (cond test (stored_with receipt row) other) ≡ receipt
stored_by true receipt row other own known = known
stored_by false receipt row other own known = absurd cc

-- each receipt is that of an object that is in the store
pub stored_receipt : (queue : QueueState) (place : ObjectPlace) → IsKnown queue → place.level ≡ 0
    → option_map (λ (o : StoredObject). o.receipt) (stored_at queue place) ≡ receipt_in queue.receipts place.number
stored_receipt queue place known own =
    stored_by (place.level == 0) (receipt_in queue.receipts place.number) (row_of place.number queue.maps.objects.rows)
    (inherited_in queue.inherited (record { level = place.level; number = place.number })) (grind (arith, nat_tests))
    (stored_either (receipt_in queue.receipts place.number) (row_of place.number queue.maps.objects.rows)
    (no_receipt queue place.number known))
