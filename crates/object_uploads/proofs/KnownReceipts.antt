-- What the store gave for an object that has a sector is known.
use Rattle.std.proofs.Common.{◌≡◌, ℕ, ◌+◌, ◌≤◌, ◌==◌, Bool, true, false, cond, Option, Some, None, List, [], ◌∷◌, refl, sym, ◌∙◌}
use Rattle.std.proofs.Common.{ap, subst, arith}
use Rattle.std.specs.Prelude.{IsSome, IfSome, map}
use Rattle.std.proofs.lemmas.Bool.Decides.{nat_tests}
use Rattle.lsvd_objstore.specs.Store.{ReceiptState}
use Rattle.object_table.specs.declared.row.ObjectRow.{ObjectRow}
use Rattle.object_table.specs.Table.{row_of, numbers}
use Rattle.volume_maps.specs.declared.place.ObjectPlace.{ObjectPlace}
use Rattle.volume_maps.specs.Maps.{MapsState, settled_at}
use Rattle.volume_maps.specs.Live.{IsCounted}
use Rattle.volume_maps.proofs.LossLemmas.{known_at}
use Rattle.object_uploads.specs.State.{NumberedReceipt, QueueState}
use Rattle.object_uploads.specs.Queue.{receipt_in}
use Rattle.object_uploads.specs.Order.{is_out, IsDeadIn, AreKnown}
use Rattle.object_uploads.proofs.StoredLemmas.{first_receipt}
use Rattle.object_uploads.proofs.RemovalImage.{tally, count_of, row_counts, in_counts, dead_is_apart}

counted_by : (test : Bool) (first : ReceiptState) (more : Option ReceiptState) (count : ℕ) → (1 ≤ count → IsSome more)
    → 1 ≤ tally test + count → IsSome (cond test (Some first) more)
counted_by true first more count rest some = refl
counted_by false first more count rest some = rest (omega (arith, some))

-- a number that is counted has its receipt
counted_receipt : (number : ℕ) (receipts : List NumberedReceipt)
    → 1 ≤ count_of number (map (λ (r : NumberedReceipt). r.number) receipts) → IsSome (receipt_in receipts number)
counted_receipt number [] some = absurd (omega (arith, some))
counted_receipt number (given ∷ receipts) some =
    let test = given.number == number in
    subst IsSome (sym (first_receipt test given receipts number refl))
    (counted_by test given.receipt (receipt_in receipts number)
    (count_of number (map (λ (r : NumberedReceipt). r.number) receipts)) (counted_receipt number receipts) some)

some_row : (row : Option ObjectRow) → IsSome row → (r : ObjectRow) × (row ≡ Some r)
some_row None some = absurd cc
some_row (Some row) some = (row, refl)

-- an object that has a sector is not the one that is out
not_out_by : (removal : Option ℕ) (k : ℕ) (maps : MapsState) (place : ObjectPlace) → IsCounted maps.settled.rows maps.objects
    → IfSome removal (IsDeadIn maps) → settled_at maps k ≡ Some place → place.level ≡ 0 → is_out removal place.number ≡ false
not_out_by None k maps place counted dead at own = refl
not_out_by (Some gone) k maps place counted dead at own =
    let apart = dead_is_apart gone k maps place counted dead at own in
    grind (arith, nat_tests)

pub sector_is_known : (uuid : List ℕ) (queue : QueueState) (k : ℕ) (place : ObjectPlace) → AreKnown uuid queue
    → settled_at queue.maps k ≡ Some place → place.level ≡ 0 → IsSome (receipt_in queue.receipts place.number)
sector_is_known uuid queue k place known at own =
    let number = place.number in
    let rows = queue.maps.objects.rows in
    let there = some_row (row_of number rows) (known_at rows queue.maps.settled.rows k place known.counted.known at own) in
    let free = not_out_by queue.removal k queue.maps place known.counted known.removal at own in
    let counted : count_of number (map (λ (r : NumberedReceipt). r.number) queue.receipts) ≡ count_of number (numbers rows) =
    ap (count_of number) known.receipts ∙ in_counts queue.removal number (numbers rows) free in
    counted_receipt number queue.receipts (omega (arith, counted, row_counts number rows there.0 there.1))
