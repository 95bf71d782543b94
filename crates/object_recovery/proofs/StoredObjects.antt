-- An object that the store has, by its receipt and its row of the table.
use Rattle.std.proofs.Common.{◌≡◌, ℕ, ◌==◌, true, false, cond, Bool, Some, List, [], ◌∷◌, ◌++◌}
use Rattle.std.proofs.Common.{map, refl, sym, ◌∙◌, ap, arith}
use Rattle.std.proofs.lemmas.Bool.Decides.{nat_tests}
use Rattle.lsvd_objstore.specs.Store.{ReceiptState}
use Rattle.object_stream.specs.declared.owner.Owner.{Owner}
use Rattle.object_table.specs.declared.row.ObjectRow.{ObjectRow}
use Rattle.object_table.specs.Table.{row_of, new_row}
use Rattle.volume_maps.specs.declared.place.ObjectPlace.{ObjectPlace}
use Rattle.object_uploads.specs.State.{NumberedReceipt, QueueState}
use Rattle.object_uploads.specs.Queue.{receipt_in, stored_with, inherited_in, stored_at}
use Rattle.object_uploads.proofs.StoredLemmas.{front_in, fixed, first_row, first_receipt, same_front, same_stored}

-- what the store gave for the object of a number, and the sectors before its payload
pub record HasStored (number : ℕ) (receipt : ReceiptState) (front : ℕ) (receipts : List NumberedReceipt) (rows : List ObjectRow) :
    Type 0 where
  pub receipt_is : receipt_in receipts number ≡ Some receipt
  pub front_is : front_in (row_of number rows) ≡ Some front

-- it stays so where rows have the same numbers and fronts
pub stored_kept : (number : ℕ) (receipt : ReceiptState) (front : ℕ) (receipts now : List NumberedReceipt)
    (rows now_rows : List ObjectRow)
    → now ≡ receipts → map fixed now_rows ≡ map fixed rows → HasStored number receipt front receipts rows
    → HasStored number receipt front now now_rows
stored_kept number receipt front receipts now rows now_rows same same_rows has = record {
  receipt_is = ap (λ l. receipt_in l number) same ∙ has.receipt_is;
  front_is = same_front number now_rows rows same_rows ∙ has.front_is;
}

receipt_by : (test : Bool) (first : NumberedReceipt) (rest more : List NumberedReceipt) (number : ℕ) (receipt : ReceiptState)
    → (first.number == number) ≡ test
    → (receipt_in rest number ≡ Some receipt → receipt_in (rest ++ more) number ≡ Some receipt)
    → receipt_in (first ∷ rest) number ≡ Some receipt → receipt_in (first ∷ (rest ++ more)) number ≡ Some receipt
receipt_by true first rest more number receipt test so is =
    first_receipt true first (rest ++ more) number test ∙ sym (first_receipt true first rest number test) ∙ is
receipt_by false first rest more number receipt test so is =
    first_receipt false first (rest ++ more) number test ∙ so (sym (first_receipt false first rest number test) ∙ is)

receipt_before : (receipts more : List NumberedReceipt) (number : ℕ) (receipt : ReceiptState)
    → receipt_in receipts number ≡ Some receipt → receipt_in (receipts ++ more) number ≡ Some receipt
receipt_before [] more number receipt is = absurd cc
receipt_before (first ∷ rest) more number receipt is =
    receipt_by (first.number == number) first rest more number receipt refl (receipt_before rest more number receipt) is

row_by : (test : Bool) (first : ObjectRow) (rest more : List ObjectRow) (number front : ℕ)
    → (first.number == number) ≡ test
    → (front_in (row_of number rest) ≡ Some front → front_in (row_of number (rest ++ more)) ≡ Some front)
    → front_in (row_of number (first ∷ rest)) ≡ Some front → front_in (row_of number (first ∷ (rest ++ more))) ≡ Some front
row_by true first rest more number front test so is =
    ap front_in (first_row true first (rest ++ more) number test) ∙ sym (ap front_in (first_row true first rest number test)) ∙ is
row_by false first rest more number front test so is =
    ap front_in (first_row false first (rest ++ more) number test)
    ∙ so (sym (ap front_in (first_row false first rest number test)) ∙ is)

row_before : (rows more : List ObjectRow) (number front : ℕ) → front_in (row_of number rows) ≡ Some front
    → front_in (row_of number (rows ++ more)) ≡ Some front
row_before [] more number front is = absurd cc
row_before (first ∷ rest) more number front is =
    row_by (first.number == number) first rest more number front refl (row_before rest more number front) is

-- and where more follow
pub stored_before : (number : ℕ) (receipt : ReceiptState) (front : ℕ) (receipts more : List NumberedReceipt)
    (rows more_rows : List ObjectRow)
    → HasStored number receipt front receipts rows → HasStored number receipt front (receipts ++ more) (rows ++ more_rows)
stored_before number receipt front receipts more rows more_rows has = record {
  receipt_is = receipt_before receipts more number receipt has.receipt_is;
  front_is = row_before rows more_rows number front has.front_is;
}

pub stored_is : (queue : QueueState) (place : ObjectPlace) (receipt : ReceiptState) (front : ℕ) → place.level ≡ 0
    → HasStored place.number receipt front queue.receipts queue.maps.objects.rows
    → stored_at queue place ≡ Some (record { receipt = receipt; front = front })
stored_is queue place receipt front own has =
    let row = row_of place.number queue.maps.objects.rows in
    let test : (place.level == 0) ≡ true = grind (arith, nat_tests) in
    let owner : Owner = record { level = place.level; number = place.number } in
    ap (λ b. cond b (stored_with (receipt_in queue.receipts place.number) row) (inherited_in queue.inherited owner)) test
    ∙ ap (λ r. stored_with r row) has.receipt_is
    ∙ same_stored (Some receipt) row (Some (new_row 0 0 front)) has.front_is
