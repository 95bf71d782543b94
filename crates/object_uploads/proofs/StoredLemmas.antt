-- Which objects are in the store, by the numbers and the fronts of the rows of the table, and by the receipts.
use Rattle.std.proofs.Common.{◌≡◌, ℕ, ◌+◌, ◌<◌, ◌≤◌, ◌==◌, Bool, true, false, cond, Option, Some, None, List, [], ◌∷◌, ◌++◌, refl}
use Rattle.std.proofs.Common.{sym, ◌∙◌, ap, arith}
use Rattle.std.specs.Prelude.{map, option_map}
use Rattle.std.specs.List.{All}
use Rattle.std.proofs.lemmas.Bool.Decides.{nat_tests}
use Rattle.std.proofs.lemmas.List.Elements.{All-head, All-tail, All-push, All-weaker}
use Rattle.lsvd_objstore.specs.Store.{ReceiptState}
use Rattle.object_table.specs.declared.row.ObjectRow.{ObjectRow}
use Rattle.object_table.specs.Table.{row_of, new_row, changed, passed}
use Rattle.volume_maps.specs.Live.{but_live}
use Rattle.volume_maps.proofs.TableLemmas.{changed_unseen}
use Rattle.object_uploads.specs.State.{NumberedReceipt, StoredObject}
use Rattle.object_uploads.specs.Queue.{receipt_in, stored_with}

-- ---- what of a row says where its object's sectors are

-- a row with its number and its front alone
abbrev pub fixed : ObjectRow → ObjectRow
fixed row = new_row row.number 0 row.front

-- the front of an object, where it is there
abbrev pub front_in : Option ObjectRow → Option ℕ
front_in row = option_map (λ (r : ObjectRow). r.front) row

-- the first row is that of a number, or one after it is
pub first_row : (test : Bool) (row : ObjectRow) (more : List ObjectRow) (number : ℕ) → (row.number == number) ≡ test
    → row_of number (row ∷ more) ≡ cond test (Some row) (row_of number more)
first_row true row more number test = rw test refl
first_row false row more number test = rw test refl

-- so it is with the first of some receipts
pub first_receipt : (test : Bool) (given : NumberedReceipt) (more : List NumberedReceipt) (number : ℕ)
    → (given.number == number) ≡ test
    → receipt_in (given ∷ more) number ≡ cond test (Some given.receipt) (receipt_in more number)
first_receipt true given more number test = rw test refl
first_receipt false given more number test = rw test refl

same_front_by : (test : Bool) (a b : ObjectRow) (more others : Option ObjectRow) → a.front ≡ b.front
    → front_in more ≡ front_in others
    → front_in (cond test (Some a) more) ≡ front_in (cond test (Some b) others)
same_front_by true a b more others first rest = ap {B = Option ℕ} (λ f. Some f) first
same_front_by false a b more others first rest = rest

fixed_front : (number : ℕ) (rows : List ObjectRow) → front_in (row_of number rows) ≡ front_in (row_of number (map fixed rows))
fixed_front number [] = refl
fixed_front number (row ∷ rows) =
    let test = row.number == number in
    ap front_in (first_row test row rows number refl)
    ∙ (same_front_by test row (fixed row) (row_of number rows) (row_of number (map fixed rows)) refl (fixed_front number rows)
    ∙ sym (ap front_in (first_row test (fixed row) (map fixed rows) number refl)))

-- tables whose rows have the same numbers and fronts have the same front of each object
pub same_front : (number : ℕ) (a b : List ObjectRow) → map fixed a ≡ map fixed b
    → front_in (row_of number a) ≡ front_in (row_of number b)
same_front number a b same =
    fixed_front number a ∙ (ap (λ rows. front_in (row_of number rows)) same ∙ sym (fixed_front number b))

-- the same object is in the store by the same receipt and a row with the same front
pub same_stored : (receipt : Option ReceiptState) (a b : Option ObjectRow) → front_in a ≡ front_in b
    → stored_with receipt a ≡ stored_with receipt b
same_stored None a b same = refl
same_stored (Some receipt) None None same = refl
same_stored (Some receipt) None (Some b) same = absurd cc
same_stored (Some receipt) (Some a) None same = absurd cc
same_stored (Some receipt) (Some a) (Some b) same =
    let front : a.front ≡ b.front = cc in
    ap (λ f. Some (record { receipt = receipt; front = f })) front

-- an object that is in the store has a receipt and a row
pub stored_parts : (receipt : Option ReceiptState) (row : Option ObjectRow) (object : StoredObject)
    → stored_with receipt row ≡ Some object
    → (r : ReceiptState) × (o : ObjectRow) × (receipt ≡ Some r) × (row ≡ Some o)
stored_parts None row object is = absurd cc
stored_parts (Some receipt) None object is = absurd cc
stored_parts (Some receipt) (Some row) object is = (receipt, row, refl, refl)

-- ---- changes that keep numbers and fronts

pub fixed_changed : (change : ObjectRow → ObjectRow) (number : ℕ) (rows : List ObjectRow)
    → ((row : ObjectRow) → ((change row).front ≡ row.front) × ((change row).number ≡ row.number))
    → map fixed (changed change number rows) ≡ map fixed rows
fixed_changed change number rows keeps =
    changed_unseen fixed change number rows
    (λ row. ap (λ f. new_row (change row).number 0 f) (keeps row).0 ∙ ap (λ n. new_row n 0 row.front) (keeps row).1)

pub fixed_passed : (rows : List ObjectRow) → map fixed (map passed rows) ≡ map fixed rows
fixed_passed [] = refl
fixed_passed (row ∷ rows) = ap (λ more. fixed row ∷ more) (fixed_passed rows)

fixed_but_live : (rows : List ObjectRow) → map fixed (map but_live rows) ≡ map fixed rows
fixed_but_live [] = refl
fixed_but_live (row ∷ rows) = ap (λ more. fixed row ∷ more) (fixed_but_live rows)

-- the same objects but for their live sectors
pub fixed_same : (a b : List ObjectRow) → map but_live a ≡ map but_live b → map fixed a ≡ map fixed b
fixed_same a b same = sym (fixed_but_live a) ∙ (ap (map fixed) same ∙ fixed_but_live b)

-- ---- one more object

-- the object of a number was added with its receipt, and the others are as before
pub record IsAddedTo (number front : ℕ) (receipt : ReceiptState) (receipts : List NumberedReceipt) (rows : List ObjectRow)
    (now : List NumberedReceipt) (now_rows : List ObjectRow) : Type 0 where
  pub receipts_are : now ≡ receipts ++ record { number = number; receipt = receipt } ∷ []
  pub rows_are : map fixed now_rows ≡ map fixed rows ++ new_row number 0 front ∷ []

-- all receipts and rows have numbers up to one
pub record AreUpTo (number : ℕ) (receipts : List NumberedReceipt) (rows : List ObjectRow) : Type 0 where
  pub receipts_are : All (λ (r : NumberedReceipt). r.number ≤ number) receipts
  pub rows_are : All (λ (row : ObjectRow). row.number ≤ number) (map fixed rows)

pub up_to_next : (number front : ℕ) (receipt : ReceiptState) (receipts now : List NumberedReceipt)
    (rows now_rows : List ObjectRow)
    → IsAddedTo (number + 1) front receipt receipts rows now now_rows → AreUpTo number receipts rows
    → AreUpTo (number + 1) now now_rows
up_to_next number front receipt receipts now rows now_rows added before = record {
  receipts_are = rw added.receipts_are (
      All-push (λ (r : NumberedReceipt). r.number ≤ number + 1) receipts (record { number = number + 1; receipt = receipt })
      (All-weaker (λ (r : NumberedReceipt). r.number ≤ number) (λ (r : NumberedReceipt). r.number ≤ number + 1)
      (λ r low. omega (arith, low)) receipts before.receipts_are) (omega arith)
      );
  rows_are = rw added.rows_are (
      All-push (λ (row : ObjectRow). row.number ≤ number + 1) (map fixed rows) (new_row (number + 1) 0 front)
      (All-weaker (λ (row : ObjectRow). row.number ≤ number) (λ (row : ObjectRow). row.number ≤ number + 1)
      (λ row low. omega (arith, low)) (map fixed rows) before.rows_are) (omega arith)
      );
}

-- ---- what was in the store is there yet

still_by : {X : Type 0} (test : Bool) (first more all wanted : Option X) → (more ≡ wanted → all ≡ wanted)
    → cond test first more ≡ wanted → cond test first all ≡ wanted
still_by true first more all wanted still is = is
still_by false first more all wanted still is = still is

receipt_still : (number : ℕ) (receipts more : List NumberedReceipt) (receipt : ReceiptState)
    → receipt_in receipts number ≡ Some receipt → receipt_in (receipts ++ more) number ≡ Some receipt
receipt_still number [] more receipt is = absurd cc
receipt_still number (given ∷ receipts) more receipt is =
    let test = given.number == number in
    let first = first_receipt test given receipts number refl in
    let now = first_receipt test given (receipts ++ more) number refl in
    now ∙ still_by test (Some given.receipt) (receipt_in receipts number) (receipt_in (receipts ++ more) number) (Some receipt)
    (receipt_still number receipts more receipt) (sym first ∙ is)

front_by : (test : Bool) (row : ObjectRow) (more all : Option ObjectRow) (front : ℕ)
    → (front_in more ≡ Some front → front_in all ≡ Some front)
    → front_in (cond test (Some row) more) ≡ Some front → front_in (cond test (Some row) all) ≡ Some front
front_by true row more all front still is = is
front_by false row more all front still is = still is

front_still : (number : ℕ) (rows more : List ObjectRow) (front : ℕ) → front_in (row_of number rows) ≡ Some front
    → front_in (row_of number (rows ++ more)) ≡ Some front
front_still number [] more front is = absurd cc
front_still number (first ∷ rows) more front is =
    let test = first.number == number in
    let was = first_row test first rows number refl in
    let now = first_row test first (rows ++ more) number refl in
    ap front_in now
    ∙ front_by test first (row_of number rows) (row_of number (rows ++ more)) front (front_still number rows more front)
    (sym (ap front_in was) ∙ is)

-- the receipts and the row of the number that comes last
receipt_last : (number last : ℕ) (receipts : List NumberedReceipt) (receipt : ReceiptState) → number < last
    → All (λ (r : NumberedReceipt). r.number ≤ number) receipts
    → receipt_in (receipts ++ record { number = last; receipt = receipt } ∷ []) last ≡ Some receipt
receipt_last number last [] receipt high low =
    first_receipt true (record { number = last; receipt = receipt }) [] last (grind (arith, nat_tests))
receipt_last number last (given ∷ receipts) receipt high low =
    let given_low : given.number ≤ number = All-head (λ (r : NumberedReceipt). r.number ≤ number) given receipts low in
    first_receipt false given (receipts ++ record { number = last; receipt = receipt } ∷ []) last (grind (arith, nat_tests))
    ∙ receipt_last number last receipts receipt high (All-tail (λ (r : NumberedReceipt). r.number ≤ number) given receipts low)

row_last : (number last : ℕ) (rows : List ObjectRow) (row : ObjectRow) → number < last → row.number ≡ last
    → All (λ (r : ObjectRow). r.number ≤ number) rows → row_of last (rows ++ row ∷ []) ≡ Some row
row_last number last [] row high named low = first_row true row [] last (grind (arith, nat_tests))
row_last number last (first ∷ rows) row high named low =
    let first_low : first.number ≤ number = All-head (λ (r : ObjectRow). r.number ≤ number) first rows low in
    first_row false first (rows ++ row ∷ []) last (grind (arith, nat_tests))
    ∙ row_last number last rows row high named (All-tail (λ (r : ObjectRow). r.number ≤ number) first rows low)

-- what is in the store stays there
abbrev pub StaysStored : List NumberedReceipt → List ObjectRow → List NumberedReceipt → List ObjectRow → ℕ → Type 0
StaysStored receipts rows now now_rows number =
    (object : StoredObject) → stored_with (receipt_in receipts number) (row_of number rows) ≡ Some object
    → stored_with (receipt_in now number) (row_of number now_rows) ≡ Some object

-- where its receipt is still there, and the front of its row
pub stays : (receipts now : List NumberedReceipt) (rows now_rows : List ObjectRow) (number : ℕ)
    → ((r : ReceiptState) → receipt_in receipts number ≡ Some r → receipt_in now number ≡ Some r)
    → ((f : ℕ) → front_in (row_of number rows) ≡ Some f → front_in (row_of number now_rows) ≡ Some f)
    → StaysStored receipts rows now now_rows number
stays receipts now rows now_rows number given front object is =
    let parts = stored_parts (receipt_in receipts number) (row_of number rows) object is in
    let front_was : front_in (row_of number rows) ≡ Some parts.1.front = ap front_in parts.3 in
    let fronts : front_in (row_of number now_rows) ≡ front_in (row_of number rows) =
    front parts.1.front front_was ∙ sym front_was in
    ap (λ r. stored_with r (row_of number now_rows)) (given parts.0 parts.2 ∙ sym parts.2)
    ∙ (same_stored (receipt_in receipts number) (row_of number now_rows) (row_of number rows) fronts ∙ is)

module _ (number front : ℕ) (receipt : ReceiptState) (receipts now : List NumberedReceipt) (rows now_rows : List ObjectRow)
    (added : IsAddedTo number front receipt receipts rows now now_rows) where
  added_front : (n : ℕ) → front_in (row_of n now_rows) ≡ front_in (row_of n (map fixed rows ++ new_row number 0 front ∷ []))
  added_front n = fixed_front n now_rows ∙ ap (λ list. front_in (row_of n list)) added.rows_are

  pub still_stored : (n : ℕ) → StaysStored receipts rows now now_rows n
  still_stored n object is =
      let parts = stored_parts (receipt_in receipts n) (row_of n rows) object is in
      let last : NumberedReceipt = record { number = number; receipt = receipt } in
      let given : receipt_in now n ≡ receipt_in receipts n =
      ap (λ list. receipt_in list n) added.receipts_are
      ∙ (receipt_still n receipts (last ∷ []) parts.0 parts.2 ∙ sym parts.2) in
      let there : front_in (row_of n now_rows) ≡ front_in (row_of n rows) =
      added_front n ∙ (front_still n (map fixed rows) (new_row number 0 front ∷ []) parts.1.front
      (sym (fixed_front n rows) ∙ ap front_in parts.3) ∙ sym (ap front_in parts.3)) in
      ap (λ r. stored_with r (row_of n now_rows)) given
      ∙ (same_stored (receipt_in receipts n) (row_of n now_rows) (row_of n rows) there ∙ is)

  pub next_stored : (below : ℕ) → below < number → AreUpTo below receipts rows
      → stored_with (receipt_in now number) (row_of number now_rows) ≡ Some (record { receipt = receipt; front = front })
  next_stored below low known =
      let row = new_row number 0 front in
      let given : receipt_in now number ≡ Some receipt =
      ap (λ list. receipt_in list number) added.receipts_are
      ∙ receipt_last below number receipts receipt low known.receipts_are in
      let there : front_in (row_of number now_rows) ≡ front_in (Some row) =
      added_front number ∙ ap front_in (row_last below number (map fixed rows) row low refl known.rows_are) in
      ap (λ r. stored_with r (row_of number now_rows)) given
      ∙ same_stored (Some receipt) (row_of number now_rows) (Some row) there
