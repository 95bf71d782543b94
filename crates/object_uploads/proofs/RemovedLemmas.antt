-- The numbers of objects and of receipts where the removal of an object begins, fails or is done.
use Rattle.std.proofs.Common.{◌≡◌, ℕ, ◌≤◌, ◌==◌, nat_lt, Bool, true, false, cond, not, Option, Some, None, List, [], ◌∷◌}
use Rattle.std.proofs.Common.{refl, sym, ◌∙◌, ap, subst, arith}
use Rattle.std.specs.Prelude.{IsSome, map}
use Rattle.std.specs.List.{AllByRecursion, filter}
use Rattle.std.proofs.lemmas.Bool.Decides.{nat_tests}
use Rattle.lsvd_objstore.specs.Store.{ReceiptState}
use Rattle.object_table.specs.declared.row.ObjectRow.{ObjectRow}
use Rattle.object_table.specs.Table.{has_number, numbers, row_of, without}
use Rattle.object_table.specs.Lists.{Climbs}
use Rattle.object_uploads.specs.State.{NumberedReceipt}
use Rattle.object_uploads.specs.Queue.{receipt_in}
use Rattle.object_uploads.specs.Removal.{without_receipt, with_receipt_of}
use Rattle.object_uploads.specs.Order.{is_out}

-- the numbers of receipts
abbrev pub receipt_numbers : List NumberedReceipt → List ℕ
receipt_numbers receipts = map (λ (r : NumberedReceipt). r.number) receipts

-- numbers but for the one whose removal is out
abbrev pub left_by : Option ℕ → List ℕ → List ℕ
left_by out list = filter (λ number. not (is_out out number)) list

-- ---- no removal is out

pub all_left : (list : List ℕ) → left_by None list ≡ list
all_left [] = refl
all_left (first ∷ rest) = ap (λ list. first ∷ list) (all_left rest)

-- ---- ascending numbers but for one

-- all are left of numbers above it
pub above_left : (number low : ℕ) (list : List ℕ) → number ≤ low → Climbs low list → left_by (Some number) list ≡ list
above_left number low [] le order = refl
above_left number low (first ∷ rest) le order =
    let higher = order.0 in
    let other : (number == first) ≡ false = grind (arith, nat_tests) in
    rw other (ap (λ list. first ∷ list) (above_left number first rest (omega arith) order.1))

-- by a test, whether the first is the one
left_by_test : (test : Bool) (number first low : ℕ) (rest left : List ℕ) → (number == first) ≡ test → Climbs first rest
    → left_by (Some number) rest ≡ left
    → left_by (Some number) (first ∷ rest) ≡ cond test rest (first ∷ left)
left_by_test true number first low rest left test order same =
    let own : number ≡ first = grind (arith, nat_tests) in
    rw test (above_left number first rest (omega arith) order)
left_by_test false number first low rest left test order same = rw test (ap (λ list. first ∷ list) same)

-- a receipt is taken out
taken_by : (test : Bool) (number : ℕ) (first : NumberedReceipt) (rest : List NumberedReceipt) → (first.number == number) ≡ test
    → receipt_numbers (without_receipt number (first ∷ rest))
    ≡ cond test (receipt_numbers rest) (first.number ∷ receipt_numbers (without_receipt number rest))
taken_by true number first rest test = rw test refl
taken_by false number first rest test = rw test refl

pub receipt_taken : (number low : ℕ) (receipts : List NumberedReceipt) → Climbs low (receipt_numbers receipts)
    → receipt_numbers (without_receipt number receipts) ≡ left_by (Some number) (receipt_numbers receipts)
receipt_taken number low [] order = refl
receipt_taken number low (first ∷ rest) order =
    let test : (first.number == number) ≡ (number == first.number) = grind (arith, nat_tests) in
    let more = receipt_taken number first.number rest order.1 in
    taken_by (number == first.number) number first rest test
    ∙ sym (left_by_test (number == first.number) number first.number low (receipt_numbers rest)
    (receipt_numbers (without_receipt number rest)) refl order.1 (sym more))

-- an object is no longer in the table
dropped_by : (test : Bool) (number : ℕ) (first : ObjectRow) (rest : List ObjectRow) → has_number number first ≡ test
    → numbers (without number (first ∷ rest)) ≡ cond test (numbers rest) (first.number ∷ numbers (without number rest))
dropped_by true number first rest test = rw test refl
dropped_by false number first rest test = rw test refl

pub object_dropped : (number low : ℕ) (rows : List ObjectRow) → Climbs low (numbers rows)
    → numbers (without number rows) ≡ left_by (Some number) (numbers rows)
object_dropped number low [] order = refl
object_dropped number low (first ∷ rest) order =
    let test : has_number number first ≡ (number == first.number) = grind (arith, nat_tests) in
    let more = object_dropped number first.number rest order.1 in
    dropped_by (number == first.number) number first rest test
    ∙ sym (left_by_test (number == first.number) number first.number low (numbers rest)
    (numbers (without number rest)) refl order.1 (sym more))

-- ---- it comes back

-- numbers with one more before the first that is greater
abbrev pub with_number : ℕ → List ℕ → List ℕ
with_number number [] = number ∷ []
with_number number (first ∷ rest) = cond (nat_lt number first) (number ∷ first ∷ rest) (first ∷ with_number number rest)

given_by : (test : Bool) (number : ℕ) (receipt : ReceiptState) (first : NumberedReceipt) (rest : List NumberedReceipt)
    → nat_lt number first.number ≡ test
    → receipt_numbers (with_receipt_of number receipt (first ∷ rest))
    ≡ cond test (number ∷ first.number ∷ receipt_numbers rest)
    (first.number ∷ receipt_numbers (with_receipt_of number receipt rest))
given_by true number receipt first rest test = rw test refl
given_by false number receipt first rest test = rw test refl

receipt_given : (number : ℕ) (receipt : ReceiptState) (receipts : List NumberedReceipt)
    → receipt_numbers (with_receipt_of number receipt receipts) ≡ with_number number (receipt_numbers receipts)
receipt_given number receipt [] = refl
receipt_given number receipt (first ∷ rest) =
    given_by (nat_lt number first.number) number receipt first rest refl
    ∙ ap (λ list. cond (nat_lt number first.number) (number ∷ first.number ∷ receipt_numbers rest) (first.number ∷ list))
    (receipt_given number receipt rest)

-- before numbers above it
with_lowest : (number : ℕ) (list : List ℕ) → Climbs number list → with_number number list ≡ number ∷ list
with_lowest number [] order = refl
with_lowest number (first ∷ rest) order =
    let low = order.0 in
    let here : nat_lt number first ≡ true = grind (arith, nat_tests) in
    rw here refl

-- by a test, whether the first is the object, it is put back in its place
back_by : (test : Bool) (number : ℕ) (first : ObjectRow) (rest : List ObjectRow) → (number == first.number) ≡ test
    → Climbs first.number (numbers rest) → IsSome (row_of number (first ∷ rest))
    → (IsSome (row_of number rest) → (number ≤ first.number → ⊥)
    × (with_number number (left_by (Some number) (numbers rest)) ≡ numbers rest))
    → with_number number (left_by (Some number) (numbers (first ∷ rest))) ≡ numbers (first ∷ rest)
back_by true number first rest test order there back =
    let own : number ≡ first.number = grind (arith, nat_tests) in
    rw test (
    ap (with_number number) (above_left number first.number (numbers rest) (omega arith) order)
    ∙ (with_lowest number (numbers rest) (rw own order) ∙ ap (λ n. n ∷ numbers rest) own)
    )
back_by false number first rest test order there back =
    let not_it : has_number number first ≡ false = grind (arith, nat_tests) in
    let more = back (rw not_it at there) in
    let later : number ≤ first.number → ⊥ = more.0 in
    let not_here : nat_lt number first.number ≡ false = grind (arith, nat_tests) in
    rw (test, not_here) (ap (λ list. first.number ∷ list) more.1)

-- an object that is there has a number above a bound of all
there_above : (number low : ℕ) (rows : List ObjectRow) → Climbs low (numbers rows) → IsSome (row_of number rows)
    → number ≤ low → ⊥
there_above number low [] order there le = absurd cc
there_above number low (first ∷ rest) order there le =
    let higher = order.0 in
    let not_it : has_number number first ≡ false = grind (arith, nat_tests) in
    there_above number first.number rest order.1 (rw not_it at there) (omega arith)

back_in_place : (number low : ℕ) (rows : List ObjectRow) → Climbs low (numbers rows) → IsSome (row_of number rows)
    → with_number number (left_by (Some number) (numbers rows)) ≡ numbers rows
back_in_place number low [] order there = absurd cc
back_in_place number low (first ∷ rest) order there =
    back_by (number == first.number) number first rest refl order.1 there (λ more. (
      there_above number first.number rest order.1 more,
      back_in_place number first.number rest order.1 more,
    ))

-- the receipt of an object that is there comes back to those of the others
pub receipt_back : (number low : ℕ) (receipt : ReceiptState) (receipts : List NumberedReceipt) (rows : List ObjectRow)
    → Climbs low (numbers rows) → IsSome (row_of number rows)
    → receipt_numbers receipts ≡ left_by (Some number) (numbers rows)
    → receipt_numbers (with_receipt_of number receipt receipts) ≡ numbers rows
receipt_back number low receipt receipts rows order there others =
    receipt_given number receipt receipts ∙ (ap (with_number number) others ∙ back_in_place number low rows order there)

-- ---- which receipts are there

-- none of the numbers that are left is the one
none_left_by : (test : Bool) (number first : ℕ) (rest : List ℕ) → (number == first) ≡ test
    → AllByRecursion (λ n. n ≡ number → ⊥) (left_by (Some number) rest)
    → AllByRecursion (λ n. n ≡ number → ⊥) (left_by (Some number) (first ∷ rest))
none_left_by true number first rest test others = rw test others
none_left_by false number first rest test others =
    let differ : first ≡ number → ⊥ = λ same. absurd (grind (arith, nat_tests)) in
    rw test (differ, others)

none_left : (number : ℕ) (list : List ℕ) → AllByRecursion (λ n. n ≡ number → ⊥) (left_by (Some number) list)
none_left number [] = tt
none_left number (first ∷ rest) = none_left_by (number == first) number first rest refl (none_left number rest)

pub without_number : (number : ℕ) (receipts : List NumberedReceipt)
    → AllByRecursion (λ n. n ≡ number → ⊥) (receipt_numbers receipts) → receipt_in receipts number ≡ None
without_number number [] others = refl
without_number number (first ∷ rest) others =
    let other = others.0 in
    let not_it : (first.number == number) ≡ false = grind (arith, nat_tests) in
    rw not_it (without_number number rest others.1)

-- while its removal is out, there is none of the object
pub receipt_is_out : (number : ℕ) (receipts : List NumberedReceipt) (list : List ℕ)
    → receipt_numbers receipts ≡ left_by (Some number) list → receipt_in receipts number ≡ None
receipt_is_out number receipts list same =
    without_number number receipts (subst (AllByRecursion (λ (n : ℕ). n ≡ number → ⊥)) (sym same) (none_left number list))

-- else there is one of each object
there_by : (test : Bool) (number : ℕ) (first : NumberedReceipt) (rest : List NumberedReceipt) (row : ObjectRow)
    (rows : List ObjectRow) → (first.number == number) ≡ test → row.number ≡ first.number
    → (IsSome (row_of number rows) → IsSome (receipt_in rest number)) → IsSome (row_of number (row ∷ rows))
    → IsSome (receipt_in (first ∷ rest) number)
there_by true number first rest row rows test same more there = rw test refl
there_by false number first rest row rows test same more there =
    let not_it : has_number number row ≡ false = grind (arith, nat_tests) in
    rw test (more (rw not_it at there))

pub receipt_there : (number : ℕ) (receipts : List NumberedReceipt) (rows : List ObjectRow)
    → receipt_numbers receipts ≡ numbers rows → IsSome (row_of number rows) → IsSome (receipt_in receipts number)
receipt_there number [] [] same there = there
receipt_there number [] (row ∷ rows) same there = absurd cc
receipt_there number (first ∷ rest) [] same there = absurd cc
receipt_there number (first ∷ rest) (row ∷ rows) same there =
    let own : row.number ≡ first.number = cc in
    let others : receipt_numbers rest ≡ numbers rows = cc in
    there_by (first.number == number) number first rest row rows refl own (receipt_there number rest rows others) there
