-- What the store gave for an object, found by its number.
use Rattle.std.proofs.Common.{◌≡◌, ℕ, zero, suc, ◌<◌, ◌≤◌, ◌==◌, nat_lt, cond, Bool, true, false, Some, None, List, [], ◌∷◌}
use Rattle.std.proofs.Common.{length, get_or, refl}
use Rattle.std.proofs.Common.{sym, ◌∙◌, ap, arith, inl, inr}
use Rattle.std.specs.Prelude.{Result, Ok, Err, IsOk, is_ok, MatchResult}
use Rattle.std.specs.List.{All, AllByRecursion, insert, remove}
use Rattle.std.specs.List.Sorted.{IsSearchInRange, IsBinarySearchResult, IsNonDecreasingBy}
use Rattle.std.specs.Ordering.{nat_cmp, ordering_index}
use Rattle.std.proofs.lemmas.List.Quantifiers.{all_pairs_remove}
use Rattle.std.proofs.lemmas.Cmp.{ranked}
use Rattle.std.proofs.lemmas.List.Elements.{All-nil, All-cons, All-head, All-tail, recursion_from_All}
use Rattle.std.proofs.lemmas.List.Kept.{AllPairs-cons}
use Rattle.std.proofs.lemmas.Bool.{cases_lt}
use Rattle.std.proofs.lemmas.Bool.Decides.{nat_tests}
use Rattle.lsvd_objstore.specs.Store.{ReceiptState}
use Rattle.object_uploads.specs.State.{NumberedReceipt}
use Rattle.object_uploads.specs.Queue.{receipt_in}
use Rattle.object_uploads.specs.Removal.{without_receipt, with_receipt_of}
use Rattle.object_uploads.specs.Receipts.{Ascend}

-- the receipts after the first of some that ascend do
rest_ascend : (first : NumberedReceipt) (rest : List NumberedReceipt) → Ascend (first ∷ rest) → Ascend rest
rest_ascend first rest order i j d low high = order (suc i) (suc j) d (omega arith) (omega arith)

-- that of the number at a place
pub receipt_at : (number : ℕ) (list : List NumberedReceipt) (i : ℕ) (d : NumberedReceipt) → Ascend list → i < length list
    → (get_or list i d).number ≡ number → receipt_in list number ≡ Some (get_or list i d).receipt
receipt_at number [] i d order inside is = absurd (omega arith)
receipt_at number (first ∷ rest) zero d order inside is =
    let it : (first.number == number) ≡ true = grind (arith, nat_tests) in
    rw it refl
receipt_at number (first ∷ rest) (suc i) d order inside is =
    let more = order 0 (suc i) d (omega arith) inside in
    let not_it : (first.number == number) ≡ false = grind (arith, nat_tests) in
    rw not_it (receipt_at number rest i d (rest_ascend first rest order) (omega arith) is)

absent : (number : ℕ) (list : List NumberedReceipt)
    → AllByRecursion (λ (r : NumberedReceipt). r.number ≡ number → ⊥) list → receipt_in list number ≡ None
absent number [] others = refl
absent number (first ∷ rest) others =
    let other = others.0 in
    let not_it : (first.number == number) ≡ false = grind (arith, nat_tests) in
    rw not_it (absent number rest others.1)

-- a search by number ends at its receipt, or finds that there is none
module _ (number : ℕ) (list : List NumberedReceipt) (order : Ascend list) where
  climbs : (i j : ℕ) (d : NumberedReceipt) → i ≤ j → j < length list → (get_or list i d).number ≤ (get_or list j d).number
  climbs i j d le inside = elim (cases_lt i j) [
    | inl low ↦ let h = order i j d low inside in omega (arith, h)
    | inr high ↦ let same : i ≡ j = omega arith in rw same (omega arith)
  ]

  comparisons_rise : IsNonDecreasingBy (λ (r : NumberedReceipt). ordering_index (nat_cmp r.number number)) list
  comparisons_rise i j d le inside = let h = climbs i j d le inside in grind (arith, nat_tests)

  pub searched : (found : Result ℕ ℕ) → IsSearchInRange found (length list)
      → IsBinarySearchResult (λ (r : NumberedReceipt). nat_cmp r.number number) list found
      → MatchResult found (λ at. (d : NumberedReceipt) → receipt_in list number ≡ Some (get_or list at d).receipt)
      (λ at. receipt_in list number ≡ None)
  searched (Ok at) within equal = λ d. receipt_at number list at d order within (ranked _ number _ (sym (equal d)))
  searched (Err at) within parted =
      absent number list (recursion_from_All (λ (r : NumberedReceipt). r.number ≡ number → ⊥) list
      (λ k d less is. elim (cases_lt k at) [
        | inl low ↦ (let h : (get_or list k d).number < number =
            ranked _ number _ (sym ((parted comparisons_rise).0 k d (omega arith) low)) in omega (arith, h, is))
        | inr high ↦ (let h : number < (get_or list k d).number =
            ranked _ number _ (sym ((parted comparisons_rise).1 k d high less)) in omega (arith, h, is))
      ]))

-- what the search found is that of the receipt that is lent
pub lent_is : (number at : ℕ) (list slice : List NumberedReceipt) (lent : NumberedReceipt) → slice ≡ list
    → lent ≡ get_or list at lent → receipt_in slice number ≡ Some (get_or slice at lent).receipt
    → Some lent.receipt ≡ receipt_in list number
lent_is number at list slice lent same is found =
    ap (λ (r : NumberedReceipt). Some r.receipt) is
    ∙ (ap (λ (l : List NumberedReceipt). Some (get_or l at lent).receipt) (sym same)
    ∙ (sym found ∙ ap (λ l. receipt_in l number) same))

-- ---- one is taken out

-- where a search by number ends: at its receipt, or between those with lower numbers and those with greater ones
abbrev pub IsFoundAt : (number : ℕ) → List NumberedReceipt → Result ℕ ℕ → Type 0
IsFoundAt number list found =
    MatchResult found (λ at. (at < length list) × ((d : NumberedReceipt) → (get_or list at d).number ≡ number))
    (λ at. (at ≤ length list) × ((k : ℕ) (d : NumberedReceipt) → k < at → (get_or list k d).number < number)
    × ((k : ℕ) (d : NumberedReceipt) → at ≤ k → k < length list → number < (get_or list k d).number))

pub searched_at : (number : ℕ) (list : List NumberedReceipt) → Ascend list → (found : Result ℕ ℕ)
    → IsSearchInRange found (length list)
    → IsBinarySearchResult (λ (r : NumberedReceipt). nat_cmp r.number number) list found → IsFoundAt number list found
searched_at number list order (Ok at) within equal = (within, λ d. ranked _ number _ (sym (equal d)))
searched_at number list order (Err at) within parted = (
  within,
  λ k d low. ranked _ number _ (sym ((parted (comparisons_rise number list order)).0 k d (omega arith) low)),
  λ k d high less. ranked _ number _ (sym ((parted (comparisons_rise number list order)).1 k d high less)),
)

pub ascend_removed : (list : List NumberedReceipt) (i : ℕ) → i < length list → Ascend list → Ascend (remove list i)
ascend_removed list i inside order =
    all_pairs_remove (λ (earlier later : NumberedReceipt). earlier.number < later.number) list i inside order

pub removed_receipt : (number : ℕ) (list : List NumberedReceipt) (i : ℕ) → Ascend list → i < length list
    → ((d : NumberedReceipt) → (get_or list i d).number ≡ number) → remove list i ≡ without_receipt number list
removed_receipt number [] i order inside is = absurd (omega arith)
removed_receipt number (first ∷ rest) zero order inside is =
    let own = is first in
    let it : (first.number == number) ≡ true = grind (arith, nat_tests) in
    rw it refl
removed_receipt number (first ∷ rest) (suc i) order inside is =
    let more = order 0 (suc i) first (omega arith) inside in
    let own = is first in
    let not_it : (first.number == number) ≡ false = grind (arith, nat_tests) in
    rw not_it (
    ap (λ list. first ∷ list) (removed_receipt number rest i (rest_ascend first rest order) (omega arith) is)
    )

-- where there is none of the number, all stay
pub none_taken : (number : ℕ) (list : List NumberedReceipt) (at : ℕ)
    → ((k : ℕ) (d : NumberedReceipt) → k < at → (get_or list k d).number < number)
    → ((k : ℕ) (d : NumberedReceipt) → at ≤ k → k < length list → number < (get_or list k d).number)
    → list ≡ without_receipt number list
none_taken number [] at below over = refl
none_taken number (first ∷ rest) zero below over =
    let low = over 0 first (omega arith) (omega arith) in
    let not_it : (first.number == number) ≡ false = grind (arith, nat_tests) in
    rw not_it (ap (λ list. first ∷ list) (none_taken number rest zero (λ k d less. absurd (omega arith))
    (λ k d from less. over (suc k) d (omega arith) (omega arith))))
none_taken number (first ∷ rest) (suc at) below over =
    let high = below 0 first (omega arith) in
    let not_it : (first.number == number) ≡ false = grind (arith, nat_tests) in
    rw not_it (ap (λ list. first ∷ list) (none_taken number rest at (λ k d less. below (suc k) d (omega arith))
    (λ k d from less. over (suc k) d (omega arith) (omega arith))))

-- ---- one is put back

pub inserted_receipt : (number : ℕ) (receipt : ReceiptState) (list : List NumberedReceipt) (at : ℕ) → at ≤ length list
    → ((k : ℕ) (d : NumberedReceipt) → k < at → (get_or list k d).number < number)
    → ((k : ℕ) (d : NumberedReceipt) → at ≤ k → k < length list → number < (get_or list k d).number)
    → insert list at (record { number = number; receipt = receipt }) ≡ with_receipt_of number receipt list
inserted_receipt number receipt [] zero within below over = refl
inserted_receipt number receipt [] (suc at) within below over = absurd (omega arith)
inserted_receipt number receipt (first ∷ rest) zero within below over =
    let low = over 0 first (omega arith) (omega arith) in
    let here : nat_lt number first.number ≡ true = grind (arith, nat_tests) in
    rw here refl
inserted_receipt number receipt (first ∷ rest) (suc at) within below over =
    let high = below 0 first (omega arith) in
    let not_here : nat_lt number first.number ≡ false = grind (arith, nat_tests) in
    rw not_here (ap (λ list. first ∷ list) (inserted_receipt number receipt rest at (omega arith)
    (λ k d less. below (suc k) d (omega arith)) (λ k d from less. over (suc k) d (omega arith) (omega arith))))

-- what was made, where it succeeded
pub made_where_ok : {A E X : Type 0} (result : Result A E) (made old new : X) → IsOk result
    → new ≡ cond (is_ok result) made old → new ≡ made
made_where_ok (Ok value) made old new ok is = is
made_where_ok (Err error) made old new ok is = absurd cc

-- all of some receipts have greater numbers than one
abbrev AreAbove : ℕ → List NumberedReceipt → Type 0
AreAbove low list = All (λ (r : NumberedReceipt). low < r.number) list

above_first : (first : NumberedReceipt) (rest : List NumberedReceipt) → Ascend (first ∷ rest) → AreAbove first.number rest
above_first first rest order i d inside = order 0 (suc i) d (omega arith) (omega arith)

above_with_by : (test : Bool) (low number : ℕ) (receipt : ReceiptState) (first : NumberedReceipt) (rest : List NumberedReceipt)
    → low < number → AreAbove low (first ∷ rest) → AreAbove low (with_receipt_of number receipt rest)
    → AreAbove low (cond test (record { number = number; receipt = receipt } ∷ first ∷ rest)
    (first ∷ with_receipt_of number receipt rest))
above_with_by true low number receipt first rest less above more =
    All-cons (λ (r : NumberedReceipt). low < r.number) (record { number = number; receipt = receipt }) (first ∷ rest) less above
above_with_by false low number receipt first rest less above more =
    All-cons (λ (r : NumberedReceipt). low < r.number) first (with_receipt_of number receipt rest)
    (All-head (λ (r : NumberedReceipt). low < r.number) first rest above) more

above_with : (low number : ℕ) (receipt : ReceiptState) (list : List NumberedReceipt) → low < number → AreAbove low list
    → AreAbove low (with_receipt_of number receipt list)
above_with low number receipt [] less above =
    All-cons (λ (r : NumberedReceipt). low < r.number) (record { number = number; receipt = receipt }) [] less above
above_with low number receipt (first ∷ rest) less above =
    above_with_by (nat_lt number first.number) low number receipt first rest less above
    (above_with low number receipt rest less (All-tail (λ (r : NumberedReceipt). low < r.number) first rest above))

-- with it they ascend yet, where none has its number
ascend_with_by : (test : Bool) (number : ℕ) (receipt : ReceiptState) (first : NumberedReceipt) (rest : List NumberedReceipt)
    → nat_lt number first.number ≡ test → (first.number ≡ number → ⊥) → Ascend (first ∷ rest)
    → Ascend (with_receipt_of number receipt rest)
    → Ascend (cond test (record { number = number; receipt = receipt } ∷ first ∷ rest)
    (first ∷ with_receipt_of number receipt rest))
ascend_with_by true number receipt first rest test other order more =
    let low : number < first.number = grind (arith, nat_tests) in
    AllPairs-cons (λ (earlier later : NumberedReceipt). earlier.number < later.number)
    (record { number = number; receipt = receipt }) (first ∷ rest)
    (All-cons (λ (r : NumberedReceipt). number < r.number) first rest low
    (λ i d inside. let h = above_first first rest order i d inside in omega (arith, h, low)))
    order
ascend_with_by false number receipt first rest test other order more =
    let high : first.number < number = grind (arith, nat_tests) in
    AllPairs-cons (λ (earlier later : NumberedReceipt). earlier.number < later.number) first
    (with_receipt_of number receipt rest)
    (above_with first.number number receipt rest high (above_first first rest order)) more

-- none of some receipts has a number
other_by : (test : Bool) (number : ℕ) (first : NumberedReceipt) (rest : List NumberedReceipt)
    → (first.number == number) ≡ test → receipt_in (first ∷ rest) number ≡ None
    → (first.number ≡ number → ⊥) × (receipt_in rest number ≡ None)
other_by true number first rest test none =
    let some : receipt_in (first ∷ rest) number ≡ Some first.receipt = rw test refl in
    absurd cc
other_by false number first rest test none =
    let differ : first.number ≡ number → ⊥ = λ same. absurd (grind (arith, nat_tests)) in
    let more : receipt_in (first ∷ rest) number ≡ receipt_in rest number = rw test refl in
    (differ, sym more ∙ none)

pub others_by : (number : ℕ) (first : NumberedReceipt) (rest : List NumberedReceipt) → receipt_in (first ∷ rest) number ≡ None
    → (first.number ≡ number → ⊥) × (receipt_in rest number ≡ None)
others_by number first rest none = other_by (first.number == number) number first rest refl none

pub ascend_with : (number : ℕ) (receipt : ReceiptState) (list : List NumberedReceipt) → receipt_in list number ≡ None
    → Ascend list → Ascend (with_receipt_of number receipt list)
ascend_with number receipt [] none order =
    AllPairs-cons (λ (earlier later : NumberedReceipt). earlier.number < later.number)
    (record { number = number; receipt = receipt }) [] (All-nil (λ (r : NumberedReceipt). number < r.number)) order
ascend_with number receipt (first ∷ rest) none order =
    let parts = others_by number first rest none in
    ascend_with_by (nat_lt number first.number) number receipt first rest refl parts.0 order
    (ascend_with number receipt rest parts.1 (rest_ascend first rest order))
