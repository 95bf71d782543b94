-- What the store gave for objects has their names.
use Rattle.std.proofs.Common.{◌≡◌, ℕ, zero, suc, ◌+◌, ◌==◌, Bool, true, false, Option, Some, None, List, []}
use Rattle.std.proofs.Common.{◌∷◌, ◌++◌, take, drop, refl, sym, ◌∙◌, ap, subst, arith}
use Rattle.std.specs.Prelude.{IfSome, map, option_to_list}
use Rattle.std.specs.List.{All}
use Rattle.std.proofs.lemmas.Bool.Decides.{nat_tests}
use Rattle.std.proofs.lemmas.List.Elements.{All-nil, All-cons, All-head, All-tail, All-append, All-push}
use Rattle.lsvd_names.specs.Names.{numbered_name}
use Rattle.lsvd_objstore.specs.Store.{ReceiptState}
use Rattle.object_uploads.specs.State.{SealedState, NumberedReceipt}
use Rattle.object_uploads.specs.Queue.{with_at, with_receipt, receipts_of, receipt_in}
use Rattle.object_uploads.specs.Removal.{without_receipt, with_receipt_of}
use Rattle.object_uploads.specs.Order.{HaveNames}
use Rattle.object_uploads.proofs.TellLemmas.{all_without_receipt, all_with_receipt}

-- ---- those past the frontier

module _ (uuid : List ℕ) where
  pub names_pushed : (number : ℕ) (list : List SealedState) (sealed : SealedState) → sealed.receipt ≡ None
      → HaveNames uuid number list → HaveNames uuid number (list ++ sealed ∷ [])
  names_pushed number [] sealed none names =
      (subst (λ r. IfSome r (λ (receipt : ReceiptState). receipt.name ≡ numbered_name uuid (number + 1))) (sym none) tt, tt)
  names_pushed number (first ∷ list) sealed none names =
      (names.0, names_pushed (number + 1) list sealed none names.1)

  -- a change that keeps receipts
  pub names_changed : (number index : ℕ) (change : SealedState → SealedState) (list : List SealedState)
      → ((s : SealedState) → (change s).receipt ≡ s.receipt)
      → HaveNames uuid number list → HaveNames uuid number (with_at index change list)
  names_changed number index change [] same names = names
  names_changed number zero change (sealed ∷ list) same names = (
    subst (λ r. IfSome r (λ (receipt : ReceiptState). receipt.name ≡ numbered_name uuid (number + 1))) (sym (same sealed))
        names.0,
    names.1,
  )
  names_changed number (suc index) change (sealed ∷ list) same names =
      (names.0, names_changed (number + 1) index change list same names.1)

  -- a receipt of the object's name
  pub names_given : (number index : ℕ) (receipt : ReceiptState) (list : List SealedState)
      → receipt.name ≡ numbered_name uuid (number + 1 + index)
      → HaveNames uuid number list → HaveNames uuid number (with_at index (with_receipt receipt) list)
  names_given number index receipt [] named names = names
  names_given number zero receipt (sealed ∷ list) named names =
      let same : number + 1 + 0 ≡ number + 1 = omega arith in
      (subst (λ n. receipt.name ≡ numbered_name uuid n) same named, names.1)
  names_given number (suc index) receipt (sealed ∷ list) named names =
      let same : number + 1 + suc index ≡ number + 1 + 1 + index = omega arith in (
        names.0,
        names_given (number + 1) index receipt list (subst (λ n. receipt.name ≡ numbered_name uuid n) same named)
            names.1,
      )

  pub names_dropped : (number count : ℕ) (list : List SealedState) → HaveNames uuid number list
      → HaveNames uuid (number + count) (drop count list)
  names_dropped number zero list names = let same : number + 0 ≡ number = omega arith in rw same names
  names_dropped number (suc count) [] names = tt
  names_dropped number (suc count) (sealed ∷ list) names =
      let same : number + suc count ≡ number + 1 + count = omega arith in
      rw same (names_dropped (number + 1) count list names.1)

  -- ---- those that are known

  -- what the store gave for the object of a number has its name
  abbrev pub IsNamed : NumberedReceipt → Type 0
  IsNamed r = r.receipt.name ≡ numbered_name uuid r.number

  of_first : (number : ℕ) (receipt : Option ReceiptState)
      → IfSome receipt (λ r. r.name ≡ numbered_name uuid (number + 1))
      → All IsNamed (map (λ (r : ReceiptState). record { number = number + 1; receipt = r }) (option_to_list receipt))
  of_first number None named = All-nil IsNamed
  of_first number (Some receipt) named =
      All-cons IsNamed (record { number = number + 1; receipt = receipt }) [] named (All-nil IsNamed)

  named_of : (number count : ℕ) (list : List SealedState) → HaveNames uuid number list
      → All IsNamed (receipts_of number (take count list))
  named_of number zero list names = All-nil IsNamed
  named_of number (suc count) [] names = All-nil IsNamed
  named_of number (suc count) (sealed ∷ list) names =
      All-append IsNamed
      (map (λ (r : ReceiptState). record { number = number + 1; receipt = r }) (option_to_list sealed.receipt))
      (receipts_of (number + 1) (take count list))
      (of_first number sealed.receipt names.0) (named_of (number + 1) count list names.1)

  -- those of settled objects with them
  pub named_settled : (number count : ℕ) (receipts : List NumberedReceipt) (list : List SealedState) → All IsNamed receipts
      → HaveNames uuid number list → All IsNamed (receipts ++ receipts_of number (take count list))
  named_settled number count receipts list named names =
      All-append IsNamed receipts (receipts_of number (take count list)) named (named_of number count list names)

  pub named_pushed : (number : ℕ) (receipts : List NumberedReceipt) (receipt : ReceiptState) → All IsNamed receipts
      → receipt.name ≡ numbered_name uuid number
      → All IsNamed (receipts ++ record { number = number; receipt = receipt } ∷ [])
  named_pushed number receipts receipt named is =
      All-push IsNamed receipts (record { number = number; receipt = receipt }) named is

  -- without that of a number, and with it again
  pub named_without : (number : ℕ) (receipts : List NumberedReceipt) → All IsNamed receipts
      → All IsNamed (without_receipt number receipts)
  named_without number receipts named = all_without_receipt IsNamed number receipts named

  pub named_with : (number : ℕ) (receipt : ReceiptState) (receipts : List NumberedReceipt)
      → receipt.name ≡ numbered_name uuid number → All IsNamed receipts
      → All IsNamed (with_receipt_of number receipt receipts)
  named_with number receipt receipts is named = all_with_receipt IsNamed number receipt receipts is named

  -- so has the one of a number
  in_test : (test : Bool) (number : ℕ) (first : NumberedReceipt) (rest : List NumberedReceipt) (receipt : ReceiptState)
      → (first.number == number) ≡ test → IsNamed first
      → (receipt_in rest number ≡ Some receipt → receipt.name ≡ numbered_name uuid number)
      → receipt_in (first ∷ rest) number ≡ Some receipt → receipt.name ≡ numbered_name uuid number
  in_test true number first rest receipt test named later is =
      let found : receipt_in (first ∷ rest) number ≡ Some first.receipt = rw test refl in
      let same : first.receipt ≡ receipt = cc in
      let numbered : first.number ≡ number = grind (arith, nat_tests) in
      ap (λ (r : ReceiptState). r.name) (sym same) ∙ (named ∙ ap (numbered_name uuid) numbered)
  in_test false number first rest receipt test named later is =
      let found : receipt_in (first ∷ rest) number ≡ receipt_in rest number = rw test refl in
      later (sym found ∙ is)

  pub name_of : (number : ℕ) (receipts : List NumberedReceipt) (receipt : ReceiptState) → All IsNamed receipts
      → receipt_in receipts number ≡ Some receipt → receipt.name ≡ numbered_name uuid number
  name_of number [] receipt named is = absurd cc
  name_of number (first ∷ rest) receipt named is =
      in_test (first.number == number) number first rest receipt refl (All-head IsNamed first rest named)
      (name_of number rest receipt (All-tail IsNamed first rest named)) is
