-- What holds of each receipt, while receipts are taken out and put back, and while objects are given theirs.
use Rattle.std.proofs.Common.{◌≡◌, ℕ, zero, suc, ◌==◌, cond, Bool, true, false, Option, Some, None, List, [], ◌∷◌, refl, ap}
use Rattle.std.proofs.Common.{◌∙◌, subst}
use Rattle.std.specs.Prelude.{nat_lt, IfSome}
use Rattle.std.specs.List.{All}
use Rattle.std.specs.Option.{is_some}
use Rattle.std.proofs.lemmas.List.Elements.{All-nil, All-cons, All-head, All-tail, All-weaker}
use Rattle.lsvd_objstore.specs.Store.{ReceiptState}
use Rattle.object_uploads.specs.State.{SealedState, NumberedReceipt, InheritedObject}
use Rattle.object_uploads.specs.Queue.{with_at, with_receipt}
use Rattle.object_uploads.specs.Removal.{without_receipt, with_receipt_of}
use Rattle.object_uploads.specs.Receipts.{AllTell, AllInheritedTell, AllSealedTell, IsStateOf, AreStates, AreInheritedStates}
use Rattle.object_uploads.specs.Receipts.{AreSealedStates}

-- a receipt tells its bytes, or does not
abbrev pub Tells : (tells : Bool) → NumberedReceipt → Type 0
Tells tells given = is_some given.receipt.told ≡ tells

-- ---- receipts in ascending order

module _ (P : NumberedReceipt → Type 0) where
  without_test : (test : Bool) (first : NumberedReceipt) (rest kept : List NumberedReceipt) → All P (first ∷ rest) → All P kept
      → All P (cond test rest (first ∷ kept))
  without_test true first rest kept all of_kept = All-tail P first rest all
  without_test false first rest kept all of_kept = All-cons P first kept (All-head P first rest all) of_kept

  -- without that of a number, and with it again
  pub all_without_receipt : (number : ℕ) (receipts : List NumberedReceipt) → All P receipts
      → All P (without_receipt number receipts)
  all_without_receipt number [] all = all
  all_without_receipt number (first ∷ rest) all =
      without_test (first.number == number) first rest (without_receipt number rest) all
      (all_without_receipt number rest (All-tail P first rest all))

  with_test : (test : Bool) (own first : NumberedReceipt) (rest kept : List NumberedReceipt) → P own → All P (first ∷ rest)
      → All P kept → All P (cond test (own ∷ first ∷ rest) (first ∷ kept))
  with_test true own first rest kept is all of_kept = All-cons P own (first ∷ rest) is all
  with_test false own first rest kept is all of_kept = All-cons P first kept (All-head P first rest all) of_kept

  pub all_with_receipt : (number : ℕ) (receipt : ReceiptState) (receipts : List NumberedReceipt)
      → P (record { number = number; receipt = receipt }) → All P receipts → All P (with_receipt_of number receipt receipts)
  all_with_receipt number receipt [] is all = All-cons P (record { number = number; receipt = receipt }) [] is (All-nil P)
  all_with_receipt number receipt (first ∷ rest) is all =
      with_test (nat_lt number first.number) (record { number = number; receipt = receipt }) first rest
      (with_receipt_of number receipt rest) is all
      (all_with_receipt number receipt rest is (All-tail P first rest all))

-- ---- what is seen of receipts of a kind

module _ {R : Type 0} (state : R → ReceiptState) where
  -- this is, of a numbered receipt, and of an object that has one
  abbrev pub IsSeen : NumberedReceipt → Type 0
  IsSeen given = IsStateOf state given.receipt

  abbrev pub SealedIsSeen : SealedState → Type 0
  SealedIsSeen sealed = IfSome sealed.receipt (IsStateOf state)

  -- one of some objects past the frontier is given its receipt
  pub seen_given : (index : ℕ) (own : R) (list : List SealedState) → AreSealedStates state list
      → AreSealedStates state (with_at index (with_receipt (state own)) list)
  seen_given index own [] all = all
  seen_given zero own (first ∷ more) all = ((own, refl), all.1)
  seen_given (suc index) own (first ∷ more) all = (all.0, seen_given index own more all.1)

  -- and the first of them leaves
  pub rest_seen : (list rest : List SealedState) (first : SealedState) → list ≡ first ∷ rest → AreSealedStates state list
      → AreSealedStates state rest
  rest_seen list rest first same all = let whole = subst (AreSealedStates state) same all in whole.1

  -- ---- whether they tell their bytes

  module _ (tells : Bool) (alike : (own : R) → is_some (state own).told ≡ tells) where
    tells_one : (receipt : ReceiptState) → IsStateOf state receipt → is_some receipt.told ≡ tells
    tells_one receipt is = ap (λ (r : ReceiptState). is_some r.told) is.1 ∙ alike is.0

    pub all_tell : (receipts : List NumberedReceipt) → AreStates state receipts → AllTell tells receipts
    all_tell receipts are = All-weaker IsSeen (Tells tells) (λ given is. tells_one given.receipt is) receipts are

    pub inherited_tell : (inherited : List InheritedObject) → AreInheritedStates state inherited
        → AllInheritedTell tells inherited
    inherited_tell inherited are =
        All-weaker (λ (o : InheritedObject). IsStateOf state o.receipt) (λ (o : InheritedObject). is_some o.receipt.told ≡ tells)
        (λ o is. tells_one o.receipt is) inherited are

    given_tells : (given : Option ReceiptState) → IfSome given (IsStateOf state)
        → IfSome given (λ (receipt : ReceiptState). is_some receipt.told ≡ tells)
    given_tells None is = tt
    given_tells (Some receipt) is = tells_one receipt is

    pub sealed_tell : (sealed : List SealedState) → AreSealedStates state sealed → AllSealedTell tells sealed
    sealed_tell [] are = tt
    sealed_tell (first ∷ more) are = (given_tells first.receipt are.0, sealed_tell more are.1)
