-- For this crate's own clauses: what the store gave for objects, in the order of their numbers.
use Rattle.std.specs.Prelude.{◌≡◌, ℕ, ◌<◌, Bool, IfSome, List}
use Rattle.std.specs.List.{All, AllByRecursion, AllPairs}
use Rattle.std.specs.Option.{is_some}
use Rattle.lsvd_objstore.specs.Store.{ReceiptState}
use Rattle.object_uploads.specs.State.{SealedState, NumberedReceipt, InheritedObject}

-- receipts, and for how many more there is room
pub record ReceiptsState : Type 0 where
  pub list : List NumberedReceipt
  pub spare : ℕ

-- a number is greater than those of all receipts
abbrev pub MayCome : (number : ℕ) → List NumberedReceipt → Type 0
MayCome number receipts = All (λ (r : NumberedReceipt). r.number < number) receipts

-- each receipt has a greater number than all before it
abbrev pub Ascend : List NumberedReceipt → Type 0
Ascend receipts = AllPairs (λ (earlier later : NumberedReceipt). earlier.number < later.number) receipts

-- each of some receipts tells its bytes, or none does
abbrev pub AllTell : (tells : Bool) → List NumberedReceipt → Type 0
AllTell tells receipts = All (λ (r : NumberedReceipt). is_some r.receipt.told ≡ tells) receipts

-- the same of those for objects of ancestors
abbrev pub AllInheritedTell : (tells : Bool) → List InheritedObject → Type 0
AllInheritedTell tells inherited = All (λ (o : InheritedObject). is_some o.receipt.told ≡ tells) inherited

-- and of what the store gave for objects past the frontier
abbrev pub AllSealedTell : (tells : Bool) → List SealedState → Type 0
AllSealedTell tells sealed =
    AllByRecursion (λ (s : SealedState). IfSome s.receipt (λ receipt. is_some receipt.told ≡ tells)) sealed

module _ {R : Type 0} (state : R → ReceiptState) where
  -- this is what is seen of a receipt of a kind
  abbrev pub IsStateOf : ReceiptState → Type 0
  IsStateOf receipt = (own : R) × (receipt ≡ state own)

  -- so is each of some receipts
  abbrev pub AreStates : List NumberedReceipt → Type 0
  AreStates receipts = All (λ (r : NumberedReceipt). IsStateOf r.receipt) receipts

  -- and of those for objects of ancestors
  abbrev pub AreInheritedStates : List InheritedObject → Type 0
  AreInheritedStates inherited = All (λ (o : InheritedObject). IsStateOf o.receipt) inherited

  -- and what the store gave for objects past the frontier
  abbrev pub AreSealedStates : List SealedState → Type 0
  AreSealedStates sealed = AllByRecursion (λ (s : SealedState). IfSome s.receipt IsStateOf) sealed
