-- Contract: what a read through the cache asks of a store.
use Rattle.std.specs.Prelude.{◌≡◌, ℕ, ◌+◌, ◌≤◌, Option, Some, None, List, ◌++◌, length}
use Rattle.std.specs.List.{All}
use Rattle.lsvd_objstore.specs.Store.{ReceiptState, StoreCall, Get}

-- a get of some of the bytes that a receipt stands for, no more than so many
pub record IsGetOf (receipt : ReceiptState) (most : ℕ) (call : StoreCall) : Type 0 where
  pub from : ℕ
  pub count : ℕ
  pub gets : call ≡ Get receipt.name from count
  pub inside : from + count ≤ receipt.size
  pub bounded : count ≤ most

-- where a store tells its gets, only such gets were added to them, and no more than so many
abbrev pub AsksGetsOf : ReceiptState → (bytes calls : ℕ) → (old new : Option (List StoreCall)) → Type 0
AsksGetsOf receipt bytes calls None new = new ≡ None
AsksGetsOf receipt bytes calls (Some asked) new =
    (more : List StoreCall) × (new ≡ Some (more ++ asked)) × (length more ≤ calls) × All (IsGetOf receipt bytes) more
