-- What is seen of a block, and which bytes it has.
use Rattle.std.specs.Prelude.{◌≡◌, ℕ, ◌-◌, IfSome, List, length, take}
use Rattle.lsvd_bytes.specs.Places.{bytes_at}
use Rattle.lsvd_objstore.specs.Store.{ReceiptState}

-- a block of an object
pub record BlockState : Type 0 where
  pub receipt : ReceiptState
  -- the byte of the object at which it begins
  pub start : ℕ

-- it is the block of this object that begins there
pub record IsBlockOf (receipt : ReceiptState) (start : ℕ) (block : BlockState) : Type 0 where
  pub receipt_is : block.receipt ≡ receipt
  pub start_is : block.start ≡ start

-- There are 65536 bytes. Where the receipt tells its object's, the first of them are those from a byte on, up to the end.
pub record IsFilled (receipt : ReceiptState) (start : ℕ) (bytes : List ℕ) : Type 0 where
  pub size : length bytes ≡ 65536
  pub told : IfSome receipt.told (λ told. take (receipt.size - start) bytes ≡ bytes_at start 65536 told)
