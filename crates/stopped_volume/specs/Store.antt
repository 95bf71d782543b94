-- Contract: what a store may hold after a stop, by the puts that were acknowledged and those that were ever begun, and by what
-- was given out for removal; and when receipts tell what they stand for.
use Rattle.std.specs.Prelude.{◌≡◌, ℕ, ◌⊎◌, Option, Some, None, IsSome, List}
use Rattle.lsvd_objstore.specs.Objects.{Objects, found}
use Rattle.lsvd_objstore.specs.Store.{ReceiptState}
use Rattle.object_format.specs.declared.expected.Expected.{Expected}
use Rattle.object_stream.specs.Replay.{object_name}

-- the objects of a volume: each number's, as far as it was sealed and was not removed, and how far it has come
pub data PutState : Type 0 where
  -- the store has acknowledged the object
  Acknowledged : PutState
  -- it has acknowledged the object, which was then given out for removal: perhaps it is gone
  GivenOut : PutState
  -- its put was begun, once at least, and is not acknowledged
  Begun : PutState
  -- its put was never begun
  NotBegun : PutState

-- what a store may hold under the name of an object whose put has come so far
abbrev pub MayHoldPut : PutState → (bytes : List ℕ) → Option (List ℕ) → Type 0
MayHoldPut Acknowledged bytes held = held ≡ Some bytes
MayHoldPut GivenOut bytes held = (held ≡ None) ⊎ (held ≡ Some bytes)
MayHoldPut Begun bytes held = (held ≡ None) ⊎ (held ≡ Some bytes)
MayHoldPut NotBegun bytes held = held ≡ None

-- What a store may hold of a volume's objects, of which these are the puts: nothing under a number that has none.
pub record MayHoldPuts (volume : Expected) (puts : ℕ → Option (PutState × List ℕ)) (objects : Objects) : Type 0 where
  pub puts_are : (number : ℕ) (state : PutState) (bytes : List ℕ) → puts number ≡ Some (state, bytes)
      → MayHoldPut state bytes (found objects (object_name volume number))
  pub none_else : (number : ℕ) → puts number ≡ None → found objects (object_name volume number) ≡ None

-- receipts tell the bytes that they stand for
abbrev pub TellsBytes : {R : Type 0} → (R → ReceiptState) → Type 0
TellsBytes {R} state = (receipt : R) → IsSome (state receipt).told
