-- Contract: what is seen of the plan of a read, and the bytes that it gives.
use Rattle.std.specs.Prelude.{◌≡◌, ℕ, ◌+◌, ◌≤◌, max, Option, IfSome, List, [], ◌∷◌, length, take}
use Rattle.std.specs.List.{AllByRecursion}
use Rattle.lsvd_objstore.specs.Store.{ReceiptState, StoreCall}
use Rattle.read_cache.specs.Reading.{AsksGetsOf}
use Rattle.lsvd_bytes.specs.Places.{bytes_at, with_bytes}

-- a part of a read that an object has
pub record PieceState : Type 0 where
  -- the byte of the read at which it begins, and how many bytes it has
  pub at : ℕ
  pub count : ℕ
  -- what the store gave for the object, and the byte of the object at which the part begins
  pub receipt : ReceiptState
  pub from : ℕ

-- the plan of a read
pub record PlanState : Type 0 where
  -- how many entries the history had
  pub history_length : ℕ
  -- the bytes that the log has, and zeros elsewhere
  pub bytes : List ℕ
  pub pieces : List PieceState
  -- the numbers of the volume's own objects that it takes sectors from
  pub objects : List ℕ

-- a piece lies inside a read of so many bytes, and inside its object
pub record PieceFits (size : ℕ) (piece : PieceState) : Type 0 where
  pub read : piece.at + piece.count ≤ size
  pub object : piece.from + piece.count ≤ piece.receipt.size

-- each piece of a plan does
abbrev pub PiecesFit : PlanState → Type 0
PiecesFit plan = AllByRecursion (PieceFits (length plan.bytes)) plan.pieces

-- a receipt that tells the bytes of its object tells them all
abbrev pub TellsWhole : ReceiptState → Type 0
TellsWhole receipt = IfSome receipt.told (λ told. receipt.size ≡ length told)

-- ---- the bytes that it gives

-- bytes with a piece pasted over them, where the first are the bytes of its object
abbrev pub pasted : PieceState → (told bytes : List ℕ) → List ℕ
pasted piece told bytes = with_bytes piece.at (bytes_at piece.from piece.count told) bytes

-- These bytes are others with pieces pasted over them, one after the other. Of the first piece whose receipt tells no bytes, and
-- of those after it, nothing is said.
abbrev pub GivesOver : List PieceState → (under bytes : List ℕ) → Type 0
GivesOver [] under bytes = bytes ≡ under
GivesOver (piece ∷ pieces) under bytes = IfSome piece.receipt.told (λ told. GivesOver pieces (pasted piece told under) bytes)

-- a plan gives these bytes: its own with each of its pieces pasted over them
abbrev pub Gives : PlanState → (bytes : List ℕ) → Type 0
Gives plan bytes = GivesOver plan.pieces plan.bytes bytes

-- it gives these bytes, and no others
abbrev pub GivesNoOther : PlanState → (given : List ℕ) → Type 0
GivesNoOther plan given = (bytes : List ℕ) → Gives plan bytes → bytes ≡ given

-- ---- the gets that it takes

-- where a store tells its gets, at most two were asked of it for a piece: of its object, and none longer than a block of the
-- cache or than the piece
abbrev pub AsksFor : PieceState → Option (List StoreCall) → Option (List StoreCall) → Type 0
AsksFor piece old new = AsksGetsOf piece.receipt (max 65536 piece.count) 2 old new

-- so it was for each of these pieces, one after the other
abbrev pub AreAsked : List PieceState → Option (List StoreCall) → Option (List StoreCall) → Type 0
AreAsked [] old new = new ≡ old
AreAsked (piece ∷ pieces) old new =
    (between : Option (List StoreCall)) × AsksFor piece old between × AreAsked pieces between new

-- those of the first of these pieces were, and no others
abbrev pub AreAskedOfFirst : List PieceState → Option (List StoreCall) → Option (List StoreCall) → Type 0
AreAskedOfFirst pieces old new = (count : ℕ) × AreAsked (take count pieces) old new
