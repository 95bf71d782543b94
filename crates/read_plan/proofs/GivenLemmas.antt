-- What a plan gives for a sector: what the one piece that has it fetches, or what stood there before.
use Rattle.std.proofs.Common.{◌≡◌, ℕ, ◌+◌, ◌-◌, ◌*◌, ◌≤◌, inl, inr, Option, Some, None, List, [], ◌∷◌, length, take, drop, refl}
use Rattle.std.proofs.Common.{sym, ◌∙◌, ap, subst}
use Rattle.std.proofs.Common.{arith}
use Rattle.std.specs.Prelude.{IfSome}
use Rattle.std.specs.List.{AllByRecursion}
use Rattle.std.proofs.lemmas.List.{length-take-le, length-drop}
use Rattle.lsvd_bytes.specs.Places.{bytes_at}
use Rattle.lsvd_bytes.proofs.PlaceLemmas.{keeps_length, keeps_other_bytes}
use Rattle.lsvd_objstore.specs.Store.{ReceiptState}
use Rattle.object_stream.specs.Changes.{sector_of}
use Rattle.volume_maps.specs.declared.place.ObjectPlace.{ObjectPlace}
use Rattle.volume_maps.specs.declared.place.VolumePlace.TheVariants.{Log, Object}
use Rattle.object_uploads.specs.State.{StoredObject, QueueState}
use Rattle.object_uploads.specs.Queue.{stored_at}
use Rattle.read_plan.specs.Plan.{PieceState, PieceFits, pasted, GivesOver}
use Rattle.read_plan.specs.Places.{IsLogged, Misses, Fetches, OneFetches}
use Rattle.read_plan.specs.Laws.{TellsAll, GivesSectors}
use Rattle.read_plan.proofs.PartLemmas.{part_of_part, part_written}

-- a piece of some bytes of its object, which lies inside a read of so many bytes
record IsPiece (size : ℕ) (told : List ℕ) (piece : PieceState) : Type 0 where
  pub read : piece.at + piece.count ≤ size
  pub object : piece.from + piece.count ≤ length told

is_piece : (size : ℕ) (piece : PieceState) (told : TellsAll piece.receipt) → PieceFits size piece → IsPiece size told.bytes piece
is_piece size piece told inside =
    record { read = inside.read; object = (let all = told.size in let object = inside.object in omega (arith, all, object)) }

part_size : (size : ℕ) (told : List ℕ) (piece : PieceState) → IsPiece size told piece
    → length (bytes_at piece.from piece.count told) ≡ piece.count
part_size size told piece is =
    (let object = is.object in length-take-le piece.count (drop piece.from told)
    (omega (arith, object, length-drop piece.from told)))

pasted_size : (size : ℕ) (told bytes : List ℕ) (piece : PieceState) → IsPiece size told piece → length bytes ≡ size
    → length (pasted piece told bytes) ≡ size
pasted_size size told bytes piece is whole =
    let part = part_size size told piece is in
    let read = is.read in
    keeps_length piece.at (bytes_at piece.from piece.count told) bytes (omega (arith, part, read, whole)) ∙ whole

-- a piece that misses a sector leaves it as it was
missed : (size i : ℕ) (told bytes : List ℕ) (piece : PieceState) → IsPiece size told piece → length bytes ≡ size → Misses i piece
    → sector_of i (pasted piece told bytes) ≡ sector_of i bytes
missed size i told bytes piece is whole misses =
    let part = part_size size told piece is in
    let read = is.read in
    keeps_other_bytes piece.at (bytes_at piece.from piece.count told) bytes (512 * i) 512 (omega (arith, part, read, whole))
    (elim misses [ inl before ↦ inr (omega (arith, part, before)) | inr past ↦ inl (omega (arith, past)) ])

-- one that fetches it has it there
fetched : (size i : ℕ) (queue : QueueState) (place : ObjectPlace) (told bytes : List ℕ) (piece : PieceState)
    → IsPiece size told piece
    → length bytes ≡ size → (fetches : Fetches queue place i piece)
    → sector_of i (pasted piece told bytes) ≡ sector_of (fetches.object.front + place.sector) told
fetched size i queue place told bytes piece is whole fetches =
    let part = part_size size told piece is in
    let read = is.read in
    let from = fetches.from in
    let to = fetches.to in
    let further = 512 * i - piece.at in
    let there : piece.at + further ≡ 512 * i = omega (arith, from) in
    ap (λ n. take 512 (drop n (pasted piece told bytes))) (sym there)
    ∙ part_written piece.at further 512 (bytes_at piece.from piece.count told) bytes (omega (arith, part, from, to))
    (omega (arith, part, read, whole))
    ∙ part_of_part piece.from piece.count 512 further told (omega (arith, from, to))
    ∙ ap (λ n. take 512 (drop n told)) fetches.byte

-- ---- all pieces

-- the bytes that a piece is pasted with are known
next : (pieces : List PieceState) (piece : PieceState) (under bytes : List ℕ) (told : TellsAll piece.receipt)
    → GivesOver (piece ∷ pieces) under bytes
    → GivesOver pieces (pasted piece told.bytes under) bytes
next pieces piece under bytes told gives = subst (λ given. IfSome given (λ all. GivesOver pieces (pasted piece all under) bytes))
    told.told gives

all_missed : (size i : ℕ) (pieces : List PieceState) (under bytes : List ℕ) → AllByRecursion (PieceFits size) pieces
    → AllByRecursion (λ piece. TellsAll piece.receipt) pieces → length under ≡ size → AllByRecursion (Misses i) pieces
    → GivesOver pieces under bytes
    → sector_of i bytes ≡ sector_of i under
all_missed size i [] under bytes inside told whole misses gives = ap (sector_of i) gives
all_missed size i (piece ∷ pieces) under bytes inside told whole misses gives =
    let is = is_piece size piece told.0 inside.0 in
    all_missed size i pieces (pasted piece told.0.bytes under) bytes inside.1 told.1
    (pasted_size size told.0.bytes under piece is whole) misses.1
    (next pieces piece under bytes told.0 gives)
    ∙ missed size i told.0.bytes under piece is whole misses.0

-- what a plan gives is as long as its read
pub gives_size : (size : ℕ) (pieces : List PieceState) (under bytes : List ℕ) → AllByRecursion (PieceFits size) pieces
    → AllByRecursion (λ piece. TellsAll piece.receipt) pieces → length under ≡ size → GivesOver pieces under bytes
    → length bytes ≡ size
gives_size size [] under bytes inside told whole gives = ap length gives ∙ whole
gives_size size (piece ∷ pieces) under bytes inside told whole gives =
    let after = pasted_size size told.0.bytes under piece (is_piece size piece told.0 inside.0) whole in
    gives_size size pieces (pasted piece told.0.bytes under) bytes inside.1 told.1 after
    (next pieces piece under bytes told.0 gives)

same_object : (a b : StoredObject) → ◌≡◌ {A = Option StoredObject} (Some a) (Some b) → a ≡ b
same_object a b is = cc

-- what the object's receipt tells
tells_sector : (receipt : ReceiptState) (sector : List ℕ) (at : ℕ) (told : TellsAll receipt) → sector ≡ sector_of at told.bytes
    → IfSome receipt.told (λ bytes. sector ≡ sector_of at bytes)
tells_sector receipt sector at told is = subst (λ given. IfSome given (λ bytes. sector ≡ sector_of at bytes)) (sym told.told) is

one_fetched : (size i : ℕ) (queue : QueueState) (place : ObjectPlace) (pieces : List PieceState) (under bytes : List ℕ)
    → AllByRecursion (PieceFits size) pieces → AllByRecursion (λ piece. TellsAll piece.receipt) pieces → length under ≡ size
    → OneFetches queue place i pieces → GivesOver pieces under bytes → (object : StoredObject)
    → stored_at queue place ≡ Some object
    → IfSome object.receipt.told (λ told. sector_of i bytes ≡ sector_of (object.front + place.sector) told)
one_fetched size i queue place [] under bytes inside told whole one gives object given = absurd one
one_fetched size i queue place (piece ∷ pieces) under bytes inside told whole one gives object given =
    let is = is_piece size piece told.0 inside.0 in
    let after = pasted_size size told.0.bytes under piece is whole in
    let more = next pieces piece under bytes told.0 gives in
    elim one [
      | inl this ↦
          let fetches = this.0 in
          let at = fetches.object.front + place.sector in
          let there : sector_of i bytes ≡ sector_of at told.0.bytes =
          all_missed size i pieces (pasted piece told.0.bytes under) bytes inside.1 told.1 after this.1 more
          ∙ fetched size i queue place told.0.bytes under piece is whole fetches in
          let by_piece : IfSome fetches.object.receipt.told (λ all. sector_of i bytes ≡ sector_of at all) =
          subst (λ (r : ReceiptState). IfSome r.told (λ all. sector_of i bytes ≡ sector_of at all)) fetches.receipt
          (tells_sector piece.receipt (sector_of i bytes) at told.0 there) in
          subst (λ (o : StoredObject). IfSome o.receipt.told (λ all. sector_of i bytes ≡ sector_of (o.front + place.sector) all))
          (same_object fetches.object object (sym fetches.stored ∙ given)) by_piece
      | inr later ↦ one_fetched size i queue place pieces (pasted piece told.0.bytes under) bytes inside.1 told.1 after later.1
          more object given
    ]

pub gives_sectors : GivesSectors
gives_sectors log queue None i plan bytes inside told holds gives =
    all_missed (length plan.bytes) i plan.pieces plan.bytes bytes inside told refl holds.fetched gives ∙ holds.logged
gives_sectors log queue (Some (Log place)) i plan bytes inside told holds gives =
    subst (IsLogged log (Some (Log place)))
    (sym (all_missed (length plan.bytes) i plan.pieces plan.bytes bytes inside told refl holds.fetched gives)) holds.logged
gives_sectors log queue (Some (Object place)) i plan bytes inside told holds gives =
    one_fetched (length plan.bytes) i queue place plan.pieces plan.bytes bytes inside told refl holds.fetched gives
