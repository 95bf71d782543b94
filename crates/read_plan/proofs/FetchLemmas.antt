-- A fetch gives the bytes of its plan, and no others, where each piece's receipt tells its object's.
use Rattle.std.proofs.Common.{◌≡◌, ℕ, zero, suc, ◌<◌, ◌≤◌, Option, Some, None, List, [], ◌∷◌, length, take, drop, get_or}
use Rattle.std.proofs.Common.{refl, sym, ◌∙◌, subst, arith}
use Rattle.std.specs.Prelude.{IfSome, IsSome, Result, Ok, Err, OnErr}
use Rattle.std.specs.List.{AllByRecursion}
use Rattle.std.proofs.lemmas.List.{take_all, drop_all}
use Rattle.lsvd_objstore.specs.Store.{StoreCall}
use Rattle.read_plan.specs.Plan.{PieceState, pasted, GivesOver, AsksFor, AreAsked}

-- the receipt of a piece tells its object's bytes
abbrev pub IsToldPiece : PieceState → Type 0
IsToldPiece piece = IsSome piece.receipt.told

-- one piece more is told
pub told_next : (pieces : List PieceState) (index : ℕ) (piece : PieceState) → index < length pieces
    → piece ≡ get_or pieces index piece → IsToldPiece piece
    → AllByRecursion IsToldPiece (take index pieces) → AllByRecursion IsToldPiece (take (suc index) pieces)
told_next [] index piece inside is told all = absurd (omega (arith, inside))
told_next (first ∷ pieces) zero piece inside is told all = (subst IsToldPiece is told, tt)
told_next (first ∷ pieces) (suc index) piece inside is told all =
    (all.0, told_next pieces index piece (omega (arith, inside)) is told all.1)

-- pieces whose receipts tell give one list of bytes alone
alone_by : (piece : PieceState) (pieces : List PieceState) (under a b : List ℕ) (told : Option (List ℕ)) → IsSome told
    → ((over : List ℕ) → GivesOver pieces over a → GivesOver pieces over b → a ≡ b)
    → IfSome told (λ all. GivesOver pieces (pasted piece all under) a)
    → IfSome told (λ all. GivesOver pieces (pasted piece all under) b) → a ≡ b
alone_by piece pieces under a b None is alone first second = absurd (let e = is in cc)
alone_by piece pieces under a b (Some all) is alone first second = alone (pasted piece all under) first second

alone : (pieces : List PieceState) (under a b : List ℕ) → AllByRecursion IsToldPiece pieces → GivesOver pieces under a
    → GivesOver pieces under b → a ≡ b
alone [] under a b all first second = first ∙ sym second
alone (piece ∷ pieces) under a b all first second =
    alone_by piece pieces under a b piece.receipt.told all.0 (λ over x y. alone pieces over a b all.1 x y) first second

-- what was made of all pieces is what they give
pub no_other : (pieces : List PieceState) (index : ℕ) (under now bytes : List ℕ) → length pieces ≤ index
    → AllByRecursion IsToldPiece (take index pieces)
    → ((given : List ℕ) → GivesOver (drop index pieces) now given → GivesOver pieces under given)
    → GivesOver pieces under bytes → bytes ≡ now
no_other pieces index under now bytes past all gives given =
    let whole : AllByRecursion IsToldPiece pieces = subst (AllByRecursion IsToldPiece) (take_all index pieces past) all in
    let made : GivesOver pieces under now =
    gives now (subst (λ l. GivesOver l now now) (sym (drop_all index pieces past)) refl) in
    alone pieces under bytes now whole given made

-- ---- what is asked

-- the gets of the next piece are asked after those of the pieces before it
pub asked_next : (pieces : List PieceState) (index : ℕ) (piece : PieceState) (old now new : Option (List StoreCall))
    → index < length pieces → piece ≡ get_or pieces index piece → AreAsked (take index pieces) old now
    → AsksFor piece now new → AreAsked (take (suc index) pieces) old new
asked_next [] index piece old now new inside is asked once = absurd (omega (arith, inside))
asked_next (first ∷ pieces) zero piece old now new inside is same once =
    let by_first : AsksFor first now new = subst (λ (p : PieceState). AsksFor p now new) is once in
    (new, subst (λ (o : Option (List StoreCall)). AsksFor first o new) same by_first, refl)
asked_next (first ∷ pieces) (suc index) piece old now new inside is (between, one, asked) once =
    (between, one, asked_next pieces index piece between now new (omega (arith, inside)) is asked once)

-- what holds, holds where a call failed
pub on_err : {T E : Type 0} (result : Result T E) (P : Type 0) → P → OnErr result P
on_err (Ok value) P holds = tt
on_err (Err error) P holds = holds

-- ---- one piece more

over_told : (piece : PieceState) (pieces : List PieceState) (under now bytes : List ℕ) (told : Option (List ℕ))
    → IfSome told (λ all. now ≡ pasted piece all under) → GivesOver pieces now bytes
    → IfSome told (λ all. GivesOver pieces (pasted piece all under) bytes)
over_told piece pieces under now bytes None is given = tt
over_told piece pieces under now bytes (Some all) is given = subst (λ over. GivesOver pieces over bytes) is given

-- what the pieces after one give over it, the pieces from it on give
pub gives_next : (pieces : List PieceState) (index : ℕ) (piece : PieceState) (under now bytes : List ℕ) → index < length pieces
    → piece ≡ get_or pieces index piece → IfSome piece.receipt.told (λ all. now ≡ pasted piece all under)
    → GivesOver (drop (suc index) pieces) now bytes → GivesOver (drop index pieces) under bytes
gives_next [] index piece under now bytes inside is made given = absurd (omega (arith, inside))
gives_next (first ∷ pieces) zero piece under now bytes inside is made given =
    let first_made : IfSome first.receipt.told (λ all. now ≡ pasted first all under) =
    subst (λ (p : PieceState). IfSome p.receipt.told (λ all. now ≡ pasted p all under)) is made in
    over_told first pieces under now bytes first.receipt.told first_made given
gives_next (first ∷ pieces) (suc index) piece under now bytes inside is made given =
    gives_next pieces index piece under now bytes (omega (arith, inside)) is made given
