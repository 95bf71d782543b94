-- Contract: what the removal of objects past the first missing number leaves of a store.
use Rattle.std.specs.Prelude.{◌≡◌, ℕ, ◌<◌, ◌⊎◌, None, List, length, slice_index_or}
use Rattle.std.specs.List.{Contains}
use Rattle.lsvd_names.specs.declared.name.ObjName.{ObjName}
use Rattle.lsvd_names.specs.declared.name.NameKind.TheVariants.{Object}
use Rattle.lsvd_objstore.specs.Objects.{Objects, found}

-- of the objects with such names some were removed, or none, and every other one is as it was
pub record Removes (Which : ObjName → Type 0) (old new : Objects) : Type 0 where
  pub others : (name : ObjName) → (Which name → ⊥) → found new name ≡ found old name
  pub removed : (name : ObjName) → (found new name ≡ found old name) ⊎ (found new name ≡ None)

-- a name is that of an object past a number
abbrev pub IsPast : (number : ℕ) → ObjName → Type 0
IsPast number name = (name.kind ≡ Object) × (number < name.number)

-- and one of these
abbrev pub IsListedPast : List ObjName → (number : ℕ) → ObjName → Type 0
IsListedPast names number name = Contains names name × IsPast number name

-- those that are past a number were removed, of the first so many of these names
pub record RemovesFirst (names : List ObjName) (number count : ℕ) (old new : Objects) : Type 0 where
  pub removes : Removes (IsListedPast names number) old new
  pub gone : (k : ℕ) (name : ObjName) → k < count → k < length names → slice_index_or names k name ≡ name → IsPast number name
      → found new name ≡ None
