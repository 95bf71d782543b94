-- Contract: what is read of an object that may be of any length.
use Rattle.std.specs.Prelude.{◌≡◌, ℕ, length, take, Option, Some, None, List}
use Rattle.lsvd_names.specs.declared.name.ObjName.{ObjName}
use Rattle.lsvd_objstore.specs.Objects.{Objects, found}
use Rattle.super_recovery.specs.declared.reading.Front.{Front}

-- the first of these bytes, `most` where there are more, and how many there are
pub record IsFrontOf (most : ℕ) (front : Front) (bytes : List ℕ) : Type 0 where
  pub len : front.len ≡ length bytes
  pub begins : front.bytes.items ≡ take most bytes

-- what was read of the object with a name; nothing where no object has it
abbrev pub IsFrontReadOf : Option Objects → ObjName → ℕ → Option Front → Type 0
IsFrontReadOf None name most read = Unit {0}
IsFrontReadOf (Some objects) name most None = found objects name ≡ None
IsFrontReadOf (Some objects) name most (Some front) = (bytes : List ℕ) × (found objects name ≡ Some bytes)
    × IsFrontOf most front bytes
