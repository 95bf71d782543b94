-- Contract: what a store holds: a finite map from the names of objects to their bytes.
use Rattle.std.specs.Prelude.{◌≡◌, ℕ, ◌⊎◌, List, Option, Some, None, IsSome}
use Rattle.std.specs.List.{Contains}
use Rattle.std.specs.List.Sorted.{IsStrictlySortedBy}
use Rattle.std.specs.BTreeMap.{is_at}
use Rattle.std.specs.Map.{lookup}
use Rattle.lsvd_names.specs.Spelling.{IsName}
use Rattle.lsvd_names.specs.declared.name.ObjName.{ObjName}
use Rattle.lsvd_names.specs.contracts.name.ObjNameOrd.TheImpl.{ghosts}
use Rattle.std.specs.declared.cmp.Ordering.{Ordering}

-- the order of names: by the uuid, then by the kind, then by the number
abbrev pub name_cmp : ObjName → ObjName → Ordering
name_cmp = ghosts.cmp

-- the objects, each with its name
abbrev pub Objects : Type 0
Objects = List (ObjName × List ℕ)

-- the bytes of the object with this name
abbrev pub found : Objects → ObjName → Option (List ℕ)
found objects name = lookup (is_at (name_cmp name)) objects

-- under every other name stands what stood there
abbrev pub KeepsOthers : ObjName → Objects → Objects → Type 0
KeepsOthers name old new = (other : ObjName) → (other ≡ name → ⊥) → found new other ≡ found old other

-- the object with this name has these bytes now, and nothing else changed
pub record IsPut (name : ObjName) (bytes : List ℕ) (old new : Objects) : Type 0 where
  pub put : found new name ≡ Some bytes
  pub others : KeepsOthers name old new

-- what a put leaves that was not acknowledged: what was there, or the whole object
abbrev pub MayBePut : ObjName → List ℕ → Objects → Objects → Type 0
MayBePut name bytes old new = (new ≡ old) ⊎ IsPut name bytes old new

-- no object has this name now, and nothing else changed
pub record IsRemoved (name : ObjName) (old new : Objects) : Type 0 where
  pub absent : found new name ≡ None
  pub others : KeepsOthers name old new

-- what a removal leaves that was not acknowledged: what was there, or no object
abbrev pub MayBeRemoved : ObjName → Objects → Objects → Type 0
MayBeRemoved name old new = (new ≡ old) ⊎ IsRemoved name old new

-- Names of one volume: each once, in ascending order of kind and number.
pub record AreNamesOf (uuid : List ℕ) (names : List ObjName) : Type 0 where
  pub ascending : IsStrictlySortedBy name_cmp names
  pub each : (name : ObjName) → Contains names name → IsName name × (name.uuid ≡ uuid)

-- The names of a volume's objects: each once, in ascending order of kind and number.
pub record Lists (uuid : List ℕ) (objects : Objects) (names : List ObjName) : Type 0 where
  pub ascending : IsStrictlySortedBy name_cmp names
  pub present : (name : ObjName) → Contains names name → IsName name × (name.uuid ≡ uuid) × IsSome (found objects name)
  pub complete : (name : ObjName) → IsName name → name.uuid ≡ uuid → IsSome (found objects name) → Contains names name
