-- Contract: what is seen of what a recovery found.
use Rattle.std.specs.Prelude.{◌≡◌, ℕ, ◌≤◌, ◌⊎◌, List, Option, IfSome}
use Rattle.std.specs.List.{Contains}
use Rattle.lsvd_names.specs.declared.name.ObjName.{ObjName}
use Rattle.lsvd_names.specs.declared.name.NameKind.TheVariants.{Object}
use Rattle.lsvd_objstore.specs.Objects.{Objects, AreNamesOf, Lists}
use Rattle.obj_log.specs.State.{ObjLogState}

-- what a recovery found of a volume
pub record RecoveredState : Type 0 where
  -- the list, up to the object before the first missing number
  pub log : ObjLogState
  -- the number of the checkpoint that the list begins with
  pub checkpoint : ℕ
  -- the names of the volume's objects
  pub names : List ObjName

-- the names are those of all objects that a store has of the volume, where it tells what it holds
pub record HasAllNames (objects : Option Objects) (recovered : RecoveredState) : Type 0 where
  pub of_volume : AreNamesOf recovered.log.uploads.uuid recovered.names
  pub listed : IfSome objects (λ objects. Lists recovered.log.uploads.uuid objects recovered.names)

-- the greatest number of an object with one of these names; or this one, where none is greater
pub record IsGreatestNumber (names : List ObjName) (least greatest : ℕ) : Type 0 where
  pub no_less : least ≤ greatest
  pub is : (greatest ≡ least) ⊎ ((name : ObjName) × Contains names name × (name.kind ≡ Object) × (name.number ≡ greatest))
  pub none_greater : (name : ObjName) → Contains names name → name.kind ≡ Object → name.number ≤ greatest
