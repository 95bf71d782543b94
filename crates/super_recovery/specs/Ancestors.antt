-- Contract: of which ancestor of a volume a store lacks something.
use Rattle.std.specs.Prelude.{◌≡◌, ℕ, Some, List, take}
use Rattle.std.specs.List.{slice_get}
use Rattle.clone_chain.specs.declared.ancestor.Ancestor.{Ancestor}
use Rattle.lsvd_objstore.specs.Objects.{Objects}
use Rattle.stopped_volume.specs.Ancestors.{HasAncestor, HasAncestors}

-- the ancestor with this uuid is the nearest of which the store lacks the super object or the checkpoint
pub record IsNearestMissing (chain : List Ancestor) (objects : Objects) (uuid : List ℕ) : Type 0 where
  pub place : ℕ
  pub ancestor : Ancestor
  pub is_at : slice_get chain place ≡ Some ancestor
  pub has_uuid : ancestor.uuid ≡ uuid
  pub lacks : HasAncestor objects ancestor → ⊥
  pub nearer : HasAncestors objects (take place chain)
