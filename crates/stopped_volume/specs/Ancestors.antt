-- Contract: which uuids the levels of a clone have, which of its ancestors a store has, and what the clone opens with of them.
use Rattle.std.specs.Prelude.{◌≡◌, ℕ, zero, suc, ◌≤◌, Option, Some, option_map, List}
use Rattle.std.specs.List.{All}
use Rattle.std.specs.Option.{IsSome}
use Rattle.clone_chain.specs.declared.ancestor.Ancestor.{Ancestor}
use Rattle.clone_chain.specs.Chain.{ancestor_at, IsNoAncestor}
use Rattle.lsvd_base.specs.Image.{Image}
use Rattle.lsvd_names.specs.declared.name.ObjName.{ObjName}
use Rattle.lsvd_names.specs.Names.{super_name, numbered_name}
use Rattle.lsvd_objstore.specs.Objects.{Objects, found}
use Rattle.ckpt_format.specs.declared.place.StoredPlace.{StoredPlace}
use Rattle.object_stream.specs.declared.owner.Owner.{Owner}
use Rattle.object_stream.specs.Stream.{Owners}
use Rattle.object_stream.specs.Value.{IsValue}
use Rattle.stopped_volume.specs.Opening.{HasSectorAt}

-- the uuids of a volume's levels: level 0 is the volume itself, and each further one the ancestor that its chain has there
abbrev pub uuid_in_chain : (uuid : List ℕ) → (chain : List Ancestor) → (level : ℕ) → Option (List ℕ)
uuid_in_chain uuid chain zero = Some uuid
uuid_in_chain uuid chain (suc place) = option_map (λ ancestor. ancestor.uuid) (ancestor_at chain (suc place))

-- the store has the super object of an ancestor, and the object of the checkpoint that was cloned, whatever their bytes are
pub record HasAncestor (objects : Objects) (ancestor : Ancestor) : Type 0 where
  pub super_there : IsSome (found objects (super_name ancestor.uuid))
  pub checkpoint_there : IsSome (found objects (numbered_name ancestor.uuid ancestor.checkpoint))

-- and so of each ancestor of a chain
abbrev pub HasAncestors : Objects → (chain : List Ancestor) → Type 0
HasAncestors objects chain = All (HasAncestor objects) chain

-- all names but those of a volume are as they were
abbrev pub KeepsOtherVolumes : (uuid : List ℕ) → (old new : Objects) → Type 0
KeepsOtherVolumes uuid old new = (name : ObjName) → (name.uuid ≡ uuid → ⊥) → found new name ≡ found old name

-- where a sector of an owner is, whose object has it at this sector of its payload
abbrev pub place_of : Owner → (sector : ℕ) → StoredPlace
place_of owner sector = record { level = owner.level; number = owner.number; place = sector }

-- A store has what a volume opens with, by the owners of its sectors and by where these have them: each is in an object of an
-- ancestor, the image is their value, and the ancestors are there. None of them is the volume itself.
pub record HasInherited (uuid : List ℕ) (chain : List Ancestor) (owned : Owners) (inherited : ℕ → ℕ) (opening : Image)
    (objects : Objects) : Type 0 where
  pub apart : IsNoAncestor chain uuid
  pub ancestors : HasAncestors objects chain
  pub value : IsValue objects (uuid_in_chain uuid chain) owned opening
  pub places : (k : ℕ) (owner : Owner) → owned k ≡ Some owner
      → (1 ≤ owner.level) × HasSectorAt objects (uuid_in_chain uuid chain) (place_of owner (inherited k)) k
