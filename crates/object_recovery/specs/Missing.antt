-- Contract: when an object is missing that a checkpoint maps, be it the volume's own or an ancestor's.
use Rattle.std.specs.Prelude.{◌≡◌, ℕ, ◌<◌, ◌≤◌, ◌⊎◌, Option, Some, None, List}
use Rattle.std.specs.Option.{IsSome}
use Rattle.lsvd_names.specs.Names.{numbered_name}
use Rattle.lsvd_objstore.specs.Objects.{Objects, found}
use Rattle.extent_map.specs.declared.extent.Extent.{Extent}
use Rattle.extent_map.specs.Extents.{place_at}
use Rattle.ckpt_format.specs.declared.place.StoredPlace.{StoredPlace}
use Rattle.ckpt_format.specs.Places.{stored_on}
use Rattle.stopped_volume.specs.Opening.{HasSectorAt}

-- the store has an object of the place's level and number, whatever its bytes are
abbrev pub IsThere : Objects → (uuid_at : ℕ → Option (List ℕ)) → StoredPlace → Type 0
IsThere objects uuid_at place =
    (uuid : List ℕ) × (uuid_at place.level ≡ Some uuid) × IsSome (found objects (numbered_name uuid place.number))

-- A row of a checkpoint names the object of this number, and this does not have that sector there: it is absent, is no data
-- object or copy of the grammar, or its payload has no such place. An ancestor's object is one only if it is there: that it is
-- absent is told of the ancestor.
pub record IsMissing (uuid_at : ℕ → Option (List ℕ)) (objects : Objects) (rows : List (Extent StoredPlace)) (number : ℕ) :
    Type 0 where
  pub k : ℕ
  pub place : StoredPlace
  pub row : place_at stored_on rows k ≡ Some place
  pub named : place.number ≡ number
  pub inherited : 1 ≤ place.level → IsThere objects uuid_at place
  pub not_there : HasSectorAt objects uuid_at place k → ⊥

-- one place's object comes before another's: by level, and then by number
abbrev pub ComesBefore : StoredPlace → StoredPlace → Type 0
ComesBefore place other = (place.level < other.level) ⊎ ((place.level ≡ other.level) × (place.number < other.number))

-- Rows name an object of the ancestor with this uuid that is absent. It is the first such, by level and then by number.
pub record IsBaseMissing (uuid_at : ℕ → Option (List ℕ)) (objects : Objects) (rows : List (Extent StoredPlace))
    (uuid : List ℕ) : Type 0 where
  pub k : ℕ
  pub place : StoredPlace
  pub row : place_at stored_on rows k ≡ Some place
  pub inherited : 1 ≤ place.level
  pub of : uuid_at place.level ≡ Some uuid
  pub absent : found objects (numbered_name uuid place.number) ≡ None
  pub nearer : (i : ℕ) (other : StoredPlace) → place_at stored_on rows i ≡ Some other → 1 ≤ other.level
      → ComesBefore other place → IsThere objects uuid_at other
