-- Contract: what the sectors of a volume are, by their owners and the objects of a store.
use Rattle.std.specs.Prelude.{◌≡◌, ℕ, ◌+◌, ◌-◌, ◌^◌, ◌<◌, Option, Some, None, List, [], ◌∷◌, if◌then◌else◌}
use Rattle.std.specs.List.{slice_get}
use Rattle.lsvd_base.specs.Image.{Image, zero_sector}
use Rattle.lsvd_objstore.specs.Objects.{Objects, found}
use Rattle.extent_map.specs.Extents.{is_within}
use Rattle.object_format.specs.declared.header.Header.{Header}
use Rattle.object_format.specs.declared.expected.Expected.{Expected}
use Rattle.object_format.specs.declared.copy_row.CopyRow.{CopyRow}
use Rattle.object_format.specs.declared.rows.Rows.{Rows}
use Rattle.object_format.specs.declared.rows.Rows.TheVariants.{Data, Copy, Checkpoint}
use Rattle.object_stream.specs.declared.change.Change.{Change}
use Rattle.object_stream.specs.declared.change.Change.TheVariants.{Put, Clear}
use Rattle.object_stream.specs.declared.owner.Owner.{Owner}
use Rattle.object_stream.specs.Changes.{sector_of, change_in}
use Rattle.object_stream.specs.Stream.{Owners}
use Rattle.object_stream.specs.Replay.{object_name, HasParts}

-- ---- what an object has at a sector

-- the sector that a change puts, if it puts one
abbrev pub sector_put : Option Change → Option (List ℕ)
sector_put None = None
sector_put (Some (Put sector)) = Some sector
sector_put (Some Clear) = None

-- the sector that the rows of a copy have in this payload
abbrev pub copied_in : List CopyRow → (payload : List ℕ) → ℕ → Option (List ℕ)
copied_in [] payload k = None
copied_in (row ∷ rows) payload k =
    if is_within row.lba row.sectors k then Some (sector_of (row.place + (k - row.lba)) payload) else copied_in rows payload k

-- the sector that rows have in this payload: none where they do not have it, and in no checkpoint
abbrev pub sector_in : Rows → (payload : List ℕ) → ℕ → Option (List ℕ)
sector_in (Data rows) payload k = sector_put (change_in rows.items payload k)
sector_in (Copy rows) payload k = copied_in rows.items payload k
sector_in Checkpoint payload k = None

-- The object that an owner names is in the store, of the grammar, and has this sector. A level's uuid is that of the volume
-- itself, and then those of its ancestors.
pub record HasSector (objects : Objects) (uuid_at : ℕ → Option (List ℕ)) (owner : Owner) (k : ℕ) (sector : List ℕ) : Type 0 where
  pub expected : Expected
  pub wide : expected.sectors < 2 ^ 64
  pub level : uuid_at owner.level ≡ Some expected.uuid
  pub number : owner.number ≡ expected.number
  pub bytes : List ℕ
  pub present : found objects (object_name expected owner.number) ≡ Some bytes
  pub header : Header
  pub rows : Rows
  pub payload : List ℕ
  pub parts : HasParts expected bytes header rows payload
  pub has : sector_in rows payload k ≡ Some sector

-- ---- the value of owners

-- the sector that an owner, or none, stands for
abbrev pub StandsForSector : Objects → (ℕ → Option (List ℕ)) → Option Owner → ℕ → List ℕ → Type 0
StandsForSector objects uuid_at None k sector = sector ≡ zero_sector
StandsForSector objects uuid_at (Some owner) k sector = HasSector objects uuid_at owner k sector

-- the value of owners is this image: each sector is what the object has that owns it, and zeros where none does
abbrev pub IsValue : Objects → (ℕ → Option (List ℕ)) → Owners → Image → Type 0
IsValue objects uuid_at owners image =
    (k : ℕ) (sector : List ℕ) → slice_get image k ≡ Some sector → StandsForSector objects uuid_at (owners k) k sector
