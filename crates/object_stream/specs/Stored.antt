-- Contract: a store that has the objects of a stream.
use Rattle.std.specs.Prelude.{◌≡◌, ℕ, ◌+◌, ◌-◌, true, Option, Some, List, [], ◌∷◌, take, drop}
use Rattle.lsvd_base.specs.declared.entry.Entry.{Entry}
use Rattle.lsvd_objstore.specs.Objects.{Objects, found}
use Rattle.object_format.specs.declared.header.Header.{Header}
use Rattle.object_format.specs.declared.expected.Expected.{Expected}
use Rattle.object_format.specs.declared.rows.Rows.{Rows}
use Rattle.object_format.specs.declared.rows.Rows.TheVariants as rows
use Rattle.object_stream.specs.declared.object.Content.{Content}
use Rattle.object_stream.specs.declared.object.Content.TheVariants.{Data, Copy, Checkpoint}
use Rattle.object_stream.specs.declared.object.StreamObject.{StreamObject}
use Rattle.object_stream.specs.Changes.{change_at, change_in}
use Rattle.object_stream.specs.Stream.{Owners, is_own, source_in, after_object}
use Rattle.object_stream.specs.Replay.{object_name, HasParts, expected_at, source_at}
use Rattle.object_stream.specs.Value.{copied_in, HasSector}

-- what a copy with these sources has of each sector that its source owns still: just the sector that the source has there
abbrev pub CopiesSources : Objects → (ℕ → Option (List ℕ)) → Owners → (ℕ → Option ℕ) → (ℕ → Option (List ℕ)) → Type 0
CopiesSources objects uuid_at before source copied =
    (k number : ℕ) (sector : List ℕ) → source k ≡ Some number → is_own number (before k) ≡ true
    → HasSector objects uuid_at (record { level = 0; number = number }) k sector → copied k ≡ Some sector

-- Rows and a payload are those of an object with this content after these owners, where a data object has these entries: data do
-- to each sector what the entries do; a copy has its sources, and of each that owns its sector still just what that has.
abbrev pub HasContent : Objects → (ℕ → Option (List ℕ)) → Owners → Content → List Entry → Rows → (payload : List ℕ) → Type 0
HasContent objects uuid_at before Data entries (rows.Data list) payload =
    (k : ℕ) → change_in list.items payload k ≡ change_at entries k
HasContent objects uuid_at before (Copy pairs) entries (rows.Copy list) payload =
    ((k : ℕ) → source_at list.items k ≡ source_in pairs k)
    × CopiesSources objects uuid_at before (source_in pairs) (copied_in list.items payload)
HasContent objects uuid_at before Checkpoint entries rows.Checkpoint payload = Unit {0}
HasContent objects uuid_at before content entries rows payload = ⊥

-- an object of the stream, after these owners, is in the store under its name, of the grammar
pub record IsObjectStored (objects : Objects) (uuid_at : ℕ → Option (List ℕ)) (expected : Expected) (before : Owners)
    (object : StreamObject) (entries : List Entry) : Type 0 where
  pub bytes : List ℕ
  pub header : Header
  pub rows_of : Rows
  pub payload : List ℕ
  pub present : found objects (object_name expected expected.number) ≡ Some bytes
  pub parts : HasParts expected bytes header rows_of payload
  pub ends : header.end_seq ≡ object.end
  pub content : HasContent objects uuid_at before object.content entries rows_of payload

-- objects after one of this number, this end and these owners are in the store, where these are the entries from that end on
abbrev pub AreStored : Objects → (ℕ → Option (List ℕ)) → Expected → (number end : ℕ) → List Entry → Owners → List StreamObject
    → Type 0
AreStored objects uuid_at volume number end entries before [] = Unit {0}
AreStored objects uuid_at volume number end entries before (object ∷ more) =
    IsObjectStored objects uuid_at (expected_at volume (number + 1) end) before object (take (object.end - end) entries)
    × AreStored objects uuid_at volume (number + 1) object.end (drop (object.end - end) entries)
    (after_object (number + 1) object.content (take (object.end - end) entries) before) more
