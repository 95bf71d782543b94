-- Contract: the bytes of a plain volume's objects, how far each of them has come, and what a stop leaves of them in a store.
use Rattle.std.specs.Prelude.{◌≡◌, ℕ, ◌+◌, ◌-◌, ◌*◌, ◌<◌, ◌≤◌, ◌⊎◌, true, false, Option, Some, None, if◌then◌else◌, List}
use Rattle.std.specs.Prelude.{take, drop}
use Rattle.std.specs.List.{slice_get, list_any}
use Rattle.lsvd_base.specs.Image.{Image, after}
use Rattle.lsvd_objstore.specs.Objects.{Objects}
use Rattle.extent_map.specs.declared.extent.Extent.{Extent}
use Rattle.extent_map.specs.Extents.{place_at}
use Rattle.object_format.specs.declared.expected.Expected.{Expected}
use Rattle.ckpt_format.specs.declared.place.StoredPlace.{StoredPlace}
use Rattle.ckpt_format.specs.Places.{stored_on}
use Rattle.ckpt_format.specs.Checkpoint.{IsCheckpoint}
use Rattle.object_stream.specs.declared.object.StreamObject.{StreamObject}
use Rattle.object_stream.specs.Stream.{owners, end_at, is_own, entries_in_object}
use Rattle.object_stream.specs.Replay.{expected_at, source_at}
use Rattle.object_stream.specs.Value.{copied_in}
use Rattle.upload_window.specs.Window.{has_number, was_started}
use Rattle.object_uploads.specs.declared.rows.SealedRows.{SealedRows}
use Rattle.object_uploads.specs.declared.rows.SealedRows.TheVariants as sealed_rows
use Rattle.object_uploads.specs.Queue.{copy_front_of}
use Rattle.object_uploads.specs.Stream.{HoldsContent}
use Rattle.stopped_volume.specs.Ancestors.{HasInherited}
use Rattle.stopped_volume.specs.Expected.{expected_alone}
use Rattle.stopped_volume.specs.Opening.{owned_by}
use Rattle.stopped_volume.specs.Super.{HasVolume}
use Rattle.stopped_volume.specs.Store.{PutState, MayHoldPuts}
use Rattle.stopped_volume.specs.Store.PutState.{Acknowledged, GivenOut, Begun, NotBegun}
use Rattle.plain_disk.specs.State.{PlainState, OpensFirst, stream_in}
use Rattle.plain_disk.specs.Removals.{has}
use Rattle.plain_disk.specs.Found.{SealsCheckpoints}
use Rattle.refine_mount.specs.Found.{expected_for, HasHolds}

-- ---- the bytes of an object

-- Bytes are those of the object at which a plain volume opens: a checkpoint of the owners there, each at the place where the
-- ancestor's object has the sector.
pub record IsOpeningObject (volume : Expected) (plain : PlainState) (number : ℕ) (bytes : List ℕ) : Type 0 where
  pub first : number ≡ plain.number
  pub rows : List (Extent StoredPlace)
  pub is_checkpoint : IsCheckpoint bytes (expected_alone volume number) plain.end rows
  pub says : (k : ℕ) → (stream_in plain).opening k ≡ owned_by rows k
  pub places : (k : ℕ) (place : StoredPlace) → place_at stored_on rows k ≡ Some place
      → place.place ≡ (stream_in plain).inherited k

-- the image after the entries of the objects up to a number
abbrev pub image_up_to : PlainState → (number : ℕ) → Image
image_up_to plain number = after plain.opening (take (end_at (stream_in plain) number - plain.end) plain.entries)

-- the payload of the copy of a number, which has these rows, has what the image before it had of each sector that its source
-- owned
abbrev pub HasSourceSectors : PlainState → (number : ℕ) → (bytes : List ℕ) → SealedRows → Type 0
HasSourceSectors plain number bytes (sealed_rows.Data list) = Unit {0}
HasSourceSectors plain number bytes (sealed_rows.Copy list) =
    (k source : ℕ) (sector : List ℕ) → source_at list.items k ≡ Some source
    → is_own source (owners (stream_in plain) (number - 1) k) ≡ true
    → slice_get (image_up_to plain (number - 1)) k ≡ Some sector
    → copied_in list.items (drop (512 * copy_front_of list.items) bytes) k ≡ Some sector
HasSourceSectors plain number bytes sealed_rows.Checkpoint = Unit {0}

-- Or they are those of a later object: of a data object of just its entries, of a copy of its sectors, or of a checkpoint of the
-- owners before it, each place where its object has the sector. It goes on where the object before it ends.
pub record IsLaterObject (volume : Expected) (plain : PlainState) (number : ℕ) (bytes : List ℕ) : Type 0 where
  pub past : plain.number < number
  pub object : StreamObject
  pub there : slice_get plain.objects (number - (plain.number + 1)) ≡ Some object
  pub rows : SealedRows
  pub holds :
      HoldsContent (stream_in plain) (expected_at volume number (end_at (stream_in plain) (number - 1))) object.content
      (entries_in_object (stream_in plain) number) (owners (stream_in plain) (number - 1)) object.end bytes rows
  pub copied : HasSourceSectors plain number bytes rows

-- bytes are those of a plain volume's object of a number
abbrev pub IsObjectOf : (volume : Expected) → PlainState → (number : ℕ) → (bytes : List ℕ) → Type 0
IsObjectOf volume plain number bytes = IsOpeningObject volume plain number bytes ⊎ IsLaterObject volume plain number bytes

-- ---- the puts

-- how far an object has come that was not removed
abbrev pub state_of_put : PlainState → (number : ℕ) → PutState
state_of_put plain number =
    if was_started number plain.window.objects then Begun else
    (if list_any (has_number number) plain.window.objects then NotBegun else
    (if has plain.given_out number then GivenOut else Acknowledged))

-- the object's bytes are known once its put was begun
abbrev pub AreBytesOfPut : PutState → Expected → PlainState → (number : ℕ) → (bytes : List ℕ) → Type 0
AreBytesOfPut Acknowledged volume plain number bytes = IsObjectOf volume plain number bytes
AreBytesOfPut GivenOut volume plain number bytes = IsObjectOf volume plain number bytes
AreBytesOfPut Begun volume plain number bytes = IsObjectOf volume plain number bytes
AreBytesOfPut NotBegun volume plain number bytes = Unit {0}

-- These are the puts of a plain volume's objects, with the bytes of those that were begun. One that was removed has none.
pub record ArePuts (volume : Expected) (plain : PlainState) (puts : ℕ → Option (PutState × List ℕ)) : Type 0 where
  pub known : (number : ℕ) → 0 < number → number ≤ plain.window.last → has plain.removed number ≡ false
      → (bytes : List ℕ) × (puts number ≡ Some (state_of_put plain number, bytes))
      × AreBytesOfPut (state_of_put plain number) volume plain number bytes
  pub removed : (number : ℕ) → has plain.removed number ≡ true → puts number ≡ None
  pub none_first : puts 0 ≡ None
  pub none_else : (number : ℕ) → plain.window.last < number → puts number ≡ None

-- ---- a stop

-- a store has what a plain volume opens with of its ancestors
abbrev pub Inherits : (uuid : List ℕ) → PlainState → Objects → Type 0
Inherits uuid plain objects =
    HasInherited uuid plain.chain (stream_in plain).opening (stream_in plain).inherited plain.opening objects

-- What a stop may leave of the store of a plain volume that is followed from its first object on: its super object and its
-- epochs, of which this is the newest, what it opens with of its ancestors, of each of its objects what its put, and a removal,
-- allow, and the holds that keep those which the volume has as held.
pub record MayBeLeft (uuid : List ℕ) (epoch : ℕ) (plain : PlainState) (puts : ℕ → Option (PutState × List ℕ))
    (objects : Objects) : Type 0 where
  pub described : HasVolume uuid plain.geometry plain.chain epoch objects
  pub opens : OpensFirst plain
  pub inherits : Inherits uuid plain objects
  pub seals : SealsCheckpoints plain
  pub held : MayHoldPuts (expected_for uuid plain) puts objects
  pub holds : HasHolds (expected_for uuid plain) plain.held objects
