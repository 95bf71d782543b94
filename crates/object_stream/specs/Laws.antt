-- Contract: what entries, objects and owners have to do with one another.
use Rattle.std.specs.Prelude.{◌≡◌, ℕ, ◌-◌, ◌^◌, ◌<◌, ◌≤◌, ◌⊎◌, Option, Some, None, List, ◌++◌, length, take, drop}
use Rattle.std.specs.List.{slice_get, All}
use Rattle.lsvd_base.specs.declared.entry.Entry.{Entry}
use Rattle.lsvd_base.specs.Image.{Image, zero_sector, after}
use Rattle.lsvd_base.specs.Laws.{EndsBy}
use Rattle.lsvd_objstore.specs.Objects.{Objects}
use Rattle.object_format.specs.declared.expected.Expected.{Expected}
use Rattle.object_stream.specs.declared.change.Change.{Change}
use Rattle.object_stream.specs.declared.change.Change.TheVariants.{Put, Clear}
use Rattle.object_stream.specs.declared.owner.Owner.{Owner}
use Rattle.object_stream.specs.Changes.{change_at}
use Rattle.std.specs.Option.{option_or}
use Rattle.object_stream.specs.declared.object.StreamObject.{StreamObject}
use Rattle.object_stream.specs.Stream.{Owners, Stream, after_objects, owners, end_after, end_at, last_number, EndsFollow}
use Rattle.object_stream.specs.Stream.{IsStream}
use Rattle.object_stream.specs.Replay.{Replays}
use Rattle.object_stream.specs.Value.{IsValue}
use Rattle.object_stream.specs.Stored.{AreStored}
use Rattle.object_stream.specs.Landed.{Numbers, IsFirstMissing}

-- ---- changes

-- entries change a sector as the later part of them does, or where that does not, as the earlier part
abbrev pub ChangesInParts : Type 0
ChangesInParts = (earlier later : List Entry) (k : ℕ) → change_at (earlier ++ later) k ≡ option_or (change_at later k)
    (change_at earlier k)

-- a sector after a change
abbrev pub changed_by : Option Change → Option (List ℕ) → Option (List ℕ)
changed_by None sector = sector
changed_by (Some (Put sector)) before = Some sector
changed_by (Some Clear) before = Some zero_sector

-- a history makes of each sector what the changes of its entries do to it
abbrev pub ChangesMakeImage : Type 0
ChangesMakeImage =
    (image : Image) (entries : List Entry) (k : ℕ) → All (EndsBy (length image)) entries → k < length image
    → slice_get (after image entries) k ≡ changed_by (change_at entries k) (slice_get image k)

-- ---- owners

-- a stream from a later object of it on
abbrev pub from_object : ℕ → Stream → Stream
from_object number stream = record {
  number = number;
  end = end_at stream number;
  opening = owners stream number;
  inherited = stream.inherited;
  entries = drop (end_at stream number - stream.end) stream.entries;
  objects = drop (number - stream.number) stream.objects;
}

-- a stream from a later object on has the same owners and the same ends
abbrev pub KeepsOwnersFromObject : Type 0
KeepsOwnersFromObject =
    (stream : Stream) (from number : ℕ) → IsStream stream → stream.number ≤ from → from ≤ last_number stream → from ≤ number
    → ((k : ℕ) → owners (from_object from stream) number k ≡ owners stream number k)
    × (end_at (from_object from stream) number ≡ end_at stream number)

-- an owner is one that the stream opens with, or an object of the volume's own after it, up to the number
abbrev pub OwnsByNumber : Type 0
OwnsByNumber =
    (stream : Stream) (number k : ℕ) (owner : Owner) → owners stream number k ≡ Some owner
    → (stream.opening k ≡ Some owner) ⊎ ((owner.level ≡ 0) × (stream.number < owner.number) × (owner.number ≤ number))

-- ---- what has landed

-- there is at most one first missing number
abbrev pub HasOneFirstMissing : Type 0
HasOneFirstMissing =
    (checkpoint landed : Numbers) (missing other : ℕ) → IsFirstMissing checkpoint landed missing
    → IsFirstMissing checkpoint landed other → missing ≡ other

-- ---- what a store has

-- where the store has objects of a stream, their replay by what it has is that of the stream
abbrev pub StoredObjectsReplay : Type 0
StoredObjectsReplay =
    (objects : Objects) (uuid_at : ℕ → Option (List ℕ)) (volume : Expected) (number end last_end : ℕ) (entries : List Entry)
    (before after_them : Owners) (list : List StreamObject)
    → volume.sectors < 2 ^ 64
    → AreStored objects uuid_at volume number end entries before list
    → Replays objects volume number end before (length list) last_end after_them
    → ((k : ℕ) → after_them k ≡ after_objects number end entries before list k) × (last_end ≡ end_after end list)

-- and there is one
abbrev pub StoredObjectsAreReplayed : Type 0
StoredObjectsAreReplayed =
    (objects : Objects) (uuid_at : ℕ → Option (List ℕ)) (volume : Expected) (number end : ℕ) (entries : List Entry)
    (before after_them : Owners) (list : List StreamObject)
    → AreStored objects uuid_at volume number end entries before list
    → ((k : ℕ) → after_them k ≡ after_objects number end entries before list k)
    → Replays objects volume number end before (length list) (end_after end list) after_them

-- one replay of objects gives what any other of them gives, from owners that are the same
abbrev pub ReplaysAsOne : Type 0
ReplaysAsOne =
    (objects : Objects) (volume : Expected) (number end : ℕ) (before earlier : Owners) (count last_end : ℕ) (after_them : Owners)
    (other_end : ℕ) (others : Owners)
    → volume.sectors < 2 ^ 64 → ((k : ℕ) → before k ≡ earlier k)
    → Replays objects volume number end before count last_end after_them
    → Replays objects volume number end earlier count other_end others
    → (last_end ≡ other_end) × ((k : ℕ) → after_them k ≡ others k)

-- images of one length that are the value of the same owners are one
abbrev pub HasOneValue : Type 0
HasOneValue =
    (objects : Objects) (uuid_at : ℕ → Option (List ℕ)) (owners others : Owners) (image other : Image)
    → ((k : ℕ) → owners k ≡ others k) → length image ≡ length other
    → IsValue objects uuid_at owners image → IsValue objects uuid_at others other → image ≡ other

-- Where the value of the owners before some objects is an image, that of the owners after them is the image after the entries
-- that they have: the objects up to any of them hold just the writes up to its end.
abbrev pub ValueIsImageAfter : Type 0
ValueIsImageAfter =
    (objects : Objects) (uuid_at : ℕ → Option (List ℕ)) (volume : Expected) (number end : ℕ) (entries : List Entry)
    (before : Owners) (image : Image) (list : List StreamObject)
    → uuid_at 0 ≡ Some volume.uuid → volume.sectors < 2 ^ 64 → All (EndsBy (length image)) entries → EndsFollow end list
    → AreStored objects uuid_at volume number end entries before list
    → IsValue objects uuid_at before image
    → IsValue objects uuid_at (after_objects number end entries before list)
    (after image (take (end_after end list - end) entries))
