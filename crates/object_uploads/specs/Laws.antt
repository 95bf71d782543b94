-- Contract: what a recovery of the store finds of the objects of a volume.
use Rattle.std.specs.Prelude.{◌≡◌, ℕ, ◌+◌, ◌-◌, ◌<◌, ◌≤◌, ◌⊎◌, ◌&&◌, not, nat_le, max, Bool, IsTrue, IsSome, IfSome, Some, List}
use Rattle.std.specs.Prelude.{[], ◌∷◌, ◌++◌, length, take}
use Rattle.std.specs.List.{list_any}
use Rattle.std.specs.Global.{Vec}
use Rattle.lsvd_base.specs.declared.entry.Entry.{Entry}
use Rattle.lsvd_objstore.specs.Store.{ReceiptState}
use Rattle.lsvd_objstore.specs.Objects.{Objects, found}
use Rattle.object_format.specs.declared.expected.Expected.{Expected}
use Rattle.object_format.specs.declared.copy_row.CopyRow.{CopyRow}
use Rattle.object_format.specs.declared.data_row.DataRow.{DataRow}
use Rattle.object_stream.specs.declared.object.CopiedSector.{CopiedSector}
use Rattle.object_stream.specs.declared.object.Content.TheVariants.{Data, Copy, Checkpoint}
use Rattle.object_stream.specs.declared.owner.Owner.{Owner}
use Rattle.object_stream.specs.Stream.{Stream, Owners, owners, end_at, last_number, unsealed}
use Rattle.object_stream.specs.Landed.{Numbers, IsFirstMissing}
use Rattle.object_stream.specs.Replay.{object_name, expected_at, Replays}
use Rattle.upload_window.specs.Window.{WindowState, has_number, was_started}
use Rattle.volume_maps.specs.Maps.{settled_at}
use Rattle.volume_maps.specs.Laws.{place_owner}
use Rattle.object_uploads.specs.declared.rows.SealedRows.TheVariants as sealed_rows
use Rattle.object_uploads.specs.State.{UploadsState}
use Rattle.object_uploads.specs.Queue.{HasBytesAt, IsEntered, receipt_in}
use Rattle.object_uploads.specs.Order.{IsUploads}
use Rattle.object_uploads.specs.Changes.{index_of, IsSealedNext, with_job, IsPutDone, IsAdopted}
use Rattle.object_uploads.specs.Checkpoint.{expected_next, HasSealedCheckpoint}
use Rattle.object_uploads.specs.Removal.{IsSameButObjects}
use Rattle.object_uploads.specs.Collection.{with_copied_all}
use Rattle.object_uploads.specs.Stream.{IsPlacedInherited, HoldsEntries, HoldsCopy, AreOfStream}

-- the numbers that were acknowledged
abbrev pub acknowledged_in : WindowState → Numbers
acknowledged_in window number = nat_le number window.last && not (list_any (has_number number) window.objects)

-- the numbers past these whose put was ever started
abbrev pub started_in : WindowState → Numbers
started_in window number = was_started number window.objects

-- A store after a stop, in which these objects have landed: each whose receipt is known, each past the frontier that was
-- acknowledged and, of those there whose put was ever started, any. Past the frontier it has the sealed bytes of each that has
-- landed, and these are the checkpoints among them; one is the newest acknowledged checkpoint.
pub record IsLeftOfUploads (volume : Expected) (uploads : UploadsState) (objects : Objects) (checkpoint landed : Numbers) :
    Type 0 where
  pub known : (number : ℕ) → IsSome (receipt_in uploads.queue.receipts number) → IsTrue (landed number)
  pub surely : (number : ℕ) → uploads.queue.frontier < number → IsTrue (acknowledged_in uploads.window number)
      → IsTrue (landed number)
  pub perhaps : (number : ℕ) → uploads.queue.frontier < number → IsTrue (landed number)
      → IsTrue (acknowledged_in uploads.window number) ⊎ IsTrue (started_in uploads.window number)
  pub begun : 0 < uploads.queue.maps.objects.checkpoint
  pub newest : IsTrue (checkpoint uploads.queue.maps.objects.checkpoint)
  pub checkpoints : (number : ℕ) → uploads.queue.frontier < number → IsTrue (landed number)
      → checkpoint number ≡ list_any (λ object. has_number number object && object.is_checkpoint) uploads.window.objects
  pub present : (number : ℕ) → uploads.queue.frontier < number → IsTrue (landed number)
      → (bytes : List ℕ) × (found objects (object_name volume number) ≡ Some bytes)
      × HasBytesAt (index_of uploads number) uploads.queue.sealed bytes

-- a recovery that begins at the newest checkpoint that has landed, and gets to this number, finds the stream up to there
pub record FindsStream (volume : Expected) (stream : Stream) (uploads : UploadsState) (objects : Objects) (landed : Numbers)
    (base number : ℕ) : Type 0 where
  -- it gets at least to the frontier, and no further than objects were sealed
  pub from : uploads.queue.frontier ≤ number
  pub to : number ≤ uploads.window.last
  -- that checkpoint is at the frontier, before it, or the next object
  pub next : base ≤ uploads.queue.frontier + 1
  -- the replay of what the store has, from the later of both on, gives the owners of the stream, and its end
  pub replay : Replays objects volume (max base uploads.queue.frontier) (end_at stream (max base uploads.queue.frontier))
      (owners stream (max base uploads.queue.frontier)) (number - max base uploads.queue.frontier) (end_at stream number)
      (owners stream number)
  -- and each object that these name, but for what the stream opens with, has landed
  pub there : (k : ℕ) (owner : Owner) → owners stream number k ≡ Some owner
      → (stream.opening k ≡ Some owner) ⊎ ((owner.level ≡ 0) × IsTrue (landed owner.number))

-- For every choice of the objects that have landed, a recovery finds the stream up to the object before the first missing one.
abbrev pub RecoveryFindsStream : Type 0
RecoveryFindsStream =
    (volume : Expected) (data_at : ℕ → ℕ) (stream : Stream) (uploads : UploadsState) (objects : Objects)
    (checkpoint landed : Numbers) (number : ℕ)
    → IsUploads uploads → AreOfStream volume data_at stream uploads
    → IsLeftOfUploads volume uploads objects checkpoint landed
    → (missing : IsFirstMissing checkpoint landed (number + 1))
    → FindsStream volume stream uploads objects landed missing.base number

-- ---- what the calls keep

-- a stream with an entry more, and with a data object more, up to this end
abbrev pub with_entry : Entry → Stream → Stream
with_entry entry stream = record stream { entries = stream.entries ++ entry ∷ [] }

abbrev pub with_data_object : (end : ℕ) → Stream → Stream
with_data_object end stream = record stream { objects = stream.objects ++ record { content = Data; end = end } ∷ [] }

-- with a copy of these sectors more, which repeats the end before it
abbrev pub with_copy : List CopiedSector → Stream → Stream
with_copy pairs stream = record stream {
  objects = stream.objects ++ record { content = Copy pairs; end = end_at stream (last_number stream) } ∷ [];
}

-- and with a checkpoint more, which repeats it too
abbrev pub with_checkpoint : Stream → Stream
with_checkpoint stream = record stream {
  objects = stream.objects ++ record { content = Checkpoint; end = end_at stream (last_number stream) } ∷ [];
}

-- where nothing is past a frontier, a stream begins that opens with the owners of the objects' map, where those of ancestors have
-- their places
abbrev pub StreamBegins : Type 0
StreamBegins =
    (volume : Expected) (data_at : ℕ → ℕ) (uploads : UploadsState) (number end : ℕ) (opening : Owners)
    (inherited : ℕ → ℕ)
    → uploads.window ≡ record { last = number; objects = [] } → uploads.queue.frontier ≡ number → uploads.queue.end ≡ end
    → uploads.queue.sealed ≡ [] → uploads.queue.maps.log.rows ≡ []
    → IsUploads uploads → ((k : ℕ) → place_owner (settled_at uploads.queue.maps k) ≡ opening k)
    → ((k : ℕ) → IfSome (settled_at uploads.queue.maps k) (IsPlacedInherited inherited k))
    → AreOfStream volume data_at (record {
      number = number;
      end = end;
      opening = opening;
      inherited = inherited;
      entries = [];
      objects = [];
    }) uploads

-- objects of a stream stay that while the next entry is entered
abbrev pub EnteringKeepsStream : Type 0
EnteringKeepsStream =
    (volume : Expected) (data_at : ℕ → ℕ) (stream : Stream) (old new : UploadsState) (entry : Entry)
    → IsUploads old → AreOfStream volume data_at stream old
    → IsEntered entry (stream.end + length stream.entries) (data_at (stream.end + length stream.entries)) old.queue new.queue
    → new.window ≡ old.window
    → AreOfStream volume data_at (with_entry entry stream) new

-- while the first entries that are in no object are sealed
abbrev pub SealingKeepsStream : Type 0
SealingKeepsStream =
    (volume : Expected) (data_at : ℕ → ℕ) (stream : Stream) (old new : UploadsState) (bytes : List ℕ)
    (rows : Vec DataRow) (end : ℕ)
    → IsUploads old → AreOfStream volume data_at stream old
    → end_at stream (last_number stream) < end → end ≤ stream.end + length stream.entries
    → HoldsEntries (expected_at volume (last_number stream + 1) (end_at stream (last_number stream)))
    (take (end - end_at stream (last_number stream)) (unsealed stream)) end bytes rows.items
    → IsSealedNext bytes (sealed_rows.Data rows) end old new
    → AreOfStream volume data_at (with_data_object end stream) new

-- while a copy is sealed
abbrev pub SealingCopyKeepsStream : Type 0
SealingCopyKeepsStream =
    (volume : Expected) (data_at : ℕ → ℕ) (stream : Stream) (old new : UploadsState) (pairs : List CopiedSector)
    (bytes : List ℕ) (rows : Vec CopyRow)
    → IsUploads old → AreOfStream volume data_at stream old
    → HoldsCopy (expected_at volume (last_number stream + 1) (end_at stream (last_number stream))) pairs
    (end_at stream (last_number stream)) bytes rows.items
    → IsSealedNext bytes (sealed_rows.Copy rows) (end_at stream (last_number stream)) old new
    → AreOfStream volume data_at (with_copy pairs stream) new

-- while a checkpoint is sealed
abbrev pub SealingCheckpointKeepsStream : Type 0
SealingCheckpointKeepsStream =
    (volume : Expected) (data_at : ℕ → ℕ) (stream : Stream) (old new : UploadsState)
    → IsUploads old → AreOfStream volume data_at stream old
    → expected_next old ≡ expected_at volume (last_number stream + 1) (end_at stream (last_number stream))
    → HasSealedCheckpoint old new → AreOfStream volume data_at (with_checkpoint stream) new

-- while objects are pinned, and removals begin, fail and are done
abbrev pub RemovalsKeepStream : Type 0
RemovalsKeepStream =
    (volume : Expected) (data_at : ℕ → ℕ) (stream : Stream) (old new : UploadsState) → IsSameButObjects old new
    → AreOfStream volume data_at stream old → AreOfStream volume data_at stream new

-- the marks of a plan's sources change no more than these do
abbrev pub MarksChangeObjectsAlone : Type 0
MarksChangeObjectsAlone =
    (is_copied : Bool) (numbers : List ℕ) (uploads : UploadsState)
    → IsSameButObjects uploads (with_copied_all is_copied numbers uploads)

-- while puts begin and fail
abbrev pub JobsKeepStream : Type 0
JobsKeepStream =
    (volume : Expected) (data_at : ℕ → ℕ) (stream : Stream) (uploads : UploadsState) (number : ℕ) (started : Bool)
    → AreOfStream volume data_at stream uploads → AreOfStream volume data_at stream (with_job number started uploads)

-- and while they are done, in any order
abbrev pub DoneKeepsStream : Type 0
DoneKeepsStream =
    (volume : Expected) (data_at : ℕ → ℕ) (stream : Stream) (old new : UploadsState) (number : ℕ) (receipt : ReceiptState)
    → IsUploads old → AreOfStream volume data_at stream old → IsPutDone number receipt old new
    → AreOfStream volume data_at stream new

-- ---- objects that a mount found

-- a stream with these entries more, in a data object more, up to this end
abbrev pub with_adopted : List Entry → (end : ℕ) → Stream → Stream
with_adopted entries end stream = record stream {
  entries = stream.entries ++ entries;
  objects = stream.objects ++ record { content = Data; end = end } ∷ [];
}

-- Where all objects are acknowledged, and each entry is in one, objects of a stream stay that while the next object is adopted,
-- which is the data object of the next entries.
abbrev pub AdoptingKeepsStream : Type 0
AdoptingKeepsStream =
    (volume : Expected) (data_at : ℕ → ℕ) (stream : Stream) (old new : UploadsState) (entries : List Entry) (bytes : List ℕ)
    (rows : Vec DataRow) (end : ℕ) (receipt : ReceiptState)
    → IsUploads old → AreOfStream volume data_at stream old → old.queue.sealed ≡ [] → unsealed stream ≡ []
    → end ≡ stream.end + length stream.entries + length entries → 0 < length entries
    → HoldsEntries (expected_at volume (last_number stream + 1) (end_at stream (last_number stream))) entries end bytes
    rows.items
    → IsAdopted (sealed_rows.Data rows) end receipt old new
    → AreOfStream volume data_at (with_adopted entries end stream) new

-- so it is while the next object is adopted that is a copy
abbrev pub AdoptingCopyKeepsStream : Type 0
AdoptingCopyKeepsStream =
    (volume : Expected) (data_at : ℕ → ℕ) (stream : Stream) (old new : UploadsState) (pairs : List CopiedSector)
    (bytes : List ℕ) (rows : Vec CopyRow) (receipt : ReceiptState)
    → IsUploads old → AreOfStream volume data_at stream old → old.queue.sealed ≡ []
    → HoldsCopy (expected_at volume (last_number stream + 1) (end_at stream (last_number stream))) pairs
    (end_at stream (last_number stream)) bytes rows.items
    → IsAdopted (sealed_rows.Copy rows) (end_at stream (last_number stream)) receipt old new
    → AreOfStream volume data_at (with_copy pairs stream) new
