-- Contract: each call of the list does what the plain volume does.
use Rattle.std.specs.Prelude.{◌≡◌, ℕ, ◌+◌, ◌<◌, ◌≤◌, IsTrue, Some, IfSome, true, false, List, [], ◌∷◌, ◌++◌, length}
use Rattle.lsvd_base.specs.declared.entry.Entry.{Entry}
use Rattle.lsvd_base.specs.declared.geometry.Geometry.{Geometry}
use Rattle.lsvd_base.specs.Limits.{is_within_limits}
use Rattle.lsvd_objstore.specs.Store.{ReceiptState}
use Rattle.upload_window.specs.Window.{lowest_ready, is_started}
use Rattle.volume_maps.specs.declared.place.ObjectPlace.{ObjectPlace}
use Rattle.volume_maps.specs.Maps.{settled_at}
use Rattle.object_uploads.specs.Order.{IsUploads}
use Rattle.object_uploads.specs.Image.{IsReceiptFor}
use Rattle.object_uploads.specs.Changes.{with_job, IsOut, IsPutDone}
use Rattle.object_uploads.specs.Stream.{IsPlacedIn}
use Rattle.obj_log.specs.State.{ObjLogState}
use Rattle.obj_log.specs.Changes.{IsSame, IsAdded, HasSealedObject}
use Rattle.plain_disk.specs.Cache.{PlainCache}
use Rattle.plain_disk.specs.State.{PlainState, created_volume, stream_in, history_length, frontier_of, frontier_end}
use Rattle.plain_disk.specs.State.{unsealed_entries, folded_to}
use Rattle.plain_disk.specs.Objects.{seal_reply, after_seal, after_take, after_done, after_failed}
use Rattle.plain_disk.specs.declared.event.PlainReply.TheVariants.{Sealed, Nothing, Busy}
use Rattle.plain_disk.specs.Valid.{IsPlainVolume}
use Rattle.refine_objects.specs.Shows.{TellsAsOne, ShowsObjects}

-- ---- what it shows

-- What a list that shows a plain volume has in common with it: the numbers that it answers, and the entries in no object.
pub record HasCounts (objects : ObjLogState) (plain : PlainState) : Type 0 where
  pub frontier : objects.uploads.queue.frontier ≡ frontier_of plain
  pub end : objects.uploads.queue.end ≡ frontier_end plain
  pub entries : objects.batch.entries ≡ unsealed_entries plain
  pub next : objects.batch.first + length objects.batch.entries ≡ history_length plain

abbrev pub ShownHaveCounts : Type 0
ShownHaveCounts =
    (data_at : ℕ → ℕ) (objects : ObjLogState) (plain : PlainState)
    → IsUploads objects.uploads → IsPlainVolume plain → ShowsObjects data_at objects plain
    → HasCounts objects plain

-- the list of a volume that was just created shows it
abbrev pub NewShowsCreated : Type 0
NewShowsCreated =
    (data_at : ℕ → ℕ) (objects : ObjLogState) (geometry : Geometry) → IsTrue (is_within_limits geometry)
    → objects.batch ≡ record { geometry = geometry; first = 0; entries = []; reserved = objects.batch.reserved }
    → IsUploads objects.uploads → objects.uploads.sectors ≡ geometry.sectors → objects.uploads.ancestors ≡ 0
    → objects.uploads.window ≡ record { last = 1; objects = [] } → objects.uploads.queue.frontier ≡ 1
    → objects.uploads.queue.end ≡ 0
    → objects.uploads.queue.sealed ≡ [] → objects.uploads.queue.maps.settled.rows ≡ [] → objects.uploads.queue.maps.log.rows ≡ []
    → ShowsObjects data_at objects (created_volume geometry)

-- It shows the same whatever the cache is and the pins are, and wherever else data of entries up to the frontier's end, or past
-- the last entry, are said to begin.
abbrev pub ShownWithOtherCache : Type 0
ShownWithOtherCache =
    (data_at : ℕ → ℕ) (objects : ObjLogState) (plain : PlainState) (cache : PlainCache) (pins : List ℕ)
    → ShowsObjects data_at objects plain → ShowsObjects data_at objects (record plain { cache = cache; pins = pins })

abbrev pub ShownWithOtherPlaces : Type 0
ShownWithOtherPlaces =
    (data_at other : ℕ → ℕ) (objects : ObjLogState) (plain : PlainState)
    → ((seq : ℕ) → objects.uploads.queue.end ≤ seq → seq < history_length plain → other seq ≡ data_at seq)
    → ShowsObjects data_at objects plain → ShowsObjects other objects plain

-- A list that shows what a plain volume becomes when the entries of its first objects are folded into its image, up to one that
-- is not past the frontier, and of which no object is on its way, shows that plain volume, if its map has the sectors of those
-- objects, and of ancestors', where they have them.
abbrev pub ShownFromFirst : Type 0
ShownFromFirst =
    (data_at : ℕ → ℕ) (list : ObjLogState) (plain : PlainState) (number : ℕ)
    → IsPlainVolume plain → plain.number ≤ number → number ≤ frontier_of plain → list.uploads.queue.sealed ≡ []
    → ((k : ℕ) → IfSome (settled_at list.uploads.queue.maps k) (λ (place : ObjectPlace).
    (place.level ≡ 0 → place.number ≤ number) → IsPlacedIn (stream_in plain) k place))
    → ShowsObjects data_at list (folded_to number plain) → ShowsObjects data_at list plain

-- ---- the calls

-- nothing changes but room
abbrev pub RoomShowsSame : Type 0
RoomShowsSame =
    (data_at : ℕ → ℕ) (old new : ObjLogState) (plain : PlainState)
    → ShowsObjects data_at old plain → IsSame old new → ShowsObjects data_at new plain

-- an entry is added
abbrev pub AddedShowsEntry : Type 0
AddedShowsEntry =
    (data_at : ℕ → ℕ) (old new : ObjLogState) (plain : PlainState) (entry : Entry)
    → IsUploads old.uploads → IsPlainVolume plain → ShowsObjects data_at old plain
    → IsAdded entry (data_at (history_length plain)) old new
    → ShowsObjects data_at new (record plain { entries = plain.entries ++ entry ∷ [] })

-- an object is sealed, and the plain volume seals the one of the same number
abbrev pub SealedShowsSeal : Type 0
SealedShowsSeal =
    (data_at : ℕ → ℕ) (old new : ObjLogState) (plain : PlainState)
    → IsUploads old.uploads → IsPlainVolume plain → ShowsObjects data_at old plain
    → HasSealedObject old new → 0 < length old.batch.entries → (length old.uploads.window.objects ≡ 16 → ⊥)
    → ShowsObjects data_at new (after_seal plain) × (seal_reply plain ≡ Sealed (old.uploads.window.last + 1))

-- where no entry is left to seal, or 16 objects are on their way to the store, the plain volume seals none either
abbrev pub RefusedSealShowsNone : Type 0
RefusedSealShowsNone =
    (data_at : ℕ → ℕ) (objects : ObjLogState) (plain : PlainState) → ShowsObjects data_at objects plain
    → (objects.batch.entries ≡ [] → (seal_reply plain ≡ Nothing) × (after_seal plain ≡ plain))
    × (0 < length objects.batch.entries → length objects.uploads.window.objects ≡ 16 → (seal_reply plain ≡ Busy)
    × (after_seal plain ≡ plain))

-- a put begins, or fails
abbrev pub TakenShowsTake : Type 0
TakenShowsTake =
    (data_at : ℕ → ℕ) (objects : ObjLogState) (plain : PlainState) (number : ℕ)
    → ShowsObjects data_at objects plain → lowest_ready objects.uploads.window.objects ≡ Some number
    → ShowsObjects data_at (record objects { uploads = with_job number true objects.uploads }) (after_take plain)

abbrev pub FailedShowsFailed : Type 0
FailedShowsFailed =
    (data_at : ℕ → ℕ) (objects : ObjLogState) (plain : PlainState) (number : ℕ)
    → ShowsObjects data_at objects plain → is_started number objects.uploads.window.objects ≡ true
    → ShowsObjects data_at (record objects { uploads = with_job number false objects.uploads }) (after_failed (Some number) plain)

-- a put is done, whose receipt tells no other bytes than those of the sealed object, where all receipts tell bytes or none does
abbrev pub DoneShowsDone : Type 0
DoneShowsDone =
    (data_at : ℕ → ℕ) (old new : ObjLogState) (plain : PlainState) (number : ℕ) (bytes : List ℕ) (receipt : ReceiptState)
    → IsUploads old.uploads → IsPlainVolume plain → ShowsObjects data_at old plain
    → IsOut old.uploads number bytes → IsReceiptFor bytes receipt → IsPutDone number receipt old.uploads new.uploads
    → TellsAsOne new.uploads.queue → new.batch ≡ old.batch
    → ShowsObjects data_at new (after_done (Some number) plain)
