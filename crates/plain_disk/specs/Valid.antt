-- Contract: what holds of the plain volume in each state that events, stops and mounts reach, and the laws of it.
use Rattle.std.specs.Prelude.{◌≡◌, ℕ, ◌+◌, ◌<◌, ◌≤◌, ◌==◌, IfSome, None, IsTrue, Bool, true, false, ◌&&◌, ◌||◌, List, ◌++◌}
use Rattle.std.specs.Prelude.{length}
use Rattle.std.specs.Prelude.{slice_index_or}
use Rattle.std.specs.List.{All, list_any}
use Rattle.lsvd_base.specs.declared.geometry.Geometry.{Geometry}
use Rattle.lsvd_base.specs.declared.entry.Entry.{Entry}
use Rattle.lsvd_base.specs.Limits.{is_within_limits}
use Rattle.lsvd_base.specs.Range.{is_in_range}
use Rattle.object_stream.specs.Stream.{Stream, owners, is_own, IsStream, last_number}
use Rattle.object_stream.specs.Landed.{Numbers, IsFirstMissing}
use Rattle.upload_window.specs.Window.{WindowState, IsWindow, IsAcknowledged, has_number, below_open}
use Rattle.log_room.specs.Room.{IsRoom}
use Rattle.plain_disk.specs.declared.event.PlainEvent.{PlainEvent}
use Rattle.plain_disk.specs.declared.event.PlainReply.TheVariants.{Flushed}
use Rattle.plain_disk.specs.declared.log.PlainCommit.{PlainCommit}
use Rattle.plain_disk.specs.Log.{PlainLog, next_seq, room_in}
use Rattle.plain_disk.specs.Cache.{kept_commit}
use Rattle.plain_disk.specs.State.{PlainState, PlainCheckpoint, created_volume, stream_in, history_length, frontier_of}
use Rattle.plain_disk.specs.State.{frontier_end, folded_to}
use Rattle.plain_disk.specs.Checkpoints.{landed_checkpoint}
use Rattle.plain_disk.specs.Removals.{maps, has, is_removable}
use Rattle.plain_disk.specs.Entries.{flush_reply, after_flush}
use Rattle.plain_disk.specs.Step.{plain_reply, plain_after}
use Rattle.plain_disk.specs.Stops.{stopping_after_calls, recovered_number, recovered_end, kept_count, mounted_kept, mounted_lost}

-- ---- what holds

-- a commit's tail is not past its head, nor past an end; its head is not past a count, and stands at a sector of the log
pub record IsCommitWithin (size end count : ℕ) (commit : PlainCommit) : Type 0 where
  pub order : commit.tail.seq ≤ commit.head.seq
  pub tail : commit.tail.seq ≤ end
  pub head : commit.head.seq ≤ count
  pub place : commit.head.position < size

-- a commit that comes after the last one, or is that one
pub record IsLaterCommit (size end count : ℕ) (last commit : PlainCommit) : Type 0 where
  pub within : IsCommitWithin size end count commit
  pub tail : last.tail.seq ≤ commit.tail.seq
  pub head : last.head.seq ≤ commit.head.seq

-- the log has the records of the entries from the last commit's tail on, which is not past the frontier's end
pub record IsPlainLog (end count : ℕ) (log : PlainLog) : Type 0 where
  pub counted : next_seq log ≡ count
  pub room : IsRoom (room_in log)
  pub last : IsCommitWithin log.size end count log.last
  pub unfinished : IfSome log.unfinished (IsLaterCommit log.size end count log.last)

-- No mount needs the object of this number where the newest checkpoint is this one: it is before it, and it does not map it.
pub record IsUnneeded (checkpoint : PlainCheckpoint) (number : ℕ) : Type 0 where
  pub before : number < checkpoint.number
  pub unmapped : maps checkpoint number ≡ false

-- The newest acknowledged checkpoint is not past the frontier. It holds the owners after it; of a stream that begins after it, it
-- maps each object before it that owns a sector still. What was given out for removal it does not need.
pub record IsPlainCheckpoint (stream : Stream) (frontier : ℕ) (given_out : List ℕ) (checkpoint : PlainCheckpoint) : Type 0 where
  pub numbered : 0 < checkpoint.number
  pub reached : checkpoint.number ≤ frontier
  pub holds : stream.number ≤ checkpoint.number
      → (k : ℕ) → slice_index_or checkpoint.owned k None ≡ owners stream checkpoint.number k
  pub still : checkpoint.number ≤ stream.number
      → (number k : ℕ) → number < checkpoint.number → is_own number (stream.opening k) ≡ true → maps checkpoint number ≡ true
  pub unneeded : All (IsUnneeded checkpoint) given_out

-- An object that a hold keeps is not past the frontier, and was never given out for removal.
pub record IsKeptByHold (frontier : ℕ) (given_out : List ℕ) (number : ℕ) : Type 0 where
  pub acknowledged : number ≤ frontier
  pub kept : has given_out number ≡ false

-- a checkpoint whose put was ever begun has no lower open number
abbrev pub BeginsAfterLower : WindowState → Type 0
BeginsAfterLower window =
    All (λ object. IsTrue (object.was_started && object.is_checkpoint) → object.number ≤ below_open window + 1) window.objects

-- What holds of each plain volume that is reached. It knows the payload of each object from the first up to that which it opens
-- after.
pub record IsPlainVolume (state : PlainState) : Type 0 where
  pub limits : IsTrue (is_within_limits state.geometry)
  pub sectors : length state.opening ≡ state.geometry.sectors
  pub owned : length state.owned ≤ state.geometry.sectors
  pub payloads : length state.payloads ≡ state.number
  pub in_range : All (λ entry. is_in_range state.geometry entry ≡ true) state.entries
  pub stream : IsStream (stream_in state)
  pub window : IsWindow state.window
  pub last : state.window.last ≡ last_number (stream_in state)
  pub opened : state.number ≤ frontier_of state
  pub begun : BeginsAfterLower state.window
  pub checkpoint : IsPlainCheckpoint (stream_in state) (frontier_of state) state.given_out state.checkpoint
  pub held : All (IsKeptByHold (frontier_of state) state.given_out) state.held
  pub log : IsPlainLog (frontier_end state) (history_length state) state.cache.log
  pub size : state.cache.log.size ≡ state.geometry.log

-- ---- laws

abbrev pub CreatedIsPlainVolume : Type 0
CreatedIsPlainVolume = (g : Geometry) → IsTrue (is_within_limits g) → IsPlainVolume (created_volume g)

abbrev pub EventsKeepPlainVolume : Type 0
EventsKeepPlainVolume = (state : PlainState) (event : PlainEvent) → IsPlainVolume state → IsPlainVolume (plain_after event state)

-- A choice of the objects that have landed and are there: each that is acknowledged and was not given out for removal, and none
-- that was removed; of the others that were sealed any, but a checkpoint only where its put was ever begun. That allows more than
-- can be: an object of another kind whose put was never begun cannot have landed either.
pub record MayLand (state : PlainState) (landed : Numbers) : Type 0 where
  pub surely : (number : ℕ) → 0 < number → IsAcknowledged state.window number → has state.given_out number ≡ false
      → IsTrue (landed number)
  pub removed : (number : ℕ) → has state.removed number ≡ true → landed number ≡ false
  pub perhaps : (number : ℕ) → state.window.last < number → IsTrue (landed number) → ⊥
  pub begun : All (λ object. IsTrue (object.is_checkpoint && landed object.number) → IsTrue object.was_started)
      state.window.objects

abbrev pub StopsKeepPlainVolume : Type 0
StopsKeepPlainVolume = (state : PlainState) (calls : ℕ) → IsPlainVolume state → IsPlainVolume (stopping_after_calls calls state)

abbrev pub MountsKeepPlainVolume : Type 0
MountsKeepPlainVolume =
    (state : PlainState) (landed : Numbers) (kept : List Bool) → IsPlainVolume state → MayLand state landed
    → IsPlainVolume (mounted_kept landed kept state) × IsPlainVolume (mounted_lost landed state)

-- A flush that is acknowledged commits each entry so far, and so does a mount.
abbrev pub FlushCommitsEntries : Type 0
FlushCommitsEntries =
    (state : PlainState) (count : ℕ) → IsPlainVolume state → flush_reply state ≡ Flushed count
    → (count ≡ history_length state) × ((after_flush state).cache.log.last.head.seq ≡ history_length state)

abbrev pub MountsCommitEntries : Type 0
MountsCommitEntries =
    (state : PlainState) (landed : Numbers) (kept : List Bool) → IsPlainVolume state → MayLand state landed
    → ((mounted_kept landed kept state).cache.log.last.head.seq ≡ history_length (mounted_kept landed kept state))
    × ((mounted_lost landed state).cache.log.last.head.seq ≡ history_length (mounted_lost landed state))

-- No event takes an entry back, nor leaves fewer committed.
abbrev pub EventsKeepCommitted : Type 0
EventsKeepCommitted =
    (state : PlainState) (event : PlainEvent) → IsPlainVolume state
    → (state.cache.log.last.head.seq ≤ (plain_after event state).cache.log.last.head.seq)
    × ((more : List Entry) × ((plain_after event state).entries ≡ state.entries ++ more))

-- What a stop keeps: the objects up to the frontier and their entries, those that were committed, and no more than were taken.
abbrev pub StopKeepsAcknowledged : Type 0
StopKeepsAcknowledged =
    (state : PlainState) (landed : Numbers) (kept : List Bool) → IsPlainVolume state → MayLand state landed
    → (frontier_of state ≤ recovered_number landed state)
    × (frontier_end state ≤ recovered_end landed state)
    × (recovered_end landed state ≤ kept_count landed (kept_commit kept state.cache) state)
    × (state.cache.log.last.head.seq ≤ kept_count landed (kept_commit kept state.cache) state)
    × (kept_count landed (kept_commit kept state.cache) state ≤ history_length state)

-- the number is that of the newest acknowledged checkpoint, or of one that is open
abbrev pub is_checkpoint_from : PlainState → Numbers
is_checkpoint_from state number =
    (number == state.checkpoint.number)
    || list_any (λ object. has_number number object && object.is_checkpoint) state.window.objects

-- the number before the first missing one is the one that a recovery gets to, whichever checkpoints there are before the newest
-- acknowledged one
abbrev pub RecoversBeforeFirstMissing : Type 0
RecoversBeforeFirstMissing =
    (state : PlainState) (landed checkpoint : Numbers) → IsPlainVolume state → MayLand state landed
    → ((number : ℕ) → state.checkpoint.number ≤ number → checkpoint number ≡ is_checkpoint_from state number)
    → IsFirstMissing checkpoint landed (recovered_number landed state + 1)

-- ---- what a mount needs

-- The newest checkpoint that has landed is the newest acknowledged one or a later one, which holds the owners after it.
abbrev pub NewestLandedHoldsOwners : Type 0
NewestLandedHoldsOwners =
    (state : PlainState) (landed : Numbers) → IsPlainVolume state
    → (state.checkpoint.number ≤ (landed_checkpoint landed state).number)
    × (state.number ≤ (landed_checkpoint landed state).number
    → (k : ℕ) → slice_index_or (landed_checkpoint landed state).owned k None
    ≡ owners (stream_in state) (landed_checkpoint landed state).number k)

-- Each object that owns a sector after the objects that a mount finds has landed.
abbrev pub OwnersHaveLanded : Type 0
OwnersHaveLanded =
    (state : PlainState) (landed : Numbers) (number k : ℕ) → IsPlainVolume state → MayLand state landed
    → 0 < number → number ≤ recovered_number landed state
    → is_own number (owners (stream_in state) (recovered_number landed state) k) ≡ true → IsTrue (landed number)

-- No mount needs an object that may be removed, or that was ever given out for it, whatever has landed.
abbrev pub RemovedIsUnneeded : Type 0
RemovedIsUnneeded =
    (state : PlainState) (landed : Numbers) (number : ℕ) → IsPlainVolume state
    → IsTrue (is_removable state number || has state.given_out number)
    → IsUnneeded (landed_checkpoint landed state) number

-- ---- folding

-- The entries of the objects up to a number that is not past the frontier may be folded into the image. What results is a plain
-- volume, and to fold them in parts is to fold them at once.
abbrev pub FoldingKeepsPlainVolume : Type 0
FoldingKeepsPlainVolume =
    (state : PlainState) (number : ℕ) → IsPlainVolume state → state.number ≤ number → number ≤ frontier_of state
    → IsPlainVolume (folded_to number state)

abbrev pub FoldsInParts : Type 0
FoldsInParts =
    (state : PlainState) (number later : ℕ) → IsPlainVolume state → state.number ≤ number → number ≤ later
    → later ≤ frontier_of state
    → folded_to later (folded_to number state) ≡ folded_to later state

-- Folding changes no reply, and it does not matter whether it is done before an event, a stop or a mount, or after it.
abbrev pub FoldingChangesNoReply : Type 0
FoldingChangesNoReply =
    (state : PlainState) (number : ℕ) (event : PlainEvent) → IsPlainVolume state → state.number ≤ number
    → number ≤ frontier_of state
    → plain_reply (folded_to number state) event ≡ plain_reply state event

abbrev pub FoldingCommutesWithEvents : Type 0
FoldingCommutesWithEvents =
    (state : PlainState) (number : ℕ) (event : PlainEvent) → IsPlainVolume state → state.number ≤ number
    → number ≤ frontier_of state
    → plain_after event (folded_to number state) ≡ folded_to number (plain_after event state)

abbrev pub FoldingCommutesWithStops : Type 0
FoldingCommutesWithStops =
    (state : PlainState) (number calls : ℕ) → stopping_after_calls calls (folded_to number state)
    ≡ folded_to number (stopping_after_calls calls state)

abbrev pub FoldingCommutesWithMounts : Type 0
FoldingCommutesWithMounts =
    (state : PlainState) (number : ℕ) (landed : Numbers) (kept : List Bool) → IsPlainVolume state → MayLand state landed
    → state.number ≤ number → number ≤ frontier_of state
    → (mounted_kept landed kept (folded_to number state) ≡ folded_to number (mounted_kept landed kept state))
    × (mounted_lost landed (folded_to number state) ≡ folded_to number (mounted_lost landed state))
