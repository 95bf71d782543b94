-- Contract: what a mount finds of a plain volume in a store, and that what it makes of that is what a mount is to make, opened at
-- the newest checkpoint.
use Rattle.std.specs.Prelude.{◌≡◌, ℕ, ◌+◌, ◌-◌, ◌<◌, ◌≤◌, ◌⊎◌, ◌&&◌, nat_le, IfSome, Some, None, IsTrue, true, false, not, take}
use Rattle.std.specs.Prelude.{drop, slice_index_or}
use Rattle.std.specs.List.{slice_get}
use Rattle.lsvd_base.specs.declared.geometry.Geometry.{Geometry}
use Rattle.lsvd_base.specs.Image.{after}
use Rattle.lsvd_base.specs.Limits.{is_within_limits}
use Rattle.object_stream.specs.declared.object.Content.TheVariants.{Checkpoint}
use Rattle.object_stream.specs.declared.owner.Owner.{Owner}
use Rattle.object_stream.specs.Stream.{owners, end_at, entries_in_object}
use Rattle.object_stream.specs.Landed.{Numbers}
use Rattle.plain_disk.specs.declared.event.PlainEvent.{PlainEvent}
use Rattle.plain_disk.specs.declared.log.PlainCommit.{PlainCommit}
use Rattle.plain_disk.specs.Log.{PlainLog, mounted_log, empty_from}
use Rattle.plain_disk.specs.Cache.{cache_with}
use Rattle.plain_disk.specs.State.{PlainState, PlainCheckpoint, OpensFirst, created_volume, stream_in, history_length}
use Rattle.plain_disk.specs.State.{frontier_of, frontier_end, folded_to}
use Rattle.plain_disk.specs.Checkpoints.{landed_checkpoint}
use Rattle.plain_disk.specs.Removals.{maps, has, absent_of}
use Rattle.plain_disk.specs.Step.{plain_after}
use Rattle.plain_disk.specs.Stops.{stopping_after_calls, recovered_number, recovered_end, kept_count, cut_to_count, found_by}
use Rattle.plain_disk.specs.Stops.{mounted_from, mounted_lost, mounted_on}
use Rattle.plain_disk.specs.Valid.{IsCommitWithin, IsLaterCommit, IsPlainLog, IsPlainVolume, MayLand, is_checkpoint_from}

-- What a mount finds where these objects have landed: the volume that opens at the newest checkpoint among them, with its objects
-- up to the one before the first missing number, all of them acknowledged, and still with all its entries and its cache.
abbrev pub found_in : Numbers → PlainState → PlainState
found_in landed state =
    folded_to (landed_checkpoint landed state).number (found_by landed (history_length state) state)

-- The volume stops where these objects may have landed, and opens no later than at its newest acknowledged checkpoint.
pub record Finds (landed : Numbers) (state : PlainState) : Type 0 where
  pub valid : IsPlainVolume state
  pub may : MayLand state landed
  pub opened : state.number ≤ state.checkpoint.number

-- ---- what is found

abbrev pub FoundIsPlainVolume : Type 0
FoundIsPlainVolume = (state : PlainState) (landed : Numbers) → Finds landed state → IsPlainVolume (found_in landed state)

-- What is found has its frontier at the number that a recovery gets to, and no fewer entries. That number is not before the
-- newest checkpoint that has landed, nor past the last object; that checkpoint is at most the lowest open object.
pub record HasFoundCounts (landed : Numbers) (state : PlainState) : Type 0 where
  pub frontier : frontier_of (found_in landed state) ≡ recovered_number landed state
  pub end : frontier_end (found_in landed state) ≡ recovered_end landed state
  pub count : history_length (found_in landed state) ≡ history_length state
  pub from : (landed_checkpoint landed state).number ≤ recovered_number landed state
  pub sealed : recovered_number landed state ≤ state.window.last
  pub lowest : (landed_checkpoint landed state).number ≤ frontier_of state + 1

abbrev pub FoundHasCounts : Type 0
FoundHasCounts = (state : PlainState) (landed : Numbers) → Finds landed state → HasFoundCounts landed state

-- ---- what a mount makes of it

-- A mount of the volume, opened at the newest checkpoint that has landed, is a mount of what is found: with the commit that the
-- cache has, or on a new device.
pub record MountsAsFound (landed : Numbers) (found : PlainCommit) (log : ℕ) (state : PlainState) : Type 0 where
  pub kept : folded_to (landed_checkpoint landed state).number (mounted_from landed found state)
      ≡ record (cut_to_count (recovered_number landed state) (kept_count landed found state) (found_in landed state)) {
        cache = cache_with (mounted_log found (recovered_end landed state) state.cache.log);
      }
  pub lost : folded_to (landed_checkpoint landed state).number (mounted_on log landed state)
      ≡ record (cut_to_count (recovered_number landed state) (recovered_end landed state) (found_in landed state)) {
        geometry = record state.geometry { log = log };
        cache = cache_with (empty_from log (recovered_end landed state));
      }

abbrev pub MountsOfFound : Type 0
MountsOfFound =
    (state : PlainState) (landed : Numbers) (found : PlainCommit) (log : ℕ) → Finds landed state
    → MountsAsFound landed found log state

-- a new device of the same length is one whose log has as many sectors
abbrev pub LosesOnSameLog : Type 0
LosesOnSameLog =
    (state : PlainState) (landed : Numbers) → state.cache.log.size ≡ state.geometry.log
    → mounted_lost landed state ≡ mounted_on state.geometry.log landed state

-- Whichever commit is found whose tail is not before the last one's, a mount gives a plain volume; and so does one on a device of
-- any length that a volume may have.
abbrev pub MountsFromKeepPlainVolume : Type 0
MountsFromKeepPlainVolume =
    (state : PlainState) (landed : Numbers) → IsPlainVolume state → MayLand state landed
    → ((found : PlainCommit) → IsCommitWithin state.cache.log.size (frontier_end state) (history_length state) found
    → state.cache.log.last.tail.seq ≤ found.tail.seq
    → IsPlainVolume (mounted_from landed found state))
    × ((log : ℕ) → IsTrue (is_within_limits (record state.geometry { log = log })) → IsPlainVolume (mounted_on log landed state))

-- the last commit is one from itself on, and so is an unfinished one
abbrev pub CommitsAreLater : Type 0
CommitsAreLater =
    (end count : ℕ) (log : PlainLog) → IsPlainLog end count log
    → IsLaterCommit log.size end count log.last log.last
    × IfSome log.unfinished (IsLaterCommit log.size end count log.last)

-- ---- which objects are there

-- up to the number that a recovery gets to, just those are missing that were given out for removal and have not landed
abbrev pub FoundHasPresent : Type 0
FoundHasPresent =
    (state : PlainState) (landed : Numbers) (number : ℕ) → IsPlainVolume state → MayLand state landed
    → 1 ≤ number → number ≤ recovered_number landed state
    → landed number ≡ not (has (absent_of landed state.given_out) number)

-- ---- its objects, entries and owners

-- From the newest checkpoint that has landed up to the number that a recovery gets to, what is found has the volume's objects,
-- their ends, their entries and the owners after them. Of the entries it has those from that checkpoint's end on; the ones before
-- it are in the image that it opens with.
pub record HasFoundStream (landed : Numbers) (state : PlainState) : Type 0 where
  pub ends : (number : ℕ) → (landed_checkpoint landed state).number ≤ number → number ≤ recovered_number landed state
      → end_at (stream_in (found_in landed state)) number ≡ end_at (stream_in state) number
  pub owned : (number k : ℕ) → (landed_checkpoint landed state).number ≤ number → number ≤ recovered_number landed state
      → owners (stream_in (found_in landed state)) number k ≡ owners (stream_in state) number k
  pub entries : (number : ℕ) → (landed_checkpoint landed state).number < number → number ≤ recovered_number landed state
      → entries_in_object (stream_in (found_in landed state)) number ≡ entries_in_object (stream_in state) number
  pub objects : (number : ℕ) → (landed_checkpoint landed state).number < number → number ≤ recovered_number landed state
      → slice_get (found_in landed state).objects (number - ((landed_checkpoint landed state).number + 1))
      ≡ slice_get state.objects (number - (state.number + 1))
  pub later : (count : ℕ) → (found_in landed state).end ≤ count
      → drop (count - (found_in landed state).end) (found_in landed state).entries ≡ drop (count - state.end) state.entries
  pub image : (found_in landed state).opening
      ≡ after state.opening (take (end_at (stream_in state) (landed_checkpoint landed state).number - state.end) state.entries)

abbrev pub FoundHasStream : Type 0
FoundHasStream = (state : PlainState) (landed : Numbers) → Finds landed state → HasFoundStream landed state

-- ---- a mount that is made again

-- those of some numbers that are not past one
abbrev pub landed_to : (last : ℕ) → Numbers → Numbers
landed_to last landed number = landed number && nat_le number last

-- What a mount made is found again, opened at its checkpoint, where the objects have landed that it found.
pub record IsFoundAgain (landed : Numbers) (last : ℕ) (checkpoint : PlainCheckpoint) (made : PlainState) : Type 0 where
  pub may : MayLand made (landed_to last landed)
  pub number : recovered_number (landed_to last landed) made ≡ last
  pub newest : landed_checkpoint (landed_to last landed) made ≡ checkpoint
  pub found : found_in (landed_to last landed) made ≡ folded_to checkpoint.number made

abbrev pub FoundAgain : Type 0
FoundAgain =
    (state : PlainState) (landed : Numbers) → Finds landed state
    → ((found : PlainCommit) → IsPlainVolume (mounted_from landed found state)
    → IsFoundAgain landed (recovered_number landed state) (landed_checkpoint landed state) (mounted_from landed found state))
    × ((log : ℕ) → IsPlainVolume (mounted_on log landed state)
    → IsFoundAgain landed (recovered_number landed state) (landed_checkpoint landed state) (mounted_on log landed state))

-- ---- a volume that is followed from its beginning on

abbrev pub CreatedOpensFirst : Type 0
CreatedOpensFirst = (g : Geometry) → OpensFirst (created_volume g)

abbrev pub EventsKeepOpening : Type 0
EventsKeepOpening = (state : PlainState) (event : PlainEvent) → OpensFirst state → OpensFirst (plain_after event state)

abbrev pub StopsKeepOpening : Type 0
StopsKeepOpening = (state : PlainState) (calls : ℕ) → OpensFirst state → OpensFirst (stopping_after_calls calls state)

abbrev pub MountsKeepOpening : Type 0
MountsKeepOpening =
    (state : PlainState) (landed : Numbers) (found : PlainCommit) (log : ℕ) → OpensFirst state
    → OpensFirst (mounted_from landed found state) × OpensFirst (mounted_on log landed state)

-- each owner is an object of its own, after the first one and not past the number, or the ancestor's that the volume opens with
-- there
abbrev pub IsOwnPast : (number : ℕ) → Owner → Type 0
IsOwnPast number owner = (owner.level ≡ 0) × (1 < owner.number) × (owner.number ≤ number)

abbrev pub IsInheritedAt : PlainState → (k : ℕ) → Owner → Type 0
IsInheritedAt state k owner = (1 ≤ owner.level) × (slice_index_or state.owned k None ≡ Some owner)

abbrev pub OwnersArePast : Type 0
OwnersArePast =
    (state : PlainState) (number k : ℕ) (owner : Owner) → OpensFirst state → owners (stream_in state) number k ≡ Some owner
    → IsOwnPast number owner ⊎ IsInheritedAt state k owner

-- ---- its checkpoints

-- no event and no mount goes back to an earlier checkpoint
abbrev pub CheckpointGoesOn : Type 0
CheckpointGoesOn =
    (state : PlainState) → IsPlainVolume state
    → ((event : PlainEvent) → state.checkpoint.number ≤ (plain_after event state).checkpoint.number)
    × ((landed : Numbers) (found : PlainCommit) → state.checkpoint.number ≤ (mounted_from landed found state).checkpoint.number)
    × ((landed : Numbers) (log : ℕ) → state.checkpoint.number ≤ (mounted_on log landed state).checkpoint.number)

-- Of the objects from the newest acknowledged checkpoint on, past the one that the volume opens at, just those are checkpoints
-- that it has for the newest acknowledged one or for open ones. What was removed was given out for it, and so was what is being
-- removed.
pub record SealsCheckpoints (state : PlainState) : Type 0 where
  pub sealed : (number : ℕ) → state.number < number → is_checkpoint_from state number ≡ true
      → (end : ℕ) × (slice_get state.objects (number - (state.number + 1)) ≡ Some (record { content = Checkpoint; end = end }))
  pub marked : (number end : ℕ) → state.number < number → state.checkpoint.number ≤ number
      → slice_get state.objects (number - (state.number + 1)) ≡ Some (record { content = Checkpoint; end = end })
      → is_checkpoint_from state number ≡ true
  pub removed : (number : ℕ) → has state.removed number ≡ true → has state.given_out number ≡ true
  pub out : IfSome state.removal (λ number. has state.given_out number ≡ true)

abbrev pub CreatedSealsCheckpoints : Type 0
CreatedSealsCheckpoints = (g : Geometry) → SealsCheckpoints (created_volume g)

abbrev pub EventsSealCheckpoints : Type 0
EventsSealCheckpoints =
    (state : PlainState) (event : PlainEvent) → IsPlainVolume state → SealsCheckpoints state
    → SealsCheckpoints (plain_after event state)

abbrev pub StopsSealCheckpoints : Type 0
StopsSealCheckpoints =
    (state : PlainState) (calls : ℕ) → SealsCheckpoints state → SealsCheckpoints (stopping_after_calls calls state)

abbrev pub MountsSealCheckpoints : Type 0
MountsSealCheckpoints =
    (state : PlainState) (landed : Numbers) (found : PlainCommit) (log : ℕ) → IsPlainVolume state → SealsCheckpoints state
    → SealsCheckpoints (mounted_from landed found state) × SealsCheckpoints (mounted_on log landed state)

-- An object that the newest checkpoint that has landed maps: it has landed too, and was never given out for removal; it is
-- acknowledged, and before that checkpoint.
pub record IsMappedThere (landed : Numbers) (state : PlainState) (number : ℕ) : Type 0 where
  pub there : IsTrue (landed number)
  pub not_given_out : has state.given_out number ≡ false
  pub some : 0 < number
  pub reached : number ≤ frontier_of state
  pub before : number < (landed_checkpoint landed state).number

abbrev pub MappedHaveLanded : Type 0
MappedHaveLanded =
    (state : PlainState) (landed : Numbers) (number : ℕ) → IsPlainVolume state → MayLand state landed → OpensFirst state
    → SealsCheckpoints state → maps (landed_checkpoint landed state) number ≡ true → IsMappedThere landed state number
