-- Contract: what a stop of the plain volume leaves, and what a mount makes of it.
use Rattle.std.specs.Prelude.{ℕ, zero, suc, ◌+◌, ◌-◌, Some, None, Bool, List, [], max, take, if◌then◌else◌}
use Rattle.object_stream.specs.Stream.{end_at, last_number}
use Rattle.object_stream.specs.Landed.{Numbers}
use Rattle.plain_disk.specs.declared.log.PlainCommit.{PlainCommit}
use Rattle.plain_disk.specs.Log.{mounted_log, empty_from}
use Rattle.plain_disk.specs.Cache.{cache_with, kept_commit}
use Rattle.plain_disk.specs.State.{PlainState, PlainCheckpoint, stream_in}
use Rattle.plain_disk.specs.Checkpoints.{landed_checkpoint}
use Rattle.plain_disk.specs.Removals.{absent_of}

-- the volume whose device passes this many calls more, and fails each later one
abbrev pub stopping_after_calls : ℕ → PlainState → PlainState
stopping_after_calls calls state = record state { cache = record state.cache { left = Some calls } }

-- ---- what a mount finds

-- Of N numbers after one, the last of those before the first that has not landed.
abbrev pub landed_after : Numbers → (number count : ℕ) → ℕ
landed_after landed number zero = number
landed_after landed number (suc count) = if landed (number + 1) then landed_after landed (number + 1) count else number

-- the number before the first missing one, above the newest checkpoint that has landed
abbrev pub recovered_number : Numbers → PlainState → ℕ
recovered_number landed state =
    let base : ℕ = (landed_checkpoint landed state).number in landed_after landed base (last_number (stream_in state) - base)

-- that object's end: how many entries a mount without the cache finds
abbrev pub recovered_end : Numbers → PlainState → ℕ
recovered_end landed state = end_at (stream_in state) (recovered_number landed state)

-- how many a mount finds with the cache, which a stop left with this commit
abbrev pub kept_count : Numbers → PlainCommit → PlainState → ℕ
kept_count landed commit state = max (recovered_end landed state) commit.head.seq

-- ---- what it makes of it

-- the volume with its first N entries and its objects up to a number, which are acknowledged; no plan is out
abbrev pub cut_to_count : (number count : ℕ) → PlainState → PlainState
cut_to_count number count state = record state {
  entries = take (count - state.end) state.entries;
  objects = take (number - state.number) state.objects;
  window = record { last = number; objects = [] };
  plan = None;
  pins = [];
  removal = None;
}

-- and with what a mount finds: this checkpoint is the newest one, and these objects are gone, of those that were given out for
-- removal
abbrev pub found_with : (number count : ℕ) → PlainCheckpoint → (gone : List ℕ) → PlainState → PlainState
found_with number count checkpoint gone state = record (cut_to_count number count state) {
  checkpoint = checkpoint;
  removed = gone;
  given_out = gone;
}

-- what a mount makes of those that have landed
abbrev pub found_by : Numbers → (count : ℕ) → PlainState → PlainState
found_by landed count state =
    found_with (recovered_number landed state) count (landed_checkpoint landed state) (absent_of landed state.given_out) state

-- with the cache: the log goes on after the commit that is found, and a commit is made
abbrev pub mounted_from : Numbers → (found : PlainCommit) → PlainState → PlainState
mounted_from landed found state =
    record (found_by landed (kept_count landed found state) state) {
      cache = cache_with (mounted_log found (recovered_end landed state) state.cache.log);
    }

-- with the cache that a stop left, which has the commit that it leaves
abbrev pub mounted_kept : Numbers → (kept : List Bool) → PlainState → PlainState
mounted_kept landed kept state = mounted_from landed (kept_commit kept state.cache) state

-- without it, on a new device of the same length
abbrev pub mounted_lost : Numbers → PlainState → PlainState
mounted_lost landed state =
    record (found_by landed (recovered_end landed state) state) {
      cache = cache_with (empty_from state.cache.log.size (recovered_end landed state));
    }

-- without it, on a new device whose log has so many sectors, whatever length the log had
abbrev pub mounted_on : (log : ℕ) → Numbers → PlainState → PlainState
mounted_on log landed state =
    record (found_by landed (recovered_end landed state) state) {
      geometry = record state.geometry { log = log };
      cache = cache_with (empty_from log (recovered_end landed state));
    }
