-- Contract: what holds in each state that a script reaches.
use Rattle.std.specs.Prelude.{ℕ, ◌≤◌, Some, Bool, List}
use Rattle.object_stream.specs.Landed.{Numbers}
use Rattle.plain_disk.specs.Cache.{kept_commit}
use Rattle.plain_disk.specs.State.{PlainState, history_length, frontier_end}
use Rattle.plain_disk.specs.Stops.{recovered_end, kept_count}
use Rattle.plain_disk.specs.Valid.{MayLand}
use Rattle.transcript.specs.Transcript.{IsTranscript, AllAnswered}

-- a script whose lines are all answered ends with this volume
abbrev pub Reaches : List ℕ → PlainState → Type 0
Reaches script plain = (text : List ℕ) × IsTranscript script text (AllAnswered (Some plain))

-- What a stop keeps, whichever objects have landed: with the cache each entry that was flushed, and each of the objects up to the
-- frontier, and no more than were taken; without it those of the objects up to the first missing one.
pub record IsKeptByStops (plain : PlainState) (landed : Numbers) (kept : List Bool) : Type 0 where
  pub flushed : plain.cache.log.last.head.seq ≤ kept_count landed (kept_commit kept plain.cache) plain
  pub settled : frontier_end plain ≤ recovered_end landed plain
  pub recovered : recovered_end landed plain ≤ kept_count landed (kept_commit kept plain.cache) plain
  pub taken : kept_count landed (kept_commit kept plain.cache) plain ≤ history_length plain

abbrev pub StopsKeepFlushed : Type 0
StopsKeepFlushed =
    (script : List ℕ) (plain : PlainState) (landed : Numbers) (kept : List Bool) → Reaches script plain → MayLand plain landed
    → IsKeptByStops plain landed kept
