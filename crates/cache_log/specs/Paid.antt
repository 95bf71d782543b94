-- For this crate's own clauses: how many pieces of a log were read so far.
use Rattle.std.specs.Prelude.{◌≡◌, ℕ, ◌+◌, ◌-◌, ◌*◌, ◌<◌, ◌≤◌, ◌⊎◌, min, true, length}
use Rattle.log_room.specs.Room.{sector_bytes}
use Rattle.log_record.specs.declared.head.Place.{Place}
use Rattle.commit_slot.specs.Commits.{CommitsState}
use Rattle.cache_log.specs.declared.reading_ahead.ReadAhead.{ReadAhead}
use Rattle.cache_log.specs.Rows.{byte_of}
use Rattle.cache_log.specs.Reads.{AreReadOnly, piece_sectors}
use Rattle.cache_log.specs.Invariant.{IsFurther}

-- a place of a log, so many sectors after its tail, where there are `total` from the tail to the head
pub record StandsAfter (log tail total so_far : ℕ) (place : Place) : Type 0 where
  pub tail_inside : tail < log
  pub most : total ≤ log
  pub sum : so_far + place.to_head ≡ total
  pub inside : place.position < log
  pub further : IsFurther log tail so_far place.position

-- it is so at most once, and then P is so
abbrev pub Once : (times : ℕ) → Type 0 → Type 0
Once times P = (times ≡ 0) ⊎ ((times ≡ 1) × P)

-- N pieces were read, of a log with `total` sectors from the tail to the head. The last one begins so many sectors after the
-- tail, and no further on than `so_far`. All were whole, but for one that was cut off at the log's end and one at the head.
pub record IsPaid (log tail total so_far count : ℕ) (ahead : ReadAhead) : Type 0 where
  pub begin : ℕ
  pub from : ℕ
  pub sectors : ℕ
  pub begins : begin ≤ so_far
  pub further : IsFurther log tail begin from
  pub inside : from + sectors ≤ log
  pub within : begin + sectors ≤ total
  pub at : (sectors ≡ 0) ⊎ (ahead.at ≡ byte_of from)
  pub len : ahead.len ≡ sector_bytes * sectors
  pub room : length ahead.buffer.items ≡ sector_bytes * min total piece_sectors
  pub at_end : ℕ
  pub at_head : ℕ
  pub once_at_end : Once at_end (log - tail ≤ begin + sectors)
  pub once_at_head : Once at_head (total ≤ begin + sectors)
  pub most : piece_sectors * count ≤ begin + sectors + piece_sectors * (at_end + at_head)

-- so it stays with the pieces that were read from a place on, `taken` sectors further on
abbrev pub Pays : (log : ℕ) → Place → (taken : ℕ) → ReadAhead → ReadAhead → CommitsState → CommitsState → Type 0
Pays log place taken ahead after old new =
    (tail total so_far count : ℕ) → StandsAfter log tail total so_far place → IsPaid log tail total so_far count ahead
    → (more : ℕ) × AreReadOnly more true old new × IsPaid log tail total (so_far + taken) (count + more) after
