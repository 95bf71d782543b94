-- For this crate's own clauses: a write to the log, and that of a pad's header.
use Rattle.std.specs.Prelude.{◌≡◌, ℕ, ◌+◌, ◌-◌, ◌<◌, ◌≤◌, ◌⊎◌, true, false, List, [], ◌∷◌, length}
use Rattle.std.specs.List.{AllByRecursion}
use Rattle.lsvd_device.specs.Medium.{after_write}
use Rattle.lsvd_device.specs.Calls.{write_cost}
use Rattle.lsvd_device.specs.Device.{moments_after, FailsToWrite}
use Rattle.lsvd_device.specs.Sequence.{Write}
use Rattle.commit_slot.specs.Commits.{CommitsState, IsAsBefore, IsLast, LeavesSince}
use Rattle.commit_slot.specs.Sequence.{Costs}
use Rattle.commit_slot.specs.OnDisk.{AreOnDisk}
use Rattle.log_room.specs.Room.{Room, pad_before}
use Rattle.log_record.specs.Grammar.{IsHeaderOf}
use Rattle.log_record.specs.declared.head.Head.TheVariants.{Pad}
use Rattle.cache_log.specs.declared.row.Row.{Row}
use Rattle.cache_log.specs.Rows.{byte_of, position_of, record_size}

-- A piece was written to the log, and the commits are as before: whenever the disk stops it reads as before.
pub record IsWrittenAt (at : ℕ) (piece : List ℕ) (old new : CommitsState) : Type 0 where
  pub moments : new.disk.moments ≡ moments_after (after_write at piece) old.disk.moments
  pub same : IsAsBefore old new
  pub crash_safe : LeavesSince (IsLast old) old.disk new.disk
  pub costs : Costs (write_cost (length piece)) (Write at piece ∷ []) true old.disk new.disk
  pub on_disk : AreOnDisk new

-- that write failed
pub record IsNotWrittenAt (at : ℕ) (piece : List ℕ) (old new : CommitsState) : Type 0 where
  pub moments : FailsToWrite at (length piece) old.disk.moments new.disk.moments
  pub same : IsAsBefore old new
  pub crash_safe : LeavesSince (IsLast old) old.disk new.disk
  pub costs : Costs (write_cost (length piece)) (Write at piece ∷ []) false old.disk new.disk
  pub on_disk : AreOnDisk new

-- the header of the pad before a record of N sectors was written
pub record WritesPad (room : Room) (sectors seq : ℕ) (old new : CommitsState) : Type 0 where
  pub needed : 0 < pad_before room sectors
  pub piece : List ℕ
  pub is_pad : IsHeaderOf (Pad (pad_before room sectors - 1)) seq piece
  pub written : IsWrittenAt (byte_of room.head) piece old new

-- so it was where a pad is needed, and else nothing was done
abbrev pub IsPadded : Room → (sectors seq : ℕ) → CommitsState → CommitsState → Type 0
IsPadded room sectors seq old new = ((pad_before room sectors ≡ 0) × (new ≡ old)) ⊎ WritesPad room sectors seq old new

-- that write failed
pub record FailsToPad (room : Room) (sectors seq : ℕ) (old new : CommitsState) : Type 0 where
  pub needed : 0 < pad_before room sectors
  pub piece : List ℕ
  pub is_pad : IsHeaderOf (Pad (pad_before room sectors - 1)) seq piece
  pub not_written : IsNotWrittenAt (byte_of room.head) piece old new

-- the record of a row lies inside a log of so many sectors
abbrev pub RowLiesInside : Row → (log : ℕ) → Type 0
RowLiesInside row log = position_of row + record_size row ≤ log

abbrev pub RowsLieInside : List Row → (log : ℕ) → Type 0
RowsLieInside rows log = AllByRecursion (λ row. RowLiesInside row log) rows
