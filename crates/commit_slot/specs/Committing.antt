-- Contract: what `commit` promises.
use Rattle.std.specs.Prelude.{◌+◌}
use Rattle.lsvd_device.specs.Device.{HoldsNow}
use Rattle.lsvd_device.specs.Memory.{IsSynced}
use Rattle.commit_body.specs.declared.body.CommitBody.{CommitBody}
use Rattle.commit_slot.specs.Commits.{CommitsState, LeavesSince, LeavesNow, IsCommit, IsLastOr, IsMade, IsBegun, IsMadeInPart}
use Rattle.commit_slot.specs.Commits.{FailsIn, finished_number}
use Rattle.commit_slot.specs.LogArea.{MakesLogAreaDurable, IsCommittingSince}

-- the commit is made: each stop leaves it, with all that was written to the log area before
pub record IsCommitted (body : CommitBody) (old new : CommitsState) : Type 0 where
  pub made : IsMade body old new
  pub stands : LeavesNow (IsCommit (finished_number old.number old.unfinished + 1) body) new.disk
  pub durable : MakesLogAreaDurable old.disk.moments new.disk.moments
  pub synced : HoldsNow IsSynced new.disk.moments

-- It failed, at some call of one of its halves. Where its second half is left, the log area outlasts a stop.
pub record FailsToCommit (body : CommitBody) (old new : CommitsState) : Type 0 where
  pub made : IsMadeInPart body old new
  pub halves : FailsIn body old new
  pub durable : IsBegun body old new → MakesLogAreaDurable old.disk.moments new.disk.moments

-- At each moment of it a stop leaves the last commit, the unfinished one or this one; and this one only with all that was
-- written to the log area before.
pub record IsCrashSafeCommit (body : CommitBody) (old new : CommitsState) : Type 0 where
  pub stands : LeavesSince (IsLastOr old body) old.disk new.disk
  pub log_area : IsCommittingSince old body new.disk
