-- Contract: how far a fuse lets the calls of the log get.
use Rattle.std.specs.Prelude.{◌≡◌, ℕ, ◌+◌, ◌⊎◌, Option, Some, None, Bool, true, false}
use Rattle.commit_body.specs.declared.body.CommitBody.{CommitBody}
use Rattle.lsvd_device.specs.Calls.{Fuse, Budget, passes}
use Rattle.commit_slot.specs.Commits.{CommitsState, IsAsBefore, IsFinished, IsBegun}

-- the calls that a disk still passes, where it tells them; none stands for no limit
abbrev pub fuse_in : Option Budget → Fuse
fuse_in None = None
fuse_in (Some budget) = budget.fuse

-- the calls of the second half that was left, where one was
abbrev pub calls_to_finish : Option CommitBody → ℕ
calls_to_finish None = 0
calls_to_finish (Some body) = 2

-- The fuse lets a commit get as far as it got: the second half that was left, the first half, and the second.
abbrev pub LetsCommit : Fuse → (is_made : Bool) → CommitBody → (old new : CommitsState) → Type 0
LetsCommit fuse true body old new = passes fuse (calls_to_finish old.unfinished + 5) ≡ true
LetsCommit fuse false body old new =
    (IsAsBefore old new × (passes fuse (calls_to_finish old.unfinished) ≡ false))
    ⊎ ((IsFinished old new × (passes fuse (calls_to_finish old.unfinished) ≡ true)
    × (passes fuse (calls_to_finish old.unfinished + 3) ≡ false))
    ⊎ (IsBegun body old new × (passes fuse (calls_to_finish old.unfinished + 3) ≡ true)
    × (passes fuse (calls_to_finish old.unfinished + 5) ≡ false)))
