use Rattle.std.proofs.Common.{◌≡◌, ◌≤◌, ℕ, List, length, take, drop, sym, subst}
use Rattle.commit_body.specs.declared.body.Mark.{Mark}
use Rattle.commit_slot.specs.Commits.{CommitsState}
use Rattle.log_room.specs.Room.{Room}
use Rattle.cache_log.specs.declared.row.Row.{Row}
use Rattle.cache_log.specs.Invariant.{IsLog}
use Rattle.cache_log.proofs.log.CacheLog.reserve.Goals as goal

-- the rows are the same, where there is more room for them
with_rows : (dropped : ℕ) (old new : List Row) (place : Room) (mark : Mark) (commits : CommitsState) → new ≡ old
    → (dropped ≤ length old) × IsLog place mark (take dropped old) (drop dropped old) commits
    → (dropped ≤ length new) × IsLog place mark (take dropped new) (drop dropped new) commits
with_rows dropped old new place mark commits same log =
    subst (λ rows. (dropped ≤ length rows) × IsLog place mark (take dropped rows) (drop dropped rows) commits) (sym same) log

pub invariant_of-self : goal.invariant_of-self
invariant_of-self g c =
    with_rows c.self.inside.dropped _ _ c.self.inside.room c.self.inside.tail c.self.inside.commits
    c.in_err-reserve.ensures.items c.self.invariant

pub invariant_of-self-in_default : goal.invariant_of-self-in_default
invariant_of-self-in_default g c =
    with_rows c.self.inside.dropped _ _ c.self.inside.room c.self.inside.tail c.self.inside.commits
    c.in_ok-reserve.ensures.items c.self.invariant

pub invariant_of-self-in_err-resize : goal.invariant_of-self-in_err-resize
invariant_of-self-in_err-resize g c =
    with_rows c.self.inside.dropped _ _ c.self.inside.room c.self.inside.tail c.self.inside.commits
    c.in_ok-reserve.ensures.items c.self.invariant

pub invariant_of-self-else-len-bytes : goal.invariant_of-self-else-len-bytes
invariant_of-self-else-len-bytes g c =
    with_rows c.self.inside.dropped _ _ c.self.inside.room c.self.inside.tail c.self.inside.commits
    c.in_ok-reserve.ensures.items c.self.invariant
