use Rattle.std.proofs.Common.{◌≤◌, length, vec_capacity}
use Rattle.object_table.proofs.Passing.{IsPassing}
use Rattle.object_table.proofs.table.pass_dead.Given as goal

abbrev pub invariant-loop-number : goal.invariant-loop-number
invariant-loop-number l =
    IsPassing l.fn.checkpoint l.fn.rows.items l.rows.items l.dead.items l.free.items
    × (length l.rows.items ≤ vec_capacity l.free)
    × (vec_capacity l.fn.rows ≤ vec_capacity l.rows)
    × (vec_capacity l.fn.dead ≤ vec_capacity l.dead)
    × (vec_capacity l.fn.free ≤ vec_capacity l.free)

abbrev pub decreases-loop-number : goal.decreases-loop-number
decreases-loop-number l = goal.left-loop-number l
