use Rattle.std.proofs.Common.{◌+◌, ◌-◌, ◌≤◌, take, drop}
use Rattle.batcher.specs.Plans.{IsPlanOf}
use Rattle.batcher.proofs.plan.plan_from.Given as goal

abbrev pub invariant-loop-index : goal.invariant-loop-index
invariant-loop-index l =
    record {
      planned : IsPlanOf l.geometry.batch (take (l.index - l.from) (drop l.from l.entries.items)) l.plan;
      room : l.room ≤ l.plan.changes.spare + (l.index - l.from);
    }
