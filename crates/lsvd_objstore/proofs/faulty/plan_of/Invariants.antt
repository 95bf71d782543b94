use Rattle.std.proofs.Common.{◌≡◌, ℕ, take}
use Rattle.lsvd_objstore.specs.Faulty.{planned_at, planned_in}
use Rattle.lsvd_objstore.proofs.faulty.plan_of.Given as goal

abbrev pub invariant-loop-fault : goal.invariant-loop-fault
invariant-loop-fault l = (call : ℕ) → planned_at l.plan.entries call ≡ planned_in (take l.fault-index l.planned) call
