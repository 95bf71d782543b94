use Rattle.std.proofs.Common.{false}
use Rattle.std.proofs.lemmas.List.{take_more}
use Rattle.lsvd_objstore.specs.declared.faulty.PlannedFault.{PlannedFault}
use Rattle.lsvd_objstore.proofs.Plans.{same_call, planned_in-more}
use Rattle.lsvd_objstore.proofs.faulty.plan_of.Goals as goal

pub loop-fault-preserved : goal.loop-fault-preserved
loop-fault-preserved c = λ call.
    let any : PlannedFault = record { call = 0; lands = false } in
    let more = take_more c.args.planned.now c.loop-fault.fault-index any c.loop-fault-test.true in
    rw (more, planned_in-more, ← same_call, ← c.loop-fault.invariant call) (c.in_ok-insert.ensures.updates.0 call)
