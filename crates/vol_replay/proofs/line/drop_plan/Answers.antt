use Rattle.vol_replay.proofs.Commands.{plan_is_out, drop_not_allowed, drop_plan_in}
use Rattle.vol_replay.proofs.line.drop_plan.Goals as goal

pub returns-then-not-has_copy-clause-refused : goal.returns-then-not-has_copy-clause-refused
returns-then-not-has_copy-clause-refused c =
    drop_not_allowed c.has_copy.result c.args.rig.now c.if-not-has_copy.true c.has_copy.ensures

pub drop_plan-requires-clause-out : goal.drop_plan-requires-clause-out
drop_plan-requires-clause-out c = plan_is_out c.has_copy.result c.args.rig.now c.if-not-has_copy.false c.has_copy.ensures

pub returns-clause-ok : goal.returns-clause-ok
returns-clause-ok c = record {
  by = drop_plan_in c.in_ok-drop_plan.field-0 c.args.rig.now c.drop_plan.new.self
      (plan_is_out c.has_copy.result c.args.rig.now c.if-not-has_copy.false c.has_copy.ensures) c.in_ok-drop_plan.ensures.ok;
}
