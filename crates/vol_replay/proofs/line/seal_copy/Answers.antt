use Rattle.vol_replay.proofs.Commands.{plan_is_out, seal_not_allowed, seal_copy_in}
use Rattle.vol_replay.proofs.line.seal_copy.Goals as goal

pub returns-then-not-has_copy-clause-refused : goal.returns-then-not-has_copy-clause-refused
returns-then-not-has_copy-clause-refused c =
    seal_not_allowed c.has_copy.result c.args.rig.now c.if-not-has_copy.true c.has_copy.ensures

pub seal_copy-requires-clause-out : goal.seal_copy-requires-clause-out
seal_copy-requires-clause-out c = plan_is_out c.has_copy.result c.args.rig.now c.if-not-has_copy.false c.has_copy.ensures

pub returns-clause-ok : goal.returns-clause-ok
returns-clause-ok c = record {
  by = seal_copy_in c.in_ok-seal_copy.field-0 c.args.rig.now c.seal_copy.new.self
      (plan_is_out c.has_copy.result c.args.rig.now c.if-not-has_copy.false c.has_copy.ensures) c.in_ok-seal_copy.ensures.ok;
}
