use Rattle.vol_replay.proofs.Commands.{put_is_out, failed_not_allowed, failed_in}
use Rattle.vol_replay.proofs.line.fail_put.Goals as goal

pub returns-then-not-is_out-clause-refused : goal.returns-then-not-is_out-clause-refused
returns-then-not-is_out-clause-refused c =
    failed_not_allowed c.args.number c.is_out.result c.args.rig.now c.if-not-is_out.true c.is_out.ensures

pub fail_put-requires-clause-out : goal.fail_put-requires-clause-out
fail_put-requires-clause-out c = put_is_out c.args.number c.is_out.result c.args.rig.now c.if-not-is_out.false c.is_out.ensures

pub returns-clause-ok : goal.returns-clause-ok
returns-clause-ok c = record {
  by = failed_in c.args.number c.in_ok-fail_put.field-0 c.args.rig.now c.fail_put.new.self
      (put_is_out c.args.number c.is_out.result c.args.rig.now c.if-not-is_out.false c.is_out.ensures)
      c.in_ok-fail_put.ensures.ok;
}
