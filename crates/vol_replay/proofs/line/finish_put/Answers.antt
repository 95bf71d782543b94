use Rattle.vol_replay.proofs.Commands.{put_is_out, done_not_allowed, done_in}
use Rattle.vol_replay.proofs.line.finish_put.Goals as goal

pub returns-then-not-is_out-clause-refused : goal.returns-then-not-is_out-clause-refused
returns-then-not-is_out-clause-refused c =
    done_not_allowed c.args.number c.is_out.result c.args.rig.now c.if-not-is_out.true c.is_out.ensures

pub finish_put-requires-clause-out : goal.finish_put-requires-clause-out
finish_put-requires-clause-out c = put_is_out c.args.number c.is_out.result c.args.rig.now c.if-not-is_out.false
    c.is_out.ensures

pub returns-clause-ok : goal.returns-clause-ok
returns-clause-ok c = record {
  by = done_in c.args.number c.in_ok-finish_put.field-0 c.args.rig.now c.finish_put.new.self
      (put_is_out c.args.number c.is_out.result c.args.rig.now c.if-not-is_out.false c.is_out.ensures)
      c.in_ok-finish_put.ensures.ok;
}
