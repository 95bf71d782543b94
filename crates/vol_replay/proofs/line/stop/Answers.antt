use Rattle.vol_replay.proofs.Commands.{stop_in, stop_not_allowed, told_once}
use Rattle.vol_replay.proofs.line.stop.Goals as goal

pub returns-then-is_stopping-clause-refused : goal.returns-then-is_stopping-clause-refused
returns-then-is_stopping-clause-refused c = stop_not_allowed c.args.calls c.is_stopping.result c.args.rig.now
    c.if-is_stopping.true c.is_stopping.ensures

pub stop-requires-clause-once : goal.stop-requires-clause-once
stop-requires-clause-once c = told_once c.is_stopping.result c.args.rig.now c.if-is_stopping.false c.is_stopping.ensures

pub returns-clause-ok : goal.returns-clause-ok
returns-clause-ok c = record {
  by = stop_in c.args.calls c.args.rig.now c.stop.new.self c.stop.result c.stop.ensures.answer
      (told_once c.is_stopping.result c.args.rig.now c.if-is_stopping.false c.is_stopping.ensures) c.stop.ensures.stops;
}
