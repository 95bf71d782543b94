use Rattle.std.proofs.Common.{◌≡◌, arith, subst}
use Rattle.vol_replay.specs.Steps.{HasRun}
use Rattle.vol_replay.proofs.Churned.{run_first, run_next, run_shows}
use Rattle.vol_replay.proofs.churning.run_steps.Goals as goal

pub loop-init : goal.loop-init
loop-init c = record {
  run = run_first c.args.seed c.new-draws.result c.in_ok-rig.rig c.new-draws.ensures c.in_ok-rig.ensures.shows;
  young = omega (arith, c.in_ok-rig.ensures.lines);
  counted = omega arith;
}

pub take_next-requires-clause-shows : goal.take_next-requires-clause-shows
take_next-requires-clause-shows c =
    run_shows c.args.seed c.loop.counter c.loop.draws c.loop.mounts c.loop.rig c.loop.invariant.run

pub loop-preserved : goal.loop-preserved
loop-preserved c = record {
  run = run_next c.args.seed c.loop.counter c.loop.draws c.take_next.new.draws c.loop.mounts c.in_ok-next.mounted c.loop.rig
      c.in_ok-next.next c.loop.invariant.run c.in_ok-next.ensures.takes c.in_ok-next.ensures.draws;
  young = omega (arith, c.in_ok-next.ensures.lines, c.loop.invariant.young);
  counted = omega (arith, c.in_ok-next.ensures.once, c.loop.invariant.counted);
}

pub returns-clause-run : goal.returns-clause-run
returns-clause-run c =
    let all : c.loop.counter ≡ c.args.steps = omega (arith, c.loop-test.false, c.loop.auto.counter-end) in (
      c.loop.draws,
      subst (λ steps. HasRun c.args.seed steps c.loop.draws c.loop.mounts c.loop.rig) all c.loop.invariant.run,
    )
