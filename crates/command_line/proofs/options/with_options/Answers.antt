use Rattle.command_line.proofs.Commands.{adds_local, adds_next, adds_no_more}
use Rattle.command_line.proofs.options.with_options.Goals as goal

pub loop-text-preserved : goal.loop-text-preserved
loop-text-preserved c =
    let at = c.loop-text in
    let adds = c.in_ok-command.ensures in (
      adds_next at.command _ c.arg_of.result c.args.options.now at.text-index _ _ adds c.arg_of.ensures.local
          c.arg_of.ensures.rule c.loop-text-test.true at.invariant.0,
      λ local. adds_local at.command _ c.arg_of.result adds c.arg_of.ensures.local (at.invariant.1 local),
    )

pub returns : goal.returns
returns c =
    let at = c.loop-text in
    record {
      app = adds_no_more at.command c.args.options.now at.text-index _ c.loop-text-test.false at.invariant.0;
      local = at.invariant.1;
    }
