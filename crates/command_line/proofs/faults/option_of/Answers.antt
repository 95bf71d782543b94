use Rattle.std.proofs.Common.{◌∙◌, sym}
use Rattle.command_line.proofs.Mistakes.{given_is_true}
use Rattle.command_line.proofs.faults.option_of.Goals as goal

pub returns-in-loop-option : goal.returns-in-loop-option
returns-in-loop-option c =
    given_is_true c.args.command.now c.args.word.now c.takes_values.result c.get_action.result
    c.get_arguments-option-items.result.now c.loop-option.option-index c.option-item.result c.in-Some.name
    c.get_arguments-option-items.ensures c.loop-option-test.true c.option-item.is (sym c.get_long.ensures ∙ c.in-Some.is)
    c.get_action.ensures c.takes_values.ensures (sym c.gives.ensures ∙ c.if-gives.true)
