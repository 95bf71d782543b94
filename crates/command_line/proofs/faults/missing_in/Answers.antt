use Rattle.std.proofs.Common.{◌∙◌, sym}
use Rattle.command_line.proofs.Mistakes.{missing_is_true}
use Rattle.command_line.proofs.faults.missing_in.Goals as goal

pub returns-in-loop-option : goal.returns-in-loop-option
returns-in-loop-option c =
    missing_is_true c.args.command.now c.args.words.now c.get_arguments-option-items.result.now c.loop-option.option-index
    c.option-item.result c.in-Some.name c.get_arguments-option-items.ensures c.loop-option-test.true c.option-item.is
    (sym c.is_required_set.ensures ∙ c.if-is_required_set.true) (sym c.get_long.ensures ∙ c.in-Some.is)
    (sym c.if-not-is_given.ensures)
