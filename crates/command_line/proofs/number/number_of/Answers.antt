use Rattle.std.proofs.Common.{sym, ◌∙◌}
use Rattle.command_line.proofs.Numbers.{no_number, other_number}
use Rattle.command_line.proofs.number.number_of.Goals as goal

pub returns-in_err-number-clause-none : goal.returns-in_err-number-clause-none
returns-in_err-number-clause-none c =
    rw c.from_residual.ensures (no_number c.args.text.now c.parse.result c.parse.ensures.value.0
    (sym c.ok.ensures.value ∙ c.in_err-number.was))

pub returns-clause-none : goal.returns-clause-none
returns-clause-none c =
    rw (c.then_some.ensures, c.eq.ensures)
    (other_number c.args.text.now c.format.result.now c.parse.result c.in_ok-number.number c.parse.ensures.value.0
    (sym c.ok.ensures.value ∙ c.in_ok-number.was) c.format.ensures.text)
