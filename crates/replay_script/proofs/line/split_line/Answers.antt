use Rattle.std.proofs.Common.{◌≡◌, ◌+◌, ◌==◌, position, Some, None}
use Rattle.std.proofs.lemmas.List.{take_rest}
use Rattle.replay_script.proofs.Lines.{lines_of_first, lines_of_last}
use Rattle.replay_script.proofs.line.split_line.Goals as goal

pub returns-in-Some-clause-line : goal.returns-in-Some-clause-line
returns-in-Some-clause-line c =
    let found : position (λ b. b == 10) c.args.script.now ≡ Some c.in-Some.end = cc in
    rw (take_rest c.args.script.now (c.in-Some.end + 1)) (lines_of_first c.args.script.now c.in-Some.end found)

pub returns-in-None-clause-line : goal.returns-in-None-clause-line
returns-in-None-clause-line c =
    let none : position (λ b. b == 10) c.args.script.now ≡ None = cc in
    lines_of_last c.args.script.now c.requires none
