use Rattle.std.proofs.Common.{◌≡◌, subst}
use Rattle.std.specs.Prelude.{Some, IfOk}
use Rattle.replay_script.specs.declared.command.Command.TheVariants as commands
use Rattle.vol_replay.specs.Lines.{AnswersCommand}
use Rattle.vol_replay.proofs.Commands.{no_crash}
use Rattle.vol_replay.proofs.line.answer_on.Goals as goal

pub returns-in-CrashKeep-clause-ok : goal.returns-in-CrashKeep-clause-ok
returns-in-CrashKeep-clause-ok c =
    let is : commands.CrashKeep c.as_bytes.result.now c.as_bytes-in-CrashKeep.result.now ≡ c.args.command =
    cc (c.as_bytes.ensures, c.as_bytes-in-CrashKeep.ensures, c.in-CrashKeep.is) in
    subst (λ command. IfOk c.crash_keep.result (λ made. AnswersCommand command made.1 (Some c.args.rig) (Some made.0))) is
    c.crash_keep.ensures.ok

pub returns-in-CrashLost-clause-ok : goal.returns-in-CrashLost-clause-ok
returns-in-CrashLost-clause-ok c =
    let is : commands.CrashLost c.as_bytes-in-CrashLost.result.now c.as_bytes-in-CrashLost-2.result.now ≡ c.args.command =
    cc (c.as_bytes-in-CrashLost.ensures, c.as_bytes-in-CrashLost-2.ensures, c.in-CrashLost.is) in
    subst (λ command. IfOk c.crash_lost.result (λ made. AnswersCommand command made.1 (Some c.args.rig) (Some made.0))) is
    c.crash_lost.ensures.ok

pub go_on-requires-clause-goes_on : goal.go_on-requires-clause-goes_on
go_on-requires-clause-goes_on c = no_crash c.args.command c.in_default.not-CrashKeep c.in_default.not-CrashLost
