use Rattle.std.proofs.Common.{◌∙◌, ap, codes}
use Rattle.std.proofs.lemmas.Result.{IfOk-weaker}
use Rattle.clap.specs.Simple.{app_of_fields}
use Rattle.clap.specs.declared.builder.command.Command.{Command}
use Rattle.clap.specs.declared.builder.command.Command.TheOpen.{Command-F}
use Rattle.command_line.specs.Check.{check_options}
use Rattle.command_line.proofs.Commands.{shape_with}
use Rattle.command_line.proofs.check.check_command.Goals as goal

pub returns-clause-shape : goal.returns-clause-shape
returns-clause-shape c =
    IfOk-weaker c.with_options.result _ _ (λ command adds. shape_with (codes "check") check_options c.about-command.result
    command (ap app_of_fields c.about-command.ensures ∙ c.new.ensures.app) adds) c.with_options.ensures

pub returns-clause-local : goal.returns-clause-local
returns-clause-local c =
    IfOk-weaker c.with_options.result _ _ (λ command adds. adds.local
    (ap (λ (f : Command-F Command). f.has_globals) c.about-command.ensures ∙ c.new.ensures.local)) c.with_options.ensures
