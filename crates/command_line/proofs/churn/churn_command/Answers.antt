use Rattle.std.proofs.Common.{◌∙◌, ap}
use Rattle.std.proofs.lemmas.Result.{IfOk-weaker}
use Rattle.clap.specs.Simple.{app_of_fields}
use Rattle.clap.specs.declared.builder.command.Command.{Command}
use Rattle.clap.specs.declared.builder.command.Command.TheOpen.{Command-F}
use Rattle.command_line.proofs.Commands.{adds_local, shape_with_places}
use Rattle.command_line.proofs.churn.churn_command.Goals as goal

pub returns-clause-shape : goal.returns-clause-shape
returns-clause-shape c =
    IfOk-weaker c.arg-2.result _ _ (λ command adds. shape_with_places c.about-command.result c.in_ok-arg.field-0 command
    c.place-steps.result c.place-seed.result (ap app_of_fields c.about-command.ensures ∙ c.new.ensures.app) c.in_ok-arg.ensures
    adds c.place-steps.ensures.local c.place-seed.ensures.local c.place-steps.ensures.rule c.place-seed.ensures.rule)
    c.arg-2.ensures

pub returns-clause-local : goal.returns-clause-local
returns-clause-local c =
    IfOk-weaker c.arg-2.result _ _ (λ command adds. adds_local c.in_ok-arg.field-0 command c.place-seed.result adds
    c.place-seed.ensures.local (adds_local c.about-command.result c.in_ok-arg.field-0 c.place-steps.result c.in_ok-arg.ensures
    c.place-steps.ensures.local (ap (λ (f : Command-F Command). f.has_globals) c.about-command.ensures ∙ c.new.ensures.local)))
    c.arg-2.ensures
