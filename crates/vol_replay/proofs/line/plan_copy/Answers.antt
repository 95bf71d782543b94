use Rattle.plain_disk.specs.declared.event.PlainEvent.TheVariants as events
use Rattle.replay_script.specs.declared.command.Command.TheVariants as commands
use Rattle.vol_replay.proofs.Commands.{event_in}
use Rattle.vol_replay.proofs.line.plan_copy.Goals as goal

pub returns-clause-ok : goal.returns-clause-ok
returns-clause-ok c = record {
  by = event_in commands.PlanCopy events.PlanCopy c.in_ok-plan_copy.field-0 c.args.rig.now c.plan_copy.new.self
      (λ plain text next shown steps. steps) c.in_ok-plan_copy.ensures.ok;
}
