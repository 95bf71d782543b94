use Rattle.plain_disk.specs.declared.event.PlainEvent.TheVariants as events
use Rattle.replay_script.specs.declared.command.Command.TheVariants as commands
use Rattle.vol_replay.proofs.Commands.{event_in}
use Rattle.vol_replay.proofs.line.begin_put.Goals as goal

pub returns-clause-ok : goal.returns-clause-ok
returns-clause-ok c = record {
  by = event_in commands.TakeJob events.TakeJob c.in_ok-begin_put.field-0 c.args.rig.now c.begin_put.new.self
      (λ plain text next shown steps. steps) c.in_ok-begin_put.ensures.ok;
}
