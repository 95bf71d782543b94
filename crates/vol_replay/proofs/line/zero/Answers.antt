use Rattle.plain_disk.specs.declared.event.PlainEvent.TheVariants as events
use Rattle.replay_script.specs.declared.command.Command.TheVariants as commands
use Rattle.vol_replay.proofs.Commands.{event_in}
use Rattle.vol_replay.proofs.line.zero.Goals as goal

pub returns-clause-ok : goal.returns-clause-ok
returns-clause-ok c = record {
  by = event_in (commands.Zero c.args.lba c.args.sectors) (events.Zero c.args.lba c.args.sectors) c.in_ok-zero.field-0
      c.args.rig.now c.zero.new.self (λ plain text next shown steps. steps) c.in_ok-zero.ensures.ok;
}
