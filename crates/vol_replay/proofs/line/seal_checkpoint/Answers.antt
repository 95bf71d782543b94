use Rattle.plain_disk.specs.declared.event.PlainEvent.TheVariants as events
use Rattle.replay_script.specs.declared.command.Command.TheVariants as commands
use Rattle.vol_replay.proofs.Commands.{event_in}
use Rattle.vol_replay.proofs.line.seal_checkpoint.Goals as goal

pub returns-clause-ok : goal.returns-clause-ok
returns-clause-ok c = record {
  by = event_in commands.SealCheckpoint events.SealCheckpoint c.in_ok-seal_checkpoint.field-0 c.args.rig.now
      c.seal_checkpoint.new.self (λ plain text next shown steps. steps) c.in_ok-seal_checkpoint.ensures.ok;
}
