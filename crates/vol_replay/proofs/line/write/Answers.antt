use Rattle.std.specs.Prelude.{◌*◌, replicate}
use Rattle.plain_disk.specs.declared.event.PlainEvent.TheVariants as events
use Rattle.replay_script.specs.declared.command.Command.TheVariants as commands
use Rattle.vol_replay.proofs.Commands.{event_in}
use Rattle.vol_replay.proofs.line.write.Goals as goal

pub returns-clause-ok : goal.returns-clause-ok
returns-clause-ok c = record {
  by = event_in (commands.Write c.args.lba c.args.sectors c.args.byte)
      (events.Write c.args.lba (replicate (512 * c.args.sectors) c.args.byte)) c.in_ok-write.field-0 c.args.rig.now
      c.write.new.self (λ plain text next shown steps. steps) c.in_ok-write.ensures.ok;
}
