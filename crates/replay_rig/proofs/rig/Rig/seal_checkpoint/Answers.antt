use Rattle.plain_disk.specs.declared.event.PlainEvent.TheVariants as events
use Rattle.vol_core.specs.declared.event.Event.TheVariants.{SealCheckpoint}
use Rattle.replay_rig.proofs.Rooms.{answers_event}
use Rattle.replay_rig.proofs.rig.Rig.seal_checkpoint.Goals as goal

pub returns-clause-ok : goal.returns-clause-ok
returns-clause-ok c =
    answers_event SealCheckpoint events.SealCheckpoint c.args.self.now c.answer.new.self c.answer.result (λ other asks. asks)
    c.answer.ensures.ok
