use Rattle.std.proofs.Common.{◌+◌, ◌*◌, replicate, sym, ◌∙◌, ap, subst}
use Rattle.plain_disk.specs.declared.event.PlainEvent.TheVariants as events
use Rattle.vol_core.specs.declared.event.Event.TheVariants.{Write}
use Rattle.replay_rig.specs.declared.answer.Answer.TheVariants as answers
use Rattle.replay_rig.specs.Steps.{AnswersEvent}
use Rattle.replay_rig.specs.Rig.{RigState, rig_of}
use Rattle.replay_rig.proofs.Rooms.{answers_event}
use Rattle.replay_rig.proofs.Refused.{write_range}
use Rattle.replay_rig.proofs.rig.Rig.write.Goals as goal

pub returns-then-not-may_transfer-clause-ok : goal.returns-then-not-may_transfer-clause-ok
returns-then-not-may_transfer-clause-ok c =
    let inside = c.self.inside in
    let old : RigState = rig_of inside.volume inside.store inside.puts.list inside.is_stopping inside.lines in
    let now : RigState = rig_of inside.volume inside.store inside.puts.list inside.is_stopping (inside.lines + 1) in
    subst (λ r. AnswersEvent (events.Write c.args.lba (replicate (512 * c.args.sectors) c.args.byte)) answers.Range r now)
    c.self.view_is
    (write_range old c.args.lba c.args.sectors c.args.byte c.geometry.result c.geometry.ensures.is
    (sym c.if-not-may_transfer.ensures))

pub returns-clause-ok : goal.returns-clause-ok
returns-clause-ok c =
    answers_event (Write c.args.lba c.in_ok-body.body) (events.Write c.args.lba (replicate (512 * c.args.sectors) c.args.byte))
    c.args.self.now c.answer.new.self c.answer.result
    (λ other asks. asks ∙ ap (events.Write c.args.lba) c.in_ok-body.ensures) c.answer.ensures.ok
