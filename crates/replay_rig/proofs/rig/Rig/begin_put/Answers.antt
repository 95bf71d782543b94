use Rattle.std.proofs.Common.{◌+◌, ◌∙◌, ap, subst, arith}
use Rattle.lsvd_names.specs.declared.name.ObjName.{ObjName}
use Rattle.plain_disk.specs.declared.event.PlainEvent.TheVariants as events
use Rattle.plain_disk.specs.Step.{plain_after}
use Rattle.lsvd_objstore.specs.Memory.{told_receipt}
use Rattle.vol_core.specs.declared.event.Event.TheVariants.{TakeJob}
use Rattle.vol_core.specs.declared.reply.Reply.TheVariants as told
use Rattle.vol_core.specs.Step.{CountedStep}
use Rattle.replay_rig.specs.declared.answer.Answer.TheVariants as answers
use Rattle.replay_rig.specs.Steps.{AnswersEvent}
use Rattle.replay_rig.specs.Puts.{with_begun}
use Rattle.replay_rig.specs.Rig.{RigState, rig_of}
use Rattle.replay_rig.proofs.Putting.{begun_none, begun_some}
use Rattle.replay_rig.proofs.Rooms.{few_steps}
use Rattle.replay_rig.proofs.Copies.{held_still}
use Rattle.replay_rig.proofs.rig.Rig.begin_put.Goals as goal

pub step-requires-clause-steps : goal.step-requires-clause-steps
step-requires-clause-steps c =
    let inside = c.self.inside in
    let old : RigState = rig_of inside.volume inside.store inside.puts.list inside.is_stopping inside.lines in
    let lines = ap (λ (r : RigState). r.lines) c.self.view_is in
    omega (arith, few_steps old c.self.invariant.0.0 c.self.invariant.0.1, lines, c.requires)

pub step-requires-clause-receipt : goal.step-requires-clause-receipt
step-requires-clause-receipt c = tt

pub invariant_of-self-in_default : goal.invariant_of-self-in_default
invariant_of-self-in_default c =
    let inside = c.self.inside in
    let old : RigState = rig_of inside.volume inside.store inside.puts.list inside.is_stopping inside.lines in
    let of : CountedStep told_receipt TakeJob c.step.result inside.volume c.step.new.self = c.step.ensures in
    let known = c.self.invariant.0 in (
      (
        plain_after events.TakeJob known.0,
        ((begun_none old c.step.new.self c.step.result c.reserve.new.self.list c.reserve.ensures.list c.in_default.not-Taken
            of).by
            known.0 known.1).1,
      ),
      held_still inside.volume.volume.plan c.step.new.self.volume.plan inside.copied of.step.copying c.self.invariant.1,
    )

pub returns-in_default : goal.returns-in_default
returns-in_default c =
    let inside = c.self.inside in
    let old : RigState = rig_of inside.volume inside.store inside.puts.list inside.is_stopping inside.lines in
    let of : CountedStep told_receipt TakeJob c.step.result inside.volume c.step.new.self = c.step.ensures in
    let now : RigState = rig_of c.step.new.self inside.store c.reserve.new.self.list inside.is_stopping (inside.lines + 1) in
    record {
      ok = subst (λ r. AnswersEvent events.TakeJob answers.Nothing r now) c.self.view_is
          (begun_none old c.step.new.self c.step.result c.reserve.new.self.list c.reserve.ensures.list
          c.in_default.not-Taken of);
      lines = (let same = ap (λ (r : RigState). r.lines) c.self.view_is in omega (arith, same));
    }

pub invariant_of-self-2 : goal.invariant_of-self-2
invariant_of-self-2 c =
    let inside = c.self.inside in
    let old : RigState = rig_of inside.volume inside.store inside.puts.list inside.is_stopping inside.lines in
    let of : CountedStep told_receipt TakeJob (told.Taken c.in-Taken.job) inside.volume c.step.new.self = c.in-Taken.ensures in
    let known = c.self.invariant.0 in
    let same = c.begin.ensures ∙ ap (λ puts. with_begun c.in-Taken.job.name.number c.in-Taken.job.bytes puts)
    c.in_ok-reserve.ensures.list in (
      (
        plain_after events.TakeJob known.0,
        ((begun_some old c.step.new.self c.in-Taken.job c.name.result.now.number c.begin.new.self.list
            (ap (λ (n : ObjName). n.number) c.name.ensures.is) same
            of.order.uploads of).by known.0 known.1).1,
      ),
      held_still inside.volume.volume.plan c.step.new.self.volume.plan inside.copied of.step.copying c.self.invariant.1,
    )

pub returns-clause-ok : goal.returns-clause-ok
returns-clause-ok c =
    let inside = c.self.inside in
    let old : RigState = rig_of inside.volume inside.store inside.puts.list inside.is_stopping inside.lines in
    let of : CountedStep told_receipt TakeJob (told.Taken c.in-Taken.job) inside.volume c.step.new.self = c.in-Taken.ensures in
    let now : RigState = rig_of c.step.new.self inside.store c.begin.new.self.list inside.is_stopping (inside.lines + 1) in
    let same = c.begin.ensures ∙ ap (λ puts. with_begun c.in-Taken.job.name.number c.in-Taken.job.bytes puts)
    c.in_ok-reserve.ensures.list in
    subst (λ r. AnswersEvent events.TakeJob (answers.Put c.name.result.now.number) r now) c.self.view_is
    (begun_some old c.step.new.self c.in-Taken.job c.name.result.now.number c.begin.new.self.list
    (ap (λ (n : ObjName). n.number) c.name.ensures.is) same
    of.order.uploads of)

pub returns-clause-lines : goal.returns-clause-lines
returns-clause-lines c = (let same = ap (λ (r : RigState). r.lines) c.self.view_is in omega (arith, same))

pub returns-in_err-reserve-clause-lines : goal.returns-in_err-reserve-clause-lines
returns-in_err-reserve-clause-lines c = (let same = ap (λ (r : RigState). r.lines) c.self.view_is in omega (arith, same))
