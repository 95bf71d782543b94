use Rattle.std.proofs.Common.{◌+◌, sym, ◌∙◌, ap, subst, arith}
use Rattle.std.specs.Prelude.{IfOk}
use Rattle.plain_disk.specs.declared.event.PlainEvent.TheVariants as events
use Rattle.vol_core.specs.declared.reply.Reply.TheVariants as told
use Rattle.replay_rig.specs.declared.answer.Answer.TheVariants as answers
use Rattle.replay_rig.specs.Steps.{AnswersEvent}
use Rattle.replay_rig.specs.Rig.{RigState, rig_of, ShowsPlain}
use Rattle.replay_rig.proofs.Copies.{held_still, copy_held}
use Rattle.replay_rig.proofs.Planning.{plan_shows, plan_refused, plan_stays, plan_copied, none_before, copy_given_up}
use Rattle.replay_rig.proofs.Rooms.{few_steps}
use Rattle.replay_rig.proofs.rig.Rig.plan_copy.Goals as goal

pub step-requires-clause-steps : goal.step-requires-clause-steps
step-requires-clause-steps c =
    let inside = c.self.inside in
    let old : RigState = rig_of inside.volume inside.store inside.puts.list inside.is_stopping inside.lines in
    let lines = ap (λ (r : RigState). r.lines) c.self.view_is in
    omega (arith, few_steps old c.self.invariant.0.0 c.self.invariant.0.1, lines, c.requires)

pub step-requires-clause-receipt : goal.step-requires-clause-receipt
step-requires-clause-receipt c = tt

pub invariant_of-self : goal.invariant_of-self
invariant_of-self c =
    let inside = c.self.inside in
    let old : RigState = rig_of inside.volume inside.store inside.puts.list inside.is_stopping inside.lines in
    let now = c.step.new.self in (
      plan_shows old now c.step.result c.self.invariant.0.0 c.step.ensures c.self.invariant.0.1,
      held_still inside.volume.volume.plan now.volume.plan inside.copied
          (plan_stays c.step.result inside.volume.volume.plan now.volume.plan c.in_default.not-Copying
          c.step.ensures.step.copying) c.self.invariant.1,
    )

pub returns-in_default : goal.returns-in_default
returns-in_default c =
    let inside = c.self.inside in
    let old : RigState = rig_of inside.volume inside.store inside.puts.list inside.is_stopping inside.lines in
    let now : RigState = rig_of c.step.new.self inside.store inside.puts.list inside.is_stopping (inside.lines + 1) in
    record {
      ok = subst (λ r. IfOk c.answer_of.result (λ answer. AnswersEvent events.PlanCopy answer r now)) c.self.view_is
          (plan_refused old c.step.new.self c.step.result c.answer_of.result c.in_default.not-Copying c.step.ensures
          c.answer_of.ensures);
      lines = (let same = ap (λ (r : RigState). r.lines) c.self.view_is in omega (arith, same));
    }

pub invariant_of-self-in-Ok : goal.invariant_of-self-in-Ok
invariant_of-self-in-Ok c =
    let inside = c.self.inside in
    let old : RigState = rig_of inside.volume inside.store inside.puts.list inside.is_stopping inside.lines in
    let now = c.step.new.self in
    let plan = c.in-Copying.plan in
    let shown = plan_shows old now (told.Copying plan) c.self.invariant.0.0 c.in-Copying.ensures c.self.invariant.0.1 in (
      (
        shown.0,
        subst (λ objects. ShowsPlain (rig_of now objects inside.puts.list inside.is_stopping (inside.lines + 1)) shown.0)
            (sym c.copied_by.ensures.store) shown.1,
      ),
      copy_held now.volume.plan plan c.in-Ok.copied c.in-Copying.ensures.step.copying c.in-Ok.ensures.copied,
    )

pub returns-in-Ok-clause-ok : goal.returns-in-Ok-clause-ok
returns-in-Ok-clause-ok c =
    let inside = c.self.inside in
    let old : RigState = rig_of inside.volume inside.store inside.puts.list inside.is_stopping inside.lines in
    let count = c.sectors.result in
    let now : RigState = rig_of c.step.new.self inside.store inside.puts.list inside.is_stopping (inside.lines + 1) in
    let shown : AnswersEvent events.PlanCopy (answers.Copied count) old now =
    plan_copied old c.step.new.self c.in-Copying.plan count c.sectors.ensures.sectors c.in-Copying.ensures in
    subst (λ objects. AnswersEvent events.PlanCopy (answers.Copied count) c.args.self.now
    (rig_of c.step.new.self objects inside.puts.list inside.is_stopping (inside.lines + 1)))
    (sym c.copied_by.ensures.store)
    (subst (λ r. AnswersEvent events.PlanCopy (answers.Copied count) r now) c.self.view_is shown)

pub returns-in-Ok-clause-lines : goal.returns-in-Ok-clause-lines
returns-in-Ok-clause-lines c = (let same = ap (λ (r : RigState). r.lines) c.self.view_is in omega (arith, same))

pub step-requires-in-Err-clause-steps : goal.step-requires-in-Err-clause-steps
step-requires-in-Err-clause-steps c =
    let inside = c.self.inside in
    let old : RigState = rig_of inside.volume inside.store inside.puts.list inside.is_stopping inside.lines in
    let lines = ap (λ (r : RigState). r.lines) c.self.view_is in
    omega (arith, few_steps old c.self.invariant.0.0 c.self.invariant.0.1, c.in-Copying.ensures.count, lines, c.requires)

pub step-requires-in-Err-clause-receipt : goal.step-requires-in-Err-clause-receipt
step-requires-in-Err-clause-receipt c = tt

pub invariant_of-self-in-Err : goal.invariant_of-self-in-Err
invariant_of-self-in-Err c =
    let inside = c.self.inside in
    let old : RigState = rig_of inside.volume inside.store inside.puts.list inside.is_stopping inside.lines in
    let known = c.self.invariant.0 in
    let plan = c.in-Copying.plan in
    let now = c.step-in-Err.new.self in
    let gone = copy_given_up old c.step.new.self now plan c.step-in-Err.result known.0 c.in-Copying.ensures c.step-in-Err.ensures
    known.1 in
    let was = none_before old c.step.new.self plan known.0 c.in-Copying.ensures known.1 in (
      (
        gone.plain,
        subst (λ objects. ShowsPlain (rig_of now objects inside.puts.list inside.is_stopping (inside.lines + 1)) gone.plain)
            (sym c.copied_by.ensures.store) gone.shows,
      ),
      held_still inside.volume.volume.plan now.volume.plan inside.copied (gone.none ∙ sym was) c.self.invariant.1,
    )

pub returns-clause-lines : goal.returns-clause-lines
returns-clause-lines c = (let same = ap (λ (r : RigState). r.lines) c.self.view_is in omega (arith, same))
