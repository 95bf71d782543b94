use Rattle.std.proofs.Common.{◌≡◌, ◌+◌, refl, sym, ◌∙◌, ap, subst, arith}
use Rattle.std.specs.Prelude.{true, Option, Some, is_some, Ok, IfOk}
use Rattle.gc_copier.specs.Copying.{CopiedState}
use Rattle.plain_disk.specs.declared.event.PlainEvent.TheVariants as events
use Rattle.vol_core.specs.declared.reply.Reply.TheVariants as told
use Rattle.replay_rig.specs.declared.answer.Answer.TheVariants as answers
use Rattle.replay_rig.specs.Held.{IsHeldCopy}
use Rattle.replay_rig.specs.Steps.{AnswersEvent}
use Rattle.replay_rig.specs.Rig.{RigState, rig_of}
use Rattle.replay_rig.proofs.Copies.{held_still, none_held, held_planned, some_held}
use Rattle.replay_rig.proofs.Planning.{seal_shows, seal_answers, sealed_or_refused}
use Rattle.replay_rig.proofs.Rooms.{few_steps}
use Rattle.replay_rig.proofs.rig.Rig.seal_copy.Goals as goal

pub unwrap-copied-requires : goal.unwrap-copied-requires
unwrap-copied-requires c =
    let inside = c.self.inside in
    let old : RigState = rig_of inside.volume inside.store inside.puts.list inside.is_stopping inside.lines in
    subst (λ (o : Option CopiedState). is_some o ≡ true) (sym c.take.ensures.value)
    (some_held old c.args.self.now inside.copied c.self.view_is c.self.invariant.0 c.self.invariant.1 c.requires.out)

pub step-requires-clause-steps : goal.step-requires-clause-steps
step-requires-clause-steps c =
    let inside = c.self.inside in
    let old : RigState = rig_of inside.volume inside.store inside.puts.list inside.is_stopping inside.lines in
    let lines = ap (λ (r : RigState). r.lines) c.self.view_is in
    omega (arith, few_steps old c.self.invariant.0.0 c.self.invariant.0.1, lines, c.requires.lines)

pub step-requires-clause-receipt : goal.step-requires-clause-receipt
step-requires-clause-receipt c = tt

pub invariant_of-self-in-NotSealed : goal.invariant_of-self-in-NotSealed
invariant_of-self-in-NotSealed c =
    let inside = c.self.inside in
    let old : RigState = rig_of inside.volume inside.store inside.puts.list inside.is_stopping inside.lines in
    let was = inside.volume.volume.plan in
    let now = c.step.new.self in
    let known = c.self.invariant.0 in
    let held = subst (IsHeldCopy was) (sym c.take.ensures.value ∙ c.unwrap-copied.ensures) c.self.invariant.1 in
    let of = c.in-NotSealed.ensures in (
      seal_shows old now c.unwrap-copied.result (told.NotSealed c.in-NotSealed.copied c.in-NotSealed.why) known.0
          (held_planned was c.unwrap-copied.result held) of known.1,
      subst (λ copied. IsHeldCopy now.volume.plan (Some copied)) (sym of.step.back)
          (held_still was now.volume.plan (Some c.unwrap-copied.result) of.step.copying held),
    )

pub returns-in-NotSealed-clause-ok : goal.returns-in-NotSealed-clause-ok
returns-in-NotSealed-clause-ok c =
    let inside = c.self.inside in
    let old : RigState = rig_of inside.volume inside.store inside.puts.list inside.is_stopping inside.lines in
    let was = inside.volume.volume.plan in
    let now : RigState = rig_of c.step.new.self inside.store inside.puts.list inside.is_stopping (inside.lines + 1) in
    let held = subst (IsHeldCopy was) (sym c.take.ensures.value ∙ c.unwrap-copied.ensures) c.self.invariant.1 in
    subst (λ r. IfOk c.answer_of_seal.result (λ answer. AnswersEvent (events.SealCopy true) answer r now)) c.self.view_is
    (seal_answers old c.step.new.self c.unwrap-copied.result (told.NotSealed c.in-NotSealed.copied c.in-NotSealed.why)
    c.answer_of_seal.result (held_planned was c.unwrap-copied.result held) c.in-NotSealed.ensures c.answer_of_seal.ensures)

pub returns-in-NotSealed-clause-lines : goal.returns-in-NotSealed-clause-lines
returns-in-NotSealed-clause-lines c = (let same = ap (λ (r : RigState). r.lines) c.self.view_is in omega (arith, same))

pub invariant_of-self : goal.invariant_of-self
invariant_of-self c =
    let inside = c.self.inside in
    let old : RigState = rig_of inside.volume inside.store inside.puts.list inside.is_stopping inside.lines in
    let was = inside.volume.volume.plan in
    let now = c.step.new.self in
    let known = c.self.invariant.0 in
    let held = subst (IsHeldCopy was) (sym c.take.ensures.value ∙ c.unwrap-copied.ensures) c.self.invariant.1 in
    let of = c.in-Sealed.ensures in (
      seal_shows old now c.unwrap-copied.result (told.Sealed c.in-Sealed.number) known.0
          (held_planned was c.unwrap-copied.result held) of
          known.1,
      subst (IsHeldCopy now.volume.plan) (sym c.take.ensures.after) (none_held now.volume.plan of.step.copying),
    )

pub returns-in-Sealed-clause-ok : goal.returns-in-Sealed-clause-ok
returns-in-Sealed-clause-ok c =
    let inside = c.self.inside in
    let old : RigState = rig_of inside.volume inside.store inside.puts.list inside.is_stopping inside.lines in
    let was = inside.volume.volume.plan in
    let number = c.in-Sealed.number in
    let now : RigState = rig_of c.step.new.self inside.store inside.puts.list inside.is_stopping (inside.lines + 1) in
    let held = subst (IsHeldCopy was) (sym c.take.ensures.value ∙ c.unwrap-copied.ensures) c.self.invariant.1 in
    subst (λ r. AnswersEvent (events.SealCopy true) (answers.Sealed number) r now) c.self.view_is
    (seal_answers old c.step.new.self c.unwrap-copied.result (told.Sealed number) (Ok (answers.Sealed number))
    (held_planned was c.unwrap-copied.result held) c.in-Sealed.ensures refl)

pub returns-in-Sealed-clause-lines : goal.returns-in-Sealed-clause-lines
returns-in-Sealed-clause-lines c = (let same = ap (λ (r : RigState). r.lines) c.self.view_is in omega (arith, same))

pub unreachable-requires : goal.unreachable-requires
unreachable-requires c =
    sealed_or_refused c.unwrap-copied.result c.step.result c.step.ensures.step.back c.in_default.not-Sealed
    c.in_default.not-NotSealed
