use Rattle.std.proofs.Common.{◌+◌, ◌∙◌, ap, subst, arith}
use Rattle.std.specs.Prelude.{IfOk}
use Rattle.replay_rig.specs.Steps.{AnswersAsked}
use Rattle.replay_rig.specs.Rig.{RigState, rig_of}
use Rattle.replay_rig.proofs.Says.{counted_receipt}
use Rattle.replay_rig.proofs.Rooms.{untouched_rig, few_steps, counted_shows, counted_answers}
use Rattle.replay_rig.proofs.Copies.{held_still, counted_plan, untouched_plan}
use Rattle.replay_rig.proofs.rig.Rig.answer.Goals as goal

pub step-requires-clause-steps : goal.step-requires-clause-steps
step-requires-clause-steps c =
    let inside = c.self.inside in
    let old : RigState = rig_of inside.volume inside.store inside.puts.list inside.is_stopping inside.lines in
    let lines = ap (λ (r : RigState). r.lines) c.self.view_is in
    omega (
      arith,
      few_steps old c.self.invariant.0.0 c.self.invariant.0.1,
      c.make_room.ensures.same.steps,
      lines,
      c.requires.lines,
    )

pub step-requires-clause-receipt : goal.step-requires-clause-receipt
step-requires-clause-receipt c = counted_receipt c.args.event c.requires.counted

pub invariant_of-self-in-Err : goal.invariant_of-self-in-Err
invariant_of-self-in-Err c =
    let inside = c.self.inside in
    let old : RigState = rig_of inside.volume inside.store inside.puts.list inside.is_stopping inside.lines in
    let known = c.self.invariant.0 in
    let room = c.make_room.new.volume in (
      (known.0, untouched_rig old room (inside.lines + 1) known.0 (omega arith) known.1 c.make_room.ensures.same),
      held_still inside.volume.volume.plan room.volume.plan inside.copied
          (untouched_plan inside.volume room c.make_room.ensures.same) c.self.invariant.1,
    )

pub invariant_of-self : goal.invariant_of-self
invariant_of-self c =
    let inside = c.self.inside in
    let old : RigState = rig_of inside.volume inside.store inside.puts.list inside.is_stopping inside.lines in
    let room = c.make_room.new.volume in
    let now = c.step.new.self in (
      counted_shows c.args.event c.step.result old room now c.self.invariant.0.0 c.requires.counted
          c.make_room.ensures.same c.in-Ok.ensures.room c.step.ensures c.self.invariant.0.1,
      held_still inside.volume.volume.plan now.volume.plan inside.copied
          (counted_plan c.args.event c.step.result room.volume.plan now.volume.plan c.requires.counted
          c.step.ensures.step.copying
          ∙ untouched_plan inside.volume room c.make_room.ensures.same) c.self.invariant.1,
    )

pub returns-in-Ok-clause-ok : goal.returns-in-Ok-clause-ok
returns-in-Ok-clause-ok c =
    let inside = c.self.inside in
    let old : RigState = rig_of inside.volume inside.store inside.puts.list inside.is_stopping inside.lines in
    let now : RigState = rig_of c.step.new.self inside.store inside.puts.list inside.is_stopping (inside.lines + 1) in
    subst (λ r. IfOk c.answer_of.result (λ answer. AnswersAsked c.args.event answer r now)) c.self.view_is
    (counted_answers c.args.event c.step.result old c.make_room.new.volume c.step.new.self c.answer_of.result
    c.requires.counted c.make_room.ensures.same c.in-Ok.ensures.room c.step.ensures c.answer_of.ensures)

pub returns-in-Ok-clause-lines : goal.returns-in-Ok-clause-lines
returns-in-Ok-clause-lines c = (let same = ap (λ (r : RigState). r.lines) c.self.view_is in omega (arith, same))

pub returns-in-Err-clause-lines : goal.returns-in-Err-clause-lines
returns-in-Err-clause-lines c = (let same = ap (λ (r : RigState). r.lines) c.self.view_is in omega (arith, same))
