use Rattle.std.proofs.Common.{◌+◌, ap, subst, arith}
use Rattle.std.specs.Prelude.{IfOk}
use Rattle.plain_disk.specs.declared.event.PlainEvent.TheVariants as events
use Rattle.replay_rig.specs.Steps.{AnswersEvent}
use Rattle.replay_rig.specs.Rig.{RigState, rig_of}
use Rattle.replay_rig.proofs.Copies.{none_held}
use Rattle.replay_rig.proofs.Planning.{drop_shows, drop_answers}
use Rattle.replay_rig.proofs.Rooms.{few_steps}
use Rattle.replay_rig.proofs.rig.Rig.drop_plan.Goals as goal

pub step-requires-clause-steps : goal.step-requires-clause-steps
step-requires-clause-steps c =
    let inside = c.self.inside in
    let old : RigState = rig_of inside.volume inside.store inside.puts.list inside.is_stopping inside.lines in
    let lines = ap (λ (r : RigState). r.lines) c.self.view_is in
    omega (arith, few_steps old c.self.invariant.0.0 c.self.invariant.0.1, lines, c.requires.lines)

pub step-requires-clause-receipt : goal.step-requires-clause-receipt
step-requires-clause-receipt c = tt

pub invariant_of-self : goal.invariant_of-self
invariant_of-self c =
    let inside = c.self.inside in
    let old : RigState = rig_of inside.volume inside.store inside.puts.list inside.is_stopping inside.lines in
    let known = c.self.invariant.0 in
    let gone = drop_shows old c.step.new.self c.step.result known.0 c.step.ensures known.1 in
    ((gone.plain, gone.shows), none_held c.step.new.self.volume.plan gone.none)

pub returns-clause-ok : goal.returns-clause-ok
returns-clause-ok c =
    let inside = c.self.inside in
    let old : RigState = rig_of inside.volume inside.store inside.puts.list inside.is_stopping inside.lines in
    let now : RigState = rig_of c.step.new.self inside.store inside.puts.list inside.is_stopping (inside.lines + 1) in
    subst (λ r. IfOk c.answer_of.result (λ answer. AnswersEvent events.DropPlan answer r now)) c.self.view_is
    (drop_answers old c.step.new.self c.step.result c.answer_of.result c.step.ensures c.answer_of.ensures)

pub returns-clause-lines : goal.returns-clause-lines
returns-clause-lines c = (let same = ap (λ (r : RigState). r.lines) c.self.view_is in omega (arith, same))
