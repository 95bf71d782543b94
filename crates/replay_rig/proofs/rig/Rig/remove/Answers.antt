use Rattle.std.proofs.Common.{ℕ, ◌+◌, ◌∙◌, ap, subst, arith}
use Rattle.lsvd_names.specs.declared.name.ObjName.{ObjName}
use Rattle.replay_rig.specs.declared.answer.Answer.TheVariants as answers
use Rattle.replay_rig.specs.Steps.{AnswersRemoval}
use Rattle.replay_rig.specs.Rig.{RigState, rig_of}
use Rattle.replay_rig.proofs.Removing.{removed_none, removed_none_shows, removed_some, removed_shows}
use Rattle.replay_rig.proofs.Rooms.{few_steps}
use Rattle.replay_rig.proofs.Copies.{held_still}
use Rattle.replay_rig.proofs.rig.Rig.remove.Goals as goal

pub step-requires-clause-steps : goal.step-requires-clause-steps
step-requires-clause-steps c =
    let inside = c.self.inside in
    let old : RigState = rig_of inside.volume inside.store inside.puts.list inside.is_stopping inside.lines in
    let lines = ap (λ (r : RigState). r.lines) c.self.view_is in
    omega (arith, few_steps old c.self.invariant.0.0 c.self.invariant.0.1, lines, c.requires)

pub step-requires-clause-receipt : goal.step-requires-clause-receipt
step-requires-clause-receipt c = tt

pub invariant_of-self : goal.invariant_of-self
invariant_of-self c =
    let inside = c.self.inside in
    let old : RigState = rig_of inside.volume inside.store inside.puts.list inside.is_stopping inside.lines in
    let known = c.self.invariant.0 in (
      removed_none_shows old c.step.new.self c.step.result known.0 c.in_default.not-Removing c.step.ensures known.1,
      held_still inside.volume.volume.plan c.step.new.self.volume.plan inside.copied c.step.ensures.step.copying
          c.self.invariant.1,
    )

pub returns-in_default : goal.returns-in_default
returns-in_default c =
    let inside = c.self.inside in
    let old : RigState = rig_of inside.volume inside.store inside.puts.list inside.is_stopping inside.lines in
    let now : RigState = rig_of c.step.new.self inside.store inside.puts.list inside.is_stopping (inside.lines + 1) in
    record {
      ok = subst (λ r. AnswersRemoval answers.Nothing r now) c.self.view_is
          (removed_none old c.step.new.self c.step.result c.in_default.not-Removing c.step.ensures);
      lines = (let same = ap (λ (r : RigState). r.lines) c.self.view_is in omega (arith, same));
    }

pub step-requires-2-clause-steps : goal.step-requires-2-clause-steps
step-requires-2-clause-steps c =
    let inside = c.self.inside in
    let old : RigState = rig_of inside.volume inside.store inside.puts.list inside.is_stopping inside.lines in
    let lines = ap (λ (r : RigState). r.lines) c.self.view_is in
    omega (arith, few_steps old c.self.invariant.0.0 c.self.invariant.0.1, c.in-Removing.ensures.count, lines, c.requires)

pub step-requires-2-clause-receipt : goal.step-requires-2-clause-receipt
step-requires-2-clause-receipt c = tt

pub invariant_of-self-2 : goal.invariant_of-self-2
invariant_of-self-2 c =
    let inside = c.self.inside in
    let old : RigState = rig_of inside.volume inside.store inside.puts.list inside.is_stopping inside.lines in
    let number : ℕ = c.name-number.result.number in
    let known = c.self.invariant.0 in (
      removed_shows number old c.step.new.self c.step-2.new.self c.in-Removing.receipt c.step-2.result
          c.remove_object.new.store known.0 known.1 (ap (λ (n : ObjName). n.number) c.name-number.ensures)
          c.remove_object.ensures c.in-Removing.ensures c.step-2.ensures,
      held_still inside.volume.volume.plan c.step-2.new.self.volume.plan inside.copied
          (c.step-2.ensures.step.copying ∙ c.in-Removing.ensures.step.copying) c.self.invariant.1,
    )

pub returns-clause-ok : goal.returns-clause-ok
returns-clause-ok c =
    let inside = c.self.inside in
    let old : RigState = rig_of inside.volume inside.store inside.puts.list inside.is_stopping inside.lines in
    let number : ℕ = c.name-number.result.number in
    let now : RigState =
    rig_of c.step-2.new.self c.remove_object.new.store inside.puts.list inside.is_stopping (inside.lines + 1) in
    subst (λ r. AnswersRemoval (answers.Gone number) r now) c.self.view_is
    (removed_some number old c.step.new.self c.step-2.new.self c.in-Removing.receipt c.step-2.result c.remove_object.new.store
    (ap (λ (n : ObjName). n.number) c.name-number.ensures) c.remove_object.ensures c.in-Removing.ensures c.step-2.ensures)

pub returns-clause-lines : goal.returns-clause-lines
returns-clause-lines c = (let same = ap (λ (r : RigState). r.lines) c.self.view_is in omega (arith, same))
