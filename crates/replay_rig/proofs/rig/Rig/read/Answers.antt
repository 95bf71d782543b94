use Rattle.std.proofs.Common.{◌+◌, sym, ◌∙◌, ap, subst, arith}
use Rattle.std.specs.Prelude.{IfOk}
use Rattle.replay_rig.specs.declared.answer.Answer.TheVariants as answers
use Rattle.replay_rig.specs.Steps.{AnswersRead}
use Rattle.replay_rig.specs.Rig.{RigState, rig_of, ShowsPlain}
use Rattle.replay_rig.proofs.Reading.{look_shows, read_refused, read_shows, read_planned}
use Rattle.replay_rig.proofs.Rooms.{few_steps}
use Rattle.replay_rig.proofs.Copies.{held_still}
use Rattle.replay_rig.proofs.rig.Rig.read.Goals as goal

pub step-requires-clause-steps : goal.step-requires-clause-steps
step-requires-clause-steps c =
    let inside = c.self.inside in
    let old : RigState = rig_of inside.volume inside.store inside.puts.list inside.is_stopping inside.lines in
    let lines = ap (λ (r : RigState). r.lines) c.self.view_is in
    omega (arith, few_steps old c.self.invariant.0.0 c.self.invariant.0.1, lines, c.requires)

pub step-requires-clause-receipt : goal.step-requires-clause-receipt
step-requires-clause-receipt c = tt

pub invariant_of-self : goal.invariant_of-self
invariant_of-self c =
    let inside = c.self.inside in
    let old : RigState = rig_of inside.volume inside.store inside.puts.list inside.is_stopping inside.lines in (
      look_shows c.args.lba c.args.sectors old c.step.new.self c.self.invariant.0.0 c.step.result c.self.invariant.0.1
          c.step.ensures,
      held_still inside.volume.volume.plan c.step.new.self.volume.plan inside.copied c.step.ensures.step.copying
          c.self.invariant.1,
    )

pub returns-in_default : goal.returns-in_default
returns-in_default c =
    let inside = c.self.inside in
    let old : RigState = rig_of inside.volume inside.store inside.puts.list inside.is_stopping inside.lines in
    let now : RigState = rig_of c.step.new.self inside.store inside.puts.list inside.is_stopping (inside.lines + 1) in
    record {
      ok = subst (λ r. IfOk c.answer_of.result (λ answer. AnswersRead c.args.lba c.args.sectors answer r now)) c.self.view_is
          (read_refused c.args.lba c.args.sectors old c.step.new.self c.step.result c.answer_of.result c.in_default.not-Planned
          c.step.ensures c.answer_of.ensures);
      lines = (let same = ap (λ (r : RigState). r.lines) c.self.view_is in omega (arith, same));
    }

pub step-requires-2-clause-steps : goal.step-requires-2-clause-steps
step-requires-2-clause-steps c =
    let inside = c.self.inside in
    let old : RigState = rig_of inside.volume inside.store inside.puts.list inside.is_stopping inside.lines in
    let lines = ap (λ (r : RigState). r.lines) c.self.view_is in
    omega (arith, few_steps old c.self.invariant.0.0 c.self.invariant.0.1, c.in-Planned.ensures.count, lines, c.requires)

pub step-requires-2-clause-receipt : goal.step-requires-2-clause-receipt
step-requires-2-clause-receipt c = tt

pub invariant_of-self-in_err-bytes : goal.invariant_of-self-in_err-bytes
invariant_of-self-in_err-bytes c =
    let inside = c.self.inside in
    let old : RigState = rig_of inside.volume inside.store inside.puts.list inside.is_stopping inside.lines in
    let shown = read_shows c.args.lba c.args.sectors old c.step.new.self c.step-2.new.self c.self.invariant.0.0
    c.in-Planned.plan c.fetched-outcome.new.plan c.step-2.result c.self.invariant.0.1 c.in-Planned.ensures c.step-2.ensures in (
      (
        shown.0,
        subst (λ objects. ShowsPlain (rig_of c.step-2.new.self objects inside.puts.list inside.is_stopping
            (inside.lines + 1)) shown.0) (sym c.fetched-outcome.ensures.store) shown.1,
      ),
      held_still inside.volume.volume.plan c.step-2.new.self.volume.plan inside.copied
          (c.step-2.ensures.step.copying ∙ c.in-Planned.ensures.step.copying) c.self.invariant.1,
    )

pub invariant_of-self-2 : goal.invariant_of-self-2
invariant_of-self-2 c =
    let inside = c.self.inside in
    let old : RigState = rig_of inside.volume inside.store inside.puts.list inside.is_stopping inside.lines in
    let shown = read_shows c.args.lba c.args.sectors old c.step.new.self c.step-2.new.self c.self.invariant.0.0
    c.in-Planned.plan c.fetched-outcome.new.plan c.step-2.result c.self.invariant.0.1 c.in-Planned.ensures c.step-2.ensures in (
      (
        shown.0,
        subst (λ objects. ShowsPlain (rig_of c.step-2.new.self objects inside.puts.list inside.is_stopping
            (inside.lines + 1)) shown.0) (sym c.fetched-outcome.ensures.store) shown.1,
      ),
      held_still inside.volume.volume.plan c.step-2.new.self.volume.plan inside.copied
          (c.step-2.ensures.step.copying ∙ c.in-Planned.ensures.step.copying) c.self.invariant.1,
    )

pub returns-clause-ok : goal.returns-clause-ok
returns-clause-ok c =
    let inside = c.self.inside in
    let old : RigState = rig_of inside.volume inside.store inside.puts.list inside.is_stopping inside.lines in
    let held = c.in_ok-bytes.bytes in
    let now : RigState = rig_of c.step-2.new.self inside.store inside.puts.list inside.is_stopping (inside.lines + 1) in
    let shown : AnswersRead c.args.lba c.args.sectors (answers.Sectors held) old now =
    read_planned c.args.lba c.args.sectors old c.step.new.self c.step-2.new.self c.in-Planned.plan c.fetched-outcome.new.plan
    c.step-2.result held c.fetched-outcome.ensures.objects
    c.in-Planned.ensures.order.on_disk c.in-Planned.ensures c.step-2.ensures c.in_ok-bytes.ensures.gives in
    subst (λ objects. AnswersRead c.args.lba c.args.sectors (answers.Sectors held) c.args.self.now
    (rig_of c.step-2.new.self objects inside.puts.list inside.is_stopping (inside.lines + 1)))
    (sym c.fetched-outcome.ensures.store)
    (subst (λ r. AnswersRead c.args.lba c.args.sectors (answers.Sectors held) r now) c.self.view_is shown)

pub returns-clause-lines : goal.returns-clause-lines
returns-clause-lines c = (let same = ap (λ (r : RigState). r.lines) c.self.view_is in omega (arith, same))

pub returns-in_err-bytes-clause-lines : goal.returns-in_err-bytes-clause-lines
returns-in_err-bytes-clause-lines c = (let same = ap (λ (r : RigState). r.lines) c.self.view_is in omega (arith, same))
