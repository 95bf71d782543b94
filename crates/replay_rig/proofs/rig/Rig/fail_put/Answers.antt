use Rattle.std.proofs.Common.{◌≡◌, ℕ, ◌+◌, sym, ap, subst, arith}
use Rattle.std.specs.Prelude.{Some}
use Rattle.plain_disk.specs.declared.event.PlainEvent.TheVariants as events
use Rattle.plain_disk.specs.Step.{plain_after}
use Rattle.replay_rig.specs.declared.answer.Answer.TheVariants as answers
use Rattle.replay_rig.specs.Steps.{FailsPut}
use Rattle.replay_rig.specs.Rig.{RigState, rig_of, ShowsPlain}
use Rattle.replay_rig.proofs.Rooms.{few_steps, later_rig}
use Rattle.replay_rig.proofs.Putting.{out_in_list, failed_answers}
use Rattle.replay_rig.proofs.Copies.{held_still}
use Rattle.replay_rig.proofs.rig.Rig.fail_put.Goals as goal

pub fail-requires : goal.fail-requires
fail-requires c =
    let inside = c.self.inside in
    let old : RigState = rig_of inside.volume inside.store inside.puts.list inside.is_stopping inside.lines in
    out_in_list c.args.number old c.args.self.now c.self.invariant.0 c.self.view_is c.requires.out

pub step-requires-clause-steps : goal.step-requires-clause-steps
step-requires-clause-steps c =
    let inside = c.self.inside in
    let old : RigState = rig_of inside.volume inside.store inside.puts.list inside.is_stopping inside.lines in
    let lines = ap (λ (r : RigState). r.lines) c.self.view_is in
    omega (arith, few_steps old c.self.invariant.0.0 c.self.invariant.0.1, lines, c.requires.lines)

pub step-requires-clause-receipt : goal.step-requires-clause-receipt
step-requires-clause-receipt c = tt

pub invariant_of-self : goal.invariant_of-self
invariant_of-self c =
    let inside = c.self.inside in
    let old : RigState = rig_of inside.volume inside.store inside.puts.list inside.is_stopping inside.lines in
    let known = c.self.invariant.0 in
    let same : c.fail.new.self.list ≡ inside.puts.list = rw c.in_err-job.was at c.fail.ensures.list in (
      (
        known.0,
        subst (λ ps. ShowsPlain (rig_of inside.volume inside.store ps inside.is_stopping (inside.lines + 1)) known.0) (sym same)
            (later_rig old (inside.lines + 1) known.0 (omega arith) known.1),
      ),
      c.self.invariant.1,
    )

pub invariant_of-self-2 : goal.invariant_of-self-2
invariant_of-self-2 c =
    let inside = c.self.inside in
    let old : RigState = rig_of inside.volume inside.store inside.puts.list inside.is_stopping inside.lines in
    let n : ℕ = c.args.number in
    let known = c.self.invariant.0 in
    let taken = c.in_ok-job.ensures.ok in (
      (
        plain_after (events.JobFailed (Some n)) known.0,
        ((failed_answers n old c.step.new.self c.in_ok-job.job c.step.result c.fail.new.self.list
            (λ plain h. c.requires.out plain (subst (λ r. ShowsPlain r plain) c.self.view_is h)) taken.0 taken.1
            c.in_ok-job.ensures.list c.step.ensures).by known.0 known.1).1,
      ),
      held_still inside.volume.volume.plan c.step.new.self.volume.plan inside.copied c.step.ensures.step.copying
          c.self.invariant.1,
    )

pub returns-clause-ok : goal.returns-clause-ok
returns-clause-ok c =
    let inside = c.self.inside in
    let old : RigState = rig_of inside.volume inside.store inside.puts.list inside.is_stopping inside.lines in
    let n : ℕ = c.args.number in
    let now : RigState = rig_of c.step.new.self inside.store c.fail.new.self.list inside.is_stopping (inside.lines + 1) in
    let taken = c.in_ok-job.ensures.ok in
    subst (λ r. FailsPut n (answers.Failed n) r now) c.self.view_is
    (failed_answers n old c.step.new.self c.in_ok-job.job c.step.result c.fail.new.self.list
    (λ plain h. c.requires.out plain (subst (λ r. ShowsPlain r plain) c.self.view_is h)) taken.0 taken.1
    c.in_ok-job.ensures.list c.step.ensures)

pub returns-clause-lines : goal.returns-clause-lines
returns-clause-lines c = (let same = ap (λ (r : RigState). r.lines) c.self.view_is in omega (arith, same))
