use Rattle.std.proofs.Common.{ℕ, ◌+◌, ap, subst, arith}
use Rattle.std.specs.Prelude.{Some, IfOk}
use Rattle.plain_disk.specs.declared.event.PlainEvent.TheVariants as events
use Rattle.replay_rig.specs.Steps.{AnswersEvent}
use Rattle.replay_rig.specs.Rig.{RigState, rig_of, ShowsPlain}
use Rattle.replay_rig.proofs.Putting.{out_in_list, receipt_for_job, made_put, done_answers, done_shows}
use Rattle.replay_rig.proofs.Rooms.{few_steps}
use Rattle.replay_rig.proofs.Copies.{held_still}
use Rattle.replay_rig.proofs.rig.Rig.finish_put.Goals as goal

pub put_out-requires : goal.put_out-requires
put_out-requires c =
    let inside = c.self.inside in
    let old : RigState = rig_of inside.volume inside.store inside.puts.list inside.is_stopping inside.lines in
    out_in_list c.args.number old c.args.self.now c.self.invariant.0 c.self.view_is c.requires.out

pub finish-job-requires : goal.finish-job-requires
finish-job-requires c =
    let inside = c.self.inside in
    let old : RigState = rig_of inside.volume inside.store inside.puts.list inside.is_stopping inside.lines in
    out_in_list c.args.number old c.args.self.now c.self.invariant.0 c.self.view_is c.requires.out

pub step-requires-clause-steps : goal.step-requires-clause-steps
step-requires-clause-steps c =
    let inside = c.self.inside in
    let old : RigState = rig_of inside.volume inside.store inside.puts.list inside.is_stopping inside.lines in
    let lines = ap (λ (r : RigState). r.lines) c.self.view_is in
    omega (arith, few_steps old c.self.invariant.0.0 c.self.invariant.0.1, lines, c.requires.lines)

pub step-requires-clause-receipt : goal.step-requires-clause-receipt
step-requires-clause-receipt c =
    receipt_for_job c.args.number c.self.inside.puts.list c.self.inside.store c.put_out.new.store c.finish-job.result
    c.in_ok-receipt.receipt c.in_ok-receipt.ensures.ok c.finish-job.ensures.job

pub invariant_of-self-2 : goal.invariant_of-self-2
invariant_of-self-2 c =
    let inside = c.self.inside in
    let old : RigState = rig_of inside.volume inside.store inside.puts.list inside.is_stopping inside.lines in
    let n : ℕ = c.args.number in (
      done_shows n old c.step.new.self c.put_out.new.store c.finish-job.result c.in_ok-receipt.receipt c.step.result
          c.finish-job.new.self.list c.self.invariant.0.0
          (made_put n old c.put_out.new.store c.finish-job.result c.in_ok-receipt.receipt
          (λ plain h. c.requires.out plain (subst (λ r. ShowsPlain r plain) c.self.view_is h)) c.in_ok-receipt.ensures.ok
          c.finish-job.ensures.job)
          c.finish-job.ensures.list c.step.ensures c.self.invariant.0.1,
      held_still inside.volume.volume.plan c.step.new.self.volume.plan inside.copied c.step.ensures.step.copying
          c.self.invariant.1,
    )

pub returns-clause-ok : goal.returns-clause-ok
returns-clause-ok c =
    let inside = c.self.inside in
    let old : RigState = rig_of inside.volume inside.store inside.puts.list inside.is_stopping inside.lines in
    let n : ℕ = c.args.number in
    let now : RigState = rig_of c.step.new.self c.put_out.new.store c.finish-job.new.self.list inside.is_stopping
    (inside.lines + 1) in
    subst (λ r. IfOk c.answer_of.result (λ answer. AnswersEvent (events.JobDone (Some n)) answer r now)) c.self.view_is
    (done_answers n old c.step.new.self c.put_out.new.store c.finish-job.result c.in_ok-receipt.receipt c.step.result
    c.finish-job.new.self.list c.answer_of.result
    (made_put n old c.put_out.new.store c.finish-job.result c.in_ok-receipt.receipt
    (λ plain h. c.requires.out plain (subst (λ r. ShowsPlain r plain) c.self.view_is h)) c.in_ok-receipt.ensures.ok
    c.finish-job.ensures.job)
    c.finish-job.ensures.list c.step.ensures c.answer_of.ensures)

pub returns-clause-lines : goal.returns-clause-lines
returns-clause-lines c = (let same = ap (λ (r : RigState). r.lines) c.self.view_is in omega (arith, same))
