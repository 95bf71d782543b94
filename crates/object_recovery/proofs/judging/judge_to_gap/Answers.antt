use Rattle.std.proofs.Common.{◌∙◌, refl, subst, arith, Some, None}
use Rattle.std.specs.Prelude.{IfSome}
use Rattle.lsvd_objstore.specs.Store.{StoreState}
use Rattle.object_recovery.specs.Judged.{IsJudgedNext}
use Rattle.object_recovery.proofs.FindLemmas.{same_store}
use Rattle.object_recovery.proofs.JudgeLemmas.{told_both, told_from, told_gap, told_absent, told_last}
use Rattle.object_recovery.proofs.judging.judge_to_gap.Goals as goal

pub loop-reached-init : goal.loop-reached-init
loop-reached-init g c = record {
  same = refl;
  stays = λ none. none;
  reached = λ tells. told_from (g.S.Store.state c.args.store.now).objects c.args.volume.now c.args.from;
}

pub loop-reached-preserved : goal.loop-reached-preserved
loop-reached-preserved g c =
    let old = g.S.Store.state c.loop-reached.store in
    let after = same_store old (g.S.Store.state c.judge_next.new.store) c.in_ok-next.ensures.unchanged
    c.in_ok-next.ensures.faults in
    let before = c.loop-reached.invariant in
    record {
      same = after ∙ before.same;
      stays = λ none. before.stays ((rw c.in-Some.is at c.in_ok-next.ensures.stays) none);
      reached = λ tells.
          told_both (g.S.Store.state c.args.store.now).objects c.args.volume.now c.args.from c.loop-reached.reached c.in-Some.next
          (before.reached tells)
          (subst (λ (s : StoreState). IfSome s.objects (λ objects. IsJudgedNext c.args.volume.now objects c.loop-reached.reached
          (Some c.in-Some.next))) before.same
          ((rw c.in-Some.is at c.in_ok-next.ensures.judged) tells));
    }

pub returns-in_default-clause-gap : goal.returns-in_default-clause-gap
returns-in_default-clause-gap g c = λ tells.
    let told = (g.S.Store.state c.args.store.now).objects in
    let before = c.loop-reached.invariant in
    let gap = c.loop-reached.reached in
    told_gap told c.args.volume.now c.args.from gap before.stays (before.reached tells)
    (told_absent told c.args.volume.now gap
    (subst (λ (s : StoreState). IfSome s.objects (λ objects. IsJudgedNext c.args.volume.now objects gap None)) before.same
    ((rw c.in_default.is at c.in_ok-next.ensures.judged) tells)))

pub returns-clause-gap : goal.returns-clause-gap
returns-clause-gap g c = λ tells.
    let told = (g.S.Store.state c.args.store.now).objects in
    let before = c.loop-reached.invariant in
    told_gap told c.args.volume.now c.args.from c.loop-reached.reached before.stays (before.reached tells)
    (told_last told c.args.volume.now c.loop-reached.reached (omega arith))
