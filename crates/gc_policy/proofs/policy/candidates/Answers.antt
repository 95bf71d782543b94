use Rattle.gc_policy.proofs.Found.{looked, its_row, found_more, none_missing}
use Rattle.gc_policy.proofs.policy.candidates.Goals as goal

pub invariant_of-push : goal.invariant_of-push
invariant_of-push c =
    let is = looked _ _ _ _ c.candidates-numbers.ensures.value c.candidates-numbers.ensures.order c.loop-number-test.true
    c.row.ensures in
    record { is_one = (its_row _ _ _ _ is c.in-Some.is).1 }

pub loop-number-preserved : goal.loop-number-preserved
loop-number-preserved c =
    let is = looked _ _ _ _ c.candidates-numbers.ensures.value c.candidates-numbers.ensures.order c.loop-number-test.true
    c.row.ensures in
    elim c.match-row.branch [
      | goal.in-Some+in_ok-push w ↦
          let row = its_row _ _ _ _ is w.in-Some.is in
          rw (w.found-is, w.in_ok-push.ensures.items) (found_more _ _ _ _ _ is c.loop-number.invariant row.0)
      | goal.in_default w ↦ absurd (none_missing _ _ _ is w.in_default.is)
    ]
