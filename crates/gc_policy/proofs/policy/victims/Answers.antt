use Rattle.std.proofs.Common.{◌∙◌, map, ap, rules}
use Rattle.std.proofs.lemmas.List.Sorted.{answers_always}
use Rattle.std.proofs.lemmas.Result.{IfOk-weaker}
use Rattle.gc_policy.specs.declared.candidate.Candidate.{Candidate}
use Rattle.gc_policy.specs.Victims.{goes_before}
use Rattle.gc_policy.proofs.Order.{in_order}
use Rattle.gc_policy.proofs.Taken.{are_victims}
use Rattle.gc_policy.proofs.policy.victims.Goals as goal

-- the sort compares by the order, so what it leaves stands in it
pub returns : goal.returns
returns c =
    let sorted =
    c.sort_unstable_by.ensures.sorted (λ (one other : Candidate). goes_before one.row other.row) in_order
    (answers_always _ _ _ (λ f a r g called. search rules)) in
    let same = ap (map (λ (one : Candidate). one.row.number)) c.deref.ensures.value in
    IfOk-weaker c.numbers_of.result _ _
    (λ victims are. are_victims _ _ _ _ c.candidates.ensures.order c.in_ok-taken.ensures.found
    c.sort_unstable_by.ensures.permutation sorted (are ∙ same)) c.numbers_of.ensures
