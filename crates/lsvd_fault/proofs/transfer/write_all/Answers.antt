use Rattle.std.proofs.Common.{rules, arith, ap, subst, length, take, drop, List, ℕ, ◌-◌, ◌∙◌}
use Rattle.std.proofs.lemmas.List.{take_rest}
use Rattle.lsvd_fault.proofs.Streams.{IsPartWritten, front_taken, part_more, part_kept, holds_at_error}
use Rattle.lsvd_fault.proofs.transfer.write_all.Goals as goal

pub returns-in_err-count-clause-front : goal.returns-in_err-count-clause-front
returns-in_err-count-clause-front g c =
    holds_at_error c.from_residual.result
    (front_taken _ _ _ _ (part_kept _ _ _ _ _ c.loop-rest.invariant.part c.in_err-count.ensures.bytes))

pub loop-rest-preserved : goal.loop-rest-preserved
loop-rest-preserved g c = record {
  part = part_more _ _ _ _ c.loop-rest.rest.now c.in_ok-count.count c.loop-rest.invariant.part c.in_ok-count.ensures.bytes;
  other = c.in_ok-count.ensures.other ∙ c.loop-rest.invariant.other;
  none_failed = c.in_ok-count.ensures.count ∙ c.loop-rest.invariant.none_failed;
}
