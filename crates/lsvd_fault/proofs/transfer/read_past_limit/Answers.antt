use Rattle.lsvd_fault.proofs.Streams.{consumes_more, holds_at_error}
use Rattle.lsvd_fault.proofs.transfer.read_past_limit.Goals as goal

pub returns-in_err-read_more-clause-lost : goal.returns-in_err-read_more-clause-lost
returns-in_err-read_more-clause-lost g c =
    let more = c.in_err-read_more.ensures.lost in
    holds_at_error c.from_residual-in_err-read_more.result
    (_, consumes_more _ _ _ _ _ c.loop-source.invariant.read more.1)
