use Rattle.nbd_session.proofs.CallLemmas.{all_flushed}
use Rattle.nbd_session.proofs.carrying_out.carry_out.Goals as goal

pub returns-in-Flush : goal.returns-in-Flush
returns-in-Flush g c = λ content is.
    all_flushed g.B.BlockDevice.io c.args.asked content c.flush_if.result c.without_data-in-Flush.result _ _ c.in-Flush.is
    c.without_data-in-Flush.ensures c.flush_if.ensures
