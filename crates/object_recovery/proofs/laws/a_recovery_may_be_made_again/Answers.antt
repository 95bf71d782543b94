use Rattle.object_recovery.proofs.AgainLemmas.{removal_keeps_stream}
use Rattle.object_recovery.proofs.laws.a_recovery_may_be_made_again.Goals as goal

pub returns : goal.returns
returns c = removal_keeps_stream
