use Rattle.object_recovery.proofs.EndLemmas.{good_or_bad}
use Rattle.object_recovery.proofs.laws.no_object_is_good_and_bad.Goals as goal

pub returns : goal.returns
returns c = good_or_bad
