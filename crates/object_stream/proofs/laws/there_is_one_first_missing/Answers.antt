use Rattle.object_stream.proofs.LandedLemmas.{one_first_missing}
use Rattle.object_stream.proofs.laws.there_is_one_first_missing.Goals as goal

pub returns : goal.returns
returns c = one_first_missing
