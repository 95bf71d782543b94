use Rattle.object_format.proofs.LawLemmas.{has_one_reading}
use Rattle.object_format.proofs.laws.an_object_has_one_reading.Goals as goal

pub returns : goal.returns
returns c = has_one_reading
