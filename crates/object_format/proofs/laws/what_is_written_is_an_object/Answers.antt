use Rattle.object_format.proofs.LawLemmas.{writes_objects}
use Rattle.object_format.proofs.laws.what_is_written_is_an_object.Goals as goal

pub returns : goal.returns
returns c = writes_objects
