use Rattle.object_stream.proofs.StreamLemmas.{keeps_owners}
use Rattle.object_stream.proofs.laws.owners_are_the_same_from_a_later_object.Goals as goal

pub returns : goal.returns
returns c = keeps_owners
