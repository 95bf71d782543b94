use Rattle.object_stream.proofs.StreamLemmas.{owns_by_number}
use Rattle.object_stream.proofs.laws.owners_are_opening_or_later.Goals as goal

pub returns : goal.returns
returns c = owns_by_number
