use Rattle.clone_opening.proofs.RaisedLemmas.{raises_each_owner}
use Rattle.clone_opening.proofs.laws.each_owner_is_one_level_further.Goals as goal

pub returns : goal.returns
returns c = raises_each_owner
