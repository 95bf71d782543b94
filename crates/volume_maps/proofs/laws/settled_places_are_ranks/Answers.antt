use Rattle.volume_maps.proofs.RankLemmas.{places_are_ranks}
use Rattle.volume_maps.proofs.laws.settled_places_are_ranks.Goals as goal

pub returns : goal.returns
returns c = places_are_ranks
