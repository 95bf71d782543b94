use Rattle.vol_core.proofs.OpeningLemmas.{shows_from_first}
use Rattle.vol_core.proofs.laws.a_volume_shows_what_was_folded.Goals as goal

pub returns : goal.returns
returns c = shows_from_first
