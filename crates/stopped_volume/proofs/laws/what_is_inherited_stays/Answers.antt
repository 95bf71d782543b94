use Rattle.stopped_volume.proofs.InheritedLemmas.{inherited_is_kept}
use Rattle.stopped_volume.proofs.laws.what_is_inherited_stays.Goals as goal

pub returns : goal.returns
returns c = inherited_is_kept
