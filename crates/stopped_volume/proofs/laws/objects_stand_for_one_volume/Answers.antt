use Rattle.stopped_volume.proofs.StandLemmas.{stand_for_one}
use Rattle.stopped_volume.proofs.laws.objects_stand_for_one_volume.Goals as goal

pub returns : goal.returns
returns c = stand_for_one
