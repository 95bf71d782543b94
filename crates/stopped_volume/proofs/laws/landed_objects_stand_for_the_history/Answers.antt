use Rattle.stopped_volume.proofs.StandLemmas.{stand_for_history}
use Rattle.stopped_volume.proofs.laws.landed_objects_stand_for_the_history.Goals as goal

pub returns : goal.returns
returns c = stand_for_history
