use Rattle.refine_store.proofs.BaseLemmas.{known_is_placed}
use Rattle.refine_store.proofs.LeftLemmas.{left_has_volume}
use Rattle.refine_store.proofs.VolumeLemmas.{volume_has_objects}
use Rattle.refine_store.proofs.laws.a_stopped_store_has_the_objects.Goals as goal

pub returns : goal.returns
returns c = record { left = left_has_volume; objects = volume_has_objects; placed = known_is_placed }
