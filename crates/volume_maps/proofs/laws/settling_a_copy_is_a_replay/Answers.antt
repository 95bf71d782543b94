use Rattle.volume_maps.proofs.CopyLemmas.{settles_copy_as_replay, settles_copy_places}
use Rattle.volume_maps.proofs.laws.settling_a_copy_is_a_replay.Goals as goal

pub returns : goal.returns
returns c = record { owners = settles_copy_as_replay; places = settles_copy_places }
