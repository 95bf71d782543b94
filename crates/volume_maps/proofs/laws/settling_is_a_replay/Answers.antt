use Rattle.volume_maps.proofs.SettleLemmas.{settles_as_replay, settles_places}
use Rattle.volume_maps.proofs.laws.settling_is_a_replay.Goals as goal

pub returns : goal.returns
returns c = record { owners = settles_as_replay; places = settles_places }
