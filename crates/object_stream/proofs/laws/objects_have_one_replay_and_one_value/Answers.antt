use Rattle.object_stream.proofs.OneLemmas.{replays_as_one, has_one_value}
use Rattle.object_stream.proofs.laws.objects_have_one_replay_and_one_value.Goals as goal

pub returns : goal.returns
returns c = record { replay = replays_as_one; value = has_one_value }
