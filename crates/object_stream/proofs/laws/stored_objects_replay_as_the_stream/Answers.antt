use Rattle.object_stream.proofs.ReplayLemmas.{replay_as_stream, stored_are_replayed}
use Rattle.object_stream.proofs.laws.stored_objects_replay_as_the_stream.Goals as goal

pub returns : goal.returns
returns c = record { replay = replay_as_stream; exists = stored_are_replayed }
