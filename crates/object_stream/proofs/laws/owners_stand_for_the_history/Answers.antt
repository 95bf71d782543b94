use Rattle.object_stream.proofs.ValueLemmas.{value_is_image_after}
use Rattle.object_stream.proofs.laws.owners_stand_for_the_history.Goals as goal

pub returns : goal.returns
returns c = value_is_image_after
