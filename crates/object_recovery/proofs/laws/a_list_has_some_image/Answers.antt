use Rattle.object_recovery.proofs.SomeImageLemmas.{list_has_some_image}
use Rattle.object_recovery.proofs.laws.a_list_has_some_image.Goals as goal

pub returns : goal.returns
returns c = list_has_some_image
