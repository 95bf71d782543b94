use Rattle.object_stream.proofs.ChangeLemmas.{changes_make_image}
use Rattle.object_stream.proofs.laws.changes_make_the_image.Goals as goal

pub returns : goal.returns
returns c = changes_make_image
