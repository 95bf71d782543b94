use Rattle.ckpt_format.proofs.LawLemmas.{begins_no_object}
use Rattle.ckpt_format.proofs.laws.no_checkpoint_begins_another_object.Goals as goal

pub returns : goal.returns
returns c = begins_no_object
