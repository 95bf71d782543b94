use Rattle.ckpt_format.proofs.LawLemmas.{has_one_reading}
use Rattle.ckpt_format.proofs.laws.a_checkpoint_has_one_reading.Goals as goal

pub returns : goal.returns
returns c = has_one_reading
