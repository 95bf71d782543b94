use Rattle.ckpt_format.proofs.LawLemmas.{writes_checkpoints}
use Rattle.ckpt_format.proofs.laws.what_is_written_is_a_checkpoint.Goals as goal

pub returns : goal.returns
returns c = writes_checkpoints
