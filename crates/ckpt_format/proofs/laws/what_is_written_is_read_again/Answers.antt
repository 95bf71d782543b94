use Rattle.ckpt_format.proofs.LawLemmas.{reads_what_is_written}
use Rattle.ckpt_format.proofs.laws.what_is_written_is_read_again.Goals as goal

pub returns : goal.returns
returns c = reads_what_is_written
