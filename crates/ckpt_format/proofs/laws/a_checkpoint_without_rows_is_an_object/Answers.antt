use Rattle.ckpt_format.proofs.LawLemmas.{is_object_without_rows}
use Rattle.ckpt_format.proofs.laws.a_checkpoint_without_rows_is_an_object.Goals as goal

pub returns : goal.returns
returns c = is_object_without_rows
