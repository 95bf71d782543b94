use Rattle.lsvd_names.proofs.Names.{one_spelling}
use Rattle.lsvd_names.proofs.name.a_name_has_one_spelling.Goals as goal

pub returns : goal.returns
returns c = one_spelling
