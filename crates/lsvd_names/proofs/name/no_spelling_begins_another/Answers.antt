use Rattle.lsvd_names.proofs.Names.{no_prefix}
use Rattle.lsvd_names.proofs.name.no_spelling_begins_another.Goals as goal

pub returns : goal.returns
returns c = no_prefix
