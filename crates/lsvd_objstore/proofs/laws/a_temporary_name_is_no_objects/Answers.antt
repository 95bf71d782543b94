use Rattle.std.proofs.Common.{◌∙◌, sym}
use Rattle.lsvd_names.proofs.Names.{no_prefix}
use Rattle.lsvd_objstore.proofs.laws.a_temporary_name_is_no_objects.Goals as goal

pub returns : goal.returns
returns c = λ name other file is spelled. is.more (no_prefix name other is.rest (sym spelled ∙ is.spelled))
