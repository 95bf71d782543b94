use Rattle.lsvd_objstore.proofs.OneList.{has_one_list}
use Rattle.lsvd_objstore.proofs.laws.a_volume_has_one_list.Goals as goal

pub returns : goal.returns
returns c = has_one_list
