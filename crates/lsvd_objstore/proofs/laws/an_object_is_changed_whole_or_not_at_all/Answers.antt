use Rattle.lsvd_objstore.proofs.Changed.{puts_whole, removes_whole}
use Rattle.lsvd_objstore.proofs.laws.an_object_is_changed_whole_or_not_at_all.Goals as goal

pub returns-clause-put : goal.returns-clause-put
returns-clause-put c = puts_whole

pub returns-clause-removal : goal.returns-clause-removal
returns-clause-removal c = removes_whole
