use Rattle.lsvd_base.proofs.SectorLemmas.{applies_in_parts}
use Rattle.lsvd_base.proofs.laws.a_history_is_applied_in_order.Goals as goal

pub returns : goal.returns
returns c = applies_in_parts
