use Rattle.super_recovery.proofs.LawLemmas.{volume_is_created}
use Rattle.super_recovery.proofs.laws.a_volume_is_created.Goals as goal

pub returns : goal.returns
returns c = volume_is_created
