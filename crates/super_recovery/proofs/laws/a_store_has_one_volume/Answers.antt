use Rattle.super_recovery.proofs.LawLemmas.{one_super, one_newest, one_volume}
use Rattle.super_recovery.proofs.laws.a_store_has_one_volume.Goals as goal

pub returns : goal.returns
returns c = record { one_super = one_super; newest = one_newest; volume = one_volume }
