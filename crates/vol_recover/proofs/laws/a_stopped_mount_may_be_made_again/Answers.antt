use Rattle.vol_recover.proofs.AgainLemmas.{stopped_with_cache, stopped_without_cache}
use Rattle.vol_recover.proofs.laws.a_stopped_mount_may_be_made_again.Goals as goal

pub returns : goal.returns
returns c = record { with_cache = stopped_with_cache; without = stopped_without_cache }
