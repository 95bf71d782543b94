use Rattle.refine_store.proofs.StandLemmas.{mounted_stands, stands_with_any_cache}
use Rattle.refine_store.proofs.laws.a_mount_leaves_the_store_standing.Goals as goal

pub returns : goal.returns
returns c = record { mounted = mounted_stands; cache = stands_with_any_cache }
