use Rattle.vol_recover.proofs.StandLemmas.{created_stands, mounted_with_stands, mounted_without_stands}
use Rattle.vol_recover.proofs.laws.a_made_volume_stands_with_its_store.Goals as goal

pub returns : goal.returns
returns c = record { created = created_stands; with_cache = mounted_with_stands; without = mounted_without_stands }
