use Rattle.volume_owner.proofs.New.{created_is_idle, shown_is_idle}
use Rattle.volume_owner.proofs.laws.a_new_volume_is_idle.Goals as goal

pub returns : goal.returns
returns c = record { shown = shown_is_idle; created = created_is_idle }
