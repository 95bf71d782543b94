use Rattle.volume_maps.proofs.SettleLemmas.{log_keeps_later}
use Rattle.volume_maps.proofs.laws.the_log_keeps_later_entries.Goals as goal

pub returns : goal.returns
returns c = log_keeps_later
