use Rattle.refine_mount.proofs.StopLemmas.{committing_keeps_mount}
use Rattle.refine_mount.proofs.laws.stops_keep_what_is_mounted.Goals as goal

pub returns : goal.returns
returns c = committing_keeps_mount
