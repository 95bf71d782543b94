use Rattle.refine_mount.proofs.LeftLemmas.{fates_keep_commit}
use Rattle.refine_mount.proofs.laws.stops_leave_commits.Goals as goal

pub returns : goal.returns
returns c = fates_keep_commit
