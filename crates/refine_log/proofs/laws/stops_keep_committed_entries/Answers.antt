use Rattle.refine_log.proofs.StopLemmas.{now_keeps, since_keeps, committing_keeps, commit_stands_for}
use Rattle.refine_log.proofs.laws.stops_keep_committed_entries.Goals as goal

pub returns : goal.returns
returns c = record { now = now_keeps; since = since_keeps; committing = committing_keeps; stands = commit_stands_for }
