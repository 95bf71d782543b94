use Rattle.refine_log.proofs.CommittedLemmas.{formatted_has_committed, same_has_committed, trimmed_has_committed}
use Rattle.refine_log.proofs.CommittedLemmas.{appended_has_committed, commit_has_committed}
use Rattle.refine_log.proofs.laws.calls_keep_what_has_committed.Goals as goal

pub returns : goal.returns
returns c = record {
  formatted = formatted_has_committed;
  same = same_has_committed;
  trimmed = trimmed_has_committed;
  appended = appended_has_committed;
  committed = commit_has_committed;
}
