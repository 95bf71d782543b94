use Rattle.refine_log.proofs.Shown.{formatted_shows_empty, same_shows_same, trimmed_shows_same}
use Rattle.refine_log.proofs.Appended.{appended_shows_record}
use Rattle.refine_log.proofs.Commits.{commit_shows_commit}
use Rattle.refine_log.proofs.laws.the_log_shows_the_plain_log.Goals as goal

pub returns : goal.returns
returns c = record {
  formatted = formatted_shows_empty;
  same = same_shows_same;
  trimmed = trimmed_shows_same;
  appended = appended_shows_record;
  committed = commit_shows_commit;
}
