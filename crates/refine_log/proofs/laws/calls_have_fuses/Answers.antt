use Rattle.refine_log.proofs.FuseLemmas.{made_commit_has_fuse, failed_commit_has_fuse, entry_has_fuse}
use Rattle.refine_log.proofs.PlainCommits.{plain_commit_takes_calls}
use Rattle.refine_log.proofs.laws.calls_have_fuses.Goals as goal

pub returns : goal.returns
returns c = record {
  made = made_commit_has_fuse;
  failed = failed_commit_has_fuse;
  entry = entry_has_fuse;
  plain = plain_commit_takes_calls;
}
