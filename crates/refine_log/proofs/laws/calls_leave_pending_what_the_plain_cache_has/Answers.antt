use Rattle.refine_log.proofs.PendingShown.{synced_shows_pending, still_shows_pending, entry_shows_pending, commit_shows_pending}
use Rattle.refine_log.proofs.PendingShown.{failed_commit_shows_pending}
use Rattle.refine_log.proofs.laws.calls_leave_pending_what_the_plain_cache_has.Goals as goal

pub returns : goal.returns
returns c = record {
  synced = synced_shows_pending;
  still = still_shows_pending;
  entry = entry_shows_pending;
  commit = commit_shows_pending;
  failed = failed_commit_shows_pending;
}
