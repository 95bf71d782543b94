use Rattle.plain_disk.proofs.FlushLemmas.{flush_commits, events_keep_committed}
use Rattle.plain_disk.proofs.MountLemmas.{mounts_commit}
use Rattle.plain_disk.proofs.StopLemmas.{stop_keeps_acknowledged, recovers_before_missing}
use Rattle.plain_disk.proofs.plain_laws.a_stop_keeps_what_was_acknowledged.Goals as goal

pub returns : goal.returns
returns c = record {
  flushed = flush_commits;
  mounted = mounts_commit;
  committed = events_keep_committed;
  kept = stop_keeps_acknowledged;
  missing = recovers_before_missing;
}
