use Rattle.plain_disk.proofs.FoldReplyLemmas.{folding_changes_no_reply}
use Rattle.plain_disk.proofs.FoldEventLemmas.{folding_commutes_with_events, folding_commutes_with_stops}
use Rattle.plain_disk.proofs.FoldMountLemmas.{folding_commutes_with_mounts}
use Rattle.plain_disk.proofs.FoldVolumeLemmas.{folding_keeps, folds_in_parts}
use Rattle.plain_disk.proofs.plain_laws.entries_may_be_folded_at_any_time.Goals as goal

pub returns : goal.returns
returns c = record {
  kept = folding_keeps;
  parts = folds_in_parts;
  replies = folding_changes_no_reply;
  events = folding_commutes_with_events;
  stops = folding_commutes_with_stops;
  mounts = folding_commutes_with_mounts;
}
