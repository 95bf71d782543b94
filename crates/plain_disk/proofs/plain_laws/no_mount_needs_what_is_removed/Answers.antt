use Rattle.plain_disk.proofs.CheckpointLemmas.{newest_holds, removed_is_unneeded}
use Rattle.plain_disk.proofs.StopLemmas.{owners_have_landed}
use Rattle.plain_disk.proofs.plain_laws.no_mount_needs_what_is_removed.Goals as goal

pub returns : goal.returns
returns c = record { newest = newest_holds; removed = removed_is_unneeded; there = owners_have_landed }
