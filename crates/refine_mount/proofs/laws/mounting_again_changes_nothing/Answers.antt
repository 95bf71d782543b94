use Rattle.refine_mount.proofs.AgainLemmas.{mounts_kept_again, mounts_lost_again, loses_again}
use Rattle.refine_mount.proofs.StoredLemmas.{mounted_is_stored}
use Rattle.refine_mount.proofs.laws.mounting_again_changes_nothing.Goals as goal

pub returns : goal.returns
returns c = record { kept = mounts_kept_again; lost = mounts_lost_again; loses = loses_again; stored = mounted_is_stored }
