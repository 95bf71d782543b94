use Rattle.refine_mount.proofs.AsFoundLemmas.{mounts_as_found, found_has_commit}
use Rattle.refine_mount.proofs.GoingLemmas.{mounted_is_plain_volume, mounted_is_going_on}
use Rattle.refine_mount.proofs.laws.a_mount_goes_on_with_the_entries_found.Goals as goal

pub returns : goal.returns
returns c = record {
  as_found = mounts_as_found;
  commit = found_has_commit;
  plain = mounted_is_plain_volume;
  going_on = mounted_is_going_on;
}
