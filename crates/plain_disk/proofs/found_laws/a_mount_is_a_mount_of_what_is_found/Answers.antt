use Rattle.plain_disk.proofs.FoundLemmas.{mounts_of_found, loses_on_same_log, mounts_from_keep, commits_are_later}
use Rattle.plain_disk.proofs.AgainLemmas.{found_again}
use Rattle.plain_disk.proofs.found_laws.a_mount_is_a_mount_of_what_is_found.Goals as goal

pub returns : goal.returns
returns c = record {
  mounts = mounts_of_found;
  same_log = loses_on_same_log;
  valid = mounts_from_keep;
  later = commits_are_later;
  again = found_again;
}
