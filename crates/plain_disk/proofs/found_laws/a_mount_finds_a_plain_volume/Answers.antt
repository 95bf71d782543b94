use Rattle.plain_disk.proofs.FoundLemmas.{found_is, found_has_counts, found_has_present}
use Rattle.plain_disk.proofs.found_laws.a_mount_finds_a_plain_volume.Goals as goal

pub returns : goal.returns
returns c = record { found = found_is; counts = found_has_counts; present = found_has_present }
