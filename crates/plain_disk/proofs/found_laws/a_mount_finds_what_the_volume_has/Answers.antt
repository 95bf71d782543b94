use Rattle.plain_disk.proofs.FoundStreamLemmas.{found_has_stream}
use Rattle.plain_disk.proofs.found_laws.a_mount_finds_what_the_volume_has.Goals as goal

pub returns : goal.returns
returns c = record { stream = found_has_stream }
