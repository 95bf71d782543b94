use Rattle.plain_disk.proofs.EventLemmas.{created_is, events_keep}
use Rattle.plain_disk.proofs.MountLemmas.{mounts_keep}
use Rattle.plain_disk.proofs.StopLemmas.{stops_keep}
use Rattle.plain_disk.proofs.plain_laws.each_state_is_a_plain_volume.Goals as goal

pub returns : goal.returns
returns c = record { created = created_is; events = events_keep; stops = stops_keep; mounts = mounts_keep }
