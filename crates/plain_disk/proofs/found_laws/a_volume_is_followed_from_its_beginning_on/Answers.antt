use Rattle.plain_disk.proofs.OpeningLemmas.{created_opens, events_keep_opening, stops_keep_opening, mounts_keep_opening}
use Rattle.plain_disk.proofs.OpeningLemmas.{owners_are_past, checkpoint_goes_on}
use Rattle.plain_disk.proofs.MarkedLemmas.{created_seals, events_seal, stops_seal, mounts_seal}
use Rattle.plain_disk.proofs.SealedLemmas.{mapped_have_landed}
use Rattle.plain_disk.proofs.found_laws.a_volume_is_followed_from_its_beginning_on.Goals as goal

pub returns : goal.returns
returns c = record {
  created = created_opens;
  events = events_keep_opening;
  stops = stops_keep_opening;
  mounts = mounts_keep_opening;
  owners = owners_are_past;
  goes_on = checkpoint_goes_on;
  created_seals = created_seals;
  events_seal = events_seal;
  stops_seal = stops_seal;
  mounts_seal = mounts_seal;
  mapped = mapped_have_landed;
}
