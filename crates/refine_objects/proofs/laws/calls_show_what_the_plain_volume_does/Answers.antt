use Rattle.refine_objects.proofs.ShowLemmas.{room_shows_same, added_shows_entry}
use Rattle.refine_objects.proofs.SealLemmas.{sealed_shows_seal, refused_seal_shows_none}
use Rattle.refine_objects.proofs.JobLemmas.{taken_shows_take, failed_shows_failed, done_shows_done}
use Rattle.refine_objects.proofs.laws.calls_show_what_the_plain_volume_does.Goals as goal

pub returns : goal.returns
returns c = record {
  room = room_shows_same;
  added = added_shows_entry;
  sealed = sealed_shows_seal;
  refused = refused_seal_shows_none;
  taken = taken_shows_take;
  failed = failed_shows_failed;
  done = done_shows_done;
}
