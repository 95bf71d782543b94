use Rattle.obj_log.proofs.StreamLemmas.{new_list_begins_stream, room_keeps_stream, adding_keeps_stream, sealing_keeps_stream}
use Rattle.obj_log.proofs.StreamLemmas.{sealing_checkpoint_keeps_stream, removals_keep_stream, jobs_keep_stream}
use Rattle.obj_log.proofs.StreamLemmas.{sealing_copy_keeps_stream, done_keeps_stream}
use Rattle.obj_log.proofs.ImageLemmas.{adopting_keeps_stream, adopting_copy_keeps_stream}
use Rattle.obj_log.proofs.laws.the_list_stays_a_stream.Goals as goal

pub returns : goal.returns
returns c = record {
  begins = new_list_begins_stream;
  same = room_keeps_stream;
  added = adding_keeps_stream;
  sealed = sealing_keeps_stream;
  copied = sealing_copy_keeps_stream;
  checkpoint = sealing_checkpoint_keeps_stream;
  removals = removals_keep_stream;
  jobs = jobs_keep_stream;
  done = done_keeps_stream;
  adopted = adopting_keeps_stream;
  copy_adopted = adopting_copy_keeps_stream;
}
