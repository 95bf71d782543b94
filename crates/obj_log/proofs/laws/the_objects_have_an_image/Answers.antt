use Rattle.obj_log.proofs.ImageLemmas.{new_list_has_blank, room_keeps_image, adding_keeps_image, sealing_keeps_image}
use Rattle.obj_log.proofs.ImageLemmas.{sealing_copy_keeps_image, jobs_keep_image, done_makes_image, adopting_makes_image}
use Rattle.obj_log.proofs.ImageLemmas.{adopting_copy_keeps_image}
use Rattle.obj_log.proofs.laws.the_objects_have_an_image.Goals as goal

pub returns : goal.returns
returns c = record {
  begins = new_list_has_blank;
  same = room_keeps_image;
  added = adding_keeps_image;
  sealed = sealing_keeps_image;
  copied = sealing_copy_keeps_image;
  jobs = jobs_keep_image;
  done = done_makes_image;
  adopted = adopting_makes_image;
  copy_adopted = adopting_copy_keeps_image;
}
