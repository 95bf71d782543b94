use Rattle.object_uploads.proofs.ImageLemmas.{image_begins, entering_keeps_image, sealing_keeps_image, room_keeps_image}
use Rattle.object_uploads.proofs.ImageLemmas.{sealing_copy_keeps_image, jobs_keep_image}
use Rattle.object_uploads.proofs.RemovalImage.{pins_keep_image, removals_keep_image}
use Rattle.object_uploads.proofs.MarkLemmas.{marks_keep_image}
use Rattle.object_uploads.proofs.laws.the_objects_keep_their_image.Goals as goal

pub returns : goal.returns
returns c = record {
  begins = image_begins;
  entered = entering_keeps_image;
  sealed = sealing_keeps_image;
  copied = sealing_copy_keeps_image;
  same = room_keeps_image;
  jobs = jobs_keep_image;
  pins = pins_keep_image;
  marks = marks_keep_image;
  removals = removals_keep_image;
}
