use Rattle.object_uploads.proofs.AdoptLemmas.{adopting_keeps_stream}
use Rattle.object_uploads.proofs.AdoptCopy.{adopting_copy_keeps_stream}
use Rattle.object_uploads.proofs.ImageLemmas.{adopting_makes_image, adopting_copy_keeps_image}
use Rattle.object_uploads.proofs.laws.an_adopted_object_goes_on_with_the_stream.Goals as goal

pub returns : goal.returns
returns c = record {
  stream = adopting_keeps_stream;
  copy = adopting_copy_keeps_stream;
  image = adopting_makes_image;
  same_image = adopting_copy_keeps_image;
}
