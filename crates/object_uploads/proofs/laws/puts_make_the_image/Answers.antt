use Rattle.object_uploads.proofs.ImageLemmas.{done_keeps_receipts, done_makes_image}
use Rattle.object_uploads.proofs.laws.puts_make_the_image.Goals as goal

pub returns : goal.returns
returns c = record { receipts = done_keeps_receipts; image = done_makes_image }
