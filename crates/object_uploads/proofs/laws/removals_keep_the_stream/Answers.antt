use Rattle.object_uploads.proofs.KeepLemmas.{removals_keep_stream}
use Rattle.object_uploads.proofs.MarkLemmas.{marks_change_objects_alone}
use Rattle.object_uploads.proofs.laws.removals_keep_the_stream.Goals as goal

pub returns : goal.returns
returns c = record { removals = removals_keep_stream; marks = marks_change_objects_alone }
