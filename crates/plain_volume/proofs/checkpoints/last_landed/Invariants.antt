use Rattle.std.proofs.Common.{◌≡◌, None, drop}
use Rattle.object_stream.specs.Plain.{numbers_of}
use Rattle.plain_volume.specs.Fields.{last_landed}
use Rattle.plain_volume.proofs.checkpoints.last_landed.Given as goal

abbrev pub invariant-loop-object : goal.invariant-loop-object
invariant-loop-object l =
    last_landed (numbers_of l.landed) l.last (drop l.object-index l.objects)
    ≡ last_landed (numbers_of l.landed) None l.objects
