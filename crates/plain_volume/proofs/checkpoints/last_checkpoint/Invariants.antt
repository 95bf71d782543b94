use Rattle.std.proofs.Common.{◌≡◌, None, true, drop}
use Rattle.plain_volume.specs.Fields.{last_landed}
use Rattle.plain_volume.proofs.checkpoints.last_checkpoint.Given as goal

abbrev pub invariant-loop-object : goal.invariant-loop-object
invariant-loop-object l =
    last_landed (λ number. true) l.last (drop l.object-index l.objects) ≡ last_landed (λ number. true) None l.objects
