use Rattle.std.proofs.Common.{◌≡◌, drop}
use Rattle.object_stream.specs.Stream.{end_after}
use Rattle.object_stream.proofs.plain_stream.end_after.Given as goal

abbrev pub invariant-loop-object : goal.invariant-loop-object
invariant-loop-object l = end_after l.end (drop l.object-index l.objects) ≡ end_after l.before l.objects
