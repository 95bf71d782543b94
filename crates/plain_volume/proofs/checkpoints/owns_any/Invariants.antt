use Rattle.std.proofs.Common.{◌≡◌, drop}
use Rattle.std.specs.List.{list_any}
use Rattle.object_stream.specs.Stream.{is_own}
use Rattle.plain_volume.proofs.checkpoints.owns_any.Given as goal

abbrev pub invariant-loop-owner : goal.invariant-loop-owner
invariant-loop-owner l =
    list_any (is_own l.number) (drop l.owner-index l.owned) ≡ list_any (is_own l.number) l.owned
