use Rattle.std.proofs.Common.{◌≡◌, ◌-◌, ◌++◌, map}
use Rattle.std.specs.List.{range_with_len}
use Rattle.object_stream.specs.Stream.{owners}
use Rattle.object_stream.specs.Plain.{stream_of}
use Rattle.plain_volume.specs.Fields.{owned_in}
use Rattle.plain_volume.proofs.checkpoints.owned_in.Given as goal

abbrev pub invariant-loop-sector : goal.invariant-loop-sector
invariant-loop-sector l =
    l.owned.items ++ map (owners (stream_of l.stream) l.number) (range_with_len l.sector (l.sectors - l.sector))
    ≡ owned_in (stream_of l.stream) l.sectors l.number
