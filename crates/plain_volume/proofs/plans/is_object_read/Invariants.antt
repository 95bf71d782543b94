use Rattle.std.proofs.Common.{◌≡◌, ◌+◌, ◌-◌}
use Rattle.std.specs.List.{list_any, range_with_len}
use Rattle.object_stream.specs.Plain.{stream_of}
use Rattle.plain_volume.specs.Fields.{is_read_at}
use Rattle.plain_volume.proofs.plans.is_object_read.Given as goal

abbrev pub invariant-loop-sector : goal.invariant-loop-sector
invariant-loop-sector l =
    list_any (is_read_at (stream_of l.stream) l.frontier l.logged l.number)
    (range_with_len l.sector (l.lba + l.sectors - l.sector))
    ≡ list_any (is_read_at (stream_of l.stream) l.frontier l.logged l.number) (range_with_len l.lba l.sectors)
