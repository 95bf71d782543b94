use Rattle.std.proofs.Common.{◌≡◌, ◌+◌, ◌-◌, ◌++◌}
use Rattle.std.specs.List.{list_any, range_with_len, filter}
use Rattle.object_stream.specs.Plain.{stream_of}
use Rattle.plain_volume.specs.Fields.{is_read_at, objects_at}
use Rattle.plain_volume.proofs.plans.objects_read.Given as goal

abbrev pub invariant-loop-before : goal.invariant-loop-before
invariant-loop-before l =
    l.numbers.items
    ++ filter (λ number. list_any (is_read_at (stream_of l.stream) l.frontier l.logged number) (range_with_len l.lba l.sectors))
    (range_with_len (l.before + 1) (l.frontier + 1 - (l.before + 1)))
    ≡ objects_at (stream_of l.stream) l.frontier l.logged l.lba l.sectors
