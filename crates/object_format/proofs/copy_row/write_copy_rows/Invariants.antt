use Rattle.std.proofs.Common.{◌≡◌, ◌*◌, take}
use Rattle.std.specs.List.{flat_map}
use Rattle.object_format.specs.Rows.{copy_row_bytes}
use Rattle.object_format.proofs.copy_row.write_copy_rows.Given as goal

-- the first rows are written
abbrev pub invariant-loop-index : goal.invariant-loop-index
invariant-loop-index l = take (44 * l.index) l.bytes ≡ flat_map copy_row_bytes (take l.index l.rows)
