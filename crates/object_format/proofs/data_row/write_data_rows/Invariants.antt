use Rattle.std.proofs.Common.{◌≡◌, ◌*◌, take}
use Rattle.std.specs.List.{flat_map}
use Rattle.object_format.specs.Rows.{data_row_bytes}
use Rattle.object_format.proofs.data_row.write_data_rows.Given as goal

-- the first rows are written
abbrev pub invariant-loop-index : goal.invariant-loop-index
invariant-loop-index l = take (24 * l.index) l.bytes ≡ flat_map data_row_bytes (take l.index l.rows)
