use Rattle.std.proofs.Common.{◌≡◌, ◌-◌, ◌*◌, ◌≤◌, ◌++◌, length}
use Rattle.object_format.specs.Rows.{data_row_in, rows_in}
use Rattle.object_format.proofs.rows_reading.data_rows_in.Given as goal

-- the rows so far and those in the rest are all rows, and there is room for these
abbrev pub invariant-loop : goal.invariant-loop
invariant-loop l = record {
  all : l.rows.items ++ rows_in 24 data_row_in (l.count - l.counter) l.rest ≡ rows_in 24 data_row_in l.count l.bytes;
  room : 24 * (l.count - l.counter) ≤ length l.rest;
}
