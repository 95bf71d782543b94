use Rattle.std.proofs.Common.{◌≡◌, ◌≤◌, drop, None}
use Rattle.object_format.specs.Rows.{copy_rows_may_stand}
use Rattle.object_format.proofs.copy_row.copy_rows_may_stand.Given as goal

-- all rows may stand exactly where the rest may, and the payload so far does not pass the end
abbrev pub invariant-loop-row : goal.invariant-loop-row
invariant-loop-row l = record {
  rest : copy_rows_may_stand l.volume l.payload l.number None 0 l.rows ≡ copy_rows_may_stand l.volume l.payload l.number l.before
      l.place (drop l.row-index l.rows);
  within : l.place ≤ l.payload;
}
