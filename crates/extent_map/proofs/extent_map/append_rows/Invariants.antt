use Rattle.std.proofs.Common.{◌≡◌, ◌+◌, ◌≤◌, ◌++◌, length}
use Rattle.page_list.specs.Items.{insert_room}
use Rattle.extent_map.proofs.extent_map.append_rows.Given as goal

-- the rows that were put, and those that are left, are all, and there is room for these
abbrev pub invariant-loop-row : goal.invariant-loop-row
invariant-loop-row g l = record {
  all : l.rows.items ++ l.left ≡ l.initial.rows.items ++ l.initial.left;
  room : length l.left ≤ insert_room l.rows;
  spent : insert_room l.initial.rows + length l.left ≤ insert_room l.rows + length l.initial.left;
}

abbrev pub decreases-loop-row : goal.decreases-loop-row
decreases-loop-row g l = length l.left
