use Rattle.std.proofs.Common.{◌≡◌, ◌+◌, ◌*◌, ◌-◌, ◌≤◌, ◌++◌, length, drop}
use Rattle.page_list.specs.Items.{IsIn, cursor_index}
use Rattle.extent_map.specs.Cut.{rows_before, rows_from}
use Rattle.extent_map.proofs.look.look.Given as goal

-- what was found, and what the rows from the place on give, are all
abbrev pub invariant-loop-row : goal.invariant-loop-row
invariant-loop-row g l = record {
  place : IsIn l.rows.lengths l.at;
  all : l.found.items ++ rows_before l.end (drop (cursor_index l.rows.lengths l.at) l.rows.items)
      ≡ rows_before l.end (rows_from g.P.Place.on l.lba l.rows.items);
  steps : l.steps ≤ l.initial.steps + 2 * length l.found.items;
  rises : l.initial.steps ≤ l.steps;
}

abbrev pub decreases-loop-row : goal.decreases-loop-row
decreases-loop-row g l = length l.rows.items - cursor_index l.rows.lengths l.at
