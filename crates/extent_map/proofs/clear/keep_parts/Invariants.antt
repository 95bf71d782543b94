use Rattle.std.proofs.Common.{◌≡◌, ◌++◌, ◌-◌, length, take, drop}
use Rattle.page_list.specs.Items.{IsIn, cursor_index}
use Rattle.extent_map.specs.Clear.{rows_left}
use Rattle.extent_map.proofs.Kept.{KeptSoFar}
use Rattle.extent_map.proofs.clear.keep_parts.Given as goal

abbrev pub ghost-part_kept : goal.ghost-part_kept
ghost-part_kept g a = g.test

-- what was kept, and what is left of the rows from the place on, are what is left of all
abbrev pub invariant-loop-row : goal.invariant-loop-row
invariant-loop-row g l = record {
  lengths : l.rows.lengths ≡ l.fn.rows.lengths;
  free : l.rows.free ≡ l.fn.rows.free;
  kept : IsIn l.rows.lengths l.kept;
  place : IsIn l.rows.lengths l.at;
  so_far : KeptSoFar g.P.Place.on l.lba l.end g.test g.P.Place.number
      (take (cursor_index l.fn.rows.lengths l.fn.first) l.fn.rows.items
      ++ rows_left g.P.Place.on l.lba l.end g.test (drop (cursor_index l.fn.rows.lengths l.fn.first) l.fn.rows.items))
      l.rows.items (cursor_index l.rows.lengths l.kept) (cursor_index l.rows.lengths l.at);
}

abbrev pub decreases-loop-row : goal.decreases-loop-row
decreases-loop-row g l = length l.rows.items - cursor_index l.rows.lengths l.at
