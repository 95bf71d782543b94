use Rattle.std.proofs.Common.{◌≡◌, ℕ, List, true, length, take, drop}
use Rattle.read_plan.specs.Rows.{AreRowsRead}
use Rattle.read_plan.specs.Look.{ReadsRows}
use Rattle.read_plan.proofs.rows.read_into.Given as goal

abbrev pub invariant-loop-row : goal.invariant-loop-row
invariant-loop-row g l = record {
  size : length l.bytes ≡ length l.fn.bytes;
  read : (new : List ℕ) → AreRowsRead l.fn.log l.lba (drop l.row-index l.rows) l.bytes new
      → AreRowsRead l.fn.log l.lba l.rows l.fn.bytes new;
  reads : ReadsRows (take l.row-index l.rows) true l.fn.log l.log;
}
