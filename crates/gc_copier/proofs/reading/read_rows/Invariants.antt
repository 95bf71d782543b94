use Rattle.std.proofs.Common.{◌≡◌, ℕ, ◌-◌, ◌≤◌, List, false, length}
use Rattle.gc_copier.specs.Plan.{all_seen}
use Rattle.gc_copier.specs.Copying.{AsksGets}
use Rattle.gc_copier.specs.Runs.{CanRead, Fills}
use Rattle.gc_copier.proofs.reading.read_rows.Given as goal

-- the rest may be read, and to read it is to read all
abbrev pub invariant-loop-rest : goal.invariant-loop-rest
invariant-loop-rest g l = record {
  rows : CanRead (all_seen g.S.Receipt.Receipt.state l.sources) (length l.payload) l.rest;
  within : length l.rest ≤ length l.fn.rows;
  scratch : length l.scratch ≡ 1048576;
  then_all : (new : List ℕ) → Fills (all_seen g.S.Receipt.Receipt.state l.sources) l.rest l.payload new
      → Fills (all_seen g.S.Receipt.Receipt.state l.sources) l.fn.rows l.fn.payload new;
  asks : AsksGets (all_seen g.S.Receipt.Receipt.state l.sources) (length l.fn.rows - length l.rest) false
      (g.S.Store.state l.fn.store) (g.S.Store.state l.store) (g.S.Store.gets l.fn.store) (g.S.Store.gets l.store);
}

abbrev pub decreases-loop-rest : goal.decreases-loop-rest
decreases-loop-rest g l = length l.rest
