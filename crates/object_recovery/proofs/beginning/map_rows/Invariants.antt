use Rattle.std.proofs.Common.{◌≡◌, ℕ, List, ◌++◌, length}
use Rattle.extent_map.specs.declared.extent.Extent.{Extent}
use Rattle.ckpt_format.specs.declared.place.StoredPlace.{StoredPlace}
use Rattle.ckpt_format.specs.Checkpoint.{IsCheckpoint}
use Rattle.object_recovery.specs.Beginning.{HasRows}
use Rattle.object_recovery.proofs.beginning.map_rows.Given as goal

abbrev pub invariant-loop-row : goal.invariant-loop-row
invariant-loop-row g l = record {
  object : l.rows.object ≡ l.bytes;
  expected : l.rows.expected ≡ l.expected;
  rest : (end : ℕ) (rows : List (Extent StoredPlace)) → IsCheckpoint l.bytes l.expected end rows
      → rows ≡ l.rows.given ++ l.rows.rest;
  rows : HasRows l.rows.given l.initial.log l.log;
}

abbrev pub decreases-loop-row : goal.decreases-loop-row
decreases-loop-row g l = length l.rows.rest
