use Rattle.std.proofs.Common.{◌≡◌, length}
use Rattle.stopped_volume.specs.Opening.{owned_by}
use Rattle.vol_check.specs.Steps.{GainsJust, MapsObject}
use Rattle.vol_check.proofs.naming.add_rows.Given as goal

-- what the rows so far name was added
abbrev pub invariant-loop-row : goal.invariant-loop-row
invariant-loop-row l = record {
  object : l.rows.object ≡ l.bytes;
  expected : l.rows.expected ≡ l.expected;
  adds : GainsJust (MapsObject (owned_by l.rows.given)) l.initial.named l.named;
}

abbrev pub decreases-loop-row : goal.decreases-loop-row
decreases-loop-row l = length l.rows.rest
