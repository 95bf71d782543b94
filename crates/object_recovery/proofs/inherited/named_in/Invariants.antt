use Rattle.std.proofs.Common.{◌≡◌, ℕ, List, ◌++◌, length}
use Rattle.std.specs.List.{All}
use Rattle.extent_map.specs.declared.extent.Extent.{Extent}
use Rattle.ckpt_format.specs.declared.place.StoredPlace.{StoredPlace}
use Rattle.ckpt_format.specs.Checkpoint.{IsCheckpoint}
use Rattle.object_recovery.specs.Inherited.{AreNamedBy, IsOfLevelUpTo}
use Rattle.object_recovery.proofs.inherited.named_in.Given as goal

abbrev pub invariant-loop-row : goal.invariant-loop-row
invariant-loop-row l = record {
  object : l.rows.object ≡ l.bytes;
  expected : l.rows.expected ≡ l.expected;
  rest : (end : ℕ) (rows : List (Extent StoredPlace)) → IsCheckpoint l.bytes l.expected end rows
      → rows ≡ l.rows.given ++ l.rows.rest;
  named : AreNamedBy l.rows.given l.named.items;
  levels : All (IsOfLevelUpTo l.expected.ancestors) l.named.items;
}

abbrev pub decreases-loop-row : goal.decreases-loop-row
decreases-loop-row l = length l.rows.rest
