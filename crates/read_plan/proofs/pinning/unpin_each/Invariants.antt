use Rattle.std.proofs.Common.{◌<◌, drop}
use Rattle.object_uploads.specs.State.{UploadsState}
use Rattle.object_uploads.specs.Removal.{UnpinsEach}
use Rattle.read_plan.proofs.PinLemmas.{HoldsFrom}
use Rattle.read_plan.proofs.pinning.unpin_each.Given as goal

-- the later objects are pinned, and to unpin them is to unpin all
abbrev pub invariant-loop-number : goal.invariant-loop-number
invariant-loop-number g l = record {
  some : HoldsFrom (λ pins. 0 < pins) l.numbers l.uploads l.number-index;
  then_all : (new : UploadsState) → UnpinsEach (drop l.number-index l.numbers) l.uploads new
      → UnpinsEach l.numbers l.fn.uploads new;
}
