use Rattle.std.proofs.Common.{◌+◌, ◌<◌, ◌^◌, drop}
use Rattle.object_uploads.specs.State.{UploadsState}
use Rattle.object_uploads.specs.Removal.{PinsEach}
use Rattle.read_plan.proofs.PinLemmas.{HoldsFrom}
use Rattle.read_plan.proofs.pinning.pin_each.Given as goal

-- the later objects may be pinned, and to pin them is to pin all
abbrev pub invariant-loop-number : goal.invariant-loop-number
invariant-loop-number g l = record {
  few : HoldsFrom (λ pins. pins + 1 < 2 ^ 64) l.numbers l.uploads l.number-index;
  then_all : (new : UploadsState) → PinsEach (drop l.number-index l.numbers) l.uploads new
      → PinsEach l.numbers l.fn.uploads new;
}
