use Rattle.std.specs.Prelude.{◌<◌, take}
use Rattle.vol_check.specs.Report.{own_object}
use Rattle.vol_check.specs.Steps.{Has, IsFilterOf}
use Rattle.vol_check.proofs.lists.unnamed_below.Given as goal

-- the list so far
abbrev pub invariant-loop-number : goal.invariant-loop-number
invariant-loop-number l =
    IsFilterOf (take l.number-index l.numbers) (λ number. (number < l.below) × (Has l.named (own_object number) → ⊥)) l.list.items
