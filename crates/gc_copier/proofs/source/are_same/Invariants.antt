use Rattle.std.proofs.Common.{◌≡◌, take}
use Rattle.gc_copier.specs.Plan.{all_seen}
use Rattle.gc_copier.proofs.source.are_same.Given as goal

abbrev pub invariant-loop-index : goal.invariant-loop-index
invariant-loop-index g l =
    let state = g.R.Receipt.state in
    all_seen state (take l.index l.sources) ≡ all_seen state (take l.index l.others)
