use Rattle.std.proofs.Common.{◌≡◌, take}
use Rattle.gc_copier.specs.Plan.{all_seen}
use Rattle.gc_copier.proofs.source.copy_sources.Given as goal

abbrev pub invariant-loop-source : goal.invariant-loop-source
invariant-loop-source g l =
    let state = g.R.Receipt.state in
    all_seen state l.copies.items ≡ all_seen state (take l.source-index l.sources)
