use Rattle.vol_mount.proofs.AddLemmas.{IsAddedUpTo}
use Rattle.vol_mount.proofs.adding.add_all.Given as goal

abbrev pub invariant-loop-index : goal.invariant-loop-index
invariant-loop-index g l =
    IsAddedUpTo l.fn.log l.fn.entries.items l.index-iterator.iter.rest.items l.index-iterator.count l.fn.objects l.objects
