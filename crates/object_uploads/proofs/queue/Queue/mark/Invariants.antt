use Rattle.std.proofs.Common.{◌≡◌, take}
use Rattle.gc_copier.specs.Plan.{all_seen, numbers_of}
use Rattle.object_uploads.specs.Collection.{marked_in}
use Rattle.object_uploads.proofs.queue.Queue.mark.Given as goal

-- the first sources were marked
abbrev pub invariant-loop-source : goal.invariant-loop-source
invariant-loop-source g l =
    l.self
    ≡ marked_in l.is_copied (numbers_of (all_seen g.R.Receipt.state (take l.source-index l.sources))) l.initial.self
