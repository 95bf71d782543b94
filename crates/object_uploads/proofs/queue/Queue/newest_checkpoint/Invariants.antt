use Rattle.std.proofs.Common.{◌≡◌, ◌+◌, drop}
use Rattle.object_uploads.specs.Queue.{newest_of}
use Rattle.object_uploads.proofs.queue.Queue.newest_checkpoint.Given as goal

-- the newest of the later objects, or the one so far, is the newest of all
abbrev pub invariant-loop-index : goal.invariant-loop-index
invariant-loop-index g l =
    newest_of l.newest (l.self-inside.frontier + 1 + l.index) (drop l.index l.self-inside.sealed.items)
    ≡ newest_of l.self-inside.maps.objects.checkpoint (l.self-inside.frontier + 1) l.self-inside.sealed.items
