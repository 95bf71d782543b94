use Rattle.std.proofs.Common.{refl, subst}
use Rattle.object_uploads.specs.Invariant.{IsKnown}
use Rattle.object_uploads.proofs.QueueKept.{known_as}
use Rattle.object_uploads.proofs.queue.Queue.frontier.Goals as goal

pub returns-clause-known : goal.returns-clause-known
returns-clause-known g c =
    subst IsKnown c.self.view_is (known_as _ _ c.self.invariant.2 refl refl refl refl)
