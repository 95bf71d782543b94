use Rattle.std.proofs.Common.{inr, refl}
use Rattle.volume_commands.proofs.work.run_work.Goals as goal

-- a collection asks the world for nothing
pub returns-in-Collection-clause-fault : goal.returns-in-Collection-clause-fault
returns-in-Collection-clause-fault g c is disks stores clients = inr (refl, c.collect_mounted.ensures.fault is disks stores)
