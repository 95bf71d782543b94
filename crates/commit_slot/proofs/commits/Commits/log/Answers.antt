use Rattle.std.proofs.Common.{subst}
use Rattle.commit_slot.specs.OnDisk.{AreOnDisk}
use Rattle.commit_slot.proofs.CommitLemmas.{on_disk}
use Rattle.commit_slot.proofs.commits.Commits.log.Goals as goal

pub returns-clause-on_disk : goal.returns-clause-on_disk
returns-clause-on_disk g c = subst AreOnDisk c.self.view_is (on_disk _ c.self.invariant)
