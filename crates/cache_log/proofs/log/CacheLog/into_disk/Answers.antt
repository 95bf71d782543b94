use Rattle.std.proofs.Common.{subst}
use Rattle.cache_log.specs.Committed.{IsOnDisk}
use Rattle.cache_log.proofs.CommitLemmas.{is_on_disk}
use Rattle.cache_log.proofs.log.CacheLog.into_disk.Goals as goal

pub returns-clause-on_disk : goal.returns-clause-on_disk
returns-clause-on_disk g c = subst IsOnDisk c.self.view_is (is_on_disk _ _ _ _ _ _ c.self.invariant.1)
