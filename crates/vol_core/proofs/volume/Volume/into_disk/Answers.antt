use Rattle.std.proofs.Common.{subst}
use Rattle.cache_log.specs.Committed.{IsOnDisk}
use Rattle.stopped_volume.specs.Device.{CacheOwner}
use Rattle.vol_core.specs.Volume.{SteppedVolume, volume_with}
use Rattle.vol_core.specs.Shows.{IsVolume}
use Rattle.vol_core.specs.Stops.{HasOwnCommits, KeepsNow}
use Rattle.vol_core.proofs.StopSteps.{stands_now}
use Rattle.vol_core.proofs.volume.Volume.into_disk.Goals as goal

pub returns-clause-is_volume : goal.returns-clause-is_volume
returns-clause-is_volume g c = subst IsVolume c.self.view_is c.self.invariant

pub returns-clause-on_disk : goal.returns-clause-on_disk
returns-clause-on_disk g c =
    subst (λ (s : SteppedVolume). IsOnDisk s.volume.log) c.self.view_is c.into_disk.ensures.on_disk

pub returns-clause-stands : goal.returns-clause-stands
returns-clause-stands g c =
    let inside = c.self.inside in
    subst (λ (s : SteppedVolume). (owner : CacheOwner) → HasOwnCommits owner s.volume → KeepsNow owner s.volume) c.self.view_is
    (stands_now (volume_with inside.objects inside.log inside.plan) c.into_disk.ensures.on_disk)
