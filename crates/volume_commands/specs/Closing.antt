-- Contract: what holds of a volume that is let go, whose disk is given back.
use Rattle.std.specs.Prelude.{◌≡◌}
use Rattle.commit_slot.specs.Slots.{log_of}
use Rattle.stopped_volume.specs.Device.{CacheOwner}
use Rattle.vol_core.specs.Shows.{IsVolume}
use Rattle.vol_core.specs.Stops.{HasOwnCommits, KeepsNow}
use Rattle.vol_core.specs.Volume.{SteppedVolume}
use Rattle.vol_core.specs.View.{log_sectors, volume_disk}

-- It shows a plain volume, its log has the sectors of its disk, and for each owner that its commits are of, whatever a stop
-- leaves of the disk reads as one of them.
pub record IsLetGo (volume : SteppedVolume) : Type 0 where
  pub is_volume : IsVolume volume
  pub log : log_sectors volume.volume ≡ log_of (volume_disk volume.volume).size
  pub keeps : (owner : CacheOwner) → HasOwnCommits owner volume.volume → KeepsNow owner volume.volume
