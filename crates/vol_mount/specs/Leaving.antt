-- Contract: what a mount with the cache that gives none leaves of the device.
use Rattle.std.specs.Prelude.{◌≡◌, ◌⊎◌}
use Rattle.lsvd_base.specs.declared.geometry.Geometry.{Geometry}
use Rattle.lsvd_device.specs.Medium.{after_sync}
use Rattle.lsvd_device.specs.Device.{DiskState, HoldsNow, moments_after}
use Rattle.lsvd_device.specs.Memory.{IsSynced}
use Rattle.commit_slot.specs.Commits.{IsCommit, LeavesNow}
use Rattle.commit_slot.specs.LogArea.{MakesLogAreaDurable}
use Rattle.commit_slot.specs.Loading.{IsCrashSafeLoad, LeavesSettled}
use Rattle.refusals.specs.declared.refusal.Refusal.TheVariants.{NoSlot, WrongVolume, StaleCache, BadRecord, Worn}
use Rattle.vol_mount.specs.declared.error.MountError.{MountError}
use Rattle.vol_mount.specs.declared.error.MountError.TheVariants.{Refused, StoreFault, DeviceFault, OutOfMemory}
use Rattle.vol_mount.specs.Refusals.{ReadsAsCommitOf}

-- A device was no more than loaded. Where nothing was pending on it, a stop at each moment since leaves the commit that it read
-- as, and the log area as it was; and where its slots are as between two commits, it was not written.
pub record IsButLoaded (old new : DiskState) : Type 0 where
  pub safe : IsCrashSafeLoad old new
  pub settled : LeavesSettled old new

-- And it was loaded to the end: whatever a stop leaves now has the commit that it read as, and the log area as it was, and
-- nothing is pending.
pub record KeepsCommit (geometry : Geometry) (old new : DiskState) : Type 0 where
  pub loaded : IsButLoaded old new
  pub commit : ReadsAsCommitOf geometry (λ number body. LeavesNow (IsCommit number body) new) old
  pub log_area : MakesLogAreaDurable old.moments new.moments
  pub synced : HoldsNow IsSynced new.moments

-- What an error may leave of a device that is not as it was. One that is refused keeps its commit, and one without an open slot
-- was but synced. A fault may also come after all tests were passed.
abbrev pub MayLeaveDevice : (Passes : Type 0) → Geometry → MountError → (old new : DiskState) → Type 0
MayLeaveDevice Passes geometry (Refused (NoSlot log)) old new = new.moments ≡ moments_after after_sync old.moments
MayLeaveDevice Passes geometry (Refused (WrongVolume found)) old new = KeepsCommit geometry old new
MayLeaveDevice Passes geometry (Refused (StaleCache cache store)) old new = KeepsCommit geometry old new
MayLeaveDevice Passes geometry (Refused (BadRecord seq reason)) old new = KeepsCommit geometry old new
MayLeaveDevice Passes geometry (Refused (Worn value)) old new = KeepsCommit geometry old new
MayLeaveDevice Passes geometry StoreFault old new = Passes
MayLeaveDevice Passes geometry DeviceFault old new = IsButLoaded old new ⊎ Passes
MayLeaveDevice Passes geometry OutOfMemory old new = KeepsCommit geometry old new ⊎ Passes
MayLeaveDevice Passes geometry error old new = ⊥

-- it is as it was, or so
abbrev pub LeavesDevice : (Passes : Type 0) → Geometry → MountError → (old new : DiskState) → Type 0
LeavesDevice Passes geometry error old new = (new ≡ old) ⊎ MayLeaveDevice Passes geometry error old new
