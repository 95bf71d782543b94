-- Contract: what a stop of the device leaves at each moment of a step.
use Rattle.std.specs.Prelude.{◌≡◌, ◌⊎◌, Bool, true, false}
use Rattle.stopped_volume.specs.Device.{CacheOwner}
use Rattle.plain_disk.specs.declared.log.PlainCommit.{PlainCommit}
use Rattle.plain_disk.specs.State.{PlainState}
use Rattle.refine_log.specs.Stops.{HasCommitted, IsFoundCommit, next_commit, StopKeepsNow, StopKeepsSince}
use Rattle.vol_core.specs.declared.event.Event.{Event}
use Rattle.vol_core.specs.declared.event.Event.TheVariants.{Write, Zero, Flush}
use Rattle.vol_core.specs.Volume.{VolumeState}
use Rattle.vol_core.specs.Shows.{Shows}

-- ---- which commit

-- the events that may make a commit: a flush, and an entry, for which room is made
abbrev pub may_commit : {R : Type 0} → Event R → Bool
may_commit (Write lba body) = true
may_commit (Zero lba sectors) = true
may_commit Flush = true
may_commit event = false

-- The commits that a stop may leave in the midst of a step of an event: the last one before it or the unfinished one, and where
-- the event may make a commit, that of all entries that there were before it.
abbrev pub MayBeLeftBy : {R : Type 0} → Event R → PlainState → (found : PlainCommit) → Type 0
MayBeLeftBy event plain found =
    IsFoundCommit found plain.cache.log ⊎ ((may_commit event ≡ true) × (found ≡ next_commit plain))

-- ---- what is kept

-- the commits of a volume's log are of this owner of its cache, with entries in range
abbrev pub HasOwnCommits : (owner : CacheOwner) → VolumeState → Type 0
HasOwnCommits owner volume = HasCommitted owner volume.objects.batch.geometry volume.log

-- Whatever a stop leaves of the device now reads as the last commit or as the unfinished one of each plain volume that the volume
-- shows.
abbrev pub KeepsNow : (owner : CacheOwner) → VolumeState → Type 0
KeepsNow owner volume =
    (plain : PlainState) → Shows volume plain
    → StopKeepsNow owner volume.log plain (λ found. IsFoundCommit found plain.cache.log)

-- The same at each moment of a step, of each plain volume that the volume showed before it, and where its event may make a
-- commit, that of all entries that there were; and the commits stay the owner's.
pub record KeepsSince {R : Type 0} (event : Event R) (owner : CacheOwner) (old new : VolumeState) : Type 0 where
  pub own : HasOwnCommits owner new
  pub since : (plain : PlainState) → Shows old plain
      → StopKeepsSince owner old.log plain (MayBeLeftBy event plain) new.log.commits.disk

-- so a step keeps it for each owner
abbrev pub StepKeeps : {R : Type 0} → Event R → (old new : VolumeState) → Type 0
StepKeeps event old new = (owner : CacheOwner) → HasOwnCommits owner old → KeepsSince event owner old new
