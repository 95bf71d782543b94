-- Contract: what is seen of a volume that was mounted.
use Rattle.std.specs.Prelude.{◌≡◌, ℕ, ◌+◌, Option, None, IfSome, [], List, length}
use Rattle.clone_chain.specs.declared.ancestor.Ancestor.{Ancestor}
use Rattle.lsvd_base.specs.declared.geometry.Geometry.{Geometry}
use Rattle.lsvd_device.specs.Device.{DiskState, HoldsNow}
use Rattle.lsvd_objstore.specs.Objects.{Objects}
use Rattle.object_format.specs.declared.expected.Expected.{Expected}
use Rattle.commit_body.specs.declared.body.CommitBody.{CommitBody}
use Rattle.commit_slot.specs.Slots.{Reads}
use Rattle.stopped_volume.specs.Device.{CacheOwner}
use Rattle.plain_disk.specs.State.{PlainState, history_length}
use Rattle.object_recovery.specs.Table.{KnowsObjects}
use Rattle.refine_log.specs.Fuses.{fuse_in}
use Rattle.vol_core.specs.Volume.{SteppedVolume}
use Rattle.vol_core.specs.Shows.{Shows}
use Rattle.vol_core.specs.Step.{passing}
use Rattle.vol_core.specs.Stops.{HasOwnCommits}
use Rattle.vol_core.specs.View.{HasNoPins, removal_out}

-- a volume, how many entries its history has, and the number of the object before the first missing one
pub record MountedState : Type 0 where
  pub volume : SteppedVolume
  pub entries : ℕ
  pub number : ℕ

-- its device
abbrev pub disk_of : MountedState → DiskState
disk_of mounted = mounted.volume.volume.log.commits.disk

-- the commit that it made has the number after that of the commit which the device read as
abbrev pub NumbersNextCommit : (log : ℕ) → DiskState → MountedState → Type 0
NumbersNextCommit log old mounted =
    HoldsNow (λ now. (number : ℕ) (body : CommitBody) → Reads log now.bytes body number
    → mounted.volume.volume.log.commits.number ≡ number + 1) old.moments

-- It is the volume that was asked for, has made no step, and its commits are of this owner, which has its uuid. Each of its
-- objects is acknowledged, no plan of a read and none of a copy is out, and no removal.
pub record IsOfVolume (owner : CacheOwner) (geometry : Geometry) (chain : List Ancestor) (mounted : MountedState) : Type 0 where
  pub uuid_is : mounted.volume.volume.objects.uploads.uuid ≡ owner.uuid
  pub geometry_is : mounted.volume.volume.objects.batch.geometry ≡ geometry
  pub ancestors_are : mounted.volume.volume.objects.uploads.ancestors ≡ length chain
  pub steps : mounted.volume.steps ≡ 0
  pub own : HasOwnCommits owner mounted.volume.volume
  pub last : mounted.number ≡ mounted.volume.volume.objects.uploads.window.last
  pub acknowledged : mounted.volume.volume.objects.uploads.window.objects ≡ []
  pub none_sealed : mounted.volume.volume.objects.uploads.queue.sealed ≡ []
  pub plans : HasNoPins mounted.volume.volume
  pub none_out : removal_out mounted.volume.volume ≡ None
  pub no_plan : mounted.volume.volume.plan ≡ None

-- It shows a plain volume, whose device passes the calls that its own does, with its objects up to a number; and it knows the
-- objects that the store had up to there.
pub record IsMountOf (volume : Expected) (objects : Option Objects) (plain : PlainState) (number : ℕ) (mounted : MountedState) :
    Type 0 where
  pub shows : Shows mounted.volume.volume (passing (fuse_in mounted.volume.volume.log.commits.disk.budget) plain)
  pub entries : mounted.entries ≡ history_length plain
  pub number_is : mounted.number ≡ number
  pub knows : IfSome objects (λ objects. KnowsObjects volume objects plain.checkpoint.number
      mounted.volume.volume.objects.uploads.queue)
