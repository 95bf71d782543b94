-- Contract: what is seen of a volume.
use Rattle.std.specs.Prelude.{ℕ, Option, None}
use Rattle.lsvd_device.specs.Device.{DiskState}
use Rattle.commit_slot.specs.Commits.{with_budget}
use Rattle.cache_log.specs.Log.{LogState}
use Rattle.gc_copier.specs.Plan.{PlanState}
use Rattle.obj_log.specs.State.{ObjLogState}

-- A volume: its entries and objects, the log on its cache, and the plan of a copy that is out.
pub record VolumeState : Type 0 where
  pub objects : ObjLogState
  pub log : LogState
  pub plan : Option PlanState

-- a volume of these parts
abbrev pub volume_with : ObjLogState → LogState → Option PlanState → VolumeState
volume_with objects log plan = record { objects = objects; log = log; plan = plan }

-- one of which no plan is out
abbrev pub volume_of : ObjLogState → LogState → VolumeState
volume_of objects log = volume_with objects log None

-- the same volume on a device that passes what another one does
abbrev pub with_budget_of : DiskState → VolumeState → VolumeState
with_budget_of disk volume = record volume { log = record volume.log { commits = with_budget disk.budget volume.log.commits } }

-- a volume, and how many steps it has made since it was mounted
pub record SteppedVolume : Type 0 where
  pub volume : VolumeState
  pub steps : ℕ
