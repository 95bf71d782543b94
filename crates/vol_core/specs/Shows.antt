-- Contract: when a volume shows a plain volume.
use Rattle.std.specs.Prelude.{◌≡◌, ℕ, ◌+◌, ◌*◌, ◌^◌, ◌≤◌}
use Rattle.cache_log.specs.Log.{next_seq}
use Rattle.cache_log.specs.Committed.{IsOnDisk}
use Rattle.object_table.specs.Table.{row_of}
use Rattle.object_uploads.specs.Queue.{pins_of}
use Rattle.object_uploads.specs.Order.{IsUploads}
use Rattle.plain_disk.specs.State.{PlainState}
use Rattle.plain_disk.specs.Valid.{IsPlainVolume}
use Rattle.refine_log.specs.Shows.{ShowsLog}
use Rattle.refine_log.specs.Fuses.{fuse_in}
use Rattle.refine_log.specs.Logged.{HasLoggedEntries}
use Rattle.refine_objects.specs.Shows.{ShowsObjects}
use Rattle.refine_objects.specs.Table.{ShowsTable}
use Rattle.refine_objects.specs.Plan.{ShowsPlan}
use Rattle.vol_core.specs.Volume.{VolumeState, SteppedVolume}

-- A volume shows a plain volume: the list of its entries and objects shows those, and the table of its objects which of them
-- stand in the store, which are pinned, and what the newest checkpoint maps; the plan of a copy that is out is that of the plain
-- volume; the log on its cache shows the plain log, and the device passes the calls that the plain one does, where it tells them.
-- So numbers and counts are the plain volume's always, and bytes where the device and the receipts tell them.
pub record Shows (volume : VolumeState) (plain : PlainState) : Type 0 where
  pub valid : IsPlainVolume plain
  pub data_at : ℕ → ℕ
  pub objects : ShowsObjects data_at volume.objects plain
  pub table : ShowsTable volume.objects.uploads.queue plain
  pub plan : ShowsPlan volume.objects.uploads.queue volume.plan plain
  pub log : ShowsLog volume.log plain.cache.log
  pub logged : HasLoggedEntries data_at volume.log plain
  pub fuse : plain.cache.left ≡ fuse_in volume.log.commits.disk.budget

-- ---- numbers

-- what the numbers of a volume are at a mount at most, and how many steps it makes at most after it
abbrev pub max_number : ℕ
max_number = 2 ^ 60

-- how often the object of a number is pinned by plans of reads
abbrev pub pins_on : VolumeState → (number : ℕ) → ℕ
pins_on volume number = pins_of (row_of number volume.objects.uploads.queue.maps.objects.rows)

-- the numbers of a volume that has made so many steps: one adds an entry and an object at most, two commits, and a pin to each
-- object
pub record IsSmall (volume : VolumeState) (steps : ℕ) : Type 0 where
  pub entries : next_seq volume.log ≤ max_number + steps
  pub objects : volume.objects.uploads.window.last ≤ max_number + steps
  pub commits : volume.log.commits.number ≤ max_number + 2 * steps
  pub pins : (number : ℕ) → pins_on volume number ≤ steps

-- a step adds an entry and an object at most, makes two commits at most, and pins each object once at most
pub record NumbersGrow (old new : VolumeState) : Type 0 where
  pub entries : next_seq new.log ≤ next_seq old.log + 1
  pub objects : new.objects.uploads.window.last ≤ old.objects.uploads.window.last + 1
  pub commits : new.log.commits.number ≤ old.log.commits.number + 2
  pub pins : (number : ℕ) → pins_on new number ≤ pins_on old number + 1

-- what holds of each volume
pub record IsVolume (stepped : SteppedVolume) : Type 0 where
  pub plain : PlainState
  pub shows : Shows stepped.volume plain
  pub steps : stepped.steps ≤ max_number
  pub small : IsSmall stepped.volume stepped.steps

-- and of the log and the uploads of each
pub record IsSound (volume : VolumeState) : Type 0 where
  pub on_disk : IsOnDisk volume.log
  pub uploads : IsUploads volume.objects.uploads
  pub sectors : volume.objects.uploads.sectors ≡ volume.objects.batch.geometry.sectors
