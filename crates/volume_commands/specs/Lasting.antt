-- Contract: what `create`, `serve` and `collect` leave of a volume is what its next mount asks for, with its whole history.
use Rattle.std.specs.Prelude.{◌≡◌, ℕ, ◌+◌, true, false, Option, Some, IsTrue, List, []}
use Rattle.lsvd_base.specs.declared.entry.Entry.{Entry}
use Rattle.lsvd_base.specs.Limits.{is_within_limits}
use Rattle.lsvd_device.specs.Device.{DiskState, HoldsNow}
use Rattle.lsvd_names.specs.Spelling.{IsUuid}
use Rattle.lsvd_objstore.specs.Objects.{Objects}
use Rattle.lsvd_objstore.specs.Store.{StoreState, ReceiptState}
use Rattle.commit_slot.specs.Slots.{log_of}
use Rattle.command_line.specs.Create.{sizes_of}
use Rattle.command_line.specs.declared.create.CreateRequest.{CreateRequest}
use Rattle.command_line.specs.declared.mount.MountRequest.{MountRequest}
use Rattle.command_line.specs.declared.serve.ServeRequest.{ServeRequest}
use Rattle.stopped_volume.specs.Device.{CacheOwner, owner_with}
use Rattle.stopped_volume.specs.Objects.{landed_in}
use Rattle.stopped_volume.specs.Store.{TellsBytes}
use Rattle.object_stream.specs.Landed.{Numbers}
use Rattle.plain_disk.specs.declared.log.PlainCommit.{PlainCommit}
use Rattle.plain_disk.specs.State.{PlainState, created_volume, history_length}
use Rattle.plain_disk.specs.Stops.{mounted_from, mounted_on}
use Rattle.refine_mount.specs.Found.{expected_for}
use Rattle.refine_mount.specs.Mounted.{sizes_with}
use Rattle.vol_recover.specs.Creating.{IsNewTo}
use Rattle.vol_recover.specs.Standing.{MayMountWith, MayMountWithout, StopMayMount}
use Rattle.volume_owner.specs.Acts.{moment_of}
use Rattle.volume_owner.specs.History.{GoesOn}
use Rattle.volume_server.specs.History.{Grows}
use Rattle.volume_server.specs.Serving.{ListenerState, ConnectionState}
use Rattle.volume_commands.specs.Creating.{CreatesOn}
use Rattle.volume_commands.specs.Collecting.{CollectsOn}
use Rattle.volume_commands.specs.Serving.{ServesOn}

-- ---- what is left

-- which of a plain volume's objects have landed, of these
abbrev pub landed_of : (uuid : List ℕ) → PlainState → Objects → Numbers
landed_of uuid plain objects = landed_in objects (expected_for uuid plain)

-- a mount without the cache may be made, on a log of so many sectors, and what it makes has each entry
abbrev pub ComesBackWithout : (uuid : List ℕ) → (epoch : ℕ) → PlainState → Objects → (log : ℕ) → Type 0
ComesBackWithout uuid epoch plain objects log =
    MayMountWithout uuid log epoch plain (landed_of uuid plain objects) objects
    × ((mounted_on log (landed_of uuid plain objects) plain).entries ≡ plain.entries)

-- what a mount with the cache makes, which reads as this commit, has each entry
abbrev pub ComesBackWith : (uuid : List ℕ) → PlainState → Objects → (found : PlainCommit) → Type 0
ComesBackWith uuid plain objects found = (mounted_from (landed_of uuid plain objects) found plain).entries ≡ plain.entries

-- A plain volume is left whole: of these objects it comes back without the cache, on each log within the limits, and with
-- whatever a stop leaves of the disk.
pub record IsLeftWhole (owner : CacheOwner) (plain : PlainState) (objects : Objects) (disk : DiskState) : Type 0 where
  pub log_is : plain.geometry.log ≡ log_of disk.size
  pub without : (log : ℕ) → IsTrue (is_within_limits (sizes_with log plain.geometry))
      → ComesBackWithout owner.uuid owner.epoch plain objects log
  pub with_cache : HoldsNow (StopMayMount owner plain (ComesBackWith owner.uuid plain objects) objects) disk.moments

-- These entries were added to a plain volume, and what it became is left whole, by a store that tells its objects.
pub record LeavesWhole (owner : CacheOwner) (added : List Entry) (plain : PlainState) (objects : Option Objects)
    (disk : DiskState) : Type 0 where
  pub after : PlainState
  pub goes_on : GoesOn added plain after
  pub left : Objects
  pub told : objects ≡ Some left
  pub whole : IsLeftWhole owner after left disk

-- So a run of `serve` leaves what its mount made, with the entries that its clients added; and it told how many that has.
pub record ServesWhole {D R L K : Type 0} {disk_state : D → DiskState} {receipt_state : R → ReceiptState}
    {listener_state : L → ListenerState} {coming : L → Option (List K)} {link_state : K → ConnectionState}
    (request : ServeRequest) {links : Option (List K)} {disk disk_left : DiskState} {store store_left : StoreState}
    {old new : Option (List ℕ)}
    (serves : ServesOn disk_state receipt_state listener_state coming link_state request links disk disk_left store store_left old
    new) (epoch : ℕ) (made : PlainState) : Type 0 where
  pub added : List Entry
  pub grows : Grows receipt_state added (moment_of serves.mounted.volume serves.mid) serves.does.last
  pub leaves : LeavesWhole (owner_with request.mount.volume epoch) added made store_left.objects disk_left
  pub count : serves.does.entries ≡ history_length leaves.after

-- ---- laws

-- A volume that was created in a store which had no more of it than a creation leaves that was stopped is left whole in epoch 0,
-- with no entries.
abbrev pub CreatedIsWhole : Type 0
CreatedIsWhole =
    (request : CreateRequest) (uuid : List ℕ) (disk disk_left : DiskState) (before : Objects) (after : Option Objects)
    → IsNewTo uuid before → CreatesOn request uuid disk disk_left (Some before) after
    → LeavesWhole (owner_with uuid 0) [] (created_volume (sizes_of request)) after disk_left

-- Where disk and store may be mounted with each other, a run of `serve` with the cache leaves what the mount made of them whole,
-- with the entries that clients added, in the same epoch.
abbrev pub ServedWithIsWhole : {D R L K : Type 0} → (D → DiskState) → (R → ReceiptState) → (L → ListenerState)
    → (L → Option (List K)) → (K → ConnectionState) → Type 0
ServedWithIsWhole {D} {R} {L} {K} disk_state receipt_state listener_state coming link_state =
    (request : ServeRequest) (links : Option (List K)) (disk disk_left : DiskState) (store store_left : StoreState)
    (old new : Option (List ℕ)) (epoch : ℕ) (plain : PlainState) (found : PlainCommit) (landed : Numbers) (objects : Objects)
    → TellsBytes receipt_state → IsUuid request.mount.volume → request.mount.is_lost ≡ false → store.objects ≡ Some objects
    → plain.geometry.log ≡ log_of disk.size → MayMountWith (owner_with request.mount.volume epoch) plain found landed objects disk
    → (serves : ServesOn disk_state receipt_state listener_state coming link_state request links disk disk_left store store_left
    old new)
    → ServesWhole request serves epoch (mounted_from landed found plain)

-- Where the store may be mounted without the cache on the log of a disk, a run without it leaves what that mount made whole so,
-- in the next epoch.
abbrev pub ServedWithoutIsWhole : {D R L K : Type 0} → (D → DiskState) → (R → ReceiptState) → (L → ListenerState)
    → (L → Option (List K)) → (K → ConnectionState) → Type 0
ServedWithoutIsWhole {D} {R} {L} {K} disk_state receipt_state listener_state coming link_state =
    (request : ServeRequest) (links : Option (List K)) (disk disk_left : DiskState) (store store_left : StoreState)
    (old new : Option (List ℕ)) (epoch : ℕ) (plain : PlainState) (landed : Numbers) (objects : Objects)
    → TellsBytes receipt_state → IsUuid request.mount.volume → request.mount.is_lost ≡ true → store.objects ≡ Some objects
    → MayMountWithout request.mount.volume (log_of disk.size) epoch plain landed objects
    → (serves : ServesOn disk_state receipt_state listener_state coming link_state request links disk disk_left store store_left
    old new)
    → ServesWhole request serves (epoch + 1) (mounted_on (log_of disk.size) landed plain)

-- So it is of a run of `collect`, to whose history nothing is added.
abbrev pub CollectedWithIsWhole : {D R : Type 0} → (D → DiskState) → (R → ReceiptState) → Type 0
CollectedWithIsWhole {D} {R} disk_state receipt_state =
    (request : MountRequest) (disk disk_left : DiskState) (store store_left : StoreState) (old new : Option (List ℕ)) (epoch : ℕ)
    (plain : PlainState) (found : PlainCommit) (landed : Numbers) (objects : Objects)
    → TellsBytes receipt_state → IsUuid request.volume → request.is_lost ≡ false → store.objects ≡ Some objects
    → plain.geometry.log ≡ log_of disk.size → MayMountWith (owner_with request.volume epoch) plain found landed objects disk
    → CollectsOn disk_state receipt_state request disk disk_left store store_left old new
    → LeavesWhole (owner_with request.volume epoch) [] (mounted_from landed found plain) store_left.objects disk_left

abbrev pub CollectedWithoutIsWhole : {D R : Type 0} → (D → DiskState) → (R → ReceiptState) → Type 0
CollectedWithoutIsWhole {D} {R} disk_state receipt_state =
    (request : MountRequest) (disk disk_left : DiskState) (store store_left : StoreState) (old new : Option (List ℕ)) (epoch : ℕ)
    (plain : PlainState) (landed : Numbers) (objects : Objects)
    → TellsBytes receipt_state → IsUuid request.volume → request.is_lost ≡ true → store.objects ≡ Some objects
    → MayMountWithout request.volume (log_of disk.size) epoch plain landed objects
    → CollectsOn disk_state receipt_state request disk disk_left store store_left old new
    → LeavesWhole (owner_with request.volume (epoch + 1)) [] (mounted_on (log_of disk.size) landed plain) store_left.objects
    disk_left
