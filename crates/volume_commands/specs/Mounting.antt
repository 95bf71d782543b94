-- Contract: which volume a command mounts and what becomes of it, or why it mounts none.
use Rattle.std.specs.Prelude.{◌≡◌, ℕ, ◌≤◌, ◌^◌, ◌⊎◌, Bool, true, false, List, Option, Some, None, IfSome, Result, Ok, Err}
use Rattle.std.specs.Prelude.{option_map}
use Rattle.lsvd_device.specs.Device.{DiskState}
use Rattle.lsvd_objstore.specs.Objects.{Objects}
use Rattle.lsvd_objstore.specs.Store.{StoreState, ReceiptState}
use Rattle.command_line.specs.declared.mount.MountRequest.{MountRequest}
use Rattle.stopped_volume.specs.Store.{TellsBytes}
use Rattle.vol_core.specs.Volume.{SteppedVolume}
use Rattle.vol_core.specs.View.{volume_disk}
use Rattle.vol_mount.specs.declared.error.MountError.{MountError}
use Rattle.vol_mount.specs.declared.error.MountError.TheVariants.{Refused}
use Rattle.vol_mount.specs.Mounted.{MountedState}
use Rattle.vol_recover.specs.Admitting.{IsWhyNotAdmitted}
use Rattle.vol_recover.specs.Mounting.{MountsKept, MountsLost}
use Rattle.volume_owner.specs.Acts.{Moment, moment_of}
use Rattle.refusals.specs.declared.refusal.Refusal.{Refusal}
use Rattle.volume_commands.specs.Closing.{IsLetGo}
use Rattle.volume_commands.specs.World.{Places, where_told, bytes_with, IsGiven}

-- ---- the cache

-- the log of a cache that is made anew has at most 2^31 sectors
abbrev pub HasLogLength : MountRequest → Type 0
HasLogLength request = IfSome request.log (λ log. log ≤ 2 ^ 31)

-- how many sectors the log of a cache has that is made anew; None is for a cache that there is
abbrev pub log_if_lost : (is_lost : Bool) → Option ℕ → Option ℕ
log_if_lost true log = log
log_if_lost false log = None

abbrev pub log_anew : MountRequest → Option ℕ
log_anew request = log_if_lost request.is_lost request.log

-- the bytes of such a cache
abbrev pub bytes_anew : MountRequest → Option ℕ
bytes_anew request = option_map bytes_with (log_anew request)

-- ---- a mount

-- how a mount ends of the volume with this uuid, without its cache or with it
abbrev pub MountEnds : {D R : Type 0} → (D → DiskState) → (R → ReceiptState) → (is_lost : Bool) → (uuid : List ℕ) → DiskState
    → (old new : StoreState) → Result MountedState (D × MountError) → Type 0
MountEnds state receipt_state true uuid disk old new result =
    MountsLost state (TellsBytes receipt_state) uuid disk old new result
MountEnds state receipt_state false uuid disk old new result =
    MountsKept state (TellsBytes receipt_state) uuid disk old new result

-- ---- refusals

-- A refusal is told before the cache is made anew for this alone: the volume does not take the log that it is to have.
abbrev pub IsWhyBefore : MountRequest → Option Objects → Refusal → Type 0
IsWhyBefore request objects why =
    (log : ℕ) × (log_anew request ≡ Some log) × IsWhyNotAdmitted request.volume log objects (Refused why)

-- The volume that is asked for was refused by its mount of this disk and this store, which left them so.
abbrev pub RefusesOn : {D R : Type 0} → (D → DiskState) → (R → ReceiptState) → MountRequest → DiskState → (disk_left : D)
    → (store store_left : StoreState) → Refusal → Type 0
RefusesOn disk_state receipt_state request disk disk_left store store_left why =
    MountEnds disk_state receipt_state request.is_lost request.volume disk store store_left (Err (disk_left, Refused why))

-- It was refused so of the disk that stood at its path or was made anew, which stands there as the mount left it.
pub record RefusesCache {D R : Type 0} (tells : Bool) (disk_state : D → DiskState) (receipt_state : R → ReceiptState)
    (request : MountRequest) (stood stands : Option DiskState) (store store_left : StoreState) (why : Refusal) : Type 0 where
  pub disk : DiskState
  pub given : IsGiven tells (bytes_anew request) stood disk
  pub disk_left : D
  pub refuses : RefusesOn disk_state receipt_state request disk disk_left store store_left why
  pub cache_now : stands ≡ where_told tells (disk_state disk_left)

-- It was refused before the cache was made anew, which is as it was, or so.
abbrev pub RefusesIn : {D R : Type 0} → (tells : Bool) → (D → DiskState) → (R → ReceiptState) → MountRequest
    → (stood stands : Option DiskState) → (store store_left : StoreState) → Refusal → Type 0
RefusesIn tells disk_state receipt_state request stood stands store store_left why =
    ((TellsBytes receipt_state → IsWhyBefore request store.objects why) × (stands ≡ stood))
    ⊎ RefusesCache tells disk_state receipt_state request stood stands store store_left why

-- The volume that is asked for is refused, of the store that stood at its path, which stands there with the same objects, and of
-- the disk at that of its cache.
pub record RefusesFor {D R : Type 0} (tells : Bool) (disk_state : D → DiskState) (receipt_state : R → ReceiptState)
    (request : MountRequest) (before after : Places) (why : Refusal) : Type 0 where
  pub store : StoreState
  pub stood : before.stores request.store.now ≡ where_told tells store
  pub store_left : StoreState
  pub refuses : RefusesIn tells disk_state receipt_state request (before.disks request.cache.now)
      (after.disks request.cache.now) store store_left why
  pub same : store_left.objects ≡ store.objects
  pub store_now : after.stores request.store.now ≡ where_told tells store_left

-- ---- what is done

-- What is done with a volume that was mounted: of the volume and of the store as they were then, up to the moment at its end.
abbrev pub MountedRelation : Type 1
MountedRelation = MountedState → StoreState → Moment → Type 0

-- The volume that is asked for was mounted of this disk and this store, this was done with it, and it was let go, which left them
-- so.
pub record WorksOn {D R : Type 0} (disk_state : D → DiskState) (receipt_state : R → ReceiptState) (request : MountRequest)
    (Does : MountedRelation) (disk disk_left : DiskState) (store store_left : StoreState) : Type 0 where
  pub mounted : MountedState
  pub mid : StoreState
  pub mounts : MountEnds disk_state receipt_state request.is_lost request.volume disk store mid (Ok mounted)
  pub closing : SteppedVolume
  pub does : Does mounted mid (moment_of closing store_left)
  pub let_go : IsLetGo closing
  pub disk_is : disk_left ≡ volume_disk closing.volume

-- So it was of the disk that stood at its path or was made anew, which stands there as it was left.
pub record WorksIn {D R : Type 0} (tells : Bool) (disk_state : D → DiskState) (receipt_state : R → ReceiptState)
    (request : MountRequest) (Does : MountedRelation) (stood stands : Option DiskState) (store store_left : StoreState) :
    Type 0 where
  pub disk : DiskState
  pub given : IsGiven tells (bytes_anew request) stood disk
  pub disk_left : DiskState
  pub works : WorksOn disk_state receipt_state request Does disk disk_left store store_left
  pub cache_now : stands ≡ where_told tells disk_left

-- And so it was of the store that stood at its path, which stands there as it was left, and of the disk at that of its cache.
pub record WorksFor {D R : Type 0} (tells : Bool) (disk_state : D → DiskState) (receipt_state : R → ReceiptState)
    (request : MountRequest) (Does : MountedRelation) (before after : Places) : Type 0 where
  pub store : StoreState
  pub stood : before.stores request.store.now ≡ where_told tells store
  pub store_left : StoreState
  pub works : WorksIn tells disk_state receipt_state request Does (before.disks request.cache.now)
      (after.disks request.cache.now) store store_left
  pub store_now : after.stores request.store.now ≡ where_told tells store_left
