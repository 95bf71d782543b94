-- For `crash`: disks that fail no call, and what is created and mounted on them.
use Rattle.std.proofs.Common.{◌≡◌, ℕ, zero, suc, ◌+◌, ◌<◌, ◌≤◌, Bool, true, false, List, [], ◌∷◌, ◌++◌, length, take, min, get_or}
use Rattle.std.proofs.Common.{refl, sym, ◌∙◌, ap, subst, inl, inr, arith, rules}
use Rattle.std.specs.Prelude.{Option, Some, None, IsSome, Result, Ok, Err, OnOk, IfOk, is_err, not, ◌==◌}
use Rattle.std.specs.declared.alloc.AllocError.{AllocError}
use Rattle.std.proofs.lemmas.Bool.{cases_lt}
use Rattle.std.proofs.lemmas.List.Elements.{All-from_recursion}
use Rattle.lsvd_names.specs.Spelling.{IsUuid}
use Rattle.std.proofs.lemmas.List.{length-take-le, length_push, take_more}
use Rattle.lsvd_base.specs.declared.geometry.Geometry.{Geometry}
use Rattle.lsvd_fault.specs.Faults.{Counts, CountsOne}
use Rattle.lsvd_names.specs.declared.name.ObjName.{ObjName}
use Rattle.lsvd_names.specs.Names.{super_name, numbered_name, hold_name}
use Rattle.lsvd_device.specs.Medium.{Medium}
use Rattle.lsvd_device.specs.Calls.{Fuse, Budget, Cost, Takes, fuse_of, passes, fuse_after}
use Rattle.lsvd_device.specs.Device.{DiskState, HoldsNow, MakesCalls}
use Rattle.lsvd_device.specs.Memory.{HasRoom, IsSynced}
use Rattle.lsvd_device.specs.Sequence.{Call, passed_of}
use Rattle.lsvd_device.specs.Stop.{HasNow}
use Rattle.lsvd_device.specs.declared.fate.Fate.{Fate}
use Rattle.lsvd_objstore.specs.Memory.{Kept}
use Rattle.lsvd_objstore.specs.Objects.{Objects, found, IsPut, IsRemoved}
use Rattle.lsvd_objstore.specs.Store.{Becomes}
use Rattle.object_uploads.specs.State.{UploadsState}
use Rattle.stopped_volume.specs.Opening.{IsCheckpointOf}
use Rattle.super_recovery.proofs.LawLemmas.{next_epoch_is_begun}
use Rattle.object_recovery.specs.Checkpoints.{expected_of}
use Rattle.commit_slot.specs.Slots.{log_of}
use Rattle.commit_slot.specs.Formatting.{format_cost, format_calls}
use Rattle.commit_slot.specs.Sequence.{Costs}
use Rattle.cache_log.specs.Committed.{first_body}
use Rattle.commit_slot.specs.Loading.{MakesAtMost}
use Rattle.plain_disk.specs.State.{created_volume}
use Rattle.object_recovery.specs.Recovery.{RemovesAllPast}
use Rattle.refine_log.specs.Fuses.{fuse_in}
use Rattle.refine_log.proofs.Asked.{asked, has_now}
use Rattle.refine_store.specs.Puts.{IsObjectOf}
use Rattle.refine_store.specs.Stored.{StoreStands}
use Rattle.stopped_volume.specs.Store.PutState.{Acknowledged}
use Rattle.vol_core.specs.Volume.{SteppedVolume}
use Rattle.vol_core.proofs.CreateLemmas.{format_covered}
use Rattle.vol_recover.specs.declared.creating.CreateError.{CreateError}
use Rattle.vol_recover.specs.declared.creating.CreateError.TheVariants as create_errors
use Rattle.refusals.specs.declared.refusal.Refusal.TheVariants.{Worn}
use Rattle.vol_mount.specs.declared.error.MountError.{MountError}
use Rattle.vol_mount.specs.declared.error.MountError.TheVariants.{Refused, StoreFault, DeviceFault, OutOfMemory}
use Rattle.vol_mount.specs.Costs.{mount_cost, CostsMount}
use Rattle.vol_mount.specs.Costs as mounts
use Rattle.vol_mount.specs.Epochs.{BeginsEpoch}
use Rattle.vol_mount.specs.Mounted.{MountedState, disk_of, IsOfVolume}
use Rattle.vol_mount.specs.Mounting.{RefusesNoneStored, RefusesNoneLeft, KeepsLeft}
use Rattle.vol_mount.specs.Refusals.{IsWhyLost, IsWhyNotLeft, refuses, is_device_fault, is_store_fault_of}
use Rattle.vol_recover.specs.Creating.{IsNewTo, HasNewVolume, CreatedWithStore, NotCreatedWithStore, is_put_fault}
use Rattle.vol_recover.specs.Describing.{OfVolume, IsWhyFor}
use Rattle.vol_recover.proofs.ForCallers.{FailsToFormatIn}
use Rattle.vol_recover.proofs.StandLemmas.{removal_keeps_volume}
use Rattle.replay_rig.specs.Crash.{FailsNone, IsBlankDisk, IsLeftBy, IsNewVolume, MayMountStored, MayMountLeft}
use Rattle.replay_rig.specs.Crash.{RemovesNumbers, IsMountedVolume, IsPutAs}
use Rattle.replay_rig.specs.Puts.{PutView, IsPutOut}
use Rattle.replay_rig.specs.Rig.{script_uuid, owner_at, LandsAs, Lands}

-- ---- calls within the room of a disk without a fuse

none_inside : (budget : Budget) → fuse_of (Some budget) ≡ Some None → budget.fuse ≡ None
none_inside budget is = cc

-- they are made, and there is no fuse then
takes_all : (cost : Cost) (is_made : Bool) (old new : Option Budget) → fuse_of old ≡ Some None
    → HasRoom cost.changes cost.bytes old
    → Takes cost is_made old new → (is_made ≡ true) × (fuse_of new ≡ Some None)
takes_all cost is_made None new fuse room takes = absurd room
takes_all cost is_made (Some old) new fuse room takes =
    let none = none_inside old fuse in
    let within = takes.2 room.0 room.1 in (
      within.made ∙ ap (λ (f : Fuse). passes f cost.calls) none,
      ap fuse_of takes.1 ∙ ap Some (within.fuse ∙ ap (λ (f : Fuse). fuse_after f cost.calls) none),
    )

room_less : (calls bytes fewer less : ℕ) (budget : Option Budget) → HasRoom calls bytes budget → fewer ≤ calls → less ≤ bytes
    → HasRoom fewer less budget
room_less calls bytes fewer less None room few small = room
room_less calls bytes fewer less (Some budget) room few small =
    let x = room.0 in
    let y = room.1 in
    (omega (arith, x, few), omega (arith, y, small))

makes_all : (cost : Cost) (is_made : Bool) (old new : DiskState) → FailsNone cost old → MakesCalls cost is_made old new
    → (is_made ≡ true) × (fuse_of new.budget ≡ Some None)
makes_all cost is_made old new fails makes = takes_all cost is_made old.budget new.budget fails.fuse fails.room makes.budget

most_all : (most : Cost) (is_made : Bool) (old new : DiskState) → FailsNone most old → MakesAtMost most is_made old new
    → (is_made ≡ true) × (fuse_of new.budget ≡ Some None)
most_all most is_made old new fails makes =
    takes_all makes.cost is_made old.budget new.budget fails.fuse
    (room_less most.changes most.bytes makes.cost.changes makes.cost.bytes old.budget fails.room makes.most_changes
    makes.most_bytes)
    makes.calls.budget

-- the room for a mount is the same whatever entries there are
mounts_all : (log : ℕ) (is_made : Bool) (old new : DiskState) → FailsNone (mount_cost 0) old → CostsMount log is_made old new
    → (is_made ≡ true) × (fuse_of new.budget ≡ Some None)
mounts_all log is_made old new fails is =
    most_all (mount_cost is.count) is_made old new (record { is_disk = fails.is_disk; fuse = fails.fuse; room = fails.room })
    is.calls

-- ---- a store in memory

-- it tells what it becomes
becomes_told : (Change : Objects → Objects → Type 0) (old new : Objects) → Becomes Change (Some old) (Some new) → Change old new
becomes_told Change old new becomes =
    let same : new ≡ becomes.0 = (let e = becomes.1 in cc) in
    subst (Change old) (sym same) becomes.2

-- and no call of it fails
no_fault : CountsOne 0 0 → ⊥
no_fault one = elim one.risen [ inl less ↦ omega (arith, less) | inr most ↦ omega (arith, most) ]

-- ---- a volume that is created

blank_now : (len : ℕ) (disk : DiskState) → IsBlankDisk len disk → HasNow (λ now. Unit {0}) disk.moments
blank_now len disk blank = subst (HasNow (λ now. Unit {0})) (sym blank.moments) tt

-- an empty store has nothing of a volume
empty_is_new : (objects : Objects) → objects ≡ [] → IsNewTo script_uuid objects
empty_is_new objects empty = λ name own there. absurd (there (ap (λ (os : Objects). found os name) empty))

-- the first object stands in a store that stands for a new volume, and no other one does
as_checkpoint : (geometry : Geometry) (bytes : List ℕ) (new : Objects) → found new (numbered_name script_uuid 1) ≡ Some bytes
    → IsObjectOf (expected_of script_uuid geometry 0) (created_volume geometry) 1 bytes
    → IsCheckpointOf (expected_of script_uuid geometry 0) new 1 0 (λ k. None)
as_checkpoint geometry bytes new present (inl is) =
    record { bytes = bytes; present = present; rows = is.rows; is_checkpoint = is.is_checkpoint; says = is.says }
as_checkpoint geometry bytes new present (inr later) = absurd (omega (arith, later.past))

new_first : (geometry : Geometry) (uploads : UploadsState) (new : Objects)
    → StoreStands script_uuid 0 (created_volume geometry) uploads new
    → IsCheckpointOf (expected_of script_uuid geometry 0) new 1 0 (λ k. None)
new_first geometry uploads new stands =
    let known = stands.are.known 1 (omega arith) (omega arith) refl in
    as_checkpoint geometry known.0 new (stands.left.held.puts_are 1 Acknowledged known.0 known.1) known.2

new_alone : (geometry : Geometry) (uploads : UploadsState) (new : Objects) (number : ℕ)
    → StoreStands script_uuid 0 (created_volume geometry) uploads new → (number ≡ 1 → ⊥)
    → found new (numbered_name script_uuid number) ≡ None
new_alone geometry uploads new number stands other =
    elim (cases_lt 1 number) [
      | inl past ↦ stands.left.held.none_else number (stands.are.none_else number past)
      | inr low ↦
          let none : number ≡ 0 = omega (arith, low, other) in
          ap (λ n. found new (numbered_name script_uuid n)) none ∙ stands.left.held.none_else 0 stands.are.none_first
    ]

pub new_volume : (geometry : Geometry) (disk : DiskState) (volume : SteppedVolume) (old new : Objects)
    → FailsNone format_cost disk
    → IsBlankDisk disk.size disk → old ≡ []
    → CreatedWithStore script_uuid geometry disk (Some old) (Some new) volume → IsNewVolume geometry volume new
new_volume geometry disk volume old new fails blank empty created =
    let new_one : HasNewVolume script_uuid geometry new = created.stands (empty_is_new old empty) in
    let uploads : UploadsState = volume.volume.objects.uploads in
    record {
      created = created.volume.is;
      fuse = (makes_all format_cost true disk volume.volume.log.commits.disk fails created.volume.calls.calls).1;
      pending = created.volume.pending (record { now = blank_now disk.size disk blank; room = fails.room });
      commits = created.volume.is.number;
      described = new_one.0;
      first = new_first geometry uploads new (new_one.2 uploads);
      none_else = λ number other. new_alone geometry uploads new number (new_one.2 uploads) other;
      holds = (new_one.2 uploads).left.holds;
    }

-- what ends a creation is want of memory alone
pub only_memory_to_create : (geometry : Geometry) (disk left : DiskState) (old new : Objects) (error : CreateError)
    → FailsNone format_cost disk → old ≡ []
    → NotCreatedWithStore script_uuid geometry disk left (Some old) (Some new) error → Counts (is_put_fault error) 0 0
    → error ≡ create_errors.OutOfMemory
only_memory_to_create geometry disk left old new create_errors.Exists fails empty none counts =
    absurd (let e : IsSome (found [] (super_name script_uuid)) =
    subst (λ (os : Objects). IsSome (found os (super_name script_uuid))) empty (none.exists refl) in cc)
only_memory_to_create geometry disk left old new create_errors.StoreFault fails empty none counts = absurd (no_fault counts)
only_memory_to_create geometry disk left old new create_errors.DeviceFault fails empty none counts =
    absurd (let made = (makes_all format_cost false disk left fails none.calls.calls).0 in cc)
only_memory_to_create geometry disk left old new create_errors.OutOfMemory fails empty none counts = refl

-- ---- a mount with the cache

has_one : (P : Medium → Type 0) (moments : List Medium) → HasNow P moments → HasNow (λ now. Unit {0}) moments
has_one P [] has = has
has_one P (now ∷ past) has = tt

-- what it has is not refused
no_refusal_left : (geometry : Geometry) (objects : Objects) (disk : DiskState) (error : MountError)
    → (may : MayMountLeft geometry objects disk)
    → OfVolume script_uuid (log_of disk.size) (Some objects) (λ g chain epoch.
    RefusesNoneLeft (owner_at epoch) g chain (Some objects) disk error)
    → refuses error ≡ true → ⊥
no_refusal_left geometry objects disk error may none refused =
    (let e = none geometry may.plain.chain may.epoch may.log may.described may.plain may.found may.number may.left in cc)

-- what ends a mount is want of memory alone
pub only_memory_left : (geometry : Geometry) (objects : Objects) (disk left : DiskState) (error : MountError)
    → FailsNone (mount_cost 0) disk
    → MayMountLeft geometry objects disk
    → OfVolume script_uuid (log_of disk.size) (Some objects)
    (λ g chain epoch.
    IsWhyFor script_uuid (Some objects) (λ h c e. IsWhyNotLeft (owner_at e) h c (Some objects) disk) g chain epoch error)
    → OfVolume script_uuid (log_of disk.size) (Some objects) (λ g chain epoch.
    RefusesNoneLeft (owner_at epoch) g chain (Some objects) disk error)
    → CostsMount (log_of disk.size) (not (is_device_fault error)) disk left → Counts (is_store_fault_of error) 0 0
    → error ≡ OutOfMemory
only_memory_left geometry objects disk left (Refused (Worn value)) fails may why none costs counts =
    absurd
    (elim (why geometry may.plain.chain may.epoch may.log may.described) [ inl unfit ↦ unfit.1 | inr worn ↦ may.low value worn ])
only_memory_left geometry objects disk left (Refused refusal) fails may why none costs counts =
    absurd (no_refusal_left geometry objects disk (Refused refusal) may none refl)
only_memory_left geometry objects disk left StoreFault fails may why none costs counts = absurd (no_fault counts)
only_memory_left geometry objects disk left DeviceFault fails may why none costs counts =
    absurd (let made = (mounts_all (log_of disk.size) false disk left fails costs).0 in cc)
only_memory_left geometry objects disk left OutOfMemory fails may why none costs counts = refl

-- nothing is pending on what a stop leaves
pub left_is_synced : (fates : List Fate) (before left : DiskState) → IsLeftBy fates before left → HoldsNow IsSynced left.moments
left_is_synced fates before left is = subst (HoldsNow IsSynced) (sym is.stopped.moments)
    (record { pending = refl; synced = refl })

-- where there was a moment, there is one after further ones
still_one : (since old : List Medium) → HasNow (λ now. Unit {0}) old → HasNow (λ now. Unit {0}) (since ++ old)
still_one [] old has = has
still_one (now ∷ since) old has = tt

synced_one : (moments : List Medium) → HoldsNow IsSynced moments → HasNow (λ now. Unit {0}) moments → HasNow IsSynced moments
synced_one [] synced has = absurd has
synced_one (now ∷ past) synced has = synced

script_is_uuid : IsUuid script_uuid
script_is_uuid = record { count = refl; bytes = All-from_recursion (λ b. b < 256) script_uuid (search rules) }

-- what the removal of the objects past a number leaves of those with numbers
removes_numbers : (number : ℕ) (old new : Objects) → RemovesAllPast script_uuid number old new → RemovesNumbers number old new
removes_numbers number old new removed = record {
  stay = λ n low.
      removed.removes.others (numbered_name script_uuid n) (λ past. (let above = past.1.1 in omega (arith, above, low)));
  gone = λ n past fits.
      removed.gone (numbered_name script_uuid n) (record { uuid = script_is_uuid; number = tt; fits = fits })
      (refl, (refl, past));
  none = λ n none. elim (removed.removes.removed (numbered_name script_uuid n)) [
    | inl same ↦ same ∙ none
    | inr gone ↦ gone
  ];
  holds = λ n. removed.removes.others (hold_name script_uuid n) (λ past. (let e = past.1.0 in cc));
  others = λ name apart. removed.removes.others name (λ past. apart past.0);
}

pub mounted_again : (geometry : Geometry) (disk : DiskState) (mounted : MountedState) (old new : Objects)
    → FailsNone (mount_cost 0) disk
    → MayMountLeft geometry old disk
    → OfVolume script_uuid (log_of disk.size) (Some old) (λ g chain epoch. IsOfVolume (owner_at epoch) g chain mounted)
    → Becomes (RemovesAllPast script_uuid mounted.number) (Some old) (Some new)
    → OfVolume script_uuid (log_of disk.size) (Some old) (λ g chain epoch.
    KeepsLeft (owner_at epoch) g chain (Some old) disk (disk_of mounted))
    → CostsMount (log_of disk.size) true disk (disk_of mounted) → HoldsNow IsSynced (disk_of mounted).moments
    → OfVolume script_uuid (log_of disk.size) (Some old) (λ g chain epoch. IsMountedVolume g chain epoch old mounted new)
mounted_again geometry disk mounted old new fails may volume becomes stops costs synced = λ g chain epoch log described.
    let since =
    stops geometry may.plain.chain may.epoch may.log may.described may.plain may.found may.number may.left may.synced in
    let one = still_one since.since disk.moments (has_one _ disk.moments may.left.device) in
    let removed = becomes_told (RemovesAllPast script_uuid mounted.number) old new becomes in
    record {
      volume = volume g chain epoch log described;
      described = removal_keeps_volume script_uuid mounted.number old new removed.removes g chain epoch described.0;
      removed = removes_numbers mounted.number old new removed;
      fuse = (mounts_all (log_of disk.size) true disk (disk_of mounted) fails costs).1;
      now = synced_one (disk_of mounted).moments synced (subst (HasNow (λ now. Unit {0})) (sym since.moments) one);
    }

-- ---- a mount without it

formatted_one : (epoch end : ℕ) (disk new : DiskState) → FailsNone format_cost disk → IsBlankDisk disk.size disk
    → Costs format_cost (format_calls (first_body script_uuid epoch end)) true disk new → HasNow (λ now. Unit {0}) new.moments
formatted_one epoch end disk new fails blank costs =
    let calls : List Call = format_calls (first_body script_uuid epoch end) in
    let is = asked format_cost calls true disk new (format_covered (first_body script_uuid epoch end) refl) fails.room costs in
    let passed : List Call = take (passed_of (fuse_in disk.budget) (length calls)) calls in
    subst (HasNow (λ now. Unit {0})) (sym is.moments) (has_now passed disk.moments (blank_now disk.size disk blank))

-- what is so of the numbered objects stays where an epoch is put
begun_numbers : (number epoch : ℕ) (old new : Objects) → BeginsEpoch script_uuid number epoch old new
    → RemovesNumbers number old new
begun_numbers number epoch old new begun =
    let (middle, removed, put) = begun in
    let before = removes_numbers number old middle removed in
    let same = λ (n : ℕ).
    put.others (numbered_name script_uuid n) (λ same. (let e = ap (λ (name : ObjName). name.kind) same in cc)) in
    record {
      stay = λ n low. same n ∙ before.stay n low;
      gone = λ n past fits. same n ∙ before.gone n past fits;
      none = λ n none. same n ∙ before.none n none;
      holds = λ n.
          put.others (hold_name script_uuid n) (λ same. (let e = ap (λ (name : ObjName). name.kind) same in cc))
          ∙ before.holds n;
      others = λ name apart.
          put.others name (λ same. apart (ap (λ (named : ObjName). named.uuid) same)) ∙ before.others name apart;
    }

pub mounted_anew : (disk : DiskState) (mounted : MountedState) (old new : Objects) → FailsNone format_cost disk
    → IsBlankDisk disk.size disk → OfVolume script_uuid (log_of disk.size) (Some old)
    (λ g chain epoch. IsOfVolume (owner_at (epoch + 1)) g chain mounted)
    → OfVolume script_uuid (log_of disk.size) (Some old) (λ g chain epoch.
    Becomes (BeginsEpoch script_uuid mounted.number (epoch + 1)) (Some old) (Some new))
    → (epoch : ℕ) × mounts.CostsNewLog script_uuid epoch true disk (disk_of mounted) → HoldsNow IsSynced (disk_of mounted).moments
    → OfVolume script_uuid (log_of disk.size) (Some old) (λ g chain epoch. IsMountedVolume g chain (epoch + 1) old mounted new)
mounted_anew disk mounted old new fails blank volume becomes costs synced = λ g chain epoch log described.
    let begun = becomes_told (BeginsEpoch script_uuid mounted.number (epoch + 1)) old new (becomes g chain epoch log described) in
    let (middle, removed, put) = begun in
    record {
      volume = volume g chain epoch log described;
      described =
          next_epoch_is_begun script_uuid g chain epoch middle new
          (removal_keeps_volume script_uuid mounted.number old middle removed.removes g chain epoch described.0) put;
      removed = begun_numbers mounted.number (epoch + 1) old new begun;
      fuse = (makes_all format_cost true disk (disk_of mounted) fails costs.1.calls.calls).1;
      now = synced_one (disk_of mounted).moments synced (formatted_one costs.0 costs.1.end disk (disk_of mounted) fails blank
          costs.1.calls);
    }

no_refusal_stored : (geometry : Geometry) (sectors : ℕ) (objects : Objects) (error : MountError) → geometry.log ≡ sectors
    → MayMountStored geometry objects
    → OfVolume script_uuid sectors (Some objects) (λ g chain epoch. RefusesNoneStored script_uuid g chain (Some objects) error)
    → refuses error ≡ true → ⊥
no_refusal_stored geometry sectors objects error log may none refused =
    (let e = none geometry may.plain.chain may.epoch log may.described may.plain may.number may.stored in cc)

-- what ends it is want of memory alone
pub only_memory_anew : (geometry : Geometry) (objects : Objects) (disk left : DiskState) (error : MountError)
    → FailsNone format_cost disk
    → geometry.log ≡ log_of disk.size → MayMountStored geometry objects
    → OfVolume script_uuid (log_of disk.size) (Some objects)
    (λ g chain epoch.
    IsWhyFor script_uuid (Some objects) (λ h c e. IsWhyLost script_uuid h c e (Some objects)) g chain epoch error)
    → OfVolume script_uuid (log_of disk.size) (Some objects) (λ g chain epoch. RefusesNoneStored script_uuid g chain
    (Some objects) error)
    → FailsToFormatIn script_uuid (is_device_fault error) disk left → Counts (is_store_fault_of error) 0 0 → error ≡ OutOfMemory
only_memory_anew geometry objects disk left (Refused (Worn value)) fails log_is may why none format counts =
    absurd
    (elim (why geometry may.plain.chain may.epoch log_is may.described) [ inl unfit ↦ unfit.1 | inr worn ↦ may.low value worn ])
only_memory_anew geometry objects disk left (Refused refusal) fails log_is may why none format counts =
    absurd (no_refusal_stored geometry (log_of disk.size) objects (Refused refusal) log_is may none refl)
only_memory_anew geometry objects disk left StoreFault fails log_is may why none format counts = absurd (no_fault counts)
only_memory_anew geometry objects disk left DeviceFault fails log_is may why none format counts =
    absurd (let made = (makes_all format_cost false disk left fails format.1.calls.calls).0 in cc)
only_memory_anew geometry objects disk left OutOfMemory fails log_is may why none format counts = refl

-- ---- objects that land

lands_one_more : (puts : List PutView) (letters : List ℕ) (put : PutView) (letter : ℕ) (old middle new : Objects)
    → length puts ≡ length letters
    → Lands puts letters old middle → LandsAs (letter == 121) put middle new
    → Lands (puts ++ put ∷ []) (letters ++ letter ∷ []) old new
lands_one_more [] [] put letter old middle new same before lands =
    (new, subst (λ objects. LandsAs (letter == 121) put objects new) before lands, refl)
lands_one_more [] (other ∷ letters) put letter old middle new same before lands = absurd (omega (arith, same))
lands_one_more (one ∷ puts) [] put letter old middle new same before lands = absurd (omega (arith, same))
lands_one_more (one ∷ puts) (other ∷ letters) put letter old middle new same before lands =
    (before.0, before.1, lands_one_more puts letters put letter before.0 middle new (omega (arith, same)) before.2 lands)

-- those of the first letters, and the next one
pub lands_next : {X : Type 0} (puts : List PutView) (letters : List ℕ) (yielded : List X) (item : X) (put : PutView) (letter : ℕ)
    (old middle new : Objects)
    → (length yielded < length puts) × (length yielded < length letters)
    × ((other : PutView) → put ≡ get_or puts (length yielded) other)
    × ((other : ℕ) → letter ≡ get_or letters (length yielded) other)
    → Lands (take (length yielded) puts) (take (length yielded) letters) old middle → LandsAs (letter == 121) put middle new
    → Lands (take (length (yielded ++ item ∷ [])) puts) (take (length (yielded ++ item ∷ [])) letters) old new
lands_next puts letters yielded item put letter old middle new turn before lands =
    let count : ℕ = length yielded in
    let inside = turn.0 in
    let within = turn.1 in
    let first : take (count + 1) puts ≡ take count puts ++ put ∷ [] =
    take_more puts count put inside ∙ ap (λ (p : PutView). take count puts ++ p ∷ []) (sym (turn.2 put)) in
    let second : take (count + 1) letters ≡ take count letters ++ letter ∷ [] =
    take_more letters count letter within ∙ ap (λ (l : ℕ). take count letters ++ l ∷ []) (sym (turn.3 letter)) in
    let same : length (take count puts) ≡ length (take count letters) =
    length-take-le count puts (omega (arith, inside)) ∙ sym (length-take-le count letters (omega (arith, within))) in
    let more = lands_one_more (take count puts) (take count letters) put letter old middle new same before lands in
    let both : Lands (take (count + 1) puts) (take (count + 1) letters) old new =
    subst (λ p. Lands p (take (count + 1) letters) old new) (sym first)
    (subst (λ l. Lands (take count puts ++ put ∷ []) l old new) (sym second) more) in
    subst (λ n. Lands (take n puts) (take n letters) old new) (sym (length_push yielded item)) both

-- where either are used up, all have landed that do
pub lands_all : (puts : List PutView) (letters : List ℕ) (count : ℕ) (old new : Objects)
    → count ≡ min (length puts) (length letters)
    → Lands (take count puts) (take count letters) old new → Lands puts letters old new
lands_all [] letters count old new is lands =
    let none : count ≡ 0 = omega (arith, is) in
    subst (λ n. Lands (take n []) (take n letters) old new) none lands
lands_all (put ∷ puts) [] count old new is lands =
    let none : count ≡ 0 = omega (arith, is) in
    subst (λ n. Lands (take n (put ∷ puts)) (take n []) old new) none lands
lands_all (put ∷ puts) (letter ∷ letters) zero old new is lands = absurd (omega (arith, is))
lands_all (put ∷ puts) (letter ∷ letters) (suc count) old new is lands =
    (lands.0, lands.1, lands_all puts letters count lands.0 new (omega (arith, is)) lands.2)

-- ---- a removal

-- a store in memory fails no removal
pub removed_told : {T E : Type 0} (result : Result T E) (name : ObjName) (old new : Objects) → Counts (is_err result) 0 0
    → OnOk result (Becomes (IsRemoved name) (Some old) (Some new)) → IsRemoved name old new
removed_told (Ok done) name old new counts becomes = becomes_told (IsRemoved name) old new becomes
removed_told (Err failed) name old new counts becomes = absurd (no_fault counts)

-- ---- a put

-- the object of a put that is out was put into the store, if there was memory
pub put_as : (n : ℕ) (bytes : List ℕ) (puts : List PutView) (old new : Objects) (result : Result Kept AllocError)
    → IsPutOut n bytes puts → OnOk result (IsPut (numbered_name script_uuid n) bytes old new)
    → IfOk result (λ receipt. (receipt.name ≡ numbered_name script_uuid n) × (receipt.bytes ≡ bytes))
    → IfOk result (IsPutAs n puts old new)
put_as n bytes puts old new (Err error) out put named = tt
put_as n bytes puts old new (Ok receipt) out put named = record {
  bytes = bytes;
  out = out;
  put = put;
  named = named.0;
  told = named.1;
}
