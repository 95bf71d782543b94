-- Where no disk, store and listener count a fault, none of them ends a command by one.
use Rattle.std.proofs.Common.{arith, ◌≡◌, ℕ, ◌+◌, ◌<◌, ◌≤◌, ◌-◌, ◌^◌, ◌⊎◌, Bool, true, false, not, List, [], length, refl}
use Rattle.std.proofs.Common.{append-nil, sym, ◌∙◌, ap, subst, inl, inr}
use Rattle.std.specs.Prelude.{IsErrOf, OnOk, Result, Ok, Err}
use Rattle.std.specs.List.{list_any}
use Rattle.lsvd_base.specs.declared.entry.Entry.{Entry}
use Rattle.lsvd_device.specs.Device.{DiskState}
use Rattle.lsvd_fault.specs.Faults.{Counts, CountsOne}
use Rattle.lsvd_objstore.specs.Store.{StoreState, ReceiptState}
use Rattle.plain_disk.specs.State.{history_length}
use Rattle.upload_window.specs.declared.object.OpenObject.{OpenObject}
use Rattle.vol_core.specs.Volume.{VolumeState, SteppedVolume}
use Rattle.vol_mount.specs.Costs.{CostsMount}
use Rattle.vol_mount.specs.Mounted.{MountedState}
use Rattle.vol_mount.specs.Refusals.{is_device_fault, is_store_fault_of}
use Rattle.vol_mount.specs.declared.error.MountError.{MountError}
use Rattle.vol_mount.specs.declared.error.MountError.TheVariants as mounts
use Rattle.volume_owner.specs.declared.draining.Drained.{Drained}
use Rattle.volume_owner.specs.declared.error.OwnerError.{OwnerError}
use Rattle.volume_owner.specs.declared.error.OwnerError.TheVariants as owners
use Rattle.volume_owner.specs.Acts.{moment_of}
use Rattle.volume_owner.specs.Calls.{Adds, IsCall, IsDrained, IsLengthOf, CountsEitherFault, DrainOf}
use Rattle.volume_owner.specs.Errors.{is_eio}
use Rattle.volume_owner.specs.Owner.{IsIdle, most_of_call}
use Rattle.volume_server.specs.History.{most_steps}
use Rattle.vol_recover.proofs.ForCallers.{FailsToFormatIn, IsOfSomeVolume}
use Rattle.volume_server.specs.declared.serving.LaneEnd.{LaneEnd}
use Rattle.volume_server.specs.declared.serving.LaneEnd.TheVariants as lanes
use Rattle.volume_server.specs.Serving.{ListenerState, ClosesAs}
use Rattle.volume_commands.specs.declared.error.CommandError.{CommandError}
use Rattle.volume_commands.specs.declared.error.CommandError.TheVariants as errors
use Rattle.refusals.specs.declared.refusal.Refusal.{Refusal}
use Rattle.volume_commands.specs.Creating.{of_world}
use Rattle.volume_commands.specs.declared.world.WorldError.{WorldError}
use Rattle.volume_commands.specs.declared.world.WorldError.TheVariants as worlds
use Rattle.volume_commands.specs.declared.report.Report.TheVariants as reports
use Rattle.volume_commands.specs.Serving.{Drains, of_mount, of_owner, judged}
use Rattle.volume_commands.specs.World.{IsConstant, world_failed}

-- a count that is one number does not rise
pub stands_still : {T : Type 0} (faults : T → ℕ) (a b : T) → IsConstant faults → CountsOne (faults a) (faults b) → ⊥
stands_still faults a b constant counted = rose (faults a) (faults b) (constant.2 a) (constant.2 b) counted
  where
    rose : (first last : ℕ) → first ≡ constant.0 → last ≡ constant.0 → CountsOne first last → ⊥
    rose first last is_first is_last counted = by_rise counted.risen
      where
        by_rise : (first < last) ⊎ (last ≡ 2 ^ 64 - 1) → ⊥
        by_rise (inl more) = absurd (omega (arith, more, is_first, is_last))
        by_rise (inr most) = absurd (omega (arith, most, is_last, constant.1))

-- ---- errors

error_in : {T : Type 0} → CommandError → Result T CommandError → CommandError
error_in other (Ok value) = other
error_in other (Err error) = error

pub same_error : {T : Type 0} (a b : CommandError) → IsErrOf {T = T} (Err a) b → a ≡ b
unfolding error_in
same_error {T} a b is = ap (error_in {T = T} b) is

-- an error is so of any result
pub of_other : {T U : Type 0} (a b : CommandError) → IsErrOf {T = T} (Err a) b → IsErrOf {T = U} (Err a) b
of_other {T} {U} a b is = ap (λ e. Err e) (same_error {T = T} a b is)

-- ---- the world

pub world_fault : {T : Type 0} (U : Type 0) (error : WorldError) (first before now : ℕ) → before ≡ first
    → Counts (world_failed {T = U} (Err error)) before now
    → IsErrOf {T = T} (Err (of_world error)) errors.Fault → CountsOne first now
world_fault U worlds.Failed first before now same counted is = subst (λ n. CountsOne n now) same counted
world_fault {T} U worlds.OutOfMemory first before now same counted is =
    let bad : errors.OutOfMemory ≡ errors.Fault = same_error {T = T} errors.OutOfMemory errors.Fault is in absurd (not_both bad)
  where
    not_both : errors.OutOfMemory ≡ errors.Fault → ⊥
    not_both is = cc

pub world_quiet : {T : Type 0} (U : Type 0) (error : WorldError) (first before now : ℕ) → before ≡ first
    → Counts (world_failed {T = U} (Err error)) before now
    → (IsErrOf {T = T} (Err (of_world error)) errors.Fault → ⊥) → now ≡ first
world_quiet U worlds.Failed first before now same counted quiet = absurd (quiet refl)
world_quiet U worlds.OutOfMemory first before now same counted quiet = counted ∙ same

-- a call of the world refuses no volume
pub world_refuses_none : {T : Type 0} (error : WorldError) (why : Refusal)
    → IsErrOf {T = T} (Err (of_world error)) (errors.Refused why) → ⊥
world_refuses_none {T} worlds.Failed why is = other (same_error {T = T} errors.Fault (errors.Refused why) is)
  where
    other : errors.Fault ≡ errors.Refused why → ⊥
    other is = cc
world_refuses_none {T} worlds.OutOfMemory why is = other (same_error {T = T} errors.OutOfMemory (errors.Refused why) is)
  where
    other : errors.OutOfMemory ≡ errors.Refused why → ⊥
    other is = cc

-- ---- a mount

pub mount_counts_none : {D S : Type 0} (disk_faults : D → ℕ) (store_faults : S → ℕ) (first last : D) (old new : S)
    (error : MountError)
    → (is_device_fault error ≡ true → CountsOne (disk_faults first) (disk_faults last))
    → Counts (is_store_fault_of error) (store_faults old) (store_faults new) → of_mount error ≡ errors.Fault
    → IsConstant disk_faults → IsConstant store_faults → ⊥
mount_counts_none disk_faults store_faults first last old new mounts.StoreFault disk store is disks stores =
    stands_still store_faults old new stores store
mount_counts_none disk_faults store_faults first last old new mounts.DeviceFault disk store is disks stores =
    stands_still disk_faults first last disks (disk refl)
mount_counts_none disk_faults store_faults first last old new (mounts.Refused why) disk store is disks stores =
    let bad : ⊥ = cc in bad
mount_counts_none disk_faults store_faults first last old new mounts.OutOfMemory disk store is disks stores =
    let bad : ⊥ = cc in bad

-- the calls of a mount with the cache tell a fault of the device
pub cost_counts : (log : ℕ) (error : MountError) (old new : DiskState) → CostsMount log (not (is_device_fault error)) old new
    → is_device_fault error ≡ true → CountsOne old.faults new.faults
cost_counts log error old new costs is = counted (is_device_fault error) costs is
  where
    counted : (b : Bool) → CostsMount log (not b) old new → b ≡ true → CountsOne old.faults new.faults
    counted true costs is = costs.calls.calls.faults
    counted false costs is = let bad : ⊥ = cc in absurd bad

-- and so do those of one without it
pub format_counts : (uuid : List ℕ) (error : MountError) (old new : DiskState)
    → FailsToFormatIn uuid (is_device_fault error) old new → is_device_fault error ≡ true → CountsOne old.faults new.faults
format_counts uuid error old new fails is = counted (is_device_fault error) fails is
  where
    counted : (b : Bool) → FailsToFormatIn uuid b old new → b ≡ true → CountsOne old.faults new.faults
    counted true fails is = fails.1.calls.calls.faults
    counted false fails is = let bad : ⊥ = cc in absurd bad

-- a volume that was mounted is idle, and has made no step
pub mounted_is_idle : (uuid : List ℕ) (log : ℕ) (mounted : MountedState) → IsOfSomeVolume uuid log mounted
    → IsIdle mounted.volume.volume
mounted_is_idle uuid log mounted (geometry, chain, epoch, log_is, limits, is) = record {
  puts = ap (list_any (λ object. object.is_started)) is.acknowledged;
  plans = is.plans;
  none_out = is.none_out;
  few = subst (λ (objects : List OpenObject). length objects ≤ 16) (sym is.acknowledged) (omega arith);
}

pub mounted_has_room : (uuid : List ℕ) (log : ℕ) (mounted : MountedState) → IsOfSomeVolume uuid log mounted
    → mounted.volume.steps ≤ most_steps
mounted_has_room uuid log mounted (geometry, chain, epoch, log_is, limits, is) = (let steps = is.steps in omega (arith, steps))

-- ---- calls of the owner

pub owner_refuses_none : (error : OwnerError) (why : Refusal) → of_owner error ≡ errors.Refused why → ⊥
owner_refuses_none owners.Range why is = let bad : ⊥ = cc in bad
owner_refuses_none owners.Eio why is = let bad : ⊥ = cc in bad
owner_refuses_none owners.OutOfMemory why is = let bad : ⊥ = cc in bad

-- of a call that answers a T
pub owner_counts_none : (T : Type 0) {D S : Type 0} (disk_faults : D → ℕ) (store_faults : S → ℕ) (first last : D) (old new : S)
    (error : OwnerError)
    (first_count last_count : ℕ) → disk_faults first ≡ first_count → disk_faults last ≡ last_count
    → (IsErrOf {T = T} (Err error) owners.Range → ⊥)
    → CountsEitherFault (is_eio {T = T} (Err error)) first_count last_count (store_faults old) (store_faults new)
    → of_owner error ≡ errors.Fault
    → IsConstant disk_faults → IsConstant store_faults → ⊥
owner_counts_none T disk_faults store_faults first last old new owners.Range n m is_first is_last no_range counted is disks
    stores =
    no_range refl
owner_counts_none T disk_faults store_faults first last old new owners.Eio n m is_first is_last no_range (inl counted) is
    disks stores =
    stands_still disk_faults first last disks
    (subst (λ a. CountsOne a (disk_faults last)) (sym is_first) (subst (λ b. CountsOne n b) (sym is_last) counted.0))
owner_counts_none T disk_faults store_faults first last old new owners.Eio n m is_first is_last no_range (inr counted) is
    disks stores =
    stands_still store_faults old new stores counted.1
owner_counts_none T disk_faults store_faults first last old new owners.OutOfMemory n m is_first is_last no_range counted is
    disks stores =
    let bad : ⊥ = cc in bad

-- ---- a drain

-- a history that nothing is added to has the length that it has then
length_stays : (count : ℕ) (old new : VolumeState) → Adds [] old new → IsLengthOf count new → IsLengthOf count old
length_stays count old new adds counted plain shows =
    let then = adds plain shows in
    counted then.0 then.1 ∙ ap history_length then.2.opens
    ∙ ap (λ (entries : List Entry). plain.end + length entries) (append-nil plain.entries)

-- the volume of an owner who has drained it
pub drains_all : {R : Type 0} (state : R → ReceiptState) (drained : Drained) (volume owner closing left : SteppedVolume)
    (old new : StoreState) → owner ≡ volume → left ≡ closing → DrainOf state (Ok drained) owner closing old new
    → Drains state drained.entries (moment_of volume old) (moment_of left new)
drains_all {R} state drained volume owner closing left old new same back drain = record {
  count = length_stays drained.entries volume.volume closing.volume calls.steps.adds drain.count;
  calls = subst (λ (v : SteppedVolume). IsCall state most_of_call [] false volume v old new) (sym back) calls;
  drained = subst (λ (v : SteppedVolume). IsDrained v.volume) (sym back) drain.drained;
}
  where
    calls : IsCall state most_of_call [] false volume closing old new
    calls = subst (λ (v : SteppedVolume). IsCall state most_of_call [] false v closing old new) same drain.call

-- ---- clients

-- a server that is done has done what is so where its listener has not failed, and one that is not done refuses no volume
pub on_judged : {P : Type 0} (end : LaneEnd) → ((end ≡ lanes.Failed → ⊥) → P) → OnOk (judged end) P
on_judged lanes.Counted is = is (λ failed. let bad : ⊥ = cc in bad)
on_judged lanes.Closed is = is (λ failed. let bad : ⊥ = cc in bad)
on_judged lanes.Failed is = tt

pub judged_refuses_none : (end : LaneEnd) (why : Refusal) → IsErrOf (judged end) (errors.Refused why) → ⊥
judged_refuses_none lanes.Counted why is = let bad : ⊥ = cc in bad
judged_refuses_none lanes.Closed why is = let bad : ⊥ = cc in bad
judged_refuses_none lanes.Failed why is = let bad : ⊥ = cc in bad

-- one that ends by a fault is one whose listener failed
pub judged_fault : (end : LaneEnd) → IsErrOf (judged end) errors.Fault → end ≡ lanes.Failed
judged_fault lanes.Counted is = (let bad : ⊥ = cc in absurd bad)
judged_fault lanes.Closed is = (let bad : ⊥ = cc in absurd bad)
judged_fault lanes.Failed is = refl

pub lane_counts_none : {L : Type 0} (faults : L → ℕ) (first last : L) (old new : ListenerState) (end : LaneEnd)
    → old.faults ≡ faults first
    → new.faults ≡ faults last → ClosesAs end old new → end ≡ lanes.Failed → IsConstant faults → ⊥
lane_counts_none faults first last old new lanes.Counted is_old is_new closes is constant = let bad : ⊥ = cc in bad
lane_counts_none faults first last old new lanes.Closed is_old is_new closes is constant = let bad : ⊥ = cc in bad
lane_counts_none faults first last old new lanes.Failed is_old is_new closes is constant =
    stands_still faults first last constant
    (subst (λ a. CountsOne a (faults last)) is_old (subst (λ b. CountsOne old.faults b) is_new closes.1))

-- what a result with such an error tells
pub told_as : {T : Type 0} (told other error : CommandError) → told ≡ error → IsErrOf {T = T} (Err told) other → error ≡ other
told_as {T} told other error is same = sym is ∙ same_error {T = T} told other same

-- an error that is a refusal is so of any result
pub refused_in : {T : Type 0} (error : CommandError) (why : Refusal) → error ≡ errors.Refused why
    → IsErrOf {T = T} (Err error) (errors.Refused why)
refused_in error why is = ap (λ e. Err e) is

-- a report of a refusal is that of the error
pub same_refusal : {T : Type 0} (error : CommandError) (first second : Refusal) → error ≡ errors.Refused first
    → reports.Refused first ≡ reports.Refused second → IsErrOf {T = T} (Err error) (errors.Refused second)
same_refusal error first second told is =
    let one : first ≡ second = cc in ap (λ e. Err e) (told ∙ ap (λ why. errors.Refused why) one)
