-- Why a mount with the cache gives none, and what is left then.
use Rattle.std.proofs.Common.{◌≡◌, ℕ, ◌<◌, ◌≤◌, false, List, [], refl, sym, ◌∙◌, ap, subst, inl, inr, arith}
use Rattle.std.specs.Prelude.{Option, IfSome, IsTrue, length}
use Rattle.std.proofs.Math.Path.{subst₂}
use Rattle.clone_chain.specs.declared.ancestor.Ancestor.{Ancestor}
use Rattle.lsvd_base.specs.declared.geometry.Geometry.{Geometry}
use Rattle.lsvd_base.specs.Limits.{is_within_limits}
use Rattle.lsvd_device.specs.Device.{DiskState, IsDisk, HoldsNow}
use Rattle.lsvd_objstore.specs.Objects.{Objects}
use Rattle.log_record.specs.declared.reason.Reason.{Reason}
use Rattle.commit_body.specs.declared.body.CommitBody.{CommitBody}
use Rattle.commit_slot.specs.Slots.{log_of, Reads, ReadsNone}
use Rattle.commit_slot.specs.Loading.{LeavesSettled}
use Rattle.cache_log.specs.declared.row.Row.{Row}
use Rattle.cache_log.specs.Rows.{log_start}
use Rattle.cache_log.specs.Opening.{AreRecordsInRange, IsBadRecord}
use Rattle.obj_log.specs.State.{ObjLogState}
use Rattle.stopped_volume.specs.Device.{CacheOwner, owner_of, owner_with}
use Rattle.plain_disk.specs.declared.log.PlainCommit.{PlainCommit}
use Rattle.plain_disk.specs.State.{PlainState}
use Rattle.refusals.specs.declared.refusal.Refusal.TheVariants.{NoVolume, NoSlot, WrongVolume, StaleCache, BadRecord, Worn}
use Rattle.vol_mount.specs.declared.error.MountError.{MountError}
use Rattle.vol_mount.specs.declared.error.MountError.TheVariants.{Refused, StoreFault, DeviceFault, OutOfMemory}
use Rattle.vol_mount.specs.Mounting.{IsLeft, KeepsLeft, RefusesNoneStored, RefusesNoneLeft}
use Rattle.vol_mount.specs.Refusals.{ReadsAsCommitOf, IsBadLeftLog, IsOwnCommit, IsWhyNotOpened, IsFault, refuses}
use Rattle.vol_mount.specs.Refusals.{is_store_fault_of}
use Rattle.vol_mount.specs.Leaving.{MayLeaveDevice, LeavesDevice}
use Rattle.vol_mount.specs.Steps.{IsRecovered, IsRecoveredFrom}
use Rattle.vol_mount.proofs.RecoveryLemmas.{list_of, faults_refuse_none}
use Rattle.vol_mount.proofs.FoundLemmas.{reads_one, at_newest, left_sizes, newest, settled_slots, has_commit, load_keeps}

-- ---- the list was not recovered

-- nothing was done to the device
pub keeps_same : (uuid : List ℕ) (geometry : Geometry) (chain : List Ancestor) (epoch : ℕ) (told : Option Objects)
    (old : DiskState)
    → KeepsLeft (owner_with uuid epoch) geometry chain told old old
keeps_same uuid geometry chain epoch told old = λ plain found number left synced. record { since = []; moments = refl; each = tt }

pub refuses_none_too : (uuid : List ℕ) (geometry : Geometry) (chain : List Ancestor) (epoch : ℕ) (told : Option Objects)
    (old : DiskState)
    (error : MountError)
    → RefusesNoneStored uuid geometry chain told error → RefusesNoneLeft (owner_with uuid epoch) geometry chain told old error
refuses_none_too uuid geometry chain epoch told old error none = λ plain found number left. none plain number left.stored

-- ---- a call failed

-- the device may be left so after all tests were passed
pub device_faulted : (Passes : Type 0) (geometry : Geometry) (error : MountError) (old new : DiskState) → IsFault error → Passes
    → LeavesDevice Passes geometry error old new
device_faulted Passes geometry (Refused refusal) old new fault passes = absurd fault
device_faulted Passes geometry StoreFault old new fault passes = inr passes
device_faulted Passes geometry DeviceFault old new fault passes = inr (inr passes)
device_faulted Passes geometry OutOfMemory old new fault passes = inr (inr passes)

pub faults_refuse_no_left : (error : MountError) (uuid : List ℕ) (geometry : Geometry) (chain : List Ancestor) (epoch : ℕ)
    (told : Option Objects)
    (old : DiskState) → IsFault error
    → RefusesNoneLeft (owner_with uuid epoch) geometry chain told old error
faults_refuse_no_left error uuid geometry chain epoch told old fault = λ plain found number left. faults_refuse_none error fault

-- ---- the log was not opened

-- no call of the store failed
pub opens_without_store : (error : MountError) (uuid : List ℕ) (geometry : Geometry) (epoch end greatest : ℕ) (old : DiskState)
    → IsWhyNotOpened (owner_with uuid epoch) geometry end greatest old error
    → is_store_fault_of error ≡ false
opens_without_store (Refused refusal) uuid geometry epoch end greatest old why = refl
opens_without_store StoreFault uuid geometry epoch end greatest old why = absurd why
opens_without_store DeviceFault uuid geometry epoch end greatest old why = refl
opens_without_store OutOfMemory uuid geometry epoch end greatest old why = refl

-- and the device was left so before all tests were passed
device_too : (Passes : Type 0) (geometry : Geometry) (error : MountError) (old new : DiskState)
    → MayLeaveDevice ⊥ geometry error old new → MayLeaveDevice Passes geometry error old new
device_too Passes geometry (Refused NoVolume) old new leaves = absurd leaves
device_too Passes geometry (Refused refusal) old new leaves = leaves
device_too Passes geometry StoreFault old new leaves = absurd leaves
device_too Passes geometry DeviceFault old new (inl loaded) = inl loaded
device_too Passes geometry DeviceFault old new (inr passes) = absurd passes
device_too Passes geometry OutOfMemory old new (inl keeps) = inl keeps
device_too Passes geometry OutOfMemory old new (inr passes) = absurd passes

pub device_opened : (Passes : Type 0) (geometry : Geometry) (error : MountError) (old new : DiskState)
    → MayLeaveDevice ⊥ geometry error old new → LeavesDevice Passes geometry error old new
device_opened Passes geometry error old new leaves = inr (device_too Passes geometry error old new leaves)

module _ (uuid : List ℕ) (geometry : Geometry) (chain : List Ancestor) (epoch : ℕ) (told : Option Objects) (old : DiskState)
    (size : log_start ≤ old.size)
    (sectors : geometry.log ≡ log_of old.size) (is_disk : IsDisk old) where
  -- whatever a stop left meanwhile reads as the commit of each plain volume that was left
  pub opening_keeps : (new : DiskState) → LeavesSettled old new → KeepsLeft (owner_with uuid epoch) geometry chain told old new
  opening_keeps new settled = λ plain found number left synced.
      load_keeps uuid geometry chain epoch plain found number told old size sectors is_disk left new settled

  module _ (plain : PlainState) (found : PlainCommit) (number : ℕ)
      (left : IsLeft (owner_with uuid epoch) geometry chain plain found number told old)
    where
      -- the device reads as the commit of the plain volume alone
      reads_as_left : (P : ℕ → CommitBody → Type 0) → ReadsAsCommitOf geometry P old
          → P (has_commit uuid geometry chain epoch plain found number told old size sectors is_disk left).number
          (has_commit uuid geometry chain epoch plain found number told old size sectors is_disk left).body
      reads_as_left P reads =
          let has = has_commit uuid geometry chain epoch plain found number told old size sectors is_disk left in
          let at = newest uuid geometry chain epoch plain found number told old size sectors is_disk left in
          let here =
          at_newest (λ now. (n : ℕ) × (b : CommitBody) × Reads geometry.log now.bytes b n × P n b) old.moments at.now at.past
          at.moments_are reads in
          let one =
          reads_one geometry.log at.now.bytes here.0 has.number here.1 has.body here.2
          (settled_slots uuid geometry chain epoch plain found number told old size sectors is_disk left).reads in
          subst₂ P one.0 one.1 here.3

      reads_some : HoldsNow (λ now. ReadsNone geometry.log now.bytes) old.moments → ⊥
      reads_some none =
          let at = newest uuid geometry chain epoch plain found number told old size sectors is_disk left in
          let slots = settled_slots uuid geometry chain epoch plain found number told old size sectors is_disk left in
          at_newest (λ now. ReadsNone geometry.log now.bytes) old.moments at.now at.past at.moments_are none slots.reads.slot _ _
          slots.reads.is_open

      has_records : (P : ℕ → CommitBody → Type 0) (seq : ℕ) (reason : Reason) → IsBadLeftLog geometry P old seq reason → ⊥
      has_records P seq reason bad =
          let has = has_commit uuid geometry chain epoch plain found number told old size sectors is_disk left in
          let at = newest uuid geometry chain epoch plain found number told old size sectors is_disk left in
          let here =
          at_newest (λ now. (n : ℕ) × (b : CommitBody) × Reads geometry.log now.bytes b n × P n b
          × IsBadRecord geometry b seq reason now.bytes
          × ((rows : List Row) → AreRecordsInRange geometry b rows now.bytes → ⊥)) old.moments at.now at.past
          at.moments_are bad in
          let one =
          reads_one geometry.log at.now.bytes has.number here.0 has.body here.1
          (settled_slots uuid geometry chain epoch plain found number told old size sectors is_disk left).reads here.2 in
          here.5 has.rows
          (subst (λ b. AreRecordsInRange geometry b has.rows at.now.bytes) one.1
          (subst (λ g. AreRecordsInRange g has.body has.rows at.now.bytes)
          (left_sizes uuid geometry chain epoch plain found number told old left) has.records))

      module _ (limits : IsTrue (is_within_limits geometry)) (list : ObjLogState) (checkpoint : ℕ)
          (is : IsRecovered uuid geometry (length chain) list checkpoint)
          (from : IfSome told (λ o. IsRecoveredFrom uuid geometry chain o list checkpoint)) where
        abbrev Past : ℕ → CommitBody → Type 0
        Past n b = (owner_of b ≡ owner_with uuid epoch) × (list.uploads.queue.end < b.tail.seq)

        begins_before : ReadsAsCommitOf geometry Past old → ⊥
        begins_before reads =
            let past = (reads_as_left Past reads).1 in
            let has = has_commit uuid geometry chain epoch plain found number told old size sectors is_disk left in
            let tail = has.tail in
            let end = (list_of uuid geometry chain plain number told list checkpoint limits is from left.stored).1.end_is in
            absurd (omega (arith, past, tail, end))

        refuses_not : (error : MountError) (greatest : ℕ) → IsWhyNotOpened (owner_with uuid epoch) geometry list.uploads.queue.end
            greatest old error
            → refuses error ≡ false
        refuses_not (Refused (NoSlot log)) greatest why = absurd (reads_some why.1)
        refuses_not (Refused (WrongVolume other)) greatest why =
            let wrong = reads_as_left (λ n b. (b.uuid ≡ other) × (other ≡ uuid → ⊥)) why in
            let has = has_commit uuid geometry chain epoch plain found number told old size sectors is_disk left in
            absurd (wrong.1 (sym wrong.0 ∙ ap (λ (owner : CacheOwner). owner.uuid) has.is_of))
        refuses_not (Refused (StaleCache cache store)) greatest why =
            let stale = reads_as_left (λ n b. (b.uuid ≡ uuid) × (b.epoch ≡ cache)) why.2 in
            let has = has_commit uuid geometry chain epoch plain found number told old size sectors is_disk left in
            absurd (why.1 (sym stale.1 ∙ ap (λ (owner : CacheOwner). owner.epoch) has.is_of))
        refuses_not (Refused (BadRecord seq reason)) greatest (inl past) = absurd (begins_before past.2)
        refuses_not (Refused (BadRecord seq reason)) greatest (inr bad) =
            absurd (has_records (λ n b. IsOwnCommit (owner_with uuid epoch) list.uploads.queue.end b) seq reason bad)
        refuses_not (Refused (Worn value)) greatest why = refl
        refuses_not (Refused refusal) greatest why = absurd why
        refuses_not StoreFault greatest why = refl
        refuses_not DeviceFault greatest why = refl
        refuses_not OutOfMemory greatest why = refl

  pub opening_refuses_none : IsTrue (is_within_limits geometry) → (list : ObjLogState) (checkpoint : ℕ)
      → IsRecovered uuid geometry (length chain) list checkpoint
      → IfSome told (λ o. IsRecoveredFrom uuid geometry chain o list checkpoint) → (error : MountError) (greatest : ℕ)
      → IsWhyNotOpened (owner_with uuid epoch) geometry list.uploads.queue.end greatest old error
      → RefusesNoneLeft (owner_with uuid epoch) geometry chain told old error
  opening_refuses_none limits list checkpoint is from error greatest why = λ plain found number left.
      refuses_not plain found number left limits list checkpoint is from error greatest why
