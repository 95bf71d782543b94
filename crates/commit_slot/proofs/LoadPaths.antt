-- Of `load_slots`: what its calls make together, by how far it got.
use Rattle.std.proofs.Common.{◌≡◌, ◌≤◌, ℕ, Bool, true, ◌∙◌, subst, arith}
use Rattle.std.specs.Prelude.{Option}
use Rattle.lsvd_device.specs.Medium.{after_sync}
use Rattle.lsvd_device.specs.Calls.{sync_cost}
use Rattle.lsvd_device.specs.Device.{DiskState, IsDisk, HoldsNow, MakesCalls, moments_after}
use Rattle.lsvd_device.specs.Memory.{IsSynced}
use Rattle.commit_body.specs.declared.body.CommitBody.{CommitBody}
use Rattle.commit_slot.specs.Slots.{log_of}
use Rattle.commit_slot.specs.States.{IsSettled}
use Rattle.commit_slot.specs.LogArea.{KeepsLogAreaSince, MakesLogAreaDurable, HasDurableLogArea}
use Rattle.commit_slot.specs.Reading.{ReadsAs, reading_cost}
use Rattle.commit_slot.specs.Loading.{MakesAtMost, load_cost, AreRead, IsCrashSafeLoad, LeavesSettled}
use Rattle.commit_slot.specs.Mending.{IsNewest, KeepsNewest, Mends, LeavesMended, mend_cost}
use Rattle.commit_slot.proofs.LogAreaLemmas.{stays_then, sync_stays}
use Rattle.commit_slot.proofs.LoadLemmas.{synced_newest, sync_is_synced, read_then, loads_synced, loads_mended, loads_settled}
use Rattle.commit_slot.proofs.LoadLemmas.{loads_durable, durable_now, read_calls, load_calls}
use Rattle.commit_slot.proofs.MendLemmas.{most_as}

-- the device was synced, and then its slots were read, or that failed
pub record IsRead (is_read : Bool) (old middle next : DiskState) : Type 0 where
  pub least : 4096 ≤ old.size
  pub is_disk : IsDisk old
  pub is_disk' : IsDisk next
  pub sync : MakesCalls sync_cost true old middle
  pub moments : middle.moments ≡ moments_after after_sync old.moments
  pub read : MakesCalls reading_cost is_read middle next
  pub same : next.moments ≡ middle.moments

pub size_of : (is_read : Bool) (old middle next : DiskState) → IsRead is_read old middle next → next.size ≡ old.size
size_of is_read old middle next is = is.read.size ∙ is.sync.size

pub moments_of : (is_read : Bool) (old middle next : DiskState) → IsRead is_read old middle next
    → next.moments ≡ moments_after after_sync old.moments
moments_of is_read old middle next is = is.same ∙ is.moments

pub read_crash_safe : (is_read : Bool) (old middle next : DiskState) → IsRead is_read old middle next → IsCrashSafeLoad old next
read_crash_safe is_read old middle next is =
    loads_synced old next is.least is.is_disk is.is_disk' (size_of is_read old middle next is)
    (moments_of is_read old middle next is)

pub read_costs : (is_read : Bool) (old middle next : DiskState) → IsRead is_read old middle next
    → MakesAtMost load_cost is_read old next
read_costs is_read old middle next is =
    most_as (record { calls = 7; changes = 1; bytes = 0 }) load_cost is_read old next (omega arith) (omega arith) (omega arith)
    (read_calls is_read old middle next is.sync is.read)

-- what was found was there before
pub found_before : (is_read : Bool) (old middle next : DiskState) (found : Option (CommitBody × ℕ))
    → IsRead is_read old middle next
    → HoldsNow (λ now. ReadsAs (log_of middle.size) now.bytes found) middle.moments
    → HoldsNow (λ now. ReadsAs (log_of old.size) now.bytes found) old.moments
found_before is_read old middle next found is reads =
    let P : ℕ → Type 0 = λ n. HoldsNow (λ now. ReadsAs (log_of n) now.bytes found) old.moments in
    subst P is.sync.size (read_then (log_of middle.size) found old.moments middle.moments is.moments reads)

-- and then the slots were mended, or that failed
pub record IsMended (number : ℕ) (body : CommitBody) (is_made : Bool) (old middle next new : DiskState) : Type 0 where
  pub read : IsRead true old middle next
  pub found : AreRead number body old
  pub is_disk : IsDisk new
  pub costs : MakesAtMost mend_cost is_made next new
  pub newest : KeepsNewest number next new
  pub log_area : KeepsLogAreaSince next.moments new.moments

pub mended_crash_safe : (number : ℕ) (body : CommitBody) (is_made : Bool) (old middle next new : DiskState)
    → IsMended number body is_made old middle next new → IsCrashSafeLoad old new
mended_crash_safe number body is_made old middle next new is =
    let size : next.size ≡ old.size = size_of true old middle next is.read in
    loads_mended number body old next new is.read.least is.read.is_disk is.is_disk size (is.costs.calls.size ∙ size)
    (moments_of true old middle next is.read) is.found is.newest is.log_area

pub mended_leaves : (number : ℕ) (body : CommitBody) (is_made : Bool) (old middle next new : DiskState)
    → IsMended number body is_made old middle next new → LeavesMended number next new → LeavesSettled old new
mended_leaves number body is_made old middle next new is leaves =
    loads_settled number body old next new is.read.is_disk (size_of true old middle next is.read)
    (moments_of true old middle next is.read) is.found leaves

pub mended_costs : (number : ℕ) (body : CommitBody) (is_made : Bool) (old middle next new : DiskState)
    → IsMended number body is_made old middle next new → MakesAtMost load_cost is_made old new
mended_costs number body is_made old middle next new is =
    load_calls is_made old middle next new is.read.sync is.read.read is.costs

pub mended_settles : (number : ℕ) (body : CommitBody) (is_made : Bool) (old middle next new : DiskState)
    → IsMended number body is_made old middle next new → Mends number next new
    → HoldsNow (IsSettled (log_of old.size) number body) new.moments
mended_settles number body is_made old middle next new is mends =
    let moments = moments_of true old middle next is.read in
    let P : ℕ → Type 0 = λ n. HoldsNow (IsNewest (log_of n) number body) next.moments
    → HoldsNow (IsSettled (log_of n) number body) new.moments in
    subst P (size_of true old middle next is.read) (mends body (sync_is_synced old next is.read.is_disk moments))
    (synced_newest number body old next is.read.least is.read.is_disk is.found moments)

pub mended_durable : (number : ℕ) (body : CommitBody) (is_made : Bool) (old middle next new : DiskState)
    → IsMended number body is_made old middle next new → MakesLogAreaDurable old.moments new.moments
mended_durable number body is_made old middle next new is =
    loads_durable old.moments next.moments new.moments (moments_of true old middle next is.read) is.log_area

pub mended_durable_now : (number : ℕ) (body : CommitBody) (is_made : Bool) (old middle next new : DiskState)
    → IsMended number body is_made old middle next new → HasDurableLogArea new.moments
mended_durable_now number body is_made old middle next new is =
    durable_now old.moments new.moments (stays_then old.moments next.moments new.moments
    (sync_stays old.moments next.moments (moments_of true old middle next is.read)) is.log_area)
    (mended_durable number body is_made old middle next new is)

pub mended_synced : (number : ℕ) (body : CommitBody) (is_made : Bool) (old middle next new : DiskState)
    → IsMended number body is_made old middle next new
    → (HoldsNow IsSynced next.moments → HoldsNow IsSynced new.moments) → HoldsNow IsSynced new.moments
mended_synced number body is_made old middle next new is keeps =
    keeps (sync_is_synced old next is.read.is_disk (moments_of true old middle next is.read))
