-- The commits of a device that was stopped, over the calls that load them.
use Rattle.std.proofs.Common.{◌≡◌, ℕ, ◌+◌, ◌%◌, ◌≤◌, Bool, true, List, [], ◌∷◌, refl, sym, ◌∙◌, subst, inr, arith}
use Rattle.std.specs.List.{AllByRecursion}
use Rattle.std.specs.Prelude.{Option}
use Rattle.lsvd_device.specs.Medium.{Medium, after_sync}
use Rattle.lsvd_device.specs.Calls.{Cost, sync_cost}
use Rattle.lsvd_device.specs.Device.{HoldsSince, DiskState, IsDisk, HasSize, HoldsNow, MakesCalls, moments_after}
use Rattle.lsvd_device.specs.Memory.{IsSynced}
use Rattle.commit_body.specs.declared.body.CommitBody.{CommitBody}
use Rattle.commit_slot.specs.Slots.{log_of, gate_at, Reads}
use Rattle.commit_slot.specs.Commits.{ReadsSettled}
use Rattle.commit_slot.specs.LogArea.{log_area, LeavesLogArea, HasSameLogArea, KeepsLogAreaSince, MakesLogAreaDurable}
use Rattle.commit_slot.specs.LogArea.{HasDurableLogArea}
use Rattle.commit_slot.specs.Reading.{ReadsAs, reading_cost}
use Rattle.commit_slot.specs.Loading.{MakesAtMost, load_cost, AreRead, LeavesRead, LeavesReadSince, IsCrashSafeLoad}
use Rattle.commit_slot.specs.Loading.{LeavesSettled}
use Rattle.commit_slot.specs.Mending.{IsNewest, KeepsNewest, NextIsClosed, ThirdIsOlder, LeavesMended, mend_cost}
use Rattle.commit_slot.proofs.Passing.{passes_as, passes_on, after_step}
use Rattle.commit_slot.proofs.LogAreaLemmas.{IsDurableAs, durable_to, durable_then, sync_durable, passes_both, sync_stays}
use Rattle.commit_slot.proofs.LogAreaLemmas.{sync_is_durable, stays_then, durable_stays}
use Rattle.commit_slot.proofs.HalfLemmas.{passes_of}
use Rattle.commit_slot.proofs.NewestKept.{PassesNewest, newest_leaves, read_is_newest, newest_synced, synced_is_same, holds_with}
use Rattle.commit_slot.proofs.Readings.{one_byte}
use Rattle.commit_slot.proofs.MendLemmas.{holds_after, holds_unit, most_then, most_of}

-- ---- the sync, and what is read then

-- bytes read as one commit
reads_one : (log : ℕ) (bytes : List ℕ) (m n : ℕ) (a b : CommitBody) → Reads log bytes a m → Reads log bytes b n → m ≡ n
reads_one log bytes m n a b first second =
    let less = second.newest first.slot a m first.is_open in
    let more = first.newest second.slot b n second.is_open in
    omega (arith, less, more)

pub synced_newest : (number : ℕ) (body : CommitBody) (old middle : DiskState) → 4096 ≤ old.size → IsDisk old
    → AreRead number body old → middle.moments ≡ moments_after after_sync old.moments
    → HoldsNow (IsNewest (log_of old.size) number body) middle.moments
synced_newest number body old middle least is_disk read moments =
    holds_after (λ now. Reads (log_of old.size) now.bytes body number) (IsNewest (log_of old.size) number body) old.size
    after_sync old.moments middle.moments
    (λ medium has reads. read_is_newest old.size (log_of old.size) number body medium least has reads) is_disk.media read moments

pub sync_is_synced : (old middle : DiskState) → IsDisk old → middle.moments ≡ moments_after after_sync old.moments
    → HoldsNow IsSynced middle.moments
sync_is_synced old middle is_disk moments =
    holds_after (λ medium. Unit {0}) IsSynced old.size after_sync old.moments middle.moments
    (λ medium has _. record { pending = refl; synced = refl }) is_disk.media (holds_unit old.moments) moments

-- what is read after the sync was read before
read_before : (log : ℕ) (found : Option (CommitBody × ℕ)) (moments : List Medium)
    → HoldsNow (λ now. ReadsAs log now.bytes found) (moments_after after_sync moments)
    → HoldsNow (λ now. ReadsAs log now.bytes found) moments
read_before log found [] reads = tt
read_before log found (now ∷ past) reads = reads

pub read_then : (log : ℕ) (found : Option (CommitBody × ℕ)) (old middle : List Medium) → middle ≡ moments_after after_sync old
    → HoldsNow (λ now. ReadsAs log now.bytes found) middle
    → HoldsNow (λ now. ReadsAs log now.bytes found) old
read_then log found old middle moments reads =
    read_before log found old (subst (HoldsNow (λ now. ReadsAs log now.bytes found)) moments reads)

-- ---- where nothing was pending

-- a stop leaves past the slots what stood there
synced_durable : (before medium : Medium) → IsSynced before → HasSameLogArea before medium
    → LeavesLogArea (log_area before.bytes) medium
synced_durable before medium synced same =
    let durable : LeavesLogArea (log_area before.bytes) before =
    subst (LeavesLogArea (log_area before.bytes)) (synced_is_same before synced) (sync_durable before).durable in
    let own : IsDurableAs before before = record { same = refl; durable = durable } in
    (durable_then before before medium own same).durable

crash_safe_in : (P : Medium → Type 0) (old new : List Medium) → HoldsNow IsSynced old → HoldsSince P old new
    → KeepsLogAreaSince old new
    → HoldsNow (λ before. HoldsSince (λ medium. P medium × LeavesLogArea (log_area before.bytes) medium) old new) old
crash_safe_in P [] new synced passes stays = tt
crash_safe_in P (before ∷ past) new synced passes stays =
    passes_as (λ medium. P medium × HasSameLogArea before medium) (λ medium. P medium
    × LeavesLogArea (log_area before.bytes) medium) (before ∷ past) new
    (λ medium both. (both.0, synced_durable before medium synced both.1))
    (passes_both P (HasSameLogArea before) (before ∷ past) new passes stays.0)

crash_safe : (number : ℕ) (body : CommitBody) (old new : DiskState) → 4096 ≤ old.size → new.size ≡ old.size → IsDisk new
    → HoldsNow IsSynced old.moments
    → HoldsSince (IsNewest (log_of old.size) number body) old.moments new.moments → KeepsLogAreaSince old.moments new.moments
    → HoldsNow (λ before. HoldsSince (λ medium. LeavesRead (log_of old.size) number body medium
    × LeavesLogArea (log_area before.bytes) medium) old.moments new.moments) old.moments
crash_safe number body old new least size is_disk synced passes stays =
    let log : ℕ = log_of old.size in
    crash_safe_in (LeavesRead log number body) old.moments new.moments synced
    (passes_of (IsNewest log number body) (LeavesRead log number body) old new size is_disk
    (λ medium has newest. newest_leaves old.size log number body medium least has newest) passes) stays

-- the newest commit stands before the sync
newest_where_synced : (size number : ℕ) (body : CommitBody) (moments : List Medium) → 4096 ≤ size
    → AllByRecursion (HasSize size) moments → HoldsNow IsSynced moments
    → HoldsNow (λ now. Reads (log_of size) now.bytes body number) moments → HoldsNow (IsNewest (log_of size) number body) moments
newest_where_synced size number body [] least sizes synced reads = tt
newest_where_synced size number body (now ∷ past) least sizes synced reads =
    subst (IsNewest (log_of size) number body) (synced_is_same now synced)
    (read_is_newest size (log_of size) number body now least sizes.0 reads)

newest_over_sync : (number : ℕ) (body : CommitBody) (old middle : DiskState) → 4096 ≤ old.size → IsDisk old
    → HoldsNow IsSynced old.moments → AreRead number body old
    → middle.moments ≡ moments_after after_sync old.moments
    → PassesNewest (log_of old.size) number body old.moments middle.moments
newest_over_sync number body old middle least is_disk synced read moments =
    let P : Medium → Type 0 = IsNewest (log_of old.size) number body in
    after_step P P old.size after_sync old.moments middle.moments (λ medium has is. newest_synced old.size (log_of old.size)
    number body medium least has is) is_disk.media
    (newest_where_synced old.size number body old.moments least is_disk.media synced read) moments

-- it was synced, and nothing written
loads_synced_in : (old new : DiskState) → 4096 ≤ old.size → IsDisk old → IsDisk new → new.size ≡ old.size
    → new.moments ≡ moments_after after_sync old.moments → LeavesReadSince old new
loads_synced_in old new least is_disk is_disk' size moments = λ number body synced read.
    crash_safe number body old new least size is_disk' synced (newest_over_sync number body old new least is_disk synced read
    moments).0 (sync_stays old.moments new.moments moments)

pub loads_synced : (old new : DiskState) → 4096 ≤ old.size → IsDisk old → IsDisk new → new.size ≡ old.size
    → new.moments ≡ moments_after after_sync old.moments → IsCrashSafeLoad old new
loads_synced old new least is_disk is_disk' size moments = record {
  stands = loads_synced_in old new least is_disk is_disk' size moments;
  log_area = sync_stays old.moments new.moments moments;
}

-- it follows where there is a moment
by_now : (E : Type 0) (X : Medium → Type 0) (moments : List Medium) → HoldsNow (λ now. E) moments → (E → HoldsNow X moments)
    → HoldsNow X moments
by_now E X [] holds follows = tt
by_now E X (now ∷ past) holds follows = follows holds

-- and the slots mended
loads_mended_in : (number : ℕ) (body : CommitBody) (old middle new : DiskState) → 4096 ≤ old.size → IsDisk old → IsDisk new
    → middle.size ≡ old.size → new.size ≡ old.size
    → middle.moments ≡ moments_after after_sync old.moments → AreRead number body old → KeepsNewest number middle new
    → KeepsLogAreaSince middle.moments new.moments → LeavesReadSince old new
loads_mended_in number body old middle new least is_disk is_disk' size size' moments found keeps stays = λ n b synced read.
    let log : ℕ = log_of old.size in
    let same : HoldsNow (λ now. number ≡ n) old.moments =
    holds_with (λ now. Reads log now.bytes body number) (λ now. Reads log now.bytes b n) (λ now. number ≡ n) old.moments
    (λ now x y. reads_one log now.bytes number n body b x y) found read in
    by_now (number ≡ n) (λ before. HoldsSince (λ medium. LeavesRead log n b medium × LeavesLogArea (log_area before.bytes) medium)
    old.moments new.moments) old.moments same
    (λ e.
    let first = newest_over_sync n b old middle least is_disk synced read moments in
    let next : PassesNewest log n b middle.moments new.moments =
    (let P : ℕ → ℕ → Type 0 = λ k s. HoldsNow (IsNewest (log_of s) k b) middle.moments
    → PassesNewest (log_of s) k b middle.moments new.moments in
    subst (λ s. P n s) size (subst (λ k. P k middle.size) e (keeps b))) first.1 in
    crash_safe n b old new least size' is_disk' synced (passes_on (IsNewest log n b) old.moments middle.moments new.moments
    first.0 next.0)
    (stays_then old.moments middle.moments new.moments (sync_stays old.moments middle.moments moments) stays))

pub loads_mended : (number : ℕ) (body : CommitBody) (old middle new : DiskState) → 4096 ≤ old.size → IsDisk old → IsDisk new
    → middle.size ≡ old.size → new.size ≡ old.size
    → middle.moments ≡ moments_after after_sync old.moments → AreRead number body old → KeepsNewest number middle new
    → KeepsLogAreaSince middle.moments new.moments → IsCrashSafeLoad old new
loads_mended number body old middle new least is_disk is_disk' size size' moments found keeps stays = record {
  stands = loads_mended_in number body old middle new least is_disk is_disk' size size' moments found keeps stays;
  log_area = stays_then old.moments middle.moments new.moments (sync_stays old.moments middle.moments moments) stays;
}

-- ---- where the slots are as between two commits

-- then there is nothing to mend
nothing_to_mend : (log number n : ℕ) (body b : CommitBody) (medium : Medium) → Reads log medium.bytes body number
    → ReadsSettled log medium.bytes b n → NextIsClosed number medium × ThirdIsOlder log number medium
nothing_to_mend log number n body b medium reads settled =
    let same : n ≡ number = reads_one log medium.bytes n number b body settled.reads reads in
    let closed : NextIsClosed n medium = (λ e. settled.next (sym (one_byte (gate_at ((n + 1) % 3)) medium.bytes) ∙ e)) in
    let P : ℕ → Type 0 = λ k. NextIsClosed k medium × ThirdIsOlder log k medium in
    subst P same (closed, settled.third)

-- and nothing is written
pub loads_settled : (number : ℕ) (body : CommitBody) (old middle new : DiskState) → IsDisk old → middle.size ≡ old.size
    → middle.moments ≡ moments_after after_sync old.moments → AreRead number body old
    → LeavesMended number middle new → LeavesSettled old new
loads_settled number body old middle new is_disk size moments found leaves = λ n b settled.
    let log : ℕ = log_of old.size in
    let P : Medium → Type 0 = λ medium. NextIsClosed number medium × ThirdIsOlder log number medium in
    let slots : HoldsNow P old.moments =
    holds_with (λ now. Reads log now.bytes body number) (λ now. ReadsSettled log now.bytes b n) P old.moments
    (λ now reads is. nothing_to_mend log number n body b now reads is) found settled in
    let closed = holds_after P (NextIsClosed number) old.size after_sync old.moments middle.moments (λ medium has is. is.0)
    is_disk.media slots moments in
    let older = holds_after P (ThirdIsOlder log number) old.size after_sync old.moments middle.moments (λ medium has is. is.1)
    is_disk.media slots moments in
    let Q : ℕ → Type 0 = λ k. HoldsNow (ThirdIsOlder (log_of k) number) middle.moments in
    inr (leaves closed (subst Q (sym size) older) ∙ moments)

-- ---- past the slots

pub loads_durable : (old middle new : List Medium) → middle ≡ moments_after after_sync old → KeepsLogAreaSince middle new
    → MakesLogAreaDurable old new
loads_durable old middle new moments stays =
    durable_stays old middle new (sync_stays old middle moments) (sync_is_durable old middle moments) stays

pub durable_now : (old new : List Medium) → KeepsLogAreaSince old new → MakesLogAreaDurable old new → HasDurableLogArea new
durable_now [] new stays durable = subst HasDurableLogArea (sym stays) tt
durable_now (before ∷ past) new stays durable =
    holds_with (HasSameLogArea before) (LeavesLogArea (log_area before.bytes)) (λ now. LeavesLogArea (log_area now.bytes) now) new
    (λ medium same sure. durable_to (log_area medium.bytes) (log_area before.bytes) medium (sym same.same) sure)
    stays.1 durable

-- ---- the calls

pub read_calls : (is_made : Bool) (old middle new : DiskState) → MakesCalls sync_cost true old middle
    → MakesCalls reading_cost is_made middle new
    → MakesAtMost (record { calls = 7; changes = 1; bytes = 0 }) is_made old new
read_calls is_made old middle new first second =
    let most : Cost = record { calls = 7; changes = 1; bytes = 0 } in
    most_then sync_cost reading_cost most is_made old middle new (omega arith) (omega arith) (omega arith)
    (most_of sync_cost sync_cost true old middle (omega arith) (omega arith) (omega arith) first)
    (most_of reading_cost reading_cost is_made middle new (omega arith) (omega arith) (omega arith) second)

pub load_calls : (is_made : Bool) (old middle next new : DiskState) → MakesCalls sync_cost true old middle
    → MakesCalls reading_cost true middle next → MakesAtMost mend_cost is_made next new
    → MakesAtMost load_cost is_made old new
load_calls is_made old middle next new first second third =
    most_then (record { calls = 7; changes = 1; bytes = 0 }) mend_cost load_cost is_made old next new (omega arith) (omega arith)
    (omega arith) (read_calls true old middle next first second) third
