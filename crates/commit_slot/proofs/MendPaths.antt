-- Of `close_next`, `clear_third` and `mend_slots`: what their calls make together, by how far they got.
use Rattle.std.proofs.Common.{◌≡◌, ◌+◌, ◌<◌, ◌≤◌, ℕ, Bool, true, List, [], ◌∷◌, ◌∙◌, get_or, replicate, refl, ap, subst, sym}
use Rattle.std.proofs.Common.{arith}
use Rattle.std.proofs.lemmas.List.{length-replicate}
use Rattle.std.specs.Prelude.{Result, OnOk, OnErr}
use Rattle.lsvd_bytes.specs.Places.{bytes_at}
use Rattle.lsvd_device.specs.Medium.{Medium, after_write, after_sync}
use Rattle.lsvd_device.specs.Calls.{read_cost, write_cost, sync_cost}
use Rattle.lsvd_device.specs.Device.{DiskState, IsDisk, HoldsNow, MakesCalls, moments_after, FailsToWrite}
use Rattle.commit_body.specs.declared.body.CommitBody.{CommitBody}
use Rattle.commit_body.specs.Body.{IsBody}
use Rattle.commit_slot.specs.Slots.{log_of, body_at, gate_at}
use Rattle.commit_slot.specs.LogArea.{KeepsLogAreaSince}
use Rattle.commit_slot.specs.Loading.{MakesAtMost}
use Rattle.commit_slot.specs.Mending.{KeepsNewest, NextIsClosed, ThirdIsOlder, Mends, LeavesOlder, HoldsNotNow, close_cost}
use Rattle.commit_slot.specs.Mending.{clear_third_cost, mend_cost}
use Rattle.commit_slot.proofs.Steps.{next_of, third_of}
use Rattle.commit_slot.proofs.LogAreaLemmas.{body_inside, gate_inside, failed_stays, write_stays, stays_then, same_stays}
use Rattle.commit_slot.proofs.LogAreaLemmas.{sync_stays}
use Rattle.commit_slot.proofs.Outcomes.{on_ok_as, on_both}
use Rattle.commit_slot.proofs.NewestKept.{holds_with}
use Rattle.commit_slot.proofs.MendLemmas.{AreThere, holds_unit, close_failed, close_made, clear_failed, clear_made, cleared_older}
use Rattle.commit_slot.proofs.MendLemmas.{cleared_closed, keeps_then, keeps_same, keeps_synced, mends_none, mends_synced}
use Rattle.commit_slot.proofs.MendLemmas.{two_calls, most_then, most_of}

-- ---- the next slot

-- its gate was read, and is open
pub record IsGateRead (number : ℕ) (gate : List ℕ) (old middle : DiskState) : Type 0 where
  pub least : 4096 ≤ old.size
  pub is_disk : IsDisk old
  pub is_disk' : IsDisk middle
  pub there : AreThere (gate_at (next_of number)) 1 gate old.moments
  pub one : get_or gate 0 0 ≡ 1
  pub read : MakesCalls read_cost true old middle
  pub same : middle.moments ≡ old.moments

-- the write that closes it failed
pub gate_failed_newest : (number : ℕ) (gate : List ℕ) (old middle new : DiskState) → IsGateRead number gate old middle
    → FailsToWrite (gate_at (next_of number)) 1 middle.moments new.moments → KeepsNewest number old new
gate_failed_newest number gate old middle new is fails = close_failed number gate old middle new is.there is.one is.same fails

pub gate_failed_stays : (number : ℕ) (gate : List ℕ) (old middle new : DiskState) → IsGateRead number gate old middle
    → FailsToWrite (gate_at (next_of number)) 1 middle.moments new.moments
    → KeepsLogAreaSince old.moments new.moments
gate_failed_stays number gate old middle new is fails =
    stays_then old.moments middle.moments new.moments (same_stays old.moments middle.moments is.same)
    (failed_stays (gate_at (next_of number)) 1 middle.moments new.moments (gate_inside (number + 1)) fails)

-- it was made
pub gate_closed_newest : (number : ℕ) (gate : List ℕ) (old middle new : DiskState) → IsGateRead number gate old middle
    → new.moments ≡ moments_after (after_write (gate_at (next_of number)) (0 ∷ [])) middle.moments → KeepsNewest number old new
gate_closed_newest number gate old middle new is moments = close_made number gate old middle new is.least is.is_disk is.there
    is.one is.same moments

pub gate_closed_stays : (number : ℕ) (gate : List ℕ) (old middle new : DiskState) → IsGateRead number gate old middle
    → new.moments ≡ moments_after (after_write (gate_at (next_of number)) (0 ∷ [])) middle.moments
    → KeepsLogAreaSince old.moments new.moments
gate_closed_stays number gate old middle new is moments =
    stays_then old.moments middle.moments new.moments (same_stays old.moments middle.moments is.same)
    (write_stays middle.size (gate_at (next_of number)) (0 ∷ []) middle.moments new.moments (gate_inside (number + 1)) (let e =
    is.read.size in let l = is.least in omega (arith, e, l)) is.is_disk'.media moments)

pub gate_costs : (number : ℕ) (gate : List ℕ) (is_made : Bool) (old middle new : DiskState) → IsGateRead number gate old middle
    → MakesCalls (write_cost 1) is_made middle new → MakesAtMost close_cost is_made old new
gate_costs number gate is_made old middle new is second = two_calls read_cost (write_cost 1) close_cost is_made old middle new
    (omega arith) (omega arith) (omega arith) is.read second

-- ---- the third slot

-- its sector was read, and is the body of a newer commit
pub record IsNewerRead (number : ℕ) (sector : List ℕ) (old middle : DiskState) : Type 0 where
  pub least : 4096 ≤ old.size
  pub is_disk : IsDisk old
  pub is_disk' : IsDisk middle
  pub there : AreThere (body_at (third_of number)) 512 sector old.moments
  pub newer : (body : CommitBody) × (n : ℕ) × IsBody sector (log_of old.size) (third_of number) body n × (number < n)
  pub read : MakesCalls read_cost true old middle
  pub same : middle.moments ≡ old.moments

-- the write that clears it failed
pub third_failed_newest : (number : ℕ) (sector : List ℕ) (old middle new : DiskState) → IsNewerRead number sector old middle
    → FailsToWrite (body_at (third_of number)) 512 middle.moments new.moments → KeepsNewest number old new
third_failed_newest number sector old middle new is fails = clear_failed number is.newer.1 is.newer.0 sector old middle new
    is.there is.newer.2 is.newer.3 is.same fails

pub third_failed_stays : (number : ℕ) (sector : List ℕ) (old middle new : DiskState) → IsNewerRead number sector old middle
    → FailsToWrite (body_at (third_of number)) 512 middle.moments new.moments
    → KeepsLogAreaSince old.moments new.moments
third_failed_stays number sector old middle new is fails =
    stays_then old.moments middle.moments new.moments (same_stays old.moments middle.moments is.same)
    (failed_stays (body_at (third_of number)) 512 middle.moments new.moments (body_inside (number + 2)) fails)

-- it was made
abbrev pub Clears : ℕ → DiskState → DiskState → Type 0
Clears number middle new = new.moments ≡ moments_after (after_write (body_at (third_of number)) (replicate 512 0)) middle.moments

pub third_cleared_newest : (number : ℕ) (sector : List ℕ) (old middle new : DiskState) → IsNewerRead number sector old middle
    → Clears number middle new → KeepsNewest number old new
third_cleared_newest number sector old middle new is moments = clear_made number is.newer.1 is.newer.0 sector old middle new
    is.least is.is_disk is.there is.newer.2 is.newer.3 is.same moments

pub third_cleared_older : (number : ℕ) (sector : List ℕ) (old middle new : DiskState) → IsNewerRead number sector old middle
    → Clears number middle new → HoldsNow (ThirdIsOlder (log_of old.size) number) new.moments
third_cleared_older number sector old middle new is moments = cleared_older (log_of old.size) number old middle new is.least
    is.is_disk is.same moments

pub third_cleared_closed : (number : ℕ) (sector : List ℕ) (old middle new : DiskState) → IsNewerRead number sector old middle
    → Clears number middle new
    → HoldsNow (NextIsClosed number) old.moments → HoldsNow (NextIsClosed number) new.moments
third_cleared_closed number sector old middle new is moments =
    cleared_closed number old middle new is.least is.is_disk is.same moments

pub third_cleared_stays : (number : ℕ) (sector : List ℕ) (old middle new : DiskState) → IsNewerRead number sector old middle
    → Clears number middle new → KeepsLogAreaSince old.moments new.moments
third_cleared_stays number sector old middle new is moments =
    let whole = length-replicate {A = ℕ} 512 0 in
    let inside = body_inside (number + 2) in
    stays_then old.moments middle.moments new.moments (same_stays old.moments middle.moments is.same)
    (write_stays middle.size (body_at (third_of number)) (replicate 512 0) middle.moments new.moments
    (omega (arith, inside, whole)) (let e = is.read.size in let l = is.least in omega (arith, e, l))
    is.is_disk'.media moments)

pub third_costs : (number : ℕ) (sector : List ℕ) (is_made : Bool) (old middle new : DiskState)
    → IsNewerRead number sector old middle → MakesCalls (write_cost 512) is_made middle new
    → MakesAtMost clear_third_cost is_made old new
third_costs number sector is_made old middle new is second = two_calls read_cost (write_cost 512) clear_third_cost is_made old
    middle new (omega arith) (omega arith) (omega arith) is.read second

-- a read gave what is not older
pub third_held_newer : (number : ℕ) (sector : List ℕ) (old middle : DiskState) → IsNewerRead number sector old middle
    → HoldsNotNow (ThirdIsOlder (log_of old.size) number) old.moments
third_held_newer number sector old middle is =
    let log : ℕ = log_of old.size in
    let P : List ℕ → Type 0 = λ s. IsBody s log (third_of number) is.newer.0 is.newer.1 in
    holds_with (λ now. sector ≡ bytes_at (body_at (third_of number)) 512 now.bytes) (λ now. Unit {0})
    (λ now. ThirdIsOlder log number now → ⊥) old.moments
    (λ now e _ older. let less = older is.newer.0 is.newer.1 (subst P e is.newer.2) in let more = is.newer.3 in
    omega (arith, less, more)) is.there (holds_unit old.moments)

-- where P held, and held not, there is no moment
none_held : (P : Medium → Type 0) (old new : List Medium) → HoldsNotNow P old → (old ≡ [] → new ≡ []) → HoldsNow P old → new ≡ old
none_held P [] new not follows holds = follows refl
none_held P (now ∷ past) new not follows holds = absurd (not holds)

pub third_failed_leaves : (number : ℕ) (sector : List ℕ) (old middle new : DiskState) → IsNewerRead number sector old middle
    → FailsToWrite (body_at (third_of number)) 512 middle.moments new.moments → LeavesOlder number old new
third_failed_leaves number sector old middle new is fails =
    let P : List Medium → Type 0 = λ m. FailsToWrite (body_at (third_of number)) 512 m new.moments in
    none_held (ThirdIsOlder (log_of old.size) number) old.moments new.moments (third_held_newer number sector old middle is)
    (λ e. subst P (is.same ∙ e) fails)

pub third_cleared_leaves : (number : ℕ) (sector : List ℕ) (old middle new : DiskState) → IsNewerRead number sector old middle
    → Clears number middle new → LeavesOlder number old new
third_cleared_leaves number sector old middle new is moments =
    none_held (ThirdIsOlder (log_of old.size) number) old.moments new.moments (third_held_newer number sector old middle is)
    (λ e. moments ∙ ap (moments_after (after_write (body_at (third_of number)) (replicate 512 0))) (is.same ∙ e))

-- ---- both

-- the next slot was closed, and the third was cleared or that failed
pub record IsMending (number : ℕ) (is_made : Bool) (old middle next : DiskState) : Type 0 where
  pub least : 4096 ≤ old.size
  pub is_disk : IsDisk old
  pub is_disk' : IsDisk next
  pub close : MakesAtMost close_cost true old middle
  pub clear : MakesAtMost clear_third_cost is_made middle next
  pub close_newest : KeepsNewest number old middle
  pub clear_newest : KeepsNewest number middle next
  pub close_log_area : KeepsLogAreaSince old.moments middle.moments
  pub clear_log_area : KeepsLogAreaSince middle.moments next.moments

pub mending_size : (number : ℕ) (is_made : Bool) (old middle next : DiskState) → IsMending number is_made old middle next
    → next.size ≡ old.size
mending_size number is_made old middle next is = is.clear.calls.size ∙ is.close.calls.size

pub mending_newest : (number : ℕ) (is_made : Bool) (old middle next : DiskState) → IsMending number is_made old middle next
    → KeepsNewest number old next
mending_newest number is_made old middle next is = keeps_then number old middle next is.close.calls.size is.close_newest
    is.clear_newest

pub mending_stays : (number : ℕ) (is_made : Bool) (old middle next : DiskState) → IsMending number is_made old middle next
    → KeepsLogAreaSince old.moments next.moments
mending_stays number is_made old middle next is = stays_then old.moments middle.moments next.moments is.close_log_area
    is.clear_log_area

pub mending_costs : (number : ℕ) (is_made : Bool) (old middle next : DiskState) → IsMending number is_made old middle next
    → MakesAtMost mend_cost is_made old next
mending_costs number is_made old middle next is = most_then close_cost clear_third_cost mend_cost is_made old middle next
    (omega arith) (omega arith) (omega arith) is.close is.clear

-- neither wrote
pub mended_none : (number : ℕ) (old middle next : DiskState) → IsMending number true old middle next
    → middle.moments ≡ old.moments → next.moments ≡ middle.moments → HoldsNow (NextIsClosed number) middle.moments
    → HoldsNow (ThirdIsOlder (log_of middle.size) number) next.moments → Mends number old next
mended_none number old middle next is same same' closed older =
    mends_none number old next is.least is.is_disk (same' ∙ same) (subst (HoldsNow (NextIsClosed number)) (sym same') closed)
    (subst (λ n. HoldsNow (ThirdIsOlder (log_of n) number) next.moments) is.close.calls.size older)

-- and then the device was synced, or that failed
pub mended : {T E : Type 0} (result : Result T E) (number : ℕ) (old middle next new : DiskState)
    → IsMending number true old middle next → HoldsNow (NextIsClosed number) next.moments
    → HoldsNow (ThirdIsOlder (log_of middle.size) number) next.moments
    → OnOk result (new.moments ≡ moments_after after_sync next.moments) → OnOk result (Mends number old new)
mended result number old middle next new is closed older ok =
    on_ok_as result (new.moments ≡ moments_after after_sync next.moments) (Mends number old new)
    (λ moments. mends_synced number old next new is.least (mending_size number true old middle next is) is.is_disk'
    (mending_newest number true old middle next is) moments closed
    (subst (λ n. HoldsNow (ThirdIsOlder (log_of n) number) next.moments) is.close.calls.size older)) ok

pub mended_newest : {T E : Type 0} (result : Result T E) (number : ℕ) (old middle next new : DiskState)
    → IsMending number true old middle next
    → OnOk result (new.moments ≡ moments_after after_sync next.moments) → OnErr result (new.moments ≡ next.moments)
    → KeepsNewest number old new
mended_newest result number old middle next new is ok err =
    let size = mending_size number true old middle next is in
    let least : 4096 ≤ next.size = (let l = is.least in omega (arith, size, l)) in
    keeps_then number old next new size (mending_newest number true old middle next is)
    (on_both result (new.moments ≡ moments_after after_sync next.moments) (new.moments ≡ next.moments)
    (KeepsNewest number next new) (keeps_synced number next new least is.is_disk') (keeps_same number next new) ok err)

pub mended_stays : {T E : Type 0} (result : Result T E) (number : ℕ) (old middle next new : DiskState)
    → IsMending number true old middle next
    → OnOk result (new.moments ≡ moments_after after_sync next.moments) → OnErr result (new.moments ≡ next.moments)
    → KeepsLogAreaSince old.moments new.moments
mended_stays result number old middle next new is ok err =
    stays_then old.moments next.moments new.moments (mending_stays number true old middle next is)
    (on_both result (new.moments ≡ moments_after after_sync next.moments) (new.moments ≡ next.moments)
    (KeepsLogAreaSince next.moments new.moments) (sync_stays next.moments new.moments)
    (same_stays next.moments new.moments) ok err)

pub mended_costs : (number : ℕ) (is_made : Bool) (old middle next new : DiskState) → IsMending number true old middle next
    → MakesCalls sync_cost is_made next new → MakesAtMost mend_cost is_made old new
mended_costs number is_made old middle next new is sync =
    let both : MakesAtMost (record { calls = 4; changes = 2; bytes = 513 }) true old next =
    most_then close_cost clear_third_cost (record { calls = 4; changes = 2; bytes = 513 }) true old middle next (omega arith)
    (omega arith) (omega arith) is.close is.clear in
    most_then (record { calls = 4; changes = 2; bytes = 513 }) sync_cost mend_cost is_made old next new (omega arith)
    (omega arith) (omega arith) both
    (most_of sync_cost sync_cost is_made next new (omega arith) (omega arith) (omega arith) sync)
