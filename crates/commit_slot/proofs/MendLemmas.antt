-- The calls that mend the slots of a device.
use Rattle.std.proofs.Common.{◌≡◌, ◌≢◌, ℕ, ◌+◌, ◌%◌, ◌<◌, ◌≤◌, Bool, true, List, [], ◌∷◌, length, replicate, get_or, refl, sym}
use Rattle.std.proofs.Common.{◌∙◌, ap, subst, arith}
use Rattle.std.specs.List.{AllByRecursion}
use Rattle.std.proofs.lemmas.List.{length-replicate}
use Rattle.lsvd_bytes.specs.Places.{bytes_at}
use Rattle.lsvd_device.specs.Medium.{Medium, after_write, after_sync}
use Rattle.lsvd_device.specs.Calls.{Cost, together}
use Rattle.lsvd_device.specs.Device.{DiskState, IsDisk, HasSize, HoldsNow, MakesCalls, moments_after, FailsToWrite}
use Rattle.lsvd_device.proofs.Together.{made_then}
use Rattle.lsvd_device.specs.Memory.{IsSynced}
use Rattle.commit_body.specs.declared.body.CommitBody.{CommitBody}
use Rattle.commit_body.specs.Body.{IsBody}
use Rattle.commit_slot.specs.Slots.{log_of, body_at, gate_at}
use Rattle.commit_slot.specs.States.{IsClosed, IsSettled}
use Rattle.commit_slot.specs.Loading.{MakesAtMost}
use Rattle.commit_slot.specs.Mending.{IsNewest, KeepsNewest, NextIsClosed, ThirdIsOlder, Mends}
use Rattle.commit_slot.proofs.LastingLemmas.{Apart, still_there}
use Rattle.commit_slot.proofs.Passing.{passes_on, after_step, same_moments}
use Rattle.commit_slot.proofs.SlotStates.{body_lies, gate_lies, slots_apart, written_there}
use Rattle.commit_slot.proofs.Steps.{next_of, third_of, media_of}
use Rattle.commit_slot.proofs.FormatLemmas.{zeros_are_none}
use Rattle.commit_slot.proofs.NewestKept.{PassesNewest, newest_synced, newest_settled, synced_is_same, IsSpared, gate_spared}
use Rattle.commit_slot.proofs.NewestKept.{body_spared, spared_failed, spared_written, holds_with}

-- ---- places

pub next_place : (number : ℕ) → (number % 3 + 1) % 3 ≡ next_of number
next_place number = omega arith

pub third_place : (number : ℕ) → ((number % 3 + 1) % 3 + 1) % 3 ≡ third_of number
third_place number = omega arith

next_below : (number : ℕ) → next_of number < 3
next_below number = omega arith

third_below : (number : ℕ) → third_of number < 3
third_below number = omega arith

next_differs : (number : ℕ) → next_of number ≢ number % 3
next_differs number = λ e. omega (arith, e)

third_differs : (number : ℕ) → third_of number ≢ number % 3
third_differs number = λ e. omega (arith, e)

next_not_third : (number : ℕ) → third_of number ≢ next_of number
next_not_third number = λ e. omega (arith, e)

-- ---- what was read

-- this many bytes from a byte on were read as these
abbrev pub AreThere : (at count : ℕ) → List ℕ → List Medium → Type 0
AreThere at count bytes moments = HoldsNow (λ now. bytes ≡ bytes_at at count now.bytes) moments

open_spared : (number : ℕ) (body : CommitBody) (gate : List ℕ) (old : DiskState)
    → AreThere (gate_at (next_of number)) 1 gate old.moments → get_or gate 0 0 ≡ 1
    → HoldsNow (IsNewest (log_of old.size) number body) old.moments
    → HoldsNow (IsSpared (log_of old.size) number (next_of number) (gate_at (next_of number)) 1 body) old.moments
open_spared number body gate old there one newest =
    let log : ℕ = log_of old.size in
    holds_with (λ now. gate ≡ bytes_at (gate_at (next_of number)) 1 now.bytes) (IsNewest log number body)
    (IsSpared log number (next_of number) (gate_at (next_of number)) 1 body) old.moments
    (λ medium e is. gate_spared log number (next_of number) body medium (next_below number) (next_differs number)
    (ap (λ xs. get_or xs 0 0) (sym e) ∙ one) is) there newest

newer_spared : (number n : ℕ) (body b : CommitBody) (sector : List ℕ) (old : DiskState)
    → AreThere (body_at (third_of number)) 512 sector old.moments
    → IsBody sector (log_of old.size) (third_of number) b n → number < n
    → HoldsNow (IsNewest (log_of old.size) number body) old.moments
    → HoldsNow (IsSpared (log_of old.size) number (third_of number) (body_at (third_of number)) 512 body) old.moments
newer_spared number n body b sector old there is newer newest =
    let log : ℕ = log_of old.size in
    let P : List ℕ → Type 0 = λ s. IsBody s log (third_of number) b n in
    holds_with (λ now. sector ≡ bytes_at (body_at (third_of number)) 512 now.bytes) (IsNewest log number body)
    (IsSpared log number (third_of number) (body_at (third_of number)) 512 body) old.moments
    (λ medium e is'. body_spared log number (third_of number) n body b medium (third_below number) (third_differs number)
    (subst P e is) newer is') there newest

-- ---- the next slot is closed

pub close_failed : (number : ℕ) (gate : List ℕ) (old middle new : DiskState)
    → AreThere (gate_at (next_of number)) 1 gate old.moments → get_or gate 0 0 ≡ 1 → middle.moments ≡ old.moments
    → FailsToWrite (gate_at (next_of number)) 1 middle.moments new.moments → KeepsNewest number old new
close_failed number gate old middle new there one same fails = λ body newest.
    let P : List Medium → Type 0 = λ m. FailsToWrite (gate_at (next_of number)) 1 m new.moments in
    spared_failed (log_of old.size) number (next_of number) (gate_at (next_of number)) 1 body old.moments new.moments
    (next_differs number) (gate_lies (next_of number))
    (open_spared number body gate old there one newest) (subst P same fails)

pub close_made : (number : ℕ) (gate : List ℕ) (old middle new : DiskState) → 4096 ≤ old.size → IsDisk old
    → AreThere (gate_at (next_of number)) 1 gate old.moments → get_or gate 0 0 ≡ 1 → middle.moments ≡ old.moments
    → new.moments ≡ moments_after (after_write (gate_at (next_of number)) (0 ∷ [])) middle.moments → KeepsNewest number old new
close_made number gate old middle new least is_disk there one same moments = λ body newest.
    spared_written old.size (log_of old.size) number (next_of number) (gate_at (next_of number)) 1 body (0 ∷ []) old.moments
    new.moments (next_differs number) (next_below number) least refl (gate_lies (next_of number))
    is_disk.media (open_spared number body gate old there one newest) (moments
    ∙ ap (moments_after (after_write (gate_at (next_of number)) (0 ∷ []))) same)

-- ---- the third one is cleared

pub clear_failed : (number n : ℕ) (b : CommitBody) (sector : List ℕ) (old middle new : DiskState)
    → AreThere (body_at (third_of number)) 512 sector old.moments
    → IsBody sector (log_of old.size) (third_of number) b n → number < n → middle.moments ≡ old.moments
    → FailsToWrite (body_at (third_of number)) 512 middle.moments new.moments → KeepsNewest number old new
clear_failed number n b sector old middle new there is newer same fails = λ body newest.
    let P : List Medium → Type 0 = λ m. FailsToWrite (body_at (third_of number)) 512 m new.moments in
    spared_failed (log_of old.size) number (third_of number) (body_at (third_of number)) 512 body old.moments new.moments
    (third_differs number) (body_lies (third_of number))
    (newer_spared number n body b sector old there is newer newest) (subst P same fails)

pub clear_made : (number n : ℕ) (b : CommitBody) (sector : List ℕ) (old middle new : DiskState) → 4096 ≤ old.size → IsDisk old
    → AreThere (body_at (third_of number)) 512 sector old.moments
    → IsBody sector (log_of old.size) (third_of number) b n → number < n → middle.moments ≡ old.moments
    → new.moments ≡ moments_after (after_write (body_at (third_of number)) (replicate 512 0)) middle.moments
    → KeepsNewest number old new
clear_made number n b sector old middle new least is_disk there is newer same moments = λ body newest.
    spared_written old.size (log_of old.size) number (third_of number) (body_at (third_of number)) 512 body (replicate 512 0)
    old.moments new.moments (third_differs number) (third_below number) least
    (length-replicate {A = ℕ} 512 0) (body_lies (third_of number)) is_disk.media
    (newer_spared number n body b sector old there is newer newest)
    (moments ∙ ap (moments_after (after_write (body_at (third_of number)) (replicate 512 0))) same)

pub holds_unit : (moments : List Medium) → HoldsNow (λ medium. Unit {0}) moments
holds_unit [] = tt
holds_unit (now ∷ past) = tt

-- it was not newer
pub read_older : (number : ℕ) (sector : List ℕ) (old new : DiskState)
    → AreThere (body_at (third_of number)) 512 sector old.moments → new.moments ≡ old.moments
    → ((body : CommitBody) (n : ℕ) → IsBody sector (log_of old.size) (third_of number) body n → n ≤ number)
    → HoldsNow (ThirdIsOlder (log_of old.size) number) new.moments
read_older number sector old new there same none =
    let log : ℕ = log_of old.size in
    let older : HoldsNow (ThirdIsOlder log number) old.moments =
    holds_with (λ now. sector ≡ bytes_at (body_at (third_of number)) 512 now.bytes) (λ medium. Unit {0}) (ThirdIsOlder log number)
    old.moments
    (λ medium e _ body n is.
    let P : List ℕ → Type 0 = λ s. IsBody s log (third_of number) body n in
    let most = none body n (subst P (sym e) is) in
    let mine = is.in_slot in
    let differ : n ≢ number = (λ e'. third_differs number (sym mine ∙ ap (λ k. k % 3) e')) in
    omega (arith, most, differ)) there (holds_unit old.moments) in
    subst (HoldsNow (ThirdIsOlder log number)) (sym same) older

-- what a read gives then
pub holds_after : (P Q : Medium → Type 0) (size : ℕ) (step : Medium → Medium) (old new : List Medium)
    → ((medium : Medium) → HasSize size medium → P medium → Q (step medium)) → AllByRecursion (HasSize size) old
    → HoldsNow P old → new ≡ moments_after step old → HoldsNow Q new
holds_after P Q size step old new follows sizes holds moments = (after_step P Q size step old new follows sizes holds moments).1

third_within : (number : ℕ) (size : ℕ) (medium : Medium) → 4096 ≤ size → HasSize size medium
    → body_at (third_of number) + length (replicate {A = ℕ} 512 0) ≤ length medium.bytes
third_within number size medium least has =
    let e = has.bytes in
    let whole = length-replicate {A = ℕ} 512 0 in
    let below = third_below number in
    omega (arith, e, whole, below, least)

pub cleared_older : (log number : ℕ) (old middle new : DiskState) → 4096 ≤ old.size → IsDisk old → middle.moments ≡ old.moments
    → new.moments ≡ moments_after (after_write (body_at (third_of number)) (replicate 512 0)) middle.moments
    → HoldsNow (ThirdIsOlder log number) new.moments
cleared_older log number old middle new least is_disk same moments =
    let at : ℕ = body_at (third_of number) in
    holds_after (λ medium. Unit {0}) (ThirdIsOlder log number) old.size (after_write at (replicate 512 0)) old.moments new.moments
    (λ medium has _ body n is.
    absurd (zeros_are_none (third_of number) _
    (written_there at 512 (replicate 512 0) medium.bytes (length-replicate {A = ℕ} 512 0)
    (third_within number old.size medium least has)) log n body is))
    is_disk.media (holds_unit old.moments) (moments ∙ ap (moments_after (after_write at (replicate 512 0))) same)

pub cleared_closed : (number : ℕ) (old middle new : DiskState) → 4096 ≤ old.size → IsDisk old → middle.moments ≡ old.moments
    → new.moments ≡ moments_after (after_write (body_at (third_of number)) (replicate 512 0)) middle.moments
    → HoldsNow (NextIsClosed number) old.moments → HoldsNow (NextIsClosed number) new.moments
cleared_closed number old middle new least is_disk same moments closed =
    let at : ℕ = body_at (third_of number) in
    let piece : List ℕ = replicate 512 0 in
    let whole : length piece ≡ 512 = length-replicate {A = ℕ} 512 0 in
    holds_after (NextIsClosed number) (NextIsClosed number) old.size (after_write at piece) old.moments new.moments
    (λ medium has is.
    let apart = slots_apart (third_of number) (next_of number) at 512 (gate_at (next_of number)) 1 (next_not_third number)
    (body_lies (third_of number)) (gate_lies (next_of number)) in
    let Q : ℕ → Type 0 = λ n. Apart at n (gate_at (next_of number)) 1 in
    subst IsClosed (sym (still_there at piece medium.bytes (gate_at (next_of number)) 1
    (third_within number old.size medium least has) (subst Q (sym whole) apart))) is)
    is_disk.media closed (moments ∙ ap (moments_after (after_write at piece)) same)

-- ---- one after the other

pub keeps_then : (number : ℕ) (old middle new : DiskState) → middle.size ≡ old.size → KeepsNewest number old middle
    → KeepsNewest number middle new → KeepsNewest number old new
keeps_then number old middle new size first second = λ body newest.
    let log : ℕ = log_of old.size in
    let one = first body newest in
    let next : PassesNewest log number body middle.moments new.moments =
    (let P : ℕ → Type 0 = λ n. HoldsNow (IsNewest (log_of n) number body) middle.moments
    → PassesNewest (log_of n) number body middle.moments new.moments in subst P size (second body)) one.1 in
    (passes_on (IsNewest log number body) old.moments middle.moments new.moments one.0 next.0, next.1)

pub keeps_same : (number : ℕ) (old new : DiskState) → new.moments ≡ old.moments → KeepsNewest number old new
keeps_same number old new same = λ body newest. same_moments (IsNewest (log_of old.size) number body) old.moments new.moments
    newest same

pub keeps_synced : (number : ℕ) (old new : DiskState) → 4096 ≤ old.size → IsDisk old
    → new.moments ≡ moments_after after_sync old.moments → KeepsNewest number old new
keeps_synced number old new least is_disk moments = λ body newest.
    let P : Medium → Type 0 = IsNewest (log_of old.size) number body in
    after_step P P old.size after_sync old.moments new.moments (λ medium has is. newest_synced old.size (log_of old.size) number
    body medium least has is) is_disk.media newest moments

settled_in : (size number : ℕ) (body : CommitBody) (moments : List Medium) → 4096 ≤ size → AllByRecursion (HasSize size) moments
    → HoldsNow IsSynced moments → HoldsNow (IsNewest (log_of size) number body) moments
    → HoldsNow (NextIsClosed number) moments → HoldsNow (ThirdIsOlder (log_of size) number) moments
    → HoldsNow (IsSettled (log_of size) number body) moments
settled_in size number body [] least sizes synced newest closed older = tt
settled_in size number body (now ∷ past) least sizes synced newest closed older =
    subst (IsSettled (log_of size) number body) (synced_is_same now synced)
    (newest_settled size (log_of size) number body now least sizes.0 newest closed older)

-- nothing was written
pub mends_none : (number : ℕ) (old new : DiskState) → 4096 ≤ old.size → IsDisk old → new.moments ≡ old.moments
    → HoldsNow (NextIsClosed number) new.moments
    → HoldsNow (ThirdIsOlder (log_of old.size) number) new.moments → Mends number old new
mends_none number old new least is_disk same closed older = λ body synced newest.
    let log : ℕ = log_of old.size in
    subst (HoldsNow (IsSettled log number body)) (sym same)
    (settled_in old.size number body old.moments least is_disk.media synced newest
    (subst (HoldsNow (NextIsClosed number)) same closed) (subst (HoldsNow (ThirdIsOlder log number)) same older))

-- it was synced
pub mends_synced : (number : ℕ) (old middle new : DiskState) → 4096 ≤ old.size → middle.size ≡ old.size → IsDisk middle
    → KeepsNewest number old middle
    → new.moments ≡ moments_after after_sync middle.moments → HoldsNow (NextIsClosed number) middle.moments
    → HoldsNow (ThirdIsOlder (log_of old.size) number) middle.moments → Mends number old new
mends_synced number old middle new least size is_disk keeps moments closed older = λ body synced newest.
    let log : ℕ = log_of old.size in
    let P : Medium → Type 0 = λ medium. IsNewest log number body medium
    × (NextIsClosed number medium × ThirdIsOlder log number medium) in
    let slots = holds_with (NextIsClosed number) (ThirdIsOlder log number) (λ medium. NextIsClosed number medium
    × ThirdIsOlder log number medium) middle.moments (λ medium a b. (a, b)) closed older in
    let all : HoldsNow P middle.moments =
    holds_with (IsNewest log number body) (λ medium. NextIsClosed number medium × ThirdIsOlder log number medium) P middle.moments
    (λ medium a b. (a, b)) (keeps body newest).1 slots in
    holds_after P (IsSettled log number body) old.size after_sync middle.moments new.moments
    (λ medium has is. newest_settled old.size log number body medium least has is.0 is.1.0 is.1.1)
    (media_of old.size middle (record { is_disk = is_disk; size' = size })) all moments

-- ---- the calls

-- two calls, where both were asked for
pub two_calls : (a b most : Cost) (is_made : Bool) (old middle new : DiskState) → a.calls + b.calls ≤ most.calls
    → a.changes + b.changes ≤ most.changes → a.bytes + b.bytes ≤ most.bytes
    → MakesCalls a true old middle → MakesCalls b is_made middle new → MakesAtMost most is_made old new
two_calls a b most is_made old middle new calls changes bytes first second = record {
  cost = together a b;
  most_calls = calls;
  most_changes = changes;
  most_bytes = bytes;
  calls = made_then a b is_made old middle new first second;
}

pub most_then : (a b most : Cost) (is_made : Bool) (old middle new : DiskState) → a.calls + b.calls ≤ most.calls
    → a.changes + b.changes ≤ most.changes → a.bytes + b.bytes ≤ most.bytes
    → MakesAtMost a true old middle → MakesAtMost b is_made middle new → MakesAtMost most is_made old new
most_then a b most is_made old middle new calls changes bytes first second =
    let c = first.most_calls in
    let c' = second.most_calls in
    let d = first.most_changes in
    let d' = second.most_changes in
    let e = first.most_bytes in
    let e' = second.most_bytes in
    record {
      cost = together first.cost second.cost;
      most_calls = omega (arith, calls, c, c');
      most_changes = omega (arith, changes, d, d');
      most_bytes = omega (arith, bytes, e, e');
      calls = made_then first.cost second.cost is_made old middle new first.calls second.calls;
    }

pub most_as : (a most : Cost) (is_made : Bool) (old new : DiskState) → a.calls ≤ most.calls → a.changes ≤ most.changes
    → a.bytes ≤ most.bytes → MakesAtMost a is_made old new → MakesAtMost most is_made old new
most_as a most is_made old new calls changes bytes first =
    let c = first.most_calls in
    let d = first.most_changes in
    let e = first.most_bytes in
    record {
      cost = first.cost;
      most_calls = omega (arith, calls, c);
      most_changes = omega (arith, changes, d);
      most_bytes = omega (arith, bytes, e);
      calls = first.calls;
    }

pub most_of : (a most : Cost) (is_made : Bool) (old new : DiskState) → a.calls ≤ most.calls → a.changes ≤ most.changes
    → a.bytes ≤ most.bytes → MakesCalls a is_made old new → MakesAtMost most is_made old new
most_of a most is_made old new calls changes bytes first =
    record { cost = a; most_calls = calls; most_changes = changes; most_bytes = bytes; calls = first }
