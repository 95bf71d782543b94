-- The calls of the two halves of a commit.
use Rattle.std.proofs.Common.{◌≡◌, ℕ, ◌+◌, ◌%◌, ◌≤◌, List, [], ◌∷◌, length, refl, ◌∙◌, subst, arith}
use Rattle.std.specs.List.{AllByRecursion}
use Rattle.std.proofs.Math.Path.{subst₂}
use Rattle.lsvd_device.specs.Medium.{Medium, after_write, after_sync}
use Rattle.lsvd_device.specs.Device.{DiskState, IsDisk, HasSize, HoldsNow, moments_after, FailsToWrite}
use Rattle.commit_body.specs.declared.body.CommitBody.{CommitBody}
use Rattle.commit_body.specs.Body.{IsBody}
use Rattle.commit_slot.specs.Slots.{log_of, body_at, gate_at}
use Rattle.commit_slot.specs.States.{IsSettled, IsSettledIn, IsHalfMade, IsFirstHalf, FailsFirstHalf, IsSecondHalf}
use Rattle.commit_slot.specs.States.{FailsSecondHalf}
use Rattle.commit_slot.proofs.Passing.{PassesTo, to_as, passes_on, after_step, same_moments, failed_write}
use Rattle.commit_slot.proofs.SlotStates.{three, torn_keeps_lasting, body_keeps_settled, gate_keeps_settled, gate_keeps_half}
use Rattle.commit_slot.proofs.SlotStates.{IsBodyWritten, IsGateClosed, IsReady, IsGateOpened, write_body, close_gate, sync_first}
use Rattle.commit_slot.proofs.SlotStates.{open_gate, IsMade, sync_made}

-- the slots of a commit, the next one and the third one
abbrev pub next_of : ℕ → ℕ
next_of number = (number + 1) % 3

abbrev pub third_of : ℕ → ℕ
third_of number = (number + 2) % 3

-- a disk of which each moment that it tells is as long as it was
pub record IsDiskOf (size : ℕ) (disk : DiskState) : Type 0 where
  pub is_disk : IsDisk disk
  pub size' : disk.size ≡ size

pub media_of : (size : ℕ) (disk : DiskState) → IsDiskOf size disk → AllByRecursion (HasSize size) disk.moments
media_of size disk is = (let P : ℕ → Type 0 = λ n. AllByRecursion (HasSize n) disk.moments in subst P is.size' is.is_disk.media)

-- ---- the first half

-- the body was written
pub first_written : (size log number : ℕ) (body : CommitBody) (piece : List ℕ) (old new : DiskState) → 4096 ≤ size
    → length piece ≡ 512 → IsDiskOf size old
    → new.moments ≡ moments_after (after_write (body_at (next_of number)) piece) old.moments
    → HoldsNow (IsSettled log number body) old.moments
    → PassesTo (IsSettled log number body) (IsBodyWritten log (number % 3) (next_of number) (third_of number) number body piece)
    old.moments new.moments
first_written size log number body piece old new least whole is moments holds =
    let Q : Medium → Type 0 = IsBodyWritten log (number % 3) (next_of number) (third_of number) number body piece in
    to_as Q Q (IsSettled log number body) Q old.moments new.moments (λ medium q. q.settled) (λ medium q. q) (
    after_step (IsSettled log number body) Q size (after_write (body_at (next_of number)) piece) old.moments new.moments
    (λ medium has settled. write_body size log (number % 3) (next_of number) (third_of number) number body piece medium
    (three number) least whole has settled)
    (media_of size old is) holds moments)

pub then_closed : (size log number : ℕ) (body : CommitBody) (piece : List ℕ) (old new : DiskState) → 4096 ≤ size
    → IsDiskOf size old
    → new.moments ≡ moments_after (after_write (gate_at (third_of number)) (0 ∷ [])) old.moments
    → HoldsNow (IsBodyWritten log (number % 3) (next_of number) (third_of number) number body piece) old.moments
    → PassesTo (IsSettled log number body) (IsGateClosed log (number % 3) (next_of number) (third_of number) number body piece)
    old.moments new.moments
then_closed size log number body piece old new least is moments holds =
    let Q : Medium → Type 0 = IsGateClosed log (number % 3) (next_of number) (third_of number) number body piece in
    to_as Q Q (IsSettled log number body) Q old.moments new.moments (λ medium q. q.settled) (λ medium q. q) (
    after_step (IsBodyWritten log (number % 3) (next_of number) (third_of number) number body piece) Q size
    (after_write (gate_at (third_of number)) (0 ∷ [])) old.moments new.moments
    (λ medium has written. close_gate size log (number % 3) (next_of number) (third_of number) number body piece medium
    (three number) least has written)
    (media_of size old is) holds moments)

pub then_synced : (size log number : ℕ) (body more : CommitBody) (piece : List ℕ) (old new : DiskState) → 4096 ≤ size
    → IsBody piece log (next_of number) more (number + 1) → IsDiskOf size old
    → new.moments ≡ moments_after after_sync old.moments
    → HoldsNow (IsGateClosed log (number % 3) (next_of number) (third_of number) number body piece) old.moments
    → PassesTo (IsSettled log number body) (IsHalfMade log number body more) old.moments new.moments
then_synced size log number body more piece old new least is_body is moments holds =
    let Q : Medium → Type 0 = IsReady log (number % 3) (next_of number) (third_of number) number body more in
    to_as Q Q (IsSettled log number body) (IsHalfMade log number body more) old.moments new.moments (λ medium q. q.settled)
    (λ medium q. q.half) (
    after_step (IsGateClosed log (number % 3) (next_of number) (third_of number) number body piece) Q size after_sync old.moments
    new.moments
    (λ medium has closed. sync_first size log (number % 3) (next_of number) (third_of number) number body more piece medium
    (three number) least is_body has closed)
    (media_of size old is) holds moments)

-- two calls of the first half, one after the other
on : (P Q R : Medium → Type 0) (old middle new : List Medium) → PassesTo P Q old middle
    → (HoldsNow Q middle → PassesTo P R middle new) → PassesTo P R old new
on P Q R old middle new first second = (let next = second first.1 in (passes_on P old middle new first.0 next.0, next.1))

-- a step that fails leaves what was settled
settled_after_failed_body : (log number : ℕ) (body : CommitBody) (old new : DiskState)
    → HoldsNow (IsSettled log number body) old.moments
    → FailsToWrite (body_at (next_of number)) 512 old.moments new.moments
    → PassesTo (IsSettled log number body) (IsSettled log number body) old.moments new.moments
settled_after_failed_body log number body old new holds fails =
    failed_write (IsSettled log number body) (body_at (next_of number)) 512 old.moments new.moments
    (λ medium torn is settled.
    body_keeps_settled log (number % 3) (next_of number) (third_of number) number body medium torn (three number)
    (torn_keeps_lasting (body_at (next_of number)) 512 medium torn is) settled)
    holds fails

settled_after_failed_gate : (log number : ℕ) (body : CommitBody) (old new : DiskState)
    → HoldsNow (IsSettled log number body) old.moments
    → FailsToWrite (gate_at (third_of number)) 1 old.moments new.moments
    → PassesTo (IsSettled log number body) (IsSettled log number body) old.moments new.moments
settled_after_failed_gate log number body old new holds fails =
    failed_write (IsSettled log number body) (gate_at (third_of number)) 1 old.moments new.moments
    (λ medium torn is settled.
    gate_keeps_settled log (number % 3) (next_of number) (third_of number) number body medium torn (three number)
    (torn_keeps_lasting (gate_at (third_of number)) 1 medium torn is) settled)
    holds fails

now_as : (P Q : Medium → Type 0) (moments : List Medium) → ((medium : Medium) → P medium → Q medium) → HoldsNow P moments
    → HoldsNow Q moments
now_as P Q [] follows holds = tt
now_as P Q (now ∷ past) follows holds = follows now holds

pub body_failed : (number : ℕ) (old new : DiskState) → FailsToWrite (body_at (next_of number)) 512 old.moments new.moments
    → FailsFirstHalf number old new
body_failed number old new fails = λ body holds. settled_after_failed_body (log_of old.size) number body old new holds fails

-- the body was written
pub record IsBodyMade (number : ℕ) (piece : List ℕ) (old middle : DiskState) : Type 0 where
  pub least : 4096 ≤ old.size
  pub whole : length piece ≡ 512
  pub is_disk : IsDisk old
  pub is_disk' : IsDisk middle
  pub size : middle.size ≡ old.size
  pub moments : middle.moments ≡ moments_after (after_write (body_at (next_of number)) piece) old.moments

pub closing_failed : (number : ℕ) (piece : List ℕ) (old middle new : DiskState) → IsBodyMade number piece old middle
    → FailsToWrite (gate_at (third_of number)) 1 middle.moments new.moments → FailsFirstHalf number old new
closing_failed number piece old middle new made fails = λ body holds.
    let log : ℕ = log_of old.size in
    let Q : Medium → Type 0 = IsBodyWritten log (number % 3) (next_of number) (third_of number) number body piece in
    on (IsSettled log number body) Q (IsSettled log number body) old.moments middle.moments new.moments
    (first_written old.size log number body piece old middle made.least made.whole
    (record { is_disk = made.is_disk; size' = refl }) made.moments holds)
    (λ written. settled_after_failed_gate log number body middle new
    (now_as Q (IsSettled log number body) middle.moments (λ medium q. q.settled) written) fails)

-- both writes
both_written : (size number : ℕ) (body : CommitBody) (piece : List ℕ) (old middle next : DiskState) → 4096 ≤ old.size
    → length piece ≡ 512 → IsDisk old → IsDisk middle → middle.size ≡ old.size
    → middle.moments ≡ moments_after (after_write (body_at (next_of number)) piece) old.moments
    → next.moments ≡ moments_after (after_write (gate_at (third_of number)) (0 ∷ [])) middle.moments
    → HoldsNow (IsSettled (log_of old.size) number body) old.moments
    → PassesTo (IsSettled (log_of old.size) number body) (IsGateClosed (log_of old.size) (number % 3) (next_of number)
    (third_of number) number body piece) old.moments next.moments
both_written size number body piece old middle next least whole is is' same moments moments' holds =
    let log : ℕ = log_of old.size in
    let Q : Medium → Type 0 = IsBodyWritten log (number % 3) (next_of number) (third_of number) number body piece in
    on (IsSettled log number body) Q (IsGateClosed log (number % 3) (next_of number) (third_of number) number body piece)
    old.moments middle.moments next.moments
    (first_written old.size log number body piece old middle least whole (record { is_disk = is; size' = refl }) moments holds)
    (λ written. then_closed old.size log number body piece middle next least (record { is_disk = is'; size' = same })
    moments' written)

-- both writes were made, and then the sync, or it failed
pub record AreWritten (number : ℕ) (piece : List ℕ) (old middle next : DiskState) : Type 0 where
  pub least : 4096 ≤ old.size
  pub whole : length piece ≡ 512
  pub is_disk : IsDisk old
  pub is_disk' : IsDisk middle
  pub is_disk'' : IsDisk next
  pub size : middle.size ≡ old.size
  pub size' : next.size ≡ middle.size
  pub moments : middle.moments ≡ moments_after (after_write (body_at (next_of number)) piece) old.moments
  pub moments' : next.moments ≡ moments_after (after_write (gate_at (third_of number)) (0 ∷ [])) middle.moments

pub first_half : (number : ℕ) (more : CommitBody) (piece : List ℕ) (old middle next new : DiskState)
    → AreWritten number piece old middle next
    → IsBody piece (log_of old.size) (next_of number) more (number + 1) → new.moments ≡ moments_after after_sync next.moments
    → IsFirstHalf number more old new
first_half number more piece old middle next new are is_body moments = λ body holds.
    let log : ℕ = log_of old.size in
    let Q : Medium → Type 0 = IsGateClosed log (number % 3) (next_of number) (third_of number) number body piece in
    on (IsSettled log number body) Q (IsHalfMade log number body more) old.moments next.moments new.moments
    (both_written old.size number body piece old middle next are.least are.whole are.is_disk are.is_disk' are.size are.moments
    are.moments' holds)
    (λ closed. then_synced old.size log number body more piece next new are.least is_body
    (record { is_disk = are.is_disk''; size' = are.size' ∙ are.size }) moments closed)

pub first_sync_failed : (number : ℕ) (piece : List ℕ) (old middle next new : DiskState) → AreWritten number piece old middle next
    → new.moments ≡ next.moments → FailsFirstHalf number old new
first_sync_failed number piece old middle next new are same = λ body holds.
    let log : ℕ = log_of old.size in
    let Q : Medium → Type 0 = IsGateClosed log (number % 3) (next_of number) (third_of number) number body piece in
    on (IsSettled log number body) Q (IsSettled log number body) old.moments next.moments new.moments
    (both_written old.size number body piece old middle next are.least are.whole are.is_disk are.is_disk' are.size are.moments
    are.moments' holds)
    (λ closed. same_moments (IsSettled log number body) next.moments new.moments
    (now_as Q (IsSettled log number body) next.moments (λ medium q. q.settled) closed) same)

-- ---- the second half

opened_in : (size log number : ℕ) (body more : CommitBody) (old new : DiskState) → 4096 ≤ size → IsDiskOf size old
    → new.moments ≡ moments_after (after_write (gate_at (next_of number)) (1 ∷ [])) old.moments
    → HoldsNow (IsHalfMade log number body more) old.moments
    → PassesTo (IsHalfMade log number body more) (IsGateOpened log (number % 3) (next_of number) (third_of number) number body
    more) old.moments new.moments
opened_in size log number body more old new least is moments holds =
    let Q : Medium → Type 0 = IsGateOpened log (number % 3) (next_of number) (third_of number) number body more in
    to_as Q Q (IsHalfMade log number body more) Q old.moments new.moments (λ medium q. q.half) (λ medium q. q) (
    after_step (IsHalfMade log number body more) Q size (after_write (gate_at (next_of number)) (1 ∷ [])) old.moments new.moments
    (λ medium has half. open_gate size log (number % 3) (next_of number) (third_of number) number body more medium (three number)
    least has half)
    (media_of size old is) holds moments)

-- the slots of the next commit
settled_next : (log number : ℕ) (body : CommitBody) (medium : Medium)
    → IsSettledIn log (next_of number) (third_of number) (number % 3) (number + 1) body medium
    → IsSettled log (number + 1) body medium
settled_next log number body medium settled =
    let third : third_of number ≡ next_of (number + 1) = omega arith in
    let last : number % 3 ≡ third_of (number + 1) = omega arith in
    subst₂ (λ a b. IsSettledIn log (next_of number) a b (number + 1) body medium) third last settled

pub opening_failed : (number : ℕ) (old new : DiskState) → FailsToWrite (gate_at (next_of number)) 1 old.moments new.moments
    → FailsSecondHalf number old new
opening_failed number old new fails = λ body more holds.
    let log : ℕ = log_of old.size in
    failed_write (IsHalfMade log number body more) (gate_at (next_of number)) 1 old.moments new.moments
    (λ medium torn is half.
    gate_keeps_half log (number % 3) (next_of number) (third_of number) number body more medium torn (three number)
    (torn_keeps_lasting (gate_at (next_of number)) 1 medium torn is) half)
    holds fails

-- the gate was opened
pub record IsOpened (number : ℕ) (old middle : DiskState) : Type 0 where
  pub least : 4096 ≤ old.size
  pub is_disk : IsDisk old
  pub is_disk' : IsDisk middle
  pub size : middle.size ≡ old.size
  pub moments : middle.moments ≡ moments_after (after_write (gate_at (next_of number)) (1 ∷ [])) old.moments

pub second_sync_failed : (number : ℕ) (old middle new : DiskState) → IsOpened number old middle → new.moments ≡ middle.moments
    → FailsSecondHalf number old new
second_sync_failed number old middle new is same = λ body more holds.
    let log : ℕ = log_of old.size in
    let Q : Medium → Type 0 = IsGateOpened log (number % 3) (next_of number) (third_of number) number body more in
    on (IsHalfMade log number body more) Q (IsHalfMade log number body more) old.moments middle.moments new.moments
    (opened_in old.size log number body more old middle is.least (record { is_disk = is.is_disk; size' = refl }) is.moments holds)
    (λ opened. same_moments (IsHalfMade log number body more) middle.moments new.moments
    (now_as Q (IsHalfMade log number body more) middle.moments (λ medium q. q.half) opened) same)

pub second_half : (number : ℕ) (old middle new : DiskState) → IsOpened number old middle
    → new.moments ≡ moments_after after_sync middle.moments → IsSecondHalf number old new
second_half number old middle new is moments = λ body more holds.
    let log : ℕ = log_of old.size in
    let Q : Medium → Type 0 = IsGateOpened log (number % 3) (next_of number) (third_of number) number body more in
    let R : Medium → Type 0 = IsMade log (number % 3) (next_of number) (third_of number) number body more in
    on (IsHalfMade log number body more) Q (IsSettled log (number + 1) more) old.moments middle.moments new.moments
    (opened_in old.size log number body more old middle is.least (record { is_disk = is.is_disk; size' = refl }) is.moments holds)
    (λ opened.
    to_as R R (IsHalfMade log number body more) (IsSettled log (number + 1) more) middle.moments new.moments
    (λ medium made. made.half)
    (λ medium made. settled_next log number more medium made.settled)
    (after_step Q R old.size after_sync middle.moments new.moments
    (λ medium has gate. sync_made old.size log (number % 3) (next_of number) (third_of number) number body more medium
    (three number) is.least has gate)
    (media_of old.size middle (record { is_disk = is.is_disk'; size' = is.size })) opened moments))
