-- The calls of a commit one after the other: what a stop leaves at each moment of it.
use Rattle.std.proofs.Common.{◌≡◌, ℕ, List, [], ◌∷◌, sym, ◌∙◌, subst, inl, inr}
use Rattle.lsvd_device.specs.Medium.{Medium}
use Rattle.lsvd_device.specs.Device.{HoldsSince, DiskState, HoldsNow}
use Rattle.commit_body.specs.declared.body.CommitBody.{CommitBody}
use Rattle.commit_slot.specs.Slots.{log_of}
use Rattle.commit_slot.specs.Commits.{CommitsState, Leaves, LeavesSince, IsLast, IsLastOr, IsCommit, IsFinished, IsBegun}
use Rattle.commit_slot.specs.LogArea.{log_area, LeavesLogArea, HasSameLogArea, KeepsLogAreaSince, MakesLogAreaDurable}
use Rattle.commit_slot.specs.LogArea.{IsCommitting, IsCommittingSince}
use Rattle.commit_slot.proofs.Passing.{passes_as, passes_on}
use Rattle.commit_slot.proofs.LogAreaLemmas.{durable_then, passes_both, told}
use Rattle.commit_slot.proofs.CommitLemmas.{since_as, since_then, leaves_as, after_begin}

-- ---- a half of a commit

-- what holds at each moment since, with what stands past the slots then
since_of : (P : Medium → Type 0) (Q : Medium → Medium → Type 0) (old new : List Medium)
    → ((before medium : Medium) → P medium → HasSameLogArea before medium → Q before medium)
    → HoldsSince P old new → KeepsLogAreaSince old new → HoldsNow (λ before. HoldsSince (Q before) old new) old
since_of P Q [] new follows passes stays = tt
since_of P Q (before ∷ past) new follows passes stays =
    passes_as (λ medium. P medium × HasSameLogArea before medium) (Q before) (before ∷ past) new
    (λ medium both. follows before medium both.0 both.1)
    (passes_both P (HasSameLogArea before) (before ∷ past) new passes stays.0)

last_or : (commits : CommitsState) (body : CommitBody) (n : ℕ) (b : CommitBody) → IsLast commits n b → IsLastOr commits body n b
last_or commits body n b is = inl is

-- while a stop leaves the last commit, or the one that was left
pub committing : (commits : CommitsState) (body : CommitBody) (new : DiskState) → LeavesSince (IsLast commits) commits.disk new
    → KeepsLogAreaSince commits.disk.moments new.moments
    → IsCommittingSince commits body new
committing commits body new leaves stays =
    let log : ℕ = log_of commits.disk.size in
    since_of (Leaves log (IsLast commits)) (λ before medium. IsCommitting log commits body before medium) commits.disk.moments
    new.moments
    (λ before medium last same. elim same.stop [
      | inl spoilt ↦ inl (last, spoilt)
      | inr durable ↦ inr (leaves_as log (IsLast commits) (IsLastOr commits body) medium (last_or commits body) last, durable)
    ])
    leaves stays

-- moments after those at which it became durable
durable_since : (P : Medium → Type 0) (Q : Medium → Medium → Type 0) (old middle new : List Medium)
    → ((before medium : Medium) → P medium → LeavesLogArea (log_area before.bytes) medium → Q before medium)
    → KeepsLogAreaSince old middle → MakesLogAreaDurable old middle → HoldsSince P middle new → KeepsLogAreaSince middle new
    → HoldsNow (λ before. HoldsSince (Q before) old middle) old
    → HoldsNow (λ before. HoldsSince (Q before) old new) old
durable_since P Q [] middle new follows stays durable passes stays' first = tt
durable_since P Q (before ∷ past) middle new follows stays durable passes stays' first =
    let at = told (HasSameLogArea before) before past middle stays.0 in
    let now : Medium = at.0 in
    let is : HasSameLogArea before now = subst (HoldsNow (HasSameLogArea before)) at.2 stays.1 in
    let sure : LeavesLogArea (log_area before.bytes) now =
    subst (HoldsNow (LeavesLogArea (log_area before.bytes))) at.2 durable in
    let next : KeepsLogAreaSince (now ∷ at.1) new = (let R : List Medium → Type 0 = λ m. KeepsLogAreaSince m new in
    subst R at.2 stays') in
    let same : HoldsSince (HasSameLogArea now) middle new =
    (let R : List Medium → Type 0 = λ m. HoldsSince (HasSameLogArea now) m new in subst R (sym at.2) next.0) in
    passes_on (Q before) (before ∷ past) middle new first
    (passes_as (λ medium. P medium × HasSameLogArea now medium) (Q before) middle new
    (λ medium both. follows before medium both.0 (durable_then before now medium (record { same = is.same; durable = sure })
    both.1).durable)
    (passes_both P (HasSameLogArea now) middle new passes same))

-- ---- a commit

-- until the first half of the next one is made
pub leaves_begun : (old middle : CommitsState) (new : DiskState) → IsFinished old middle → middle.disk.size ≡ old.disk.size
    → LeavesSince (IsLast old) old.disk middle.disk
    → LeavesSince (IsCommit middle.number middle.body) middle.disk new → LeavesSince (IsLast old) old.disk new
leaves_begun old middle new finished size first second =
    since_then (IsLast old) old.disk middle.disk new size first
    (since_as (IsCommit middle.number middle.body) (IsLast old) middle.disk new
    (λ n b is. inr (record {
      same_number = is.same_number ∙ finished.same_number;
      same_body = is.same_body
          ∙ finished.same_body;
    })) second)

-- and then its second half
pub committing_all : (old middle next : CommitsState) (body : CommitBody) (new : DiskState) → IsFinished old middle
    → IsBegun body middle next → next.disk.size ≡ old.disk.size
    → LeavesSince (IsLast old) old.disk next.disk → KeepsLogAreaSince old.disk.moments next.disk.moments
    → MakesLogAreaDurable old.disk.moments next.disk.moments
    → LeavesSince (IsLast next) next.disk new → KeepsLogAreaSince next.disk.moments new.moments → IsCommittingSince old body new
committing_all old middle next body new finished begun size first stays durable second stays' =
    let log : ℕ = log_of old.disk.size in
    let leaves : HoldsSince (Leaves log (IsLast next)) next.disk.moments new.moments =
    (let P : ℕ → Type 0 = λ n. HoldsSince (Leaves (log_of n) (IsLast next)) next.disk.moments new.moments in
    subst P size second) in
    durable_since (Leaves log (IsLast next)) (λ before medium. IsCommitting log old body before medium) old.disk.moments
    next.disk.moments new.moments
    (λ before medium last sure. inr (
      leaves_as log (IsLast next) (IsLastOr old body) medium
          (after_begin old middle next body finished begun) last,
      sure,
    ))
    stays durable leaves stays' (committing old body next.disk first stays)
