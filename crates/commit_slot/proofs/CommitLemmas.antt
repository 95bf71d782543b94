-- The calls of a commit, one after the other.
use Rattle.std.proofs.Common.{◌≡◌, ℕ, ◌+◌, ◌^◌, ◌<◌, Bool, true, false, refl, sym, ◌∙◌, ap, subst, inl, inr}
use Rattle.std.specs.Prelude.{Option, Some, None}
use Rattle.lsvd_device.specs.Medium.{Medium}
use Rattle.lsvd_device.specs.Calls.{together}
use Rattle.lsvd_device.specs.Device.{DiskState, MakesCalls}
use Rattle.lsvd_device.proofs.Together.{made_then}
use Rattle.commit_body.specs.declared.body.CommitBody.{CommitBody}
use Rattle.commit_body.specs.Body.{MayStand}
use Rattle.commit_slot.specs.Slots.{log_of}
use Rattle.commit_slot.specs.Commits.{CommitsState, Leaves, LeavesSince, LeavesNow, IsCommit, IsLast, IsLastOr, IsFinished}
use Rattle.commit_slot.specs.Commits.{IsBegun, IsAsBefore, FailsIn, finished_number, finished_body, first_half_cost}
use Rattle.commit_slot.specs.Commits.{second_half_cost, finish_cost, commit_cost}
use Rattle.commit_slot.specs.States.{AreCommits, IsFirstHalf, FailsFirstHalf, IsSecondHalf, FailsSecondHalf}
use Rattle.commit_slot.proofs.Passing.{passes_as, passes_on}
use Rattle.commit_slot.specs.OnDisk.{AreOnDisk}
use Rattle.commit_slot.proofs.HalfLemmas.{IsLeft, first_failed, first_failed_leaves, first_made, first_made_leaves, second_failed}
use Rattle.commit_slot.proofs.HalfLemmas.{second_failed_leaves, second_made, second_made_leaves, settled_now, half_now, gate_now}
use Rattle.commit_slot.proofs.HalfLemmas.{closed_now}

-- ---- the last commit, and the one that was left

pub last_is : (commits : CommitsState) → IsLast commits commits.number commits.body
last_is commits = inl (record { same_number = refl; same_body = refl })

pub left_is : (commits : CommitsState) (more : CommitBody) → commits.unfinished ≡ Some more
    → IsLast commits (commits.number + 1) more
left_is commits more is = inr (record {
  same_number = sym (ap (finished_number commits.number) is);
  same_body = sym (ap (finished_body commits.body) is);
})

-- the commits of a device, as contracts see them
abbrev pub Stand : CommitsState → Type 0
Stand commits = AreCommits commits.number commits.body commits.unfinished commits.disk

with_left : (number : ℕ) (body more : CommitBody) (unfinished : Option CommitBody) (disk : DiskState) → unfinished ≡ Some more
    → AreCommits number body unfinished disk → AreCommits number body (Some more) disk
with_left number body more unfinished disk is are = (let P : Option CommitBody → Type 0 = λ u. AreCommits number body u disk in
    subst P is are)

-- its second half failed
pub record FinishFails (commits : CommitsState) (more : CommitBody) (new : DiskState) : Type 0 where
  pub some : commits.unfinished ≡ Some more
  pub stand : Stand commits
  pub fails : FailsSecondHalf commits.number commits.disk new
  pub left : IsLeft commits.disk new

pub finish_failed : (commits : CommitsState) (more : CommitBody) (new : DiskState) → FinishFails commits more new
    → AreCommits commits.number commits.body commits.unfinished new
finish_failed commits more new is =
    let P : Option CommitBody → Type 0 = λ u. AreCommits commits.number commits.body u new in
    subst P (sym is.some) (second_failed commits.number commits.body more commits.disk new
    (with_left commits.number commits.body more commits.unfinished commits.disk is.some is.stand) is.fails is.left)

pub finish_failed_leaves : (commits : CommitsState) (more : CommitBody) (new : DiskState) → FinishFails commits more new
    → LeavesSince (IsLast commits) commits.disk new
finish_failed_leaves commits more new is =
    second_failed_leaves commits.number commits.body more (IsLast commits) commits.disk new (last_is commits)
    (left_is commits more is.some)
    (with_left commits.number commits.body more commits.unfinished commits.disk is.some is.stand) is.fails is.left

-- it was made
pub record FinishMakes (commits : CommitsState) (more : CommitBody) (new : DiskState) : Type 0 where
  pub some : commits.unfinished ≡ Some more
  pub stand : Stand commits
  pub makes : IsSecondHalf commits.number commits.disk new
  pub left : IsLeft commits.disk new

pub finish_made : (commits : CommitsState) (more : CommitBody) (new : DiskState) → FinishMakes commits more new
    → AreCommits (commits.number + 1) more None new
finish_made commits more new is =
    second_made commits.number commits.body more commits.disk new (with_left commits.number commits.body more commits.unfinished
    commits.disk is.some is.stand) is.makes is.left

pub finish_made_leaves : (commits : CommitsState) (more : CommitBody) (new : DiskState) → FinishMakes commits more new
    → LeavesSince (IsLast commits) commits.disk new
finish_made_leaves commits more new is =
    second_made_leaves commits.number commits.body more (IsLast commits) commits.disk new (last_is commits)
    (left_is commits more is.some)
    (with_left commits.number commits.body more commits.unfinished commits.disk is.some is.stand) is.makes is.left

-- the first half of the next one failed, where none was left
pub record BeginFails (commits : CommitsState) (new : DiskState) : Type 0 where
  pub none : commits.unfinished ≡ None
  pub stand : Stand commits
  pub fails : FailsFirstHalf commits.number commits.disk new
  pub left : IsLeft commits.disk new

without : (number : ℕ) (body : CommitBody) (unfinished : Option CommitBody) (disk : DiskState) → unfinished ≡ None
    → AreCommits number body unfinished disk → AreCommits number body None disk
without number body unfinished disk is are = (let P : Option CommitBody → Type 0 = λ u. AreCommits number body u disk in
    subst P is are)

pub begin_failed : (commits : CommitsState) (new : DiskState) → BeginFails commits new
    → AreCommits commits.number commits.body commits.unfinished new
begin_failed commits new is =
    let P : Option CommitBody → Type 0 = λ u. AreCommits commits.number commits.body u new in
    subst P (sym is.none) (first_failed commits.number commits.body commits.disk new
    (without commits.number commits.body commits.unfinished commits.disk is.none is.stand) is.fails is.left)

pub begin_failed_leaves : (commits : CommitsState) (new : DiskState) → BeginFails commits new
    → LeavesSince (IsCommit commits.number commits.body) commits.disk new
begin_failed_leaves commits new is =
    first_failed_leaves commits.number commits.body (IsCommit commits.number commits.body) commits.disk new
    (record { same_number = refl; same_body = refl })
    (without commits.number commits.body commits.unfinished commits.disk is.none is.stand) is.fails is.left

-- it was made
pub record BeginMakes (commits : CommitsState) (more : CommitBody) (new : DiskState) : Type 0 where
  pub none : commits.unfinished ≡ None
  pub stand : Stand commits
  pub makes : IsFirstHalf commits.number more commits.disk new
  pub left : IsLeft commits.disk new
  pub fits : commits.number + 1 < 2 ^ 64
  pub may_stand : MayStand more (log_of commits.disk.size)

pub begin_made : (commits : CommitsState) (more : CommitBody) (new : DiskState) → BeginMakes commits more new
    → AreCommits commits.number commits.body (Some more) new
begin_made commits more new is =
    first_made commits.number commits.body more commits.disk new (without commits.number commits.body commits.unfinished
    commits.disk is.none is.stand) is.makes is.left is.fits is.may_stand

pub begin_made_leaves : (commits : CommitsState) (more : CommitBody) (new : DiskState) → BeginMakes commits more new
    → LeavesSince (IsCommit commits.number commits.body) commits.disk new
begin_made_leaves commits more new is =
    first_made_leaves commits.number commits.body more (IsCommit commits.number commits.body) commits.disk new
    (record { same_number = refl; same_body = refl })
    (without commits.number commits.body commits.unfinished commits.disk is.none is.stand) is.makes is.left

-- whatever commits there are, a stop leaves the last one or the one that was left
last_now_in : (unfinished : Option CommitBody) (commits : CommitsState) → commits.unfinished ≡ unfinished
    → AreCommits commits.number commits.body unfinished commits.disk → LeavesNow (IsLast commits) commits.disk
last_now_in None commits is are = settled_now commits.number commits.body (IsLast commits) commits.disk (last_is commits) are
last_now_in (Some more) commits is are = half_now commits.number commits.body more (IsLast commits) commits.disk (last_is commits)
    (left_is commits more is) are

pub last_now : (commits : CommitsState) → Stand commits → LeavesNow (IsLast commits) commits.disk
last_now commits are = last_now_in commits.unfinished commits refl are

pub on_disk : (commits : CommitsState) → Stand commits → AreOnDisk commits
on_disk commits are = record {
  is_disk = are.is_disk;
  size = are.size;
  may_stand = are.may_stand;
  stands = last_now commits are;
  gate = gate_now commits.number commits.body commits.unfinished commits.disk are;
  closed = closed_now commits.number commits.body commits.unfinished commits.disk are;
}

-- and the last one where none was left
pub only_now : (commits : CommitsState) → commits.unfinished ≡ None → Stand commits
    → LeavesNow (IsCommit commits.number commits.body) commits.disk
only_now commits is are =
    let P : Option CommitBody → Type 0 = λ u. AreCommits commits.number commits.body u commits.disk in
    settled_now commits.number commits.body (IsCommit commits.number commits.body) commits.disk
    (record { same_number = refl; same_body = refl }) (subst P is are)

-- ---- one call after another

pub leaves_as : (log : ℕ) (P Q : ℕ → CommitBody → Type 0) (medium : Medium) → ((n : ℕ) (b : CommitBody) → P n b → Q n b)
    → Leaves log P medium → Leaves log Q medium
leaves_as log P Q medium follows leaves = λ left may.
    let is = leaves left may in
    (is.0, is.1, follows is.0 is.1 is.2, is.3)

pub since_as : (P Q : ℕ → CommitBody → Type 0) (old new : DiskState) → ((n : ℕ) (b : CommitBody) → P n b → Q n b)
    → LeavesSince P old new → LeavesSince Q old new
since_as P Q old new follows leaves =
    passes_as (Leaves (log_of old.size) P) (Leaves (log_of old.size) Q) old.moments new.moments
    (λ medium is. leaves_as (log_of old.size) P Q medium follows is) leaves

pub since_then : (P : ℕ → CommitBody → Type 0) (old middle new : DiskState) → middle.size ≡ old.size → LeavesSince P old middle
    → LeavesSince P middle new → LeavesSince P old new
since_then P old middle new size first second =
    let moved : LeavesSince P (record middle { size = old.size }) new =
    (let Q : ℕ → Type 0 = λ n. LeavesSince P (record middle { size = n }) new in subst Q size second) in
    passes_on (Leaves (log_of old.size) P) old.moments middle.moments new.moments first moved

-- what is read after each step of a commit
pub after_finish : (old middle : CommitsState) (body : CommitBody) → IsFinished old middle → (n : ℕ) (b : CommitBody)
    → IsCommit middle.number middle.body n b → IsLastOr old body n b
after_finish old middle body finished n b is =
    inl (inr (record { same_number = is.same_number ∙ finished.same_number; same_body = is.same_body ∙ finished.same_body }))

-- nothing was left before the first half
pub begun_at : (old middle next : CommitsState) (body : CommitBody) → IsFinished old middle → IsBegun body middle next
    → (next.number ≡ finished_number old.number old.unfinished) × (next.body ≡ finished_body old.body old.unfinished)
    × (next.unfinished ≡ Some body)
begun_at old middle next body finished begun = (
  begun.same_number ∙ ap (finished_number middle.number) finished.same_unfinished ∙ finished.same_number,
  begun.same_body ∙ ap (finished_body middle.body) finished.same_unfinished ∙ finished.same_body,
  begun.same_unfinished,
)

pub after_begin : (old middle next : CommitsState) (body : CommitBody) → IsFinished old middle → IsBegun body middle next
    → (n : ℕ) (b : CommitBody) → IsLast next n b → IsLastOr old body n b
after_begin old middle next body finished begun n b (inl is) =
    let at = begun_at old middle next body finished begun in
    inl (inr (record { same_number = is.same_number ∙ at.0; same_body = is.same_body ∙ at.1 }))
after_begin old middle next body finished begun n b (inr is) =
    let at = begun_at old middle next body finished begun in
    inr (record {
      same_number = is.same_number ∙ ap (finished_number next.number) at.2 ∙ ap (λ k. k + 1) at.0;
      same_body = is.same_body ∙ ap (finished_body next.body) at.2;
    })

pub all_calls : (old middle next new : CommitsState) (body : CommitBody) (is_made : Bool) → next.unfinished ≡ Some body
    → MakesCalls (finish_cost old.unfinished) true old.disk middle.disk
    → MakesCalls first_half_cost true middle.disk next.disk → MakesCalls (finish_cost next.unfinished) is_made next.disk new.disk
    → MakesCalls (commit_cost old.unfinished) is_made old.disk new.disk
all_calls old middle next new body is_made left first second third =
    let last : MakesCalls second_half_cost is_made next.disk new.disk =
    (let P : Option CommitBody → Type 0 = λ u. MakesCalls (finish_cost u) is_made next.disk new.disk in subst P left third) in
    made_then (finish_cost old.unfinished) (together first_half_cost second_half_cost) is_made old.disk middle.disk new.disk first
    (made_then first_half_cost second_half_cost is_made middle.disk next.disk new.disk second last)

-- ---- a commit that failed

pub fails_to_begin : (body : CommitBody) (old middle new : CommitsState) → IsFinished old new
    → MakesCalls (finish_cost old.unfinished) true old.disk middle.disk
    → MakesCalls first_half_cost false middle.disk new.disk → FailsIn body old new
fails_to_begin body old middle new finished first second =
    inr (inl (
      finished,
      (
        made_then (finish_cost old.unfinished) first_half_cost false old.disk middle.disk new.disk first
            second,
        middle.disk,
        first,
        second,
      ),
    ))

pub fails_to_end : (body : CommitBody) (old middle next new : CommitsState) → IsFinished old middle → IsBegun body middle next
    → MakesCalls (finish_cost old.unfinished) true old.disk middle.disk
    → MakesCalls first_half_cost true middle.disk next.disk → IsAsBefore next new
    → MakesCalls (finish_cost next.unfinished) false next.disk new.disk → FailsIn body old new
fails_to_end body old middle next new finished begun first second err third =
    let at = begun_at old middle next body finished begun in
    let is : IsBegun body old new = record {
      same_number = err.same_number ∙ at.0;
      same_body = err.same_body
          ∙ at.1;
      same_unfinished = err.same_unfinished ∙ at.2;
    } in
    let both : MakesCalls (together (finish_cost old.unfinished) first_half_cost) true old.disk next.disk =
    made_then (finish_cost old.unfinished) first_half_cost true old.disk middle.disk next.disk first second in
    let last : MakesCalls second_half_cost false next.disk new.disk =
    (let P : Option CommitBody → Type 0 = λ u. MakesCalls (finish_cost u) false next.disk new.disk in subst P at.2 third) in
    inr (inr (
      is,
      (
        made_then (together (finish_cost old.unfinished) first_half_cost) second_half_cost false old.disk next.disk new.disk both
            last,
        next.disk,
        both,
        last,
      ),
    ))
