-- The commits on a device, before and after the halves of one.
use Rattle.std.proofs.Common.{◌≡◌, ℕ, ◌+◌, ◌%◌, ◌^◌, ◌<◌, ◌≤◌, List, [], ◌∷◌, ◌++◌, sym, ◌∙◌, subst, inl, inr, arith}
use Rattle.std.specs.Prelude.{◌≢◌, Option, Some, None, IfSome, IfNone, slice_index}
use Rattle.std.specs.List.{AllByRecursion}
use Rattle.lsvd_device.specs.Medium.{Medium}
use Rattle.lsvd_device.specs.Device.{HoldsSince, DiskState, IsDisk, HasSize, HoldsNow}
use Rattle.commit_body.specs.declared.body.CommitBody.{CommitBody}
use Rattle.commit_body.specs.Body.{MayStand}
use Rattle.commit_slot.specs.Slots.{log_of, gate_at}
use Rattle.commit_slot.specs.Commits.{Leaves, LeavesSince, LeavesNow}
use Rattle.commit_slot.specs.States.{IsSettled, IsHalfMade, Stands, AreCommits, IsFirstHalf, FailsFirstHalf, IsSecondHalf}
use Rattle.commit_slot.specs.States.{FailsSecondHalf}
use Rattle.commit_slot.specs.OnDisk.{HasGate}
use Rattle.commit_slot.proofs.Readings.{one_byte, settled_reads, half_reads, half_gate}

-- ---- what a stop leaves

front_of_all : (P : Medium → Type 0) (some more : List Medium) → AllByRecursion P (some ++ more) → AllByRecursion P some
front_of_all P [] more all = tt
front_of_all P (now ∷ past) more all = (all.0, front_of_all P past more all.1)

each_of : (size : ℕ) (P Q : Medium → Type 0) (media : List Medium)
    → ((medium : Medium) → HasSize size medium → P medium → Q medium) → AllByRecursion (HasSize size) media
    → AllByRecursion P media → AllByRecursion Q media
each_of size P Q [] follows sizes all = tt
each_of size P Q (now ∷ past) follows sizes all = (follows now sizes.0 all.0, each_of size P Q past follows sizes.1 all.1)

-- moments of a disk that pass with P pass with what follows of it there
pub passes_of : (P Q : Medium → Type 0) (old new : DiskState) → new.size ≡ old.size → IsDisk new
    → ((medium : Medium) → HasSize old.size medium → P medium → Q medium)
    → HoldsSince P old.moments new.moments → HoldsSince Q old.moments new.moments
passes_of P Q old new size is_disk follows passes =
    let media : AllByRecursion (HasSize old.size) new.moments =
    (let M : ℕ → Type 0 = λ n. AllByRecursion (HasSize n) new.moments in subst M size is_disk.media) in
    let all : AllByRecursion (HasSize old.size) (passes.since ++ old.moments) =
    subst (AllByRecursion (HasSize old.size)) passes.moments media in
    record {
      since = passes.since;
      moments = passes.moments;
      each = each_of old.size P Q passes.since follows (front_of_all (HasSize old.size) passes.since old.moments all) passes.each;
    }

now_of : (size : ℕ) (P Q : Medium → Type 0) (media : List Medium)
    → ((medium : Medium) → HasSize size medium → P medium → Q medium) → AllByRecursion (HasSize size) media → HoldsNow P media
    → HoldsNow Q media
now_of size P Q [] follows sizes holds = tt
now_of size P Q (now ∷ past) follows sizes holds = follows now sizes.0 holds

pub settled_leaves : (size log number : ℕ) (body : CommitBody) (P : ℕ → CommitBody → Type 0) (medium : Medium) → P number body
    → 4096 ≤ size → HasSize size medium
    → IsSettled log number body medium → Leaves log P medium
settled_leaves size log number body P medium p least has settled =
    λ left may. (number, body, p, settled_reads size log number body medium left has least settled may)

pub half_leaves : (size log number : ℕ) (body more : CommitBody) (P : ℕ → CommitBody → Type 0) (medium : Medium) → P number body
    → P (number + 1) more → 4096 ≤ size → HasSize size medium
    → IsHalfMade log number body more medium → Leaves log P medium
half_leaves size log number body more P medium p q least has half = λ left may.
    elim (half_reads size log number body more medium left has least half may) [
      | inl reads ↦ (number, body, p, reads)
      | inr reads ↦ (number + 1, more, q, reads)
    ]

-- ---- the commits after calls

-- calls that left the size of a disk
pub record IsLeft (old new : DiskState) : Type 0 where
  pub size : new.size ≡ old.size
  pub is_disk : IsDisk new

-- what holds of the bodies of commits for a log of this many sectors
pub record MayBoth (log number : ℕ) (body : CommitBody) (unfinished : Option CommitBody) : Type 0 where
  pub may_stand : MayStand body log
  pub next : IfSome unfinished (λ more. (number + 1 < 2 ^ 64) × MayStand more log)

pub may_both : (number : ℕ) (body : CommitBody) (unfinished : Option CommitBody) (disk : DiskState)
    → AreCommits number body unfinished disk → MayBoth (log_of disk.size) number body unfinished
may_both number body unfinished disk are = record { may_stand = are.may_stand; next = are.next }

pub are_commits : (number : ℕ) (body : CommitBody) (unfinished : Option CommitBody) (old new : DiskState) → 4096 ≤ old.size
    → IsLeft old new → MayBoth (log_of old.size) number body unfinished
    → HoldsNow (Stands (log_of old.size) number body unfinished) new.moments → AreCommits number body unfinished new
are_commits number body unfinished old new least left may holds = record {
  stand = (let P : ℕ → Type 0 = λ n. HoldsNow (Stands (log_of n) number body unfinished) new.moments in
      subst P (sym left.size) holds);
  is_disk = left.is_disk;
  size = (let e = left.size in omega (arith, e, least));
  may_stand = (let P : ℕ → Type 0 = λ n. MayStand body (log_of n) in subst P (sym left.size) may.may_stand);
  next = (let P : ℕ → Type 0 = λ n. IfSome unfinished (λ more. (number + 1 < 2 ^ 64) × MayStand more (log_of n)) in
      subst P (sym left.size) may.next);
}

-- the second half failed
pub second_failed : (number : ℕ) (body more : CommitBody) (old new : DiskState) → AreCommits number body (Some more) old
    → FailsSecondHalf number old new → IsLeft old new
    → AreCommits number body (Some more) new
second_failed number body more old new are fails left =
    are_commits number body (Some more) old new are.size left (may_both number body (Some more) old are)
    (fails body more are.stand).1

pub second_failed_leaves : (number : ℕ) (body more : CommitBody) (P : ℕ → CommitBody → Type 0) (old new : DiskState)
    → P number body → P (number + 1) more
    → AreCommits number body (Some more) old → FailsSecondHalf number old new → IsLeft old new → LeavesSince P old new
second_failed_leaves number body more P old new p q are fails left =
    passes_of (IsHalfMade (log_of old.size) number body more) (Leaves (log_of old.size) P) old new left.size left.is_disk
    (λ medium has half. half_leaves old.size (log_of old.size) number body more P medium p q are.size has half)
    (fails body more are.stand).0

-- it was made
pub second_made : (number : ℕ) (body more : CommitBody) (old new : DiskState) → AreCommits number body (Some more) old
    → IsSecondHalf number old new → IsLeft old new
    → AreCommits (number + 1) more None new
second_made number body more old new are makes left =
    are_commits (number + 1) more None old new are.size left (record { may_stand = are.next.1; next = tt })
    (makes body more are.stand).1

pub second_made_leaves : (number : ℕ) (body more : CommitBody) (P : ℕ → CommitBody → Type 0) (old new : DiskState) → P number body
    → P (number + 1) more
    → AreCommits number body (Some more) old → IsSecondHalf number old new → IsLeft old new → LeavesSince P old new
second_made_leaves number body more P old new p q are makes left =
    passes_of (IsHalfMade (log_of old.size) number body more) (Leaves (log_of old.size) P) old new left.size left.is_disk
    (λ medium has half. half_leaves old.size (log_of old.size) number body more P medium p q are.size has half)
    (makes body more are.stand).0

-- the first half failed
pub first_failed : (number : ℕ) (body : CommitBody) (old new : DiskState) → AreCommits number body None old
    → FailsFirstHalf number old new → IsLeft old new
    → AreCommits number body None new
first_failed number body old new are fails left =
    are_commits number body None old new are.size left (may_both number body None old are) (fails body are.stand).1

pub first_failed_leaves : (number : ℕ) (body : CommitBody) (P : ℕ → CommitBody → Type 0) (old new : DiskState) → P number body
    → AreCommits number body None old → FailsFirstHalf number old new → IsLeft old new → LeavesSince P old new
first_failed_leaves number body P old new p are fails left =
    passes_of (IsSettled (log_of old.size) number body) (Leaves (log_of old.size) P) old new left.size left.is_disk
    (λ medium has settled. settled_leaves old.size (log_of old.size) number body P medium p are.size has settled)
    (fails body are.stand).0

-- it was made
pub first_made : (number : ℕ) (body more : CommitBody) (old new : DiskState) → AreCommits number body None old
    → IsFirstHalf number more old new → IsLeft old new → number + 1 < 2 ^ 64 → MayStand more (log_of old.size)
    → AreCommits number body (Some more) new
first_made number body more old new are makes left fits may =
    are_commits number body (Some more) old new are.size left (record { may_stand = are.may_stand; next = (fits, may) })
    (makes body are.stand).1

pub first_made_leaves : (number : ℕ) (body more : CommitBody) (P : ℕ → CommitBody → Type 0) (old new : DiskState) → P number body
    → AreCommits number body None old → IsFirstHalf number more old new → IsLeft old new → LeavesSince P old new
first_made_leaves number body more P old new p are makes left =
    passes_of (IsSettled (log_of old.size) number body) (Leaves (log_of old.size) P) old new left.size left.is_disk
    (λ medium has settled. settled_leaves old.size (log_of old.size) number body P medium p are.size has settled)
    (makes body are.stand).0

-- what stands now
pub settled_now : (number : ℕ) (body : CommitBody) (P : ℕ → CommitBody → Type 0) (disk : DiskState) → P number body
    → AreCommits number body None disk → LeavesNow P disk
settled_now number body P disk p are =
    now_of disk.size (IsSettled (log_of disk.size) number body) (Leaves (log_of disk.size) P) disk.moments
    (λ medium has settled. settled_leaves disk.size (log_of disk.size) number body P medium p are.size has settled)
    are.is_disk.media are.stand

pub half_now : (number : ℕ) (body more : CommitBody) (P : ℕ → CommitBody → Type 0) (disk : DiskState) → P number body
    → P (number + 1) more → AreCommits number body (Some more) disk → LeavesNow P disk
half_now number body more P disk p q are =
    now_of disk.size (IsHalfMade (log_of disk.size) number body more) (Leaves (log_of disk.size) P) disk.moments
    (λ medium has half. half_leaves disk.size (log_of disk.size) number body more P medium p q are.size has half)
    are.is_disk.media are.stand

-- and as the gate of the next slot says
pub gate_now : (number : ℕ) (body : CommitBody) (unfinished : Option CommitBody) (disk : DiskState)
    → AreCommits number body unfinished disk
    → IfSome unfinished (λ more. HoldsNow (HasGate (log_of disk.size) number body more) disk.moments)
gate_now number body None disk are = tt
gate_now number body (Some more) disk are =
    now_of disk.size (IsHalfMade (log_of disk.size) number body more) (HasGate (log_of disk.size) number body more) disk.moments
    (λ medium has half. half_gate disk.size (log_of disk.size) number body more medium has are.size half)
    are.is_disk.media are.stand

-- a read gives a closed gate of the next slot, where none was left
pub closed_now : (number : ℕ) (body : CommitBody) (unfinished : Option CommitBody) (disk : DiskState)
    → AreCommits number body unfinished disk
    → IfNone unfinished (HoldsNow (λ now. slice_index now.bytes (gate_at ((number + 1) % 3)) ≢ 1) disk.moments)
closed_now number body None disk are =
    now_of disk.size (IsSettled (log_of disk.size) number body) (λ now. slice_index now.bytes (gate_at ((number + 1) % 3)) ≢ 1)
    disk.moments
    (λ medium has settled e. settled.closed.now (one_byte (gate_at ((number + 1) % 3)) medium.bytes ∙ e))
    are.is_disk.media are.stand
closed_now number body (Some more) disk are = tt
