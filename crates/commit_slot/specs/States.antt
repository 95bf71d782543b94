-- For this crate's own clauses: what stands in the slots between two commits and between the halves of one.
use Rattle.std.specs.Prelude.{◌≡◌, ◌≢◌, ℕ, ◌+◌, ◌%◌, ◌^◌, ◌<◌, ◌≤◌, Option, Some, None, IfSome, List, slice_index}
use Rattle.lsvd_device.specs.Medium.{Medium}
use Rattle.lsvd_device.specs.Device.{HoldsSince, DiskState, IsDisk, HoldsNow}
use Rattle.commit_body.specs.declared.body.CommitBody.{CommitBody}
use Rattle.commit_body.specs.Body.{IsBody, MayStand}
use Rattle.commit_slot.specs.Lasting.{Lasts}
use Rattle.commit_slot.specs.Slots.{log_of, body_at, gate_at}
use Rattle.commit_slot.specs.Commits.{IsOlder}

-- the gate's byte is 1
abbrev pub IsOpen : List ℕ → Type 0
IsOpen gate = slice_index gate 0 ≡ 1

abbrev pub IsClosed : List ℕ → Type 0
IsClosed gate = slice_index gate 0 ≢ 1

-- A commit stands in its slot, which is open. The next slot is closed, and the third has no newer one.
pub record IsSettledIn (log last next third number : ℕ) (body : CommitBody) (medium : Medium) : Type 0 where
  pub sector : Lasts (body_at last) 512 (λ bytes. IsBody bytes log last body number) medium
  pub gate : Lasts (gate_at last) 1 IsOpen medium
  pub closed : Lasts (gate_at next) 1 IsClosed medium
  pub older : Lasts (body_at third) 512 (IsOlder log third number) medium

abbrev pub IsSettled : (log number : ℕ) → CommitBody → Medium → Type 0
IsSettled log number body medium = IsSettledIn log (number % 3) ((number + 1) % 3) ((number + 2) % 3) number body medium

-- A commit stands in its slot, which is open, and the body of the next one in the next, whose gate is of any kind. The
-- third is closed, and has no newer one.
pub record IsHalfMadeIn (log last next third number : ℕ) (body : CommitBody) (more : CommitBody) (medium : Medium) : Type 0 where
  pub sector : Lasts (body_at last) 512 (λ bytes. IsBody bytes log last body number) medium
  pub gate : Lasts (gate_at last) 1 IsOpen medium
  pub next_sector : Lasts (body_at next) 512 (λ bytes. IsBody bytes log next more (number + 1)) medium
  pub closed : Lasts (gate_at third) 1 IsClosed medium
  pub older : Lasts (body_at third) 512 (IsOlder log third number) medium

abbrev pub IsHalfMade : (log number : ℕ) → CommitBody → CommitBody → Medium → Type 0
IsHalfMade log number body more medium = IsHalfMadeIn log (number % 3) ((number + 1) % 3) ((number + 2) % 3) number body
    more medium

-- what stands where a second half failed, or none did
abbrev pub Stands : (log number : ℕ) → CommitBody → Option CommitBody → Medium → Type 0
Stands log number body None medium = IsSettled log number body medium
Stands log number body (Some more) medium = IsHalfMade log number body more medium

-- what the commits on a device keep
pub record AreCommits (number : ℕ) (body : CommitBody) (unfinished : Option CommitBody) (disk : DiskState) : Type 0 where
  pub stand : HoldsNow (Stands (log_of disk.size) number body unfinished) disk.moments
  pub is_disk : IsDisk disk
  pub size : 4096 ≤ disk.size
  pub may_stand : MayStand body (log_of disk.size)
  pub next : IfSome unfinished (λ more. (number + 1 < 2 ^ 64) × MayStand more (log_of disk.size))

-- ---- what the halves leave

-- the first half of a commit: until its end a stop leaves the last commit, and then its second half may be made
abbrev pub IsFirstHalf : (number : ℕ) → CommitBody → DiskState → DiskState → Type 0
IsFirstHalf number more old new =
    (body : CommitBody) → HoldsNow (IsSettled (log_of old.size) number body) old.moments
    → HoldsSince (IsSettled (log_of old.size) number body) old.moments new.moments
    × HoldsNow (IsHalfMade (log_of old.size) number body more) new.moments

-- it failed: the last commit stands as before
abbrev pub FailsFirstHalf : (number : ℕ) → DiskState → DiskState → Type 0
FailsFirstHalf number old new =
    (body : CommitBody) → HoldsNow (IsSettled (log_of old.size) number body) old.moments
    → HoldsSince (IsSettled (log_of old.size) number body) old.moments new.moments
    × HoldsNow (IsSettled (log_of old.size) number body) new.moments

-- the second half of a commit
abbrev pub IsSecondHalf : (number : ℕ) → DiskState → DiskState → Type 0
IsSecondHalf number old new =
    (body more : CommitBody) → HoldsNow (IsHalfMade (log_of old.size) number body more) old.moments
    → HoldsSince (IsHalfMade (log_of old.size) number body more) old.moments new.moments
    × HoldsNow (IsSettled (log_of old.size) (number + 1) more) new.moments

-- it failed, and may be made again
abbrev pub FailsSecondHalf : (number : ℕ) → DiskState → DiskState → Type 0
FailsSecondHalf number old new =
    (body more : CommitBody) → HoldsNow (IsHalfMade (log_of old.size) number body more) old.moments
    → HoldsSince (IsHalfMade (log_of old.size) number body more) old.moments new.moments
    × HoldsNow (IsHalfMade (log_of old.size) number body more) new.moments
