-- For this crate's own clauses: what an attempt to enter an entry answers, and what a help does.
use Rattle.std.specs.Prelude.{◌≡◌, ℕ, ◌+◌, ◌*◌, ◌^◌, ◌<◌, ◌≤◌, Bool, true, false, None, List, [], ◌∷◌, length}
use Rattle.std.specs.List.{list_any}
use Rattle.lsvd_base.specs.declared.entry.Entry.{Entry}
use Rattle.upload_window.specs.Window.{with_started}
use Rattle.object_uploads.specs.State.{JobState}
use Rattle.vol_core.specs.Volume.{VolumeState}
use Rattle.vol_core.specs.View.{IsPutOutIn, object_name_in, objects_on_way, unsealed_entries, HasNoPins, removal_out}
use Rattle.volume_owner.specs.declared.replies.Attempt.{Attempt}
use Rattle.volume_owner.specs.declared.replies.Attempt.TheVariants.{Entered, Again, Failed}

-- What is left to help with: each entry that is in no object has to be sealed and put, and each object on its way to be put. A
-- help lowers it.
abbrev pub work_of : VolumeState → ℕ
work_of volume = 2 * length (unsealed_entries volume) + length (objects_on_way volume)

-- how much is left at most
abbrev pub most_work : ℕ
most_work = 3 * 2 ^ 31

-- a help lowers what is left; or nothing was left, and nothing is
abbrev pub HasHelped : (has_helped : Bool) → (old new : VolumeState) → Type 0
HasHelped true old new = work_of new < work_of old
HasHelped false old new = (work_of old ≡ 0) × (work_of new ≡ 0)

-- a put is out, which this is the job of, and no other is
pub record IsTaken (job : JobState) (volume : VolumeState) : Type 0 where
  pub out : IsPutOutIn volume job.name.number job.bytes
  pub named : job.name ≡ object_name_in volume job.name.number
  pub alone : list_any (λ object. object.is_started) (with_started job.name.number false (objects_on_way volume))
      ≡ false
  pub plans : HasNoPins volume
  pub none_out : removal_out volume ≡ None
  pub few : length (objects_on_way volume) ≤ 16

-- what an attempt entered
abbrev pub entered_by : Entry → Attempt → List Entry
entered_by entry (Entered count) = entry ∷ []
entered_by entry attempt = []

-- an attempt tells that the device failed
abbrev pub attempt_failed : Attempt → Bool
attempt_failed Failed = true
attempt_failed attempt = false

-- one that may be made again hands the entry back, and there is something to help with, as much as before
abbrev pub MayTryAgain : Entry → Attempt → (old new : VolumeState) → Type 0
MayTryAgain entry (Again back) old new = (back ≡ entry) × (0 < work_of new) × (work_of new ≡ work_of old)
MayTryAgain entry attempt old new = Unit {0}
