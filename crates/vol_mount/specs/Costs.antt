-- Contract: which calls of the device a mount makes at most.
use Rattle.std.specs.Prelude.{◌≡◌, ℕ, ◌*◌, ◌⊎◌, None, Bool, true, false, List}
use Rattle.lsvd_device.specs.Medium.{Medium}
use Rattle.lsvd_device.specs.Calls.{Cost, together}
use Rattle.lsvd_device.specs.Device.{DiskState, HoldsNow}
use Rattle.commit_body.specs.declared.body.CommitBody.{CommitBody}
use Rattle.commit_slot.specs.Slots.{Reads}
use Rattle.commit_slot.specs.Commits.{commit_cost}
use Rattle.commit_slot.specs.Loading.{MakesAtMost, load_cost}
use Rattle.commit_slot.specs.Formatting.{format_cost, format_calls}
use Rattle.commit_slot.specs.Sequence.{Costs}
use Rattle.cache_log.specs.Committed.{first_body}
use Rattle.cache_log.specs.Reads.{reads_cost}
use Rattle.cache_log.specs.Opening.{entry_count}

-- what it takes at most to load the commits and open a log of N entries: two headers for each
abbrev pub open_cost : (count : ℕ) → Cost
open_cost count = together load_cost (reads_cost (2 * count))

-- to read the entries, of which each takes a read, and to commit them again, where no commit is unfinished
abbrev pub again_cost : (count : ℕ) → Cost
again_cost count = together (reads_cost count) (commit_cost None)

-- and what a mount with the cache takes at most whose commit has N entries
abbrev pub mount_cost : (count : ℕ) → Cost
mount_cost count = together (open_cost count) (again_cost count)

-- N is the number of entries of the commit that the device reads as, or 0 where a mount came to none
abbrev pub IsEntryCount : (log count : ℕ) → Medium → Type 0
IsEntryCount log count now =
    (count ≡ 0) ⊎ ((number : ℕ) × (body : CommitBody) × Reads log now.bytes body number × (count ≡ entry_count body))

-- the calls of a mount on a device whose log has this many sectors, which was made, or which a call that failed ended
pub record CostsMount (log : ℕ) (is_made : Bool) (old new : DiskState) : Type 0 where
  pub count : ℕ
  pub is_count : HoldsNow (IsEntryCount log count) old.moments
  pub calls : MakesAtMost (mount_cost count) is_made old new

-- ---- without the cache

-- the calls of a format of the device for a volume in an epoch, which were all made, or of which one failed
pub record CostsNewLog (uuid : List ℕ) (epoch : ℕ) (is_made : Bool) (old new : DiskState) : Type 0 where
  pub end : ℕ
  pub calls : Costs format_cost (format_calls (first_body uuid epoch end)) is_made old new

-- no call was made; or one of the format failed
abbrev pub FailsToFormat : (uuid : List ℕ) → (epoch : ℕ) → (is_fault : Bool) → (old new : DiskState) → Type 0
FailsToFormat uuid epoch true old new = CostsNewLog uuid epoch false old new
FailsToFormat uuid epoch false old new = new ≡ old
