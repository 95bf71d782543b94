-- Contract: what the world gives a run of the program, and when a call of it failed.
use Rattle.std.specs.Prelude.{◌≡◌, ◌⊎◌, ◌<◌, ◌-◌, ◌+◌, ◌*◌, ◌^◌, ℕ, Bool, true, false, [], ◌∷◌, Option, Some, None, Result, Ok}
use Rattle.std.specs.Prelude.{Err}
use Rattle.std.specs.Prelude.{replicate, List}
use Rattle.lsvd_device.specs.Device.{DiskState, IsDisk}
use Rattle.lsvd_device.specs.Medium.{durable}
use Rattle.lsvd_fault.specs.Faults.{CountsOne}
use Rattle.lsvd_objstore.specs.Store.{StoreState}
use Rattle.volume_commands.specs.declared.world.WorldError.{WorldError}
use Rattle.volume_commands.specs.declared.world.WorldError.TheVariants.{Failed, OutOfMemory}

-- a call of the world failed
abbrev pub world_failed : {T : Type 0} → Result T WorldError → Bool
world_failed (Ok value) = false
world_failed (Err Failed) = true
world_failed (Err OutOfMemory) = false

-- a disk of this many bytes, which holds zeros alone where it tells what it holds, and nothing is pending
pub record IsBlank (bytes : ℕ) (disk : DiskState) : Type 0 where
  pub size : disk.size ≡ bytes
  pub holds : (disk.moments ≡ []) ⊎ (disk.moments ≡ durable (replicate bytes 0) ∷ [])

-- the bytes of a disk whose log has so many sectors
abbrev pub bytes_with : (log : ℕ) → ℕ
bytes_with log = 4096 + 512 * log

-- ---- what stands at a path

-- the disk and the store that stand at each path, where the world tells them
pub record Places : Type 0 where
  pub disks : List ℕ → Option DiskState
  pub stores : List ℕ → Option StoreState

-- what a world that tells it has at a path, and what one has that does not
abbrev pub where_told : {T : Type 0} → (tells : Bool) → T → Option T
where_told true state = Some state
where_told false state = None

-- the disk that a call gives: a blank one of this many bytes, or the one that stood at the path
abbrev pub IsGiven : (tells : Bool) → Option ℕ → (stood : Option DiskState) → DiskState → Type 0
IsGiven tells (Some size) stood disk = IsDisk disk × IsBlank size disk
IsGiven tells None stood disk = IsDisk disk × (stood ≡ where_told tells disk)

-- the store that a call gives: the one that stood at the path; or none did, and a new one was made, which holds nothing
abbrev pub IsGivenStore : (tells makes : Bool) → (stood : Option StoreState) → StoreState → Type 0
IsGivenStore tells false stood store = stood ≡ where_told tells store
IsGivenStore tells true stood store =
    (stood ≡ where_told tells store) ⊎ ((stood ≡ None) × (store.objects ≡ where_told tells []))

-- at a path stands what stood there before, or what was given back
abbrev pub IsGivenBack : {T : Type 0} → (tells : Bool) → (old new : Option T) → Type 0
IsGivenBack {T} tells old new = (new ≡ old) ⊎ ((left : T) × (new ≡ where_told tells left))

-- so it is of the store at one path and of the disk at another
pub record GivesBack (tells : Bool) (store cache : List ℕ) (old new : Places) : Type 0 where
  pub store_back : IsGivenBack tells (old.stores store) (new.stores store)
  pub cache_back : IsGivenBack tells (old.disks cache) (new.disks cache)

-- ---- counts

-- No call of such a disk, store or listener is ever counted: its count is one number, below the greatest of its type.
abbrev pub IsConstant : {T : Type 0} → (T → ℕ) → Type 0
IsConstant faults = (count : ℕ) × (count < 2 ^ 64 - 1) × ((value : _) → faults value ≡ count)

-- one call failed: one of two things that count theirs
abbrev pub CountsOneOf : (first_before first_now second_before second_now : ℕ) → Type 0
CountsOneOf first_before first_now second_before second_now =
    (CountsOne first_before first_now × (second_now ≡ second_before))
    ⊎ ((first_now ≡ first_before) × CountsOne second_before second_now)

-- no call of them failed
abbrev pub CountsNone : (first_before first_now second_before second_now : ℕ) → Type 0
CountsNone first_before first_now second_before second_now = (first_now ≡ first_before) × (second_now ≡ second_before)
