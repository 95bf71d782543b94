-- Contract: what is seen of a disk that gathers writes, and how what it tells follows what the disk below holds.
use Rattle.std.specs.Prelude.{◌≡◌, ℕ, ◌+◌, ◌≤◌, ◌⊎◌, None, List, [], ◌∷◌, length}
use Rattle.std.specs.List.{All, AllByRecursion}
use Rattle.lsvd_bytes.specs.Places.{with_bytes}
use Rattle.lsvd_device.specs.Medium.{Medium, LiesOutside, MayLeave}
use Rattle.lsvd_device.specs.Device.{DiskState, IsDisk, HasSize}

-- a disk that gathers writes
pub record GatheredState : Type 0 where
  -- the disk below
  pub below : DiskState
  -- the bytes that are not handed over to it yet, and where they stand
  pub at : ℕ
  pub gathered : List ℕ
  -- what it holds now and held before, where that is kept
  pub told : List Medium
  -- how often a call has failed
  pub faults : ℕ

-- It is a disk, which does not tell what it still passes.
abbrev pub gathered_disk : GatheredState → DiskState
gathered_disk disk = record { size = disk.below.size; moments = disk.told; faults = disk.faults; budget = None }

-- ---- stops

-- whatever a stop may leave of the one, it may leave of the other
abbrev pub LeavesNoMore : Medium → Medium → Type 0
LeavesNoMore below above = (left : List ℕ) → MayLeave below left → MayLeave above left

-- of one of these
abbrev pub IsCovered : List Medium → Medium → Type 0
IsCovered [] below = ⊥
IsCovered (now ∷ past) below = LeavesNoMore below now ⊎ IsCovered past below

-- Where moments are told, whatever a stop may leave of the disk below, at any moment, is what a stop may leave of one of these.
abbrev pub AreCovered : List Medium → List Medium → Type 0
AreCovered [] below = Unit {0}
AreCovered (now ∷ past) below = AllByRecursion (IsCovered (now ∷ past)) below

-- ---- what is told

-- One holds what the disk below does, with the gathered bytes in their place. Of each byte that a stop may change below, and of
-- each gathered one, it tells that a stop may change it.
pub record IsAbove (at : ℕ) (gathered : List ℕ) (below above : Medium) : Type 0 where
  pub bytes : above.bytes ≡ with_bytes at gathered below.bytes
  pub synced : above.synced ≡ below.synced
  pub pending : (i : ℕ) → All (LiesOutside i) above.pending
      → All (LiesOutside i) below.pending × LiesOutside i (record { at = at; count = length gathered })

-- what is told now is above what the disk below holds now
abbrev pub IsAboveNow : ℕ → List ℕ → List Medium → List Medium → Type 0
IsAboveNow at gathered below [] = Unit {0}
IsAboveNow at gathered [] (above ∷ past) = ⊥
IsAboveNow at gathered (now ∷ before) (above ∷ past) = IsAbove at gathered now above

-- what is so of each
pub record IsGathering (disk : GatheredState) : Type 0 where
  pub below : IsDisk disk.below
  pub inside : disk.at + length disk.gathered ≤ disk.below.size
  pub media : AllByRecursion (HasSize disk.below.size) disk.told
  pub above : IsAboveNow disk.at disk.gathered disk.below.moments disk.told
  pub covered : AreCovered disk.told disk.below.moments
