-- Contract: what is seen of a disk over a file.
use Rattle.std.specs.Prelude.{◌≡◌, ℕ, true, false, [], length, replicate, Option, None}
use Rattle.lsvd_device.specs.Medium.{durable}
use Rattle.lsvd_device.specs.Device.{DiskState}
use Rattle.lsvd_device.specs.RawFile.{RawState, moments_told}

-- a disk over a file
pub record FileDiskState : Type 0 where
  pub size : ℕ
  -- the file, where it tells its state
  pub file : Option RawState
  pub faults : ℕ

-- it holds what its file holds, and does not tell what it still passes
abbrev pub disk_over : FileDiskState → DiskState
disk_over disk = record { size = disk.size; moments = moments_told disk.file; faults = disk.faults; budget = None }

-- one over a file that tells nothing
abbrev pub silent_over : ℕ → ℕ → FileDiskState
silent_over size faults = record { size = size; file = None; faults = faults }

-- A file was just opened: nothing is known of what it held before, and no sync of it has failed. If its length outlasts a stop,
-- it is the one that it had at the last sync.
pub record IsJustOpened (file : RawState) : Type 0 where
  pub past : file.past ≡ []
  pub synced : file.sized ≡ true → length file.now.synced ≡ length file.now.bytes
  pub trusted : file.doubted ≡ false

-- a file of zeros, which are there for good
pub record HasZeros (size : ℕ) (file : RawState) : Type 0 where
  pub now : file.now ≡ durable (replicate size 0)
  pub past : file.past ≡ []
  pub sized : file.sized ≡ true
  pub trusted : file.doubted ≡ false

-- it holds what it held when it was opened, and that is there for good
pub record IsKeptForGood (opened file : RawState) : Type 0 where
  pub now : file.now ≡ durable opened.now.bytes
  pub sized : file.sized ≡ true
  pub trusted : file.doubted ≡ false
