-- For this crate's own clauses: a file that is a disk, or is to be one.
use Rattle.std.specs.Prelude.{◌≡◌, ℕ, Bool, true, false, ◌∷◌, replicate}
use Rattle.std.specs.List.{AllByRecursion}
use Rattle.lsvd_device.specs.Device.{HasSize}
use Rattle.lsvd_device.specs.RawFile.{RawState}

-- a file of zeros, which a stop may leave as any bytes
pub record HasLooseZeros (size : ℕ) (file : RawState) : Type 0 where
  pub bytes : file.now.bytes ≡ replicate size 0
  pub sized : file.sized ≡ false
  pub trusted : file.doubted ≡ false

-- its length is there for good; and where no sync of it is known that failed, none has
pub record IsHeld (has_failed : Bool) (file : RawState) : Type 0 where
  pub sized : file.sized ≡ true
  pub trusted : has_failed ≡ false → file.doubted ≡ false

-- it is a disk of this size
pub record IsDiskOf (size : ℕ) (has_failed : Bool) (file : RawState) : Type 0 where
  pub held : IsHeld has_failed file
  pub media : AllByRecursion (HasSize size) (file.now ∷ file.past)
