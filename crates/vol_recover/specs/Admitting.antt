-- Contract: whether a volume takes a log of so many sectors, or why it does not.
use Rattle.std.specs.Prelude.{◌≡◌, ◌⊎◌, ℕ, false, Option, IfSome, IsTrue, List}
use Rattle.clone_chain.specs.declared.ancestor.Ancestor.{Ancestor}
use Rattle.lsvd_base.specs.declared.geometry.Geometry.{Geometry}
use Rattle.lsvd_base.specs.Limits.{is_within_limits}
use Rattle.lsvd_objstore.specs.Objects.{Objects}
use Rattle.vol_mount.specs.declared.error.MountError.{MountError}
use Rattle.vol_mount.specs.Refusals.{IsUnfitting, IsWhyNotStored}
use Rattle.vol_recover.specs.Describing.{SaysVolume, IsWhyNotDescribed}

-- the store says that there is a volume, and with such a log its sizes keep their limits
abbrev pub IsAdmitted : (uuid : List ℕ) → (log : ℕ) → Objects → Type 0
IsAdmitted uuid log objects =
    (geometry : Geometry) × (chain : List Ancestor) × (epoch : ℕ) × (geometry.log ≡ log)
    × SaysVolume uuid geometry chain epoch objects
    × IsTrue (is_within_limits geometry)

-- The volume is refused as a whole; or such a log does not fit it, and it is refused by its objects, which are judged before, or
-- for the log where they are good.
abbrev pub IsWhyNotAdmitted : (uuid : List ℕ) → (log : ℕ) → Option Objects → MountError → Type 0
IsWhyNotAdmitted uuid log objects error =
    IsWhyNotDescribed uuid objects error
    ⊎ ((geometry : Geometry) × (chain : List Ancestor) × (epoch : ℕ) × (geometry.log ≡ log)
    × IfSome objects (SaysVolume uuid geometry chain epoch)
    × (is_within_limits geometry ≡ false)
    × (IsUnfitting uuid geometry chain objects error ⊎ IsWhyNotStored uuid geometry chain objects error))
