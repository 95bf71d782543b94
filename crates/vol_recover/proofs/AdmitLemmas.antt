-- For a log that is asked for: that the volume takes it, or why it does not.
use Rattle.std.proofs.Common.{◌≡◌, ◌⊎◌, ℕ, false, List, inr, subst}
use Rattle.std.specs.Prelude.{Option, Some, None, IfSome, IsTrue}
use Rattle.lsvd_base.specs.declared.geometry.Geometry.{Geometry}
use Rattle.lsvd_base.specs.Limits.{is_within_limits}
use Rattle.lsvd_objstore.specs.Objects.{Objects}
use Rattle.vol_mount.specs.declared.error.MountError.{MountError}
use Rattle.vol_mount.specs.Refusals.{IsUnfitting, IsWhyNotStored}
use Rattle.vol_recover.specs.Admitting.{IsAdmitted, IsWhyNotAdmitted}
use Rattle.vol_recover.specs.Describing.{SaysVolume}
use Rattle.clone_chain.specs.declared.ancestor.Ancestor.{Ancestor}

pub is_admitted : (uuid : List ℕ) (log : ℕ) (objects : Option Objects) (geometry : Geometry) (chain : List Ancestor)
    (epoch : ℕ) → geometry.log ≡ log
    → IfSome objects (SaysVolume uuid geometry chain epoch) → IsTrue (is_within_limits geometry)
    → IfSome objects (IsAdmitted uuid log)
is_admitted uuid log None geometry chain epoch log_is says fits = tt
is_admitted uuid log (Some objects) geometry chain epoch log_is says fits = (geometry, chain, epoch, log_is, says, fits)

-- the objects were judged after the volume was described, which changed nothing
pub is_not_admitted : (uuid : List ℕ) (log : ℕ) (old described : Option Objects) (geometry : Geometry) (chain : List Ancestor)
    (epoch : ℕ) (error : MountError) → geometry.log ≡ log → IfSome old
    (SaysVolume uuid geometry chain epoch) → is_within_limits geometry ≡ false
    → described ≡ old → IsUnfitting uuid geometry chain described error ⊎ IsWhyNotStored uuid geometry chain described error
    → IsWhyNotAdmitted uuid log old error
is_not_admitted uuid log old described geometry chain epoch error log_is says unfit same why = inr (
  geometry,
  chain,
  epoch,
  log_is,
  says,
  unfit,
  subst (λ objects. IsUnfitting uuid geometry chain objects error ⊎ IsWhyNotStored uuid geometry chain objects error) same why,
)
