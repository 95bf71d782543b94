-- What a hold keeps, by what was read of its checkpoint.
use Rattle.std.proofs.Common.{◌≡◌, ℕ, inl, inr, Option, Some, None, List, ap, arith}
use Rattle.std.specs.Prelude.{IfSome}
use Rattle.std.specs.BTreeSet.{BTreeSet}
use Rattle.lsvd_objstore.specs.Objects.{Objects, found}
use Rattle.extent_map.specs.declared.extent.Extent.{Extent}
use Rattle.object_format.specs.declared.expected.Expected.{Expected}
use Rattle.object_format.specs.declared.reason.BadObject.{BadObject}
use Rattle.object_format.specs.declared.reason.BadObject.TheVariants as reasons
use Rattle.object_format.proofs.TestLemmas.{header_passes}
use Rattle.ckpt_format.specs.declared.place.StoredPlace.{StoredPlace}
use Rattle.ckpt_format.specs.Checkpoint.{IsCheckpoint}
use Rattle.ckpt_format.specs.Reading.{PassesCheckpointTest}
use Rattle.object_stream.specs.Replay.{object_name}
use Rattle.stopped_volume.specs.Expected.{expected_alone}
use Rattle.super_recovery.proofs.Results.{told_so}
use Rattle.object_recovery.specs.declared.error.RecoverError.{RecoverError}
use Rattle.object_recovery.specs.declared.error.RecoverError.TheVariants as errors
use Rattle.object_recovery.specs.Faults.{IsNoAnswer}
use Rattle.object_recovery.specs.Holding.{RefusesOrFails}
use Rattle.vol_check.specs.declared.report.ObjectOfLevel.{ObjectOfLevel}
use Rattle.vol_check.specs.Report.{own_object}
use Rattle.vol_check.specs.Steps.{GainsJust, AddsRows, AddsKept, IsWhyNoRows, RefusesKept}
use Rattle.vol_check.proofs.NamedLemmas.{kept_there, kept_absent}

-- what is so of all objects is so of those that are told
pub told_all : (P : Objects → Type 0) (told : Option Objects) → ((objects : Objects) → P objects) → IfSome told P
told_all P None so = tt
told_all P (Some objects) so = so objects

-- ---- the rows of a checkpoint

-- a checkpoint passes each test
module _ (bytes : List ℕ) (expected : Expected) (end : ℕ) (rows : List (Extent StoredPlace))
    (is : IsCheckpoint bytes expected end rows) where
  passes : (reason : BadObject) → PassesCheckpointTest bytes expected reason
  passes reasons.Length = header_passes bytes _ expected _ reasons.Length (omega arith) is.head
  passes reasons.Magic = header_passes bytes _ expected _ reasons.Magic (omega arith) is.head
  passes reasons.Kind = header_passes bytes _ expected _ reasons.Kind (omega arith) is.head
  passes reasons.Uuid = header_passes bytes _ expected _ reasons.Uuid (omega arith) is.head
  passes reasons.Number = header_passes bytes _ expected _ reasons.Number (omega arith) is.head
  passes reasons.Seqs = header_passes bytes _ expected _ reasons.Seqs (omega arith) is.head
  passes reasons.Counts = header_passes bytes _ expected _ reasons.Counts (omega arith) is.head
  passes reasons.Rows = (end, rows, is)

  -- so where it gives no rows, no call failed and nothing is refused
  pub no_rows_given : (error : RecoverError) → IsWhyNoRows bytes expected error → IsNoAnswer error
  no_rows_given errors.NoCheckpoint why = why
  no_rows_given (errors.BadObject number reason) why = why.1.failed (passes reason)
  no_rows_given (errors.MissingObject number) why = why
  no_rows_given (errors.BaseMissing uuid) why = why
  no_rows_given errors.StoreFault why = tt
  no_rows_given errors.OutOfMemory why = tt

-- ---- a hold's checkpoint

module _ (volume : Expected) (number : ℕ) (told : Option Objects) where
  -- it is there
  module _ (bytes : List ℕ) (present : IfSome told (λ objects. found objects (object_name volume number) ≡ Some bytes)) where
    pub told_kept : (old middle new : BTreeSet ObjectOfLevel) → GainsJust (λ n. n ≡ own_object number) old middle
        → AddsRows bytes (expected_alone volume number) middle new
        → IfSome told (λ objects. AddsKept volume objects number old new)
    told_kept old middle new first rows =
        told_so (λ objects. found objects (object_name volume number) ≡ Some bytes)
        (λ objects. AddsKept volume objects number old new) told
        (λ objects there. kept_there volume objects number old middle new first bytes there rows) present

    pub told_bad : (error : RecoverError) → IsWhyNoRows bytes (expected_alone volume number) error
        → IfSome told (λ objects. RefusesKept volume objects number error)
    told_bad errors.NoCheckpoint why = absurd why
    told_bad (errors.BadObject other reason) why =
        told_so (λ objects. found objects (object_name volume number) ≡ Some bytes)
        (λ objects. RefusesKept volume objects number (errors.BadObject other reason)) told
        (λ objects there. inr (reason, ap (λ n. errors.BadObject n reason) why.0, (bytes, there, why.1))) present
    told_bad (errors.MissingObject other) why = absurd why
    told_bad (errors.BaseMissing uuid) why = absurd why
    told_bad errors.StoreFault why = absurd why
    told_bad errors.OutOfMemory why =
        told_all (λ objects. RefusesKept volume objects number errors.OutOfMemory) told (λ objects. inl tt)

  -- or it is absent
  absent_so : (objects : Objects) (other : ℕ)
      → RefusesOrFails (expected_alone volume number) objects number (errors.MissingObject other)
      → found objects (object_name volume number) ≡ None
  absent_so objects other (inl none) = absurd none
  absent_so objects other (inr refuses) = refuses.why.1

  pub told_absent : (other : ℕ) (old middle : BTreeSet ObjectOfLevel) → GainsJust (λ n. n ≡ own_object number) old middle
      → IfSome told (λ objects. RefusesOrFails (expected_alone volume number) objects number (errors.MissingObject other))
      → IfSome told (λ objects. AddsKept volume objects number old middle)
  told_absent other old middle first refused =
      told_so (λ objects. RefusesOrFails (expected_alone volume number) objects number (errors.MissingObject other))
      (λ objects. AddsKept volume objects number old middle) told
      (λ objects is. kept_absent volume objects number old middle middle first (absent_so objects other is)) refused
