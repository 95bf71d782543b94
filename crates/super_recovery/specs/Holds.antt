-- Contract: which holds a store has of a volume, and which of them is refused.
use Rattle.std.specs.Prelude.{◌≡◌, ℕ, ◌^◌, ◌<◌, ◌↔◌, Option, Some, None, IsSome, List, length, take, get_or}
use Rattle.std.specs.List.{All, Contains, filter_map}
use Rattle.std.specs.List.Sorted.{IsStrictlyIncreasing}
use Rattle.lsvd_names.specs.declared.name.ObjName.{ObjName}
use Rattle.lsvd_names.specs.Names.{hold_name}
use Rattle.lsvd_objstore.specs.Objects.{Objects, found}
use Rattle.super_format.specs.declared.hold.Hold as holds
use Rattle.super_format.specs.Hold.{IsHold}
use Rattle.refusals.specs.declared.bad_super.BadSuper.TheVariants as reasons
use Rattle.super_recovery.specs.declared.error.SuperError.{SuperError}
use Rattle.super_recovery.specs.declared.error.SuperError.TheVariants as errors

-- ---- among names

-- numbers are those of the holds among the names of a volume, ascending
pub record AreHoldsAmong (uuid : List ℕ) (names : List ObjName) (numbers : List ℕ) : Type 0 where
  pub ascending : IsStrictlyIncreasing numbers
  pub same : (number : ℕ) → Contains numbers number ↔ Contains names (hold_name uuid number)

-- ---- in a store

-- the store has the hold of this number, of the grammar
pub record HasHold (uuid : List ℕ) (number : ℕ) (objects : Objects) : Type 0 where
  pub bytes : List ℕ
  pub present : found objects (hold_name uuid number) ≡ Some bytes
  pub hold : holds.Hold
  pub is_hold : IsHold bytes uuid number hold

-- numbers are those of all holds of the volume that the store has, ascending, and each hold is of the grammar
pub record AreHolds (uuid : List ℕ) (numbers : List ℕ) (objects : Objects) : Type 0 where
  pub ascending : IsStrictlyIncreasing numbers
  pub same : (number : ℕ) → number < 2 ^ 64 → Contains numbers number ↔ IsSome (found objects (hold_name uuid number))
  pub each : (number : ℕ) → Contains numbers number → HasHold uuid number objects

-- the hold of this number is none of the grammar, and each hold of a smaller one is
pub record HasBadHold (uuid : List ℕ) (number : ℕ) (objects : Objects) : Type 0 where
  pub present : IsSome (found objects (hold_name uuid number))
  pub bad : HasHold uuid number objects → ⊥
  pub least : (other : ℕ) → other < number → IsSome (found objects (hold_name uuid other)) → HasHold uuid other objects

-- this is the first of the numbers whose hold is none of the grammar, or is not there (for this crate's own clauses)
pub record IsFirstBad (uuid : List ℕ) (numbers : List ℕ) (number : ℕ) (objects : Objects) : Type 0 where
  pub index : ℕ
  pub inside : index < length numbers
  pub at : get_or numbers index 0 ≡ number
  pub before : All (λ n. HasHold uuid n objects) (take index numbers)
  pub bad : HasHold uuid number objects → ⊥

-- and none where there is none
abbrev pub IsFirstBadIn : (uuid : List ℕ) (numbers : List ℕ) → Option ℕ → Objects → Type 0
IsFirstBadIn uuid numbers None objects = All (λ n. HasHold uuid n objects) numbers
IsFirstBadIn uuid numbers (Some number) objects = IsFirstBad uuid numbers number objects

-- ---- the reason

-- why the holds were not read
abbrev pub IsWhyNoHolds : (uuid : List ℕ) → Objects → SuperError → Type 0
IsWhyNoHolds uuid objects errors.NoVolume = ⊥
IsWhyNoHolds uuid objects (errors.BadSuper (reasons.Super reason)) = ⊥
IsWhyNoHolds uuid objects (errors.BadSuper reasons.NoEpoch) = ⊥
IsWhyNoHolds uuid objects (errors.BadSuper (reasons.BadEpoch number)) = ⊥
IsWhyNoHolds uuid objects (errors.BadSuper (reasons.BadHold number)) = HasBadHold uuid number objects
IsWhyNoHolds uuid objects errors.StoreFault = Unit {0}
IsWhyNoHolds uuid objects errors.OutOfMemory = Unit {0}
