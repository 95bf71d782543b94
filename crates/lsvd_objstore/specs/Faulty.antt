-- Contract: what is seen of a store with planned faults, and what its calls do.
use Rattle.std.specs.Prelude.{◌≡◌, ℕ, ◌==◌, ◌⊎◌, Bool, true, false, cond, List, [], ◌∷◌, Option, Some, None}
use Rattle.std.specs.BTreeMap.{is_at}
use Rattle.std.specs.Map.{lookup}
use Rattle.std.specs.Ordering.{nat_cmp}
use Rattle.lsvd_objstore.specs.Objects.{Objects}
use Rattle.lsvd_objstore.specs.Store.{StoreState, Becomes}
use Rattle.lsvd_fault.specs.Faults.{counted_with, Counts}
use Rattle.lsvd_objstore.specs.declared.faulty.PlannedFault.{PlannedFault}

-- the calls that are to fail, by their numbers, and whether each takes effect all the same
abbrev pub FaultPlan : Type 0
FaultPlan = List (ℕ × Bool)

-- whether the call of this number is to fail, and then whether it takes effect
abbrev pub planned_at : FaultPlan → ℕ → Option Bool
planned_at plan call = lookup (is_at (nat_cmp call)) plan

-- the later fault of a call, if any, in place of this one
abbrev pub planned_by : PlannedFault → ℕ → Option Bool → Option Bool
planned_by fault call None = cond (fault.call == call) (Some fault.lands) None
planned_by fault call (Some lands) = Some lands

-- the same of faults in a list, of which the last one of a call counts
abbrev pub planned_in : List PlannedFault → ℕ → Option Bool
planned_in [] call = None
planned_in (fault ∷ faults) call = planned_by fault call (planned_in faults call)

-- a store with planned faults
pub record FaultState : Type 0 where
  -- the store under it
  pub store : StoreState
  pub plan : FaultPlan
  -- how many calls came, and how many of them failed as planned; the counts stand at the greatest number of their type
  pub calls : ℕ
  pub failed : ℕ

-- it holds what the store under it holds, counts its own faults too, and does not tell what it was asked
abbrev pub faulty_state : FaultState → StoreState
faulty_state it = record it.store { asked = None; faults = counted_with it.store.faults it.failed }

-- what is planned of the next call
abbrev pub next_fate : FaultState → Option Bool
next_fate it = planned_at it.plan (counted_with it.calls 1)

-- a planned call failed, and did not reach the store under it
pub record IsLost (failed : Bool) (old new : FaultState) : Type 0 where
  pub fails : failed ≡ true
  pub store : new.store ≡ old.store
  pub counted : new.failed ≡ counted_with old.failed 1

-- a call that is not planned fails only where the store under it fails it
pub record IsPassed (failed : Bool) (old new : FaultState) : Type 0 where
  pub own : new.failed ≡ old.failed
  pub under : Counts failed old.store.faults new.store.faults

-- a planned put or removal took effect, and was not acknowledged
pub record HasLanded (Change : Objects → Objects → Type 0) (old new : FaultState) : Type 0 where
  pub change : Becomes Change old.store.objects new.store.objects
  pub under : new.store.faults ≡ old.store.faults
  pub counted : new.failed ≡ counted_with old.failed 1

-- A call that is planned to land is not acknowledged. Where it failed it landed, or it failed in the store under it.
pub record LandsUnanswered (acknowledged failed : Bool) (Change : Objects → Objects → Type 0) (old new : FaultState) :
    Type 0 where
  pub unacknowledged : acknowledged ≡ false
  pub effect : failed ≡ true → HasLanded Change old new ⊎ IsPassed true old new

-- A call was counted. Where it is not planned it is passed on, and else it is lost, or lands.
abbrev pub GoesBy : Option Bool → Bool → Type 0 → FaultState → FaultState → Type 0
GoesBy None failed Landed old new = IsPassed failed old new
GoesBy (Some false) failed Landed old new = IsLost failed old new
GoesBy (Some true) failed Landed old new = Landed

pub record IsFaultyCall (failed : Bool) (Landed : Type 0) (old new : FaultState) : Type 0 where
  pub calls : new.calls ≡ counted_with old.calls 1
  pub plan : new.plan ≡ old.plan
  pub outcome : GoesBy (next_fate old) failed Landed old new
