-- The plan that is made of a list of faults.
use Rattle.std.proofs.Common.{◌≡◌, ◌∙◌, ap, refl, ℕ, ◌==◌, Bool, true, false, cond, List, [], ◌∷◌, ◌++◌, Some, arith}
use Rattle.std.specs.Prelude.{Option}
use Rattle.std.specs.Ordering.{is_eq, nat_cmp}
use Rattle.std.proofs.lemmas.Bool.Decides.{nat_tests}
use Rattle.lsvd_objstore.specs.declared.faulty.PlannedFault.{PlannedFault}
use Rattle.lsvd_objstore.specs.Faulty.{planned_by, planned_in}

pub same_call : (a b : ℕ) → is_eq (nat_cmp a b) ≡ (a == b)
same_call a b = grind (arith, nat_tests)

later_counts : (fault : PlannedFault) (call : ℕ) (is_last lands : Bool) (later : Option Bool)
    → planned_by fault call (cond is_last (Some lands) later) ≡ cond is_last (Some lands) (planned_by fault call later)
later_counts fault call true lands later = refl
later_counts fault call false lands later = refl

-- one more fault counts in place of those before it
pub planned_in-more : (faults : List PlannedFault) (last : PlannedFault) (call : ℕ)
    → planned_in (faults ++ last ∷ []) call ≡ cond (last.call == call) (Some last.lands) (planned_in faults call)
planned_in-more [] last call = refl
planned_in-more (fault ∷ faults) last call =
    ap (planned_by fault call) (planned_in-more faults last call)
    ∙ later_counts fault call (last.call == call) last.lands (planned_in faults call)
