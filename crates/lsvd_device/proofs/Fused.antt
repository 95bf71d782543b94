-- Calls of a disk with a fuse before it.
use Rattle.std.proofs.Common.{◌≡◌, ℕ, ◌+◌, ◌-◌, ◌^◌, Bool, true, false, zero, suc, min, refl, sym, ◌∙◌, ap, inl, inr, arith}
use Rattle.std.specs.Prelude.{Option, Some, None, not}
use Rattle.std.proofs.Math.Path.{subst₂}
use Rattle.std.proofs.lemmas.Bool.{cases_lt}
use Rattle.lsvd_fault.specs.Faults.{counted_with, HasRisen, CountsOne, Counts}
use Rattle.lsvd_device.specs.Calls.{Fuse, Budget, Cost, passes, fuse_after, Takes, PassesNone}
use Rattle.lsvd_device.specs.Device.{DiskState, MakesCalls, FailsAlone}
use Rattle.lsvd_device.specs.Fuse.{tighter, with_fuse, with_fuse_before}

-- one call that a fuse passes on is passed where the fuse after it passes it
pass_through : (fuse other : Fuse) → (fuse ≡ Some 0 → ⊥) → passes (tighter fuse other) 1 ≡ passes other 1
pass_through None other some = refl
pass_through (Some zero) other some = absurd (some refl)
pass_through (Some (suc left)) None some = grind arith
pass_through (Some (suc left)) (Some other) some = grind arith

lower_through : (fuse other : Fuse) → (fuse ≡ Some 0 → ⊥) → fuse_after (tighter fuse other) 1 ≡ tighter (fuse_after fuse 1)
    (fuse_after other 1)
lower_through None other some = refl
lower_through (Some zero) other some = absurd (some refl)
lower_through (Some (suc left)) None some = refl
lower_through (Some (suc left)) (Some other) some = ap Some (omega arith)

-- a fuse that is burnt
stop_at : (other : Fuse) → passes (tighter (Some 0) other) 1 ≡ false
stop_at None = grind arith
stop_at (Some other) = grind arith

stay_at : (other : Fuse) → tighter (Some 0) other ≡ Some 0
stay_at None = refl
stay_at (Some other) = ap Some (omega arith)

none_lowered : (calls : ℕ) → ◌≡◌ {A = Fuse} (Some 0) (fuse_after (Some 0) calls)
none_lowered calls = ap Some (omega arith)

takes_passed : (cost : Cost) (is_made : Bool) (fuse : Fuse) (old new : Option Budget) → cost.calls ≡ 1 → (fuse ≡ Some 0 → ⊥)
    → Takes cost is_made old new
    → Takes cost is_made (with_fuse fuse old) (with_fuse (fuse_after fuse 1) new)
takes_passed cost is_made fuse None new one some takes = ap (with_fuse (fuse_after fuse 1)) takes
takes_passed cost is_made fuse (Some old) new one some takes =
    let left : Budget = takes.0 in (
      record left { fuse = tighter (fuse_after fuse 1) left.fuse },
      ap (with_fuse (fuse_after fuse 1)) takes.1,
      λ calls bytes.
          let fits = takes.2 calls bytes in
          record {
            made = fits.made ∙ ap (passes old.fuse) one ∙ sym (pass_through fuse old.fuse some)
                ∙ ap (passes (tighter fuse old.fuse)) (sym one);
            fuse =
                ap (tighter (fuse_after fuse 1)) (fits.fuse ∙ ap (fuse_after old.fuse) one)
                ∙ sym (lower_through fuse old.fuse some) ∙ ap (fuse_after (tighter fuse old.fuse)) (sym one);
            calls = fits.calls;
            bytes = fits.bytes;
          },
    )

takes_stopped : (cost : Cost) (budget : Option Budget) → cost.calls ≡ 1
    → Takes cost false (with_fuse (Some 0) budget) (with_fuse (Some 0) budget)
takes_stopped cost None one = refl
takes_stopped cost (Some budget) one = (
  record budget { fuse = tighter (Some 0) budget.fuse },
  refl,
  λ calls bytes. record {
    made = sym (stop_at budget.fuse) ∙ ap (passes (tighter (Some 0) budget.fuse)) (sym one);
    fuse = stay_at budget.fuse ∙ none_lowered cost.calls ∙ ap (λ (f : Fuse). fuse_after f cost.calls) (sym (stay_at budget.fuse));
    calls = omega arith;
    bytes = omega arith;
  },
)

-- the sum of two counts rises with the first
rises_on : (a b more : ℕ) → HasRisen a b → HasRisen (counted_with a more) (counted_with b more)
rises_on a b more (inl less) = elim (cases_lt (b + more) (2 ^ 64 - 1)) [
  | inl fewer ↦ inl (omega (arith, less, fewer))
  | inr most ↦ inr (omega (arith, most))
]
rises_on a b more (inr most) = inr (omega (arith, most))

counts_on : (failed : Bool) (a b more : ℕ) → Counts failed a b → Counts failed (counted_with a more) (counted_with b more)
counts_on false a b more same = ap (λ n. counted_with n more) same
counts_on true a b more one = record {
  risen = rises_on a b more one.risen;
  kept = omega (arith, one.kept);
  most = omega (arith, one.most);
}

-- and with the second
rises_with : (count a b : ℕ) → HasRisen a b → HasRisen (counted_with count a) (counted_with count b)
rises_with count a b (inl less) = elim (cases_lt (count + b) (2 ^ 64 - 1)) [
  | inl fewer ↦ inl (omega (arith, less, fewer))
  | inr most ↦ inr (omega (arith, most))
]
rises_with count a b (inr most) = inr (omega (arith, most))

counts_with : (count a b : ℕ) → CountsOne a b → CountsOne (counted_with count a) (counted_with count b)
counts_with count a b one = record {
  risen = rises_with count a b one.risen;
  kept = omega (arith, one.kept);
  most = omega (arith, one.most);
}

-- a call that was passed on
pub fused_passed : (cost : Cost) (is_made : Bool) (fuse after : Fuse) (failed failed' : ℕ) (old new : DiskState) → cost.calls ≡ 1
    → (fuse ≡ Some 0 → ⊥) → after ≡ fuse_after fuse 1 → failed' ≡ failed
    → MakesCalls cost is_made old new → MakesCalls cost is_made (with_fuse_before fuse failed old)
    (with_fuse_before after failed' new)
fused_passed cost is_made fuse after failed failed' old new one some fuse_after' same calls =
    subst₂ (λ f n. MakesCalls cost is_made (with_fuse_before fuse failed old) (with_fuse_before f n new)) (sym fuse_after')
    (sym same) (record {
      size = calls.size;
      faults = counts_on (not is_made) old.faults new.faults failed calls.faults;
      budget = takes_passed cost is_made fuse old.budget new.budget one some calls.budget;
    })

-- a call that the fuse failed
pub fused_stopped : (cost : Cost) (fuse after : Fuse) (failed failed' : ℕ) (disk : DiskState) → cost.calls ≡ 1 → fuse ≡ Some 0
    → after ≡ Some 0 → CountsOne failed failed'
    → MakesCalls cost false (with_fuse_before fuse failed disk) (with_fuse_before after failed' disk)
fused_stopped cost fuse after failed failed' disk one is stays counted =
    subst₂ (λ f g. MakesCalls cost false (with_fuse_before f failed disk) (with_fuse_before g failed' disk)) (sym is)
    (sym stays) (record {
      size = refl;
      faults = counts_with disk.faults failed failed' counted;
      budget = takes_stopped cost disk.budget one;
    })

-- a fuse after one that passes the call is burnt where both pass none
none_left : (left : ℕ) (other : Fuse) → ◌≡◌ {A = Fuse} (tighter (Some (suc left)) other) (Some 0) → other ≡ Some 0
none_left left None none = cc
none_left left (Some zero) none = refl
none_left left (Some (suc more)) none = (let e : min (suc left) (suc more) ≡ 0 = cc in absurd (omega (arith, e)))

none_behind : (fuse : Fuse) (budget : Option Budget) → (fuse ≡ Some 0 → ⊥) → PassesNone (with_fuse fuse budget)
    → PassesNone budget
none_behind fuse None some none = none
none_behind None (Some budget) some none = none
none_behind (Some zero) (Some budget) some none = absurd (some refl)
none_behind (Some (suc left)) (Some budget) some none = none_left left budget.fuse none

same_behind : (fuse other : Fuse) → (fuse ≡ Some 0 → ⊥) → other ≡ Some 0 → tighter (fuse_after fuse 1) other ≡ tighter fuse other
same_behind None other some none = refl
same_behind (Some left) other some none =
    ap (tighter (Some (left - 1))) none ∙ ap Some (omega arith) ∙ sym (ap (tighter (Some left)) none)

same_budget : (fuse : Fuse) (budget : Option Budget) → (fuse ≡ Some 0 → ⊥) → PassesNone budget
    → with_fuse (fuse_after fuse 1) budget ≡ with_fuse fuse budget
same_budget fuse None some none = refl
same_budget fuse (Some budget) some none = ap (λ f. Some (record budget { fuse = f })) (same_behind fuse budget.fuse some none)

-- a call that was passed on to a disk that passes none
pub fused_blown : (is_made : Bool) (fuse after : Fuse) (failed failed' : ℕ) (old new : DiskState) → (fuse ≡ Some 0 → ⊥)
    → after ≡ fuse_after fuse 1 → failed' ≡ failed
    → (PassesNone old.budget → FailsAlone is_made old new) → PassesNone (with_fuse fuse old.budget)
    → FailsAlone is_made (with_fuse_before fuse failed old) (with_fuse_before after failed' new)
fused_blown is_made fuse after failed failed' old new some fuse_after' same blown none =
    let behind : PassesNone old.budget = none_behind fuse old.budget some none in
    let alone = blown behind in
    let budget : with_fuse after old.budget ≡ with_fuse fuse old.budget = ap (λ f. with_fuse f old.budget) fuse_after'
    ∙ same_budget fuse old.budget some behind in (
      alone.0,
      ap (with_fuse_before after failed') alone.1
          ∙ ap (λ b. record old { faults = counted_with new.faults failed'; budget = b }) budget,
    )
