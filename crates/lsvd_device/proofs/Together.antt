-- What calls one after the other leave of a disk.
use Rattle.std.proofs.Common.{◌≡◌, ℕ, ◌+◌, Bool, true, false, refl, sym, ◌∙◌, ap, subst, arith}
use Rattle.std.specs.Prelude.{Option, Some, None, nat_le, not}
use Rattle.lsvd_fault.specs.Faults.{Counts}
use Rattle.lsvd_device.specs.Calls.{Fuse, Budget, Cost, together, passes, fuse_after, Takes, TakesWithin}
use Rattle.lsvd_device.specs.Device.{DiskState, MakesCalls}

-- a fuse that passes some calls and then others passes them together
pass_on : (fuse : Fuse) (m n : ℕ) → true ≡ passes fuse m → passes (fuse_after fuse m) n ≡ passes fuse (m + n)
pass_on None m n first = refl
pass_on (Some left) m n first = grind arith

lower_on : (fuse : Fuse) (m n : ℕ) → fuse_after (fuse_after fuse m) n ≡ fuse_after fuse (m + n)
lower_on None m n = refl
lower_on (Some left) m n = ap Some (omega arith)

-- a fuse that does not pass some calls does not pass more, and none are left then
stop_on : (fuse : Fuse) (m n : ℕ) → false ≡ passes fuse m → false ≡ passes fuse (m + n)
stop_on None m n first = first
stop_on (Some left) m n first = grind arith

spent_on : (fuse : Fuse) (m n : ℕ) → false ≡ passes fuse m → fuse_after fuse m ≡ fuse_after fuse (m + n)
spent_on None m n first = refl
spent_on (Some left) m n first = ap Some (let e : nat_le m left ≡ false = sym first in grind arith)

within_then : (a b : Cost) (is_made : Bool) (old middle new : Budget) → TakesWithin a true old middle
    → TakesWithin b is_made middle new → TakesWithin (together a b) is_made old new
within_then a b is_made old middle new first second = record {
  made = second.made ∙ ap (λ fuse. passes fuse b.calls) first.fuse ∙ pass_on old.fuse a.calls b.calls first.made;
  fuse = second.fuse ∙ ap (λ fuse. fuse_after fuse b.calls) first.fuse ∙ lower_on old.fuse a.calls b.calls;
  calls = omega (arith, first.calls, second.calls);
  bytes = omega (arith, first.bytes, second.bytes);
}

within_failed : (a b : Cost) (old new : Budget) → TakesWithin a false old new → TakesWithin (together a b) false old new
within_failed a b old new first = record {
  made = stop_on old.fuse a.calls b.calls first.made;
  fuse = first.fuse ∙ spent_on old.fuse a.calls b.calls first.made;
  calls = omega (arith, first.calls);
  bytes = omega (arith, first.bytes);
}

takes_then : (a b : Cost) (is_made : Bool) (old middle new : Option Budget) → Takes a true old middle → Takes b is_made middle new
    → Takes (together a b) is_made old new
takes_then a b is_made None middle new first second = (let P : Option Budget → Type 0 = λ m. Takes b is_made m new in
    subst P first second)
takes_then a b is_made (Some old) middle new first second =
    let P : Option Budget → Type 0 = λ m. Takes b is_made m new in
    let then : Takes b is_made (Some first.0) new = subst P first.1 second in (
      then.0,
      then.1,
      λ calls bytes.
          let fits = first.2 (omega (arith, calls)) (omega (arith, bytes)) in
          within_then a b is_made old first.0 then.0 fits
          (then.2 (omega (arith, calls, fits.calls)) (omega (arith, bytes, fits.bytes))),
    )

takes_failed : (a b : Cost) (old new : Option Budget) → Takes a false old new → Takes (together a b) false old new
takes_failed a b None new first = first
takes_failed a b (Some old) new first =
    (first.0, first.1, λ calls bytes. within_failed a b old first.0 (first.2 (omega (arith, calls)) (omega (arith, bytes))))

-- calls that were all made, and then others
pub made_then : (a b : Cost) (is_made : Bool) (old middle new : DiskState) → MakesCalls a true old middle
    → MakesCalls b is_made middle new → MakesCalls (together a b) is_made old new
made_then a b is_made old middle new first second = record {
  size = second.size ∙ first.size;
  faults = subst (λ (n : ℕ). Counts (not is_made) n new.faults) first.faults second.faults;
  budget = takes_then a b is_made old.budget middle.budget new.budget first.budget second.budget;
}

-- calls of which one failed, and others that were not made then
pub failed_then : (a b : Cost) (old new : DiskState) → MakesCalls a false old new → MakesCalls (together a b) false old new
failed_then a b old new first = record {
  size = first.size;
  faults = first.faults;
  budget = takes_failed a b old.budget new.budget first.budget;
}
