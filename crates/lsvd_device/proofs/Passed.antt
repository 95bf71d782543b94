-- What a fuse lets pass of calls one after the other.
use Rattle.std.proofs.Common.{◌≡◌, ℕ, ◌+◌, ◌≤◌, Bool, true, false, zero, suc, min, List, [], ◌∷◌, ◌++◌, length, take, refl, sym}
use Rattle.std.proofs.Common.{◌∙◌, ap, subst, arith, length-append}
use Rattle.std.specs.Prelude.{Option, Some, None, IfSome, nat_le}
use Rattle.std.proofs.lemmas.List.{take-append-le, take_all}
use Rattle.std.proofs.Math.Seq.{take-append-add}
use Rattle.lsvd_device.specs.Medium.{Medium}
use Rattle.lsvd_device.specs.Calls.{Fuse, Budget, Cost, passes, fuse_after, Takes, PassesNone}
use Rattle.lsvd_device.specs.Device.{DiskState, MakesCalls, FailsAlone}
use Rattle.lsvd_device.specs.Sequence.{Call, moments_with, moments_with_all, passed_of, bytes_of_all, HasRoomFor}
use Rattle.lsvd_device.specs.Sequence.{MakesThosePassed}

-- what the calls ask for together
pub record Asks (calls : List Call) (cost : Cost) : Type 0 where
  pub count : cost.calls ≡ length calls
  pub changes : cost.changes ≡ length calls
  pub bytes : cost.bytes ≡ bytes_of_all calls

-- ---- one call

one_by_fuse : (fuse : Fuse) (is_made : Bool) (call : Call) (old new : DiskState) → is_made ≡ passes fuse 1
    → (is_made ≡ true → new.moments ≡ moments_with call old.moments)
    → (fuse ≡ Some 0 → FailsAlone is_made old new) → new.moments ≡ moments_with_all (take (passed_of fuse 1) (call ∷ []))
    old.moments
one_by_fuse None is_made call old new is made fails = made is
one_by_fuse (Some zero) is_made call old new is made fails = ap (λ d. d.moments) (fails refl).1
one_by_fuse (Some (suc left)) is_made call old new is made fails =
    let passed : nat_le 1 (suc left) ≡ true = grind arith in
    let one : min (suc left) 1 ≡ 1 = omega arith in
    made (is ∙ passed) ∙ sym (ap (λ n. moments_with_all (take n (call ∷ [])) old.moments) one)

none_passes : (budget : Budget) → budget.fuse ≡ Some 0 → PassesNone (Some budget)
none_passes budget is = is

one_in : (budget after : Option Budget) (call : Call) (cost : Cost) (is_made : Bool) (old new : DiskState) → Asks (call ∷ []) cost
    → (is_made ≡ true → new.moments ≡ moments_with call old.moments)
    → Takes cost is_made budget after → (PassesNone budget → FailsAlone is_made old new)
    → IfSome budget (λ b. HasRoomFor (call ∷ []) b → new.moments ≡ moments_with_all (take (passed_of b.fuse 1) (call ∷ []))
    old.moments)
one_in None after call cost is_made old new asks made takes blown = tt
one_in (Some budget) after call cost is_made old new asks made takes blown = λ room.
    let fits = takes.2 (omega (arith, asks.changes, room.0)) (omega (arith, asks.bytes, room.1)) in
    let one : cost.calls ≡ 1 = (let e = asks.count in omega (arith, e)) in
    one_by_fuse budget.fuse is_made call old new (fits.made ∙ ap (passes budget.fuse) one) made
    (λ is. blown (none_passes budget is))

-- one call that is made, or fails and, where the disk passes none, changes nothing
pub passed_one : (call : Call) (cost : Cost) (is_made : Bool) (old new : DiskState) → Asks (call ∷ []) cost
    → (is_made ≡ true → new.moments ≡ moments_with call old.moments)
    → MakesCalls cost is_made old new → (PassesNone old.budget → FailsAlone is_made old new)
    → MakesThosePassed (call ∷ []) old new
passed_one call cost is_made old new asks made calls blown = one_in old.budget new.budget call cost is_made old new asks made
    calls.budget blown

-- ---- calls one after the other

made_one_by_one : (a b : List Call) (moments : List Medium)
    → moments_with_all (a ++ b) moments ≡ moments_with_all b (moments_with_all a moments)
made_one_by_one [] b moments = refl
made_one_by_one (call ∷ a) b moments = made_one_by_one a b (moments_with call moments)

bytes_together : (a b : List Call) → bytes_of_all (a ++ b) ≡ bytes_of_all a + bytes_of_all b
bytes_together [] b = omega arith
bytes_together (call ∷ a) b = (let e = bytes_together a b in omega (arith, e))

all_passed : (fuse : Fuse) (n : ℕ) → true ≡ passes fuse n → passed_of fuse n ≡ n
all_passed None n is = refl
all_passed (Some left) n is = (let e : nat_le n left ≡ true = sym is in grind arith)

passed_on : (fuse : Fuse) (m n : ℕ) → true ≡ passes fuse m → passed_of fuse (m + n) ≡ m + passed_of (fuse_after fuse m) n
passed_on None m n is = refl
passed_on (Some left) m n is = (let e : nat_le m left ≡ true = sym is in grind arith)

passed_short : (fuse : Fuse) (m n : ℕ) → false ≡ passes fuse m → (passed_of fuse (m + n) ≡ passed_of fuse m)
    × (passed_of fuse m ≤ m)
passed_short None m n is = cc
passed_short (Some left) m n is = (let e : nat_le m left ≡ false = sym is in (grind arith, omega arith))

then_in : (budget middle_budget : Option Budget) (a b : List Call) (cost : Cost) (old middle new : DiskState) → Asks a cost
    → Takes cost true budget middle_budget
    → IfSome budget (λ x. HasRoomFor a x → middle.moments ≡ moments_with_all (take (passed_of x.fuse (length a)) a) old.moments)
    → IfSome middle_budget (λ x. HasRoomFor b x → new.moments ≡ moments_with_all (take (passed_of x.fuse (length b)) b)
    middle.moments)
    → IfSome budget (λ x. HasRoomFor (a ++ b) x
    → new.moments ≡ moments_with_all (take (passed_of x.fuse (length (a ++ b))) (a ++ b)) old.moments)
then_in None middle_budget a b cost old middle new asks takes first second = tt
then_in (Some budget) middle_budget a b cost old middle new asks takes first second = λ room.
    let long : length (a ++ b) ≡ length a + length b = length-append a b in
    let wide = bytes_together a b in
    let fits = takes.2 (omega (arith, asks.changes, room.0, long)) (omega (arith, asks.bytes, room.1, wide)) in
    let left : Budget = takes.0 in
    let Q : Option Budget → Type 0 = λ m. IfSome m (λ x. HasRoomFor b x
    → new.moments ≡ moments_with_all (take (passed_of x.fuse (length b)) b) middle.moments) in
    let next : HasRoomFor b left → new.moments ≡ moments_with_all (take (passed_of left.fuse (length b)) b) middle.moments =
    subst Q takes.1 second in
    let passed : true ≡ passes budget.fuse (length a) = fits.made ∙ ap (passes budget.fuse) asks.count in
    let done : middle.moments ≡ moments_with_all a old.moments =
    first (omega (arith, room.0, long), omega (arith, room.1, wide))
    ∙ ap (λ n. moments_with_all (take n a) old.moments) (all_passed budget.fuse (length a) passed)
    ∙ ap (λ calls. moments_with_all calls old.moments) (take_all (length a) a (omega arith)) in
    let lower : left.fuse ≡ fuse_after budget.fuse (length a) = fits.fuse ∙ ap (fuse_after budget.fuse) asks.count in
    let k : ℕ = passed_of (fuse_after budget.fuse (length a)) (length b) in
    let count : passed_of budget.fuse (length (a ++ b)) ≡ length a + k = ap (passed_of budget.fuse) long
    ∙ passed_on budget.fuse (length a) (length b) passed in
    next (omega (arith, room.0, long, fits.calls, asks.changes), omega (arith, room.1, wide, fits.bytes, asks.bytes))
    ∙ ap (λ fuse. moments_with_all (take (passed_of fuse (length b)) b) middle.moments) lower
    ∙ ap (moments_with_all (take k b)) done
    ∙ sym (made_one_by_one a (take k b) old.moments)
    ∙ sym (ap (λ calls. moments_with_all calls old.moments) (ap (λ n. take n (a ++ b)) count ∙ take-append-add a b k))

-- calls that were all made, and then others
pub passed_then : (a b : List Call) (cost : Cost) (old middle new : DiskState) → Asks a cost → MakesCalls cost true old middle
    → MakesThosePassed a old middle → MakesThosePassed b middle new → MakesThosePassed (a ++ b) old new
passed_then a b cost old middle new asks calls first second = then_in old.budget middle.budget a b cost old middle new asks
    calls.budget first second

failed_in : (budget after : Option Budget) (a b : List Call) (cost : Cost) (old new : DiskState) → Asks a cost
    → Takes cost false budget after
    → IfSome budget (λ x. HasRoomFor a x → new.moments ≡ moments_with_all (take (passed_of x.fuse (length a)) a) old.moments)
    → IfSome budget (λ x. HasRoomFor (a ++ b) x
    → new.moments ≡ moments_with_all (take (passed_of x.fuse (length (a ++ b))) (a ++ b)) old.moments)
failed_in None after a b cost old new asks takes first = tt
failed_in (Some budget) after a b cost old new asks takes first = λ room.
    let long : length (a ++ b) ≡ length a + length b = length-append a b in
    let wide = bytes_together a b in
    let fits = takes.2 (omega (arith, asks.changes, room.0, long)) (omega (arith, asks.bytes, room.1, wide)) in
    let stopped : false ≡ passes budget.fuse (length a) = fits.made ∙ ap (passes budget.fuse) asks.count in
    let short = passed_short budget.fuse (length a) (length b) stopped in
    let count : passed_of budget.fuse (length (a ++ b)) ≡ passed_of budget.fuse (length a) = ap (passed_of budget.fuse) long
    ∙ short.0 in
    first (omega (arith, room.0, long), omega (arith, room.1, wide))
    ∙ sym (ap (λ calls. moments_with_all calls old.moments) (ap (λ n. take n (a ++ b)) count
    ∙ take-append-le (passed_of budget.fuse (length a)) a b short.1))

-- calls of which one failed, and others that were not made then
pub passed_failed : (a b : List Call) (cost : Cost) (old new : DiskState) → Asks a cost → MakesCalls cost false old new
    → MakesThosePassed a old new → MakesThosePassed (a ++ b) old new
passed_failed a b cost old new asks calls first = failed_in old.budget new.budget a b cost old new asks calls.budget first

none_in : (budget : Option Budget) (old new : DiskState) → new.moments ≡ old.moments
    → IfSome budget (λ x. HasRoomFor [] x → new.moments ≡ moments_with_all (take (passed_of x.fuse 0) []) old.moments)
none_in None old new same = tt
none_in (Some budget) old new same = λ room. same
    ∙ sym (ap (λ calls. moments_with_all calls old.moments) (take_all (passed_of budget.fuse 0) [] (omega arith)))

-- no call
pub passed_none : (old new : DiskState) → new.moments ≡ old.moments → MakesThosePassed [] old new
passed_none old new same = none_in old.budget old new same
