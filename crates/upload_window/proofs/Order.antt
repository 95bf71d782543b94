-- Objects in ascending order, and the frontier below them.
use Rattle.std.proofs.Common.{ℕ, zero, suc, ◌-◌, ◌<◌, ◌≤◌, ◌≡◌, Bool, true, false, ◌||◌, cond, nat_eq, Some, List, [], ◌∷◌, ◌++◌}
use Rattle.std.proofs.Common.{slice_get, refl, sym, subst, arith}
use Rattle.std.specs.List.{list_any}
use Rattle.std.proofs.lemmas.Bool.Decides.{nat_tests}
use Rattle.upload_window.specs.declared.object.OpenObject.{OpenObject}
use Rattle.upload_window.specs.Window.{WindowState, Ascends, has_number, IsAcknowledgedTo, IsFrontier, below_lowest, below_open}
use Rattle.upload_window.specs.Window.{HasFrontierBelowOpen, with_started, without}

pub at_most : (low : ℕ) (objects : List OpenObject) (last : ℕ) → Ascends low objects last → low ≤ last
at_most low [] last order = order
at_most low (object ∷ objects) last order =
    let rest = at_most object.number objects last order.1 in omega (arith, order.0, rest)

pub from_lower : (lower low : ℕ) (objects : List OpenObject) (last : ℕ) → lower ≤ low → Ascends low objects last
    → Ascends lower objects last
from_lower lower low [] last is order = omega arith
from_lower lower low (object ∷ objects) last is order = (omega (arith, order.0), order.1)

pub order_with : (low number : ℕ) (started : Bool) (objects : List OpenObject) (last : ℕ) → Ascends low objects last
    → Ascends low (with_started number started objects) last
order_with low number started [] last order = order
order_with low number started (object ∷ objects) last order =
    elim (has_number number object) as (λ b.
    Ascends low (cond b (record object { is_started = started; was_started = object.was_started || started } ∷ objects)
    (object ∷ with_started number started objects)) last) [
      | true ↦ (order.0, order.1)
      | false ↦ (order.0, order_with object.number number started objects last order.1)
    ]

pub order_without : (low number : ℕ) (objects : List OpenObject) (last : ℕ) → Ascends low objects last
    → Ascends low (without number objects) last
order_without low number [] last order = order
order_without low number (object ∷ objects) last order =
    elim (has_number number object) as (λ b. Ascends low (cond b objects (object ∷ without number objects)) last) [
      | true ↦ from_lower low object.number objects last (omega (arith, order.0)) order.1
      | false ↦ (order.0, order_without object.number number objects last order.1)
    ]

pub order_entered : (low : ℕ) (objects : List OpenObject) (last : ℕ) (object : OpenObject) → last < object.number
    → Ascends low objects last
    → Ascends low (objects ++ object ∷ []) object.number
order_entered low [] last object above order = (omega arith, omega arith)
order_entered low (first ∷ objects) last object above order =
    (order.0, order_entered first.number objects last object above order.1)

-- no number up to `low` is open
pub none_open : (low : ℕ) (objects : List OpenObject) (last number : ℕ) → Ascends low objects last → number ≤ low
    → list_any (has_number number) objects ≡ false
none_open low [] last number order below = refl
none_open low (object ∷ objects) last number order below =
    let above = order.0 in
    let not_here : nat_eq object.number number ≡ false = grind (arith, nat_tests) in
    let rest = none_open object.number objects last number order.1 (omega arith) in
    rw (not_here, rest) refl

pub its_open : (object : OpenObject) (objects : List OpenObject) → list_any (has_number object.number) (object ∷ objects) ≡ true
its_open object objects =
    let here : nat_eq object.number object.number ≡ true = grind (arith, nat_tests) in rw here refl

pub no_further : (window : WindowState) (to : ℕ) → IsAcknowledgedTo window to → to ≤ window.last
no_further window zero all = omega arith
no_further window (suc n) all = (all (suc n) (omega arith) (omega arith)).was_entered

pub is_frontier : (objects : List OpenObject) (last : ℕ) → Ascends 0 objects last
    → IsFrontier (record { last = last; objects = objects }) (below_lowest objects last)
is_frontier [] last order = record {
  reached = λ number some below. record { was_entered = below; not_open = refl };
  greatest = λ to all. no_further (record { last = last; objects = [] }) to all;
}
is_frontier (object ∷ objects) last order =
    let some = order.0 in
    let rest = at_most object.number objects last order.1 in record {
      reached = λ number from below. record {
        was_entered = omega arith;
        not_open = none_open (object.number - 1) (object ∷ objects) last number (omega arith, order.1) below;
      };
      greatest = λ to all.
          let open_there : object.number ≤ to → ⊥ = λ reached. (let h = (all object.number some reached).not_open in let h2 =
          its_open object objects in cc) in
          omega (arith, open_there);
    }

pub one_frontier : HasFrontierBelowOpen
one_frontier window order frontier =
    let is = is_frontier window.objects window.last order in (
      λ other.
          let up = is.greatest frontier other.reached in
          let down = other.greatest (below_open window) is.reached in
          omega (arith, up, down),
      λ same. subst (IsFrontier window) (sym same) is,
    )

pub frontier_at : (objects : List OpenObject) (last : ℕ) (first : OpenObject) → Ascends 0 objects last
    → slice_get objects 0 ≡ Some first
    → IsFrontier (record { last = last; objects = objects }) (first.number - 1)
frontier_at [] last first order is = cc
frontier_at (object ∷ objects) last first order is =
    let e : object ≡ first = cc in
    subst (λ (o : OpenObject). IsFrontier (record { last = last; objects = object ∷ objects }) (o.number - 1)) e
    (is_frontier (object ∷ objects) last order)
