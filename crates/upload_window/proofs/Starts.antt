-- A window in order, of whose objects each that is started was started, stays so.
use Rattle.std.proofs.Common.{ℕ, ◌<◌, ◌≡◌, Bool, true, false, ◌||◌, cond, IsTrue, List, [], ◌∷◌, ◌++◌, length, sym, ◌∙◌, ap}
use Rattle.std.proofs.Common.{subst, arith}
use Rattle.std.specs.List.{All, refill}
use Rattle.std.proofs.Math.Bool.{or-true}
use Rattle.std.proofs.lemmas.Grind.{common_steps}
use Rattle.std.proofs.lemmas.List.Elements.{All-nil, All-cons, All-head, All-tail, All-append}
use Rattle.upload_window.specs.declared.object.OpenObject.{OpenObject}
use Rattle.upload_window.specs.Window.{IsWindow, has_number, is_started, was_started, StartedNumbersWereStarted, with_started}
use Rattle.upload_window.specs.Window.{without}
use Rattle.upload_window.proofs.Order.{order_with, order_without, order_entered}

abbrev Keeps : OpenObject → Type 0
Keeps object = IsTrue object.is_started → IsTrue object.was_started

keeps_with : (number : ℕ) (started : Bool) (objects : List OpenObject) → All Keeps objects
    → All Keeps (with_started number started objects)
keeps_with number started [] all = all
keeps_with number started (object ∷ objects) all =
    let changed : OpenObject = record object { is_started = started; was_started = object.was_started || started } in
    let here : Keeps changed = λ is. ap (λ b. object.was_started || b) is ∙ or-true object.was_started in
    let rest = All-tail Keeps object objects all in
    elim (has_number number object) as (λ b.
    All Keeps (cond b (changed ∷ objects) (object ∷ with_started number started objects))) [
      | true ↦ All-cons Keeps changed objects here rest
      | false ↦ All-cons Keeps object (with_started number started objects) (All-head Keeps object objects all)
          (keeps_with number started objects rest)
    ]

keeps_without : (number : ℕ) (objects : List OpenObject) → All Keeps objects → All Keeps (without number objects)
keeps_without number [] all = all
keeps_without number (object ∷ objects) all =
    let rest = All-tail Keeps object objects all in
    elim (has_number number object) as (λ b. All Keeps (cond b objects (object ∷ without number objects))) [
      | true ↦ rest
      | false ↦ All-cons Keeps object (without number objects) (All-head Keeps object objects all)
          (keeps_without number objects rest)
    ]

pub window_without : (number : ℕ) (objects : List OpenObject) (last : ℕ) → IsWindow (record { last = last; objects = objects })
    → IsWindow (record { last = last; objects = without number objects })
window_without number objects last is = record {
  order = order_without 0 number objects last is.order;
  starts = keeps_without number objects is.starts;
}

pub window_entered : (objects : List OpenObject) (last : ℕ) (object : OpenObject) → last < object.number
    → object.is_started ≡ false
    → IsWindow (record { last = last; objects = objects })
    → IsWindow (record { last = object.number; objects = objects ++ object ∷ [] })
window_entered objects last object above fresh is = record {
  order = order_entered 0 objects last object above is.order;
  starts = All-append Keeps objects (object ∷ []) is.starts (All-cons Keeps object [] (λ started. cc) (All-nil Keeps));
}

-- all elements of a list were written
refilled : (xs ws : List OpenObject) → length ws ≡ length xs → refill (length xs) xs ws ≡ ws
refilled xs ws same = grind (arith, common_steps)

pub window_marked : (number : ℕ) (started : Bool) (objects now new : List OpenObject) (last : ℕ) → now ≡ objects
    → length new ≡ length objects → new ≡ with_started number started now → IsWindow (record { last = last; objects = objects })
    → IsWindow (record { last = last; objects = refill (length objects) objects new })
window_marked number started objects now new last same long written is =
    let all = refilled objects new long ∙ written ∙ ap (λ xs. with_started number started xs) same in
    subst (λ (xs : List OpenObject). IsWindow (record { last = last; objects = xs })) (sym all) (record {
      order = order_with 0 number started objects last is.order;
      starts = keeps_with number started objects is.starts;
    })

was_if_is : (number : ℕ) (objects : List OpenObject) → All Keeps objects → IsTrue (is_started number objects)
    → IsTrue (was_started number objects)
was_if_is number [] all is = is
was_if_is number (object ∷ objects) all is =
    let here = All-head Keeps object objects all in
    let rest = was_if_is number objects (All-tail Keeps object objects all) in
    grind (arith, here, rest)

pub started_were : StartedNumbersWereStarted
started_were window starts number is = was_if_is number window.objects starts is
