-- The lowest ready object, by the lowest open number.
use Rattle.std.proofs.Common.{ℕ, ◌≤◌, ◌≡◌, Bool, true, false, cond, not, ◌&&◌, ◌||◌, nat_lt, nat_le, Option, option_map, Some}
use Rattle.std.proofs.Common.{None, List, [], ◌∷◌, get_or, slice_get, refl, subst, ◌∙◌, ap, arith, sym, inl, inr}
use Rattle.std.specs.List.{list_any, find, position}
use Rattle.std.proofs.lemmas.Bool.Decides.{nat_tests, leb_tells}
use Rattle.upload_window.specs.declared.object.OpenObject.{OpenObject}
use Rattle.upload_window.specs.Window.{Ascends, has_number, is_ready, is_ready_number, lowest_ready}
use Rattle.upload_window.specs.Ready.{may_start, number_may_start}
use Rattle.upload_window.proofs.Places.{first_place, nowhere, found, found_none}

-- no number is below `low`
pub none_below : (low : ℕ) (objects : List OpenObject) (last number : ℕ) → Ascends low objects last → number ≤ low
    → list_any (λ other. nat_lt other.number number) objects ≡ false
none_below low [] last number order below = refl
none_below low (object ∷ objects) last number order below =
    let above = order.0 in
    let not_here : nat_lt object.number number ≡ false = grind (arith, nat_tests) in
    let rest = none_below object.number objects last number order.1 (omega arith) in
    rw (not_here, rest) refl

-- a lower number is open where the lowest is lower
pub any_lower : (low : ℕ) (first : OpenObject) (objects : List OpenObject) (last number : ℕ) → Ascends low (first ∷ objects) last
    → not (list_any (λ other. nat_lt other.number number) (first ∷ objects)) ≡ nat_le number first.number
any_lower low first objects last number order =
    elim (leb_tells number first.number) [
      | inl (is, le) ↦
          let not_here : nat_lt first.number number ≡ false = grind (arith, nat_tests) in
          let rest = none_below first.number objects last number order.1 le in
          rw (not_here, rest) (sym is)
      | inr (is, gt) ↦
          let here : nat_lt first.number number ≡ true = grind (arith, nat_tests) in
          rw here (sym is)
    ]

pub same_ready : (low : ℕ) (first : OpenObject) (objects : List OpenObject) (last : ℕ) → Ascends low (first ∷ objects) last
    → (object : OpenObject) → is_ready (first ∷ objects) object ≡ may_start first.number object
same_ready low first objects last order object =
    ap (λ b. not object.is_started && (not object.is_checkpoint || b)) (any_lower low first objects last object.number order)

module _ {X : Type 0} where
  pub find_same : (p q : X → Bool) (xs : List X) → ((x : X) → p x ≡ q x) → find p xs ≡ find q xs
  find_same p q [] same = refl
  find_same p q (x ∷ xs) same =
      ap (λ b. cond b (Some x) (find p xs)) (same x) ∙ ap (λ rest. cond (q x) (Some x) rest) (find_same p q xs same)

  pub any_same : (p q : X → Bool) (xs : List X) → ((x : X) → p x ≡ q x) → list_any p xs ≡ list_any q xs
  any_same p q [] same = refl
  any_same p q (x ∷ xs) same = ap (λ b. b || list_any p xs) (same x) ∙ ap (λ rest. q x || rest) (any_same p q xs same)

-- whether a number is ready, by the lowest open number
pub ready_by : (number : ℕ) (objects : List OpenObject) (last : ℕ) (first : OpenObject) → Ascends 0 objects last
    → slice_get objects 0 ≡ Some first → number_may_start number first.number objects ≡ is_ready_number number objects
ready_by number [] last first order is = cc
ready_by number (object ∷ objects) last first order is =
    let all = object ∷ objects in
    let e : first ≡ object = cc in
    subst (λ (o : OpenObject). number_may_start number o.number all ≡ is_ready_number number all) (sym e)
    (any_same (λ x. has_number number x && may_start object.number x) (λ x. has_number number x && is_ready all x) all
    (λ x. ap (λ b. has_number number x && b) (sym (same_ready 0 object objects last order x))))

lowest_by : (first : OpenObject) (objects : List OpenObject) (last : ℕ) → Ascends 0 (first ∷ objects) last
    → lowest_ready (first ∷ objects) ≡ option_map (λ object. object.number) (find (may_start first.number) (first ∷ objects))
lowest_by first objects last order =
    let all = first ∷ objects in
    ap (λ (o : Option OpenObject). option_map (λ object. object.number) o)
    (find_same (is_ready all) (may_start first.number) all (same_ready 0 first objects last order))

-- the place of the lowest ready object
pub lowest_at : (objects : List OpenObject) (last : ℕ) (first : OpenObject) (i : ℕ) (d : OpenObject) → Ascends 0 objects last
    → slice_get objects 0 ≡ Some first → position (may_start first.number) objects ≡ Some i
    → Some (get_or objects i d).number ≡ lowest_ready objects
lowest_at [] last first i d order is at = cc
lowest_at (object ∷ objects) last first i d order is at =
    let all = object ∷ objects in
    let e : first ≡ object = cc in
    let here = subst (λ (o : OpenObject). position (may_start o.number) all ≡ Some i) e at in
    sym (lowest_by object objects last order
    ∙ ap (λ (o : Option OpenObject). option_map (λ object. object.number) o)
    (found (may_start object.number) all i d (first_place (may_start object.number) all i d here)))

pub lowest_none : (objects : List OpenObject) (last : ℕ) (first : OpenObject) → Ascends 0 objects last
    → slice_get objects 0 ≡ Some first → position (may_start first.number) objects ≡ None
    → None ≡ lowest_ready objects
lowest_none [] last first order is at = cc
lowest_none (object ∷ objects) last first order is at =
    let all = object ∷ objects in
    let e : first ≡ object = cc in
    let here = subst (λ (o : OpenObject). position (may_start o.number) all ≡ None) e at in
    sym (lowest_by object objects last order
    ∙ ap (λ (o : Option OpenObject). option_map (λ object. object.number) o)
    (found_none (may_start object.number) all object (nowhere (may_start object.number) all object here)))
