-- How far the puts of a window's objects have come, and what a mark, an object that is done and one that is sealed leave of it.
use Rattle.std.proofs.Common.{arith, ◌≡◌, ℕ, ◌+◌, ◌<◌, ◌≤◌, nat_eq, Bool, true, false, cond, ◌&&◌, ◌||◌, List, [], ◌∷◌, ◌++◌}
use Rattle.std.proofs.Common.{refl, sym, ◌∙◌, ap, ◌⊎◌, inl, inr}
use Rattle.std.specs.Prelude.{if◌then◌else◌}
use Rattle.std.specs.List.{list_any}
use Rattle.std.proofs.Math.Bool.{or-true, or-false, and-false}
use Rattle.std.proofs.lemmas.Bool.{cases_eq, eq-eqb, ne_eqb}
use Rattle.stopped_volume.specs.Store.{PutState}
use Rattle.stopped_volume.specs.Store.PutState.{Acknowledged, GivenOut, Begun, NotBegun}
use Rattle.plain_disk.specs.Removals.{has}
use Rattle.upload_window.specs.declared.object.OpenObject.{OpenObject}
use Rattle.upload_window.specs.Window.{WindowState, Ascends, has_number, below_lowest, is_started, was_started, was_started_with}
use Rattle.upload_window.specs.Window.{with_started, without, entered, marked, acknowledged}
use Rattle.upload_window.proofs.Order.{at_most, none_open}
use Rattle.volume_owner.proofs.WindowLemmas.{marked_numbers}

-- ---- open numbers

-- an open number is past the objects below the window, and not past the last
open_above : (n low : ℕ) (objects : List OpenObject) (last : ℕ) → Ascends low objects last
    → list_any (has_number n) objects ≡ true
    → (low < n) × (n ≤ last)
open_above n low [] last ascends is = let bad : ⊥ = cc in absurd bad
open_above n low (object ∷ objects) last ascends is =
    let most = at_most object.number objects last ascends.1 in
    elim (cases_eq object.number n) [
      | inl same ↦ (omega (arith, ascends.0, same), omega (arith, most, same))
      | inr other ↦
          let not_here : nat_eq object.number n ≡ false = ne_eqb object.number n other in
          let later : list_any (has_number n) objects ≡ true = rw not_here at is in
          let rest = open_above n object.number objects last ascends.1 later in
          (omega (arith, ascends.0, rest.0), rest.1)
    ]

pub open_within : (n low : ℕ) (objects : List OpenObject) (last : ℕ) → Ascends low objects last
    → list_any (has_number n) objects ≡ true
    → (below_lowest objects last < n) × (n ≤ last)
open_within n low [] last ascends is = let bad : ⊥ = cc in absurd bad
open_within n low (object ∷ objects) last ascends is =
    let positive = ascends.0 in
    let most = (open_above n low (object ∷ objects) last ascends is).1 in
    elim (cases_eq object.number n) [
      | inl same ↦ (omega (arith, positive, same), most)
      | inr other ↦
          let not_here : nat_eq object.number n ≡ false = ne_eqb object.number n other in
          let later : list_any (has_number n) objects ≡ true = rw not_here at is in
          let above = (open_above n object.number objects last ascends.1 later).0 in
          (omega (arith, above), most)
    ]

-- none past the last is open
pub none_past : (n low : ℕ) (objects : List OpenObject) (last : ℕ) → Ascends low objects last → last < n
    → list_any (has_number n) objects ≡ false
none_past n low objects last ascends past =
    by_test (list_any (has_number n) objects) refl
  where
    by_test : (b : Bool) → list_any (has_number n) objects ≡ b → b ≡ false
    by_test false is = refl
    by_test true is = (let within = (open_above n low objects last ascends is).1 in absurd (omega (arith, within, past)))

-- one whose put is under way is open, and so is one whose put was ever begun
either_open : (b c d e : Bool) → (d ≡ true → e ≡ true) → ((b && c) || d) ≡ true → (b || e) ≡ true
either_open true c d e later is = refl
either_open false c d e later is = later is

pub started_open : (n : ℕ) (objects : List OpenObject) → is_started n objects ≡ true → list_any (has_number n) objects ≡ true
started_open n [] is = let bad : ⊥ = cc in absurd bad
started_open n (object ∷ objects) is =
    either_open (has_number n object) object.is_started (is_started n objects) (list_any (has_number n) objects)
    (started_open n objects) is

was_open : (n : ℕ) (objects : List OpenObject) → was_started n objects ≡ true → list_any (has_number n) objects ≡ true
was_open n [] is = let bad : ⊥ = cc in absurd bad
was_open n (object ∷ objects) is =
    either_open (has_number n object) object.was_started (was_started n objects) (list_any (has_number n) objects)
    (was_open n objects) is

-- ---- whose put was ever begun

was_other : (k n : ℕ) (started : Bool) (objects : List OpenObject) → (k ≡ n → ⊥)
    → was_started k (with_started n started objects) ≡ was_started k objects
was_other k n started [] other = refl
was_other k n started (object ∷ objects) other =
    let rest = was_other k n started objects other in
    elim (cases_eq object.number n) [
      | inl is ↦
          let here : nat_eq object.number n ≡ true = eq-eqb object.number n is in
          let not_k : nat_eq object.number k ≡ false = ne_eqb object.number k (λ e. other (sym e ∙ is)) in
          rw (here, not_k) refl
      | inr no_ ↦
          let not_here : nat_eq object.number n ≡ false = ne_eqb object.number n no_ in
          rw not_here (ap (λ b. was_started_with k object || b) rest)
    ]

-- it was once a put has begun
was_begun : (n : ℕ) (objects : List OpenObject) → list_any (has_number n) objects ≡ true
    → was_started n (with_started n true objects) ≡ true
was_begun n [] is = let bad : ⊥ = cc in absurd bad
was_begun n (object ∷ objects) is =
    elim (cases_eq object.number n) [
      | inl same ↦
          let here : nat_eq object.number n ≡ true = eq-eqb object.number n same in
          let began : (object.was_started || true) ≡ true = or-true object.was_started in
          rw (here, here, began) refl
      | inr other ↦
          let not_here : nat_eq object.number n ≡ false = ne_eqb object.number n other in
          let later : list_any (has_number n) objects ≡ true = rw not_here at is in
          let rest = was_begun n objects later in
          rw (not_here, not_here, rest) refl
    ]

-- and stays so where it fails
was_still : (k n : ℕ) (objects : List OpenObject) → was_started k (with_started n false objects) ≡ was_started k objects
was_still k n [] = refl
was_still k n (object ∷ objects) =
    let changed : OpenObject = record object { is_started = false; was_started = object.was_started || false } in
    let rest = was_still k n objects in
    let same : (object.was_started || false) ≡ object.was_started = or-false object.was_started in
    elim (has_number n object) as (λ b. was_started k (cond b (changed ∷ objects) (object ∷ with_started n false objects))
    ≡ was_started k (object ∷ objects)) [
      | true ↦ ap (λ w. (has_number k object && w) || was_started k objects) same
      | false ↦ ap (λ b. was_started_with k object || b) rest
    ]

-- ---- an object that is done

others_open : (k n : ℕ) (objects : List OpenObject) → (k ≡ n → ⊥)
    → list_any (has_number k) (without n objects) ≡ list_any (has_number k) objects
others_open k n [] other = refl
others_open k n (object ∷ objects) other =
    let rest = others_open k n objects other in
    elim (cases_eq object.number n) [
      | inl is ↦
          let here : nat_eq object.number n ≡ true = eq-eqb object.number n is in
          let not_k : nat_eq object.number k ≡ false = ne_eqb object.number k (λ e. other (sym e ∙ is)) in
          rw (here, not_k) refl
      | inr no_ ↦
          let not_here : nat_eq object.number n ≡ false = ne_eqb object.number n no_ in
          rw not_here (ap (λ b. has_number k object || b) rest)
    ]

others_was : (k n : ℕ) (objects : List OpenObject) → (k ≡ n → ⊥) → was_started k (without n objects) ≡ was_started k objects
others_was k n [] other = refl
others_was k n (object ∷ objects) other =
    let rest = others_was k n objects other in
    elim (cases_eq object.number n) [
      | inl is ↦
          let here : nat_eq object.number n ≡ true = eq-eqb object.number n is in
          let not_k : nat_eq object.number k ≡ false = ne_eqb object.number k (λ e. other (sym e ∙ is)) in
          rw (here, not_k) refl
      | inr no_ ↦
          let not_here : nat_eq object.number n ≡ false = ne_eqb object.number n no_ in
          rw not_here (ap (λ b. was_started_with k object || b) rest)
    ]

not_open_now : (n low : ℕ) (objects : List OpenObject) (last : ℕ) → Ascends low objects last
    → list_any (has_number n) (without n objects) ≡ false
not_open_now n low [] last ascends = refl
not_open_now n low (object ∷ objects) last ascends =
    let rest = not_open_now n object.number objects last ascends.1 in
    elim (cases_eq object.number n) [
      | inl is ↦
          let here : nat_eq object.number n ≡ true = eq-eqb object.number n is in
          rw here (none_open object.number objects last n ascends.1 (omega (arith, is)))
      | inr no_ ↦
          let not_here : nat_eq object.number n ≡ false = ne_eqb object.number n no_ in
          rw not_here (ap (λ b. has_number n object || b) rest ∙ ap (λ b. b || false) not_here)
    ]

-- ---- an object that is sealed

any_more : (test : OpenObject → Bool) (objects : List OpenObject) (object : OpenObject) → test object ≡ false
    → list_any test (objects ++ object ∷ []) ≡ list_any test objects
any_more test [] object no_ = rw no_ refl
any_more test (first ∷ objects) object no_ = ap (λ b. test first || b) (any_more test objects object no_)

any_last : (test : OpenObject → Bool) (objects : List OpenObject) (object : OpenObject) → test object ≡ true
    → list_any test (objects ++ object ∷ []) ≡ true
any_last test [] object yes_ = rw yes_ refl
any_last test (first ∷ objects) object yes_ =
    ap (λ b. test first || b) (any_last test objects object yes_) ∙ or-true (test first)

-- ---- how far a put has come

abbrev pub state_by : (was is_open given : Bool) → PutState
state_by was is_open given = if was then Begun else (if is_open then NotBegun else (if given then GivenOut else Acknowledged))

-- how far the object of a number has come, by the window and by what was given out for removal
abbrev pub put_state : WindowState → (given_out : List ℕ) → ℕ → PutState
put_state window given_out n =
    state_by (was_started n window.objects) (list_any (has_number n) window.objects) (has given_out n)

state_same : (was was_now is_open open_now given : Bool) → was_now ≡ was → open_now ≡ is_open
    → state_by was_now open_now given ≡ state_by was is_open given
state_same was was_now is_open open_now given same_was same_open =
    ap (λ b. state_by b open_now given) same_was ∙ ap (λ b. state_by was b given) same_open

-- one that was begun is open
begun_by : (was is_open given : Bool) → state_by was is_open given ≡ Begun → was ≡ true
begun_by true is_open given is = refl
begun_by false true given is = let bad : ⊥ = cc in absurd bad
begun_by false false true is = let bad : ⊥ = cc in absurd bad
begun_by false false false is = let bad : ⊥ = cc in absurd bad

pub begun_open : (window : WindowState) (given_out : List ℕ) (n : ℕ) → put_state window given_out n ≡ Begun
    → list_any (has_number n) window.objects ≡ true
begun_open window given_out n is =
    was_open n window.objects
    (begun_by (was_started n window.objects) (list_any (has_number n) window.objects) (has given_out n) is)

-- one that is open is begun or is not
open_by : (was is_open given : Bool) → is_open ≡ true
    → (state_by was is_open given ≡ Begun) ⊎ (state_by was is_open given ≡ NotBegun)
open_by true is_open given yes_ = inl refl
open_by false true given yes_ = inr refl
open_by false false given yes_ = let bad : ⊥ = cc in absurd bad

pub open_waits : (window : WindowState) (given_out : List ℕ) (n : ℕ) → list_any (has_number n) window.objects ≡ true
    → (put_state window given_out n ≡ Begun) ⊎ (put_state window given_out n ≡ NotBegun)
open_waits window given_out n open_ =
    open_by (was_started n window.objects) (list_any (has_number n) window.objects) (has given_out n) open_

pub was_begun_is : (window : WindowState) (given_out : List ℕ) (n : ℕ) → was_started n window.objects ≡ true
    → put_state window given_out n ≡ Begun
was_begun_is window given_out n was =
    ap (λ b. state_by b (list_any (has_number n) window.objects) (has given_out n)) was

-- a put fails: each has come as far as before
pub failed_state : (window : WindowState) (given_out : List ℕ) (k n : ℕ)
    → put_state (marked n false window) given_out k ≡ put_state window given_out k
failed_state window given_out k n =
    state_same (was_started k window.objects) (was_started k (with_started n false window.objects))
    (list_any (has_number k) window.objects) (list_any (has_number k) (with_started n false window.objects)) (has given_out k)
    (was_still k n window.objects) (marked_numbers k n false window.objects)

-- a put begins: the others have, and it has begun
pub begun_others : (window : WindowState) (given_out : List ℕ) (k n : ℕ) → (k ≡ n → ⊥)
    → put_state (marked n true window) given_out k ≡ put_state window given_out k
begun_others window given_out k n other =
    state_same (was_started k window.objects) (was_started k (with_started n true window.objects))
    (list_any (has_number k) window.objects) (list_any (has_number k) (with_started n true window.objects)) (has given_out k)
    (was_other k n true window.objects other) (marked_numbers k n true window.objects)

pub begun_itself : (window : WindowState) (given_out : List ℕ) (n : ℕ) → list_any (has_number n) window.objects ≡ true
    → put_state (marked n true window) given_out n ≡ Begun
begun_itself window given_out n open_ = was_begun_is (marked n true window) given_out n (was_begun n window.objects open_)

-- a put is done: the others have, and it is acknowledged
pub done_others : (window : WindowState) (given_out : List ℕ) (k n : ℕ) → (k ≡ n → ⊥)
    → put_state (acknowledged n window) given_out k ≡ put_state window given_out k
done_others window given_out k n other =
    state_same (was_started k window.objects) (was_started k (without n window.objects))
    (list_any (has_number k) window.objects) (list_any (has_number k) (without n window.objects)) (has given_out k)
    (others_was k n window.objects other) (others_open k n window.objects other)

not_open_by : (was is_open given : Bool) → (was ≡ true → is_open ≡ true) → is_open ≡ false
    → state_by was is_open given ≡ (if given then GivenOut else Acknowledged)
not_open_by true is_open given opens none = (let open_ = opens refl in let bad : ⊥ = cc in absurd bad)
not_open_by false is_open given opens none = ap (λ b. state_by false b given) none

-- one that is not open is acknowledged, or was given out
pub closed_state : (window : WindowState) (given_out : List ℕ) (n : ℕ) → list_any (has_number n) window.objects ≡ false
    → put_state window given_out n ≡ (if has given_out n then GivenOut else Acknowledged)
closed_state window given_out n none =
    not_open_by (was_started n window.objects) (list_any (has_number n) window.objects) (has given_out n)
    (was_open n window.objects) none

pub done_itself : (window : WindowState) (given_out : List ℕ) (n : ℕ) → Ascends 0 window.objects window.last
    → has given_out n ≡ false → put_state (acknowledged n window) given_out n ≡ Acknowledged
done_itself window given_out n order not_given =
    closed_state (acknowledged n window) given_out n (not_open_now n 0 window.objects window.last order)
    ∙ ap (λ b. if b then GivenOut else Acknowledged) not_given

-- an object is sealed: the others have, and its put was not begun
abbrev new_object : ℕ → Bool → OpenObject
new_object number is_checkpoint =
    record { number = number; is_checkpoint = is_checkpoint; is_started = false; was_started = false }

pub sealed_others : (window : WindowState) (given_out : List ℕ) (is_checkpoint : Bool) (k : ℕ) → (k ≡ window.last + 1 → ⊥)
    → put_state (entered (window.last + 1) is_checkpoint window) given_out k ≡ put_state window given_out k
sealed_others window given_out is_checkpoint k other =
    let object : OpenObject = new_object (window.last + 1) is_checkpoint in
    let not_it : has_number k object ≡ false = ne_eqb (window.last + 1) k (λ e. other (sym e)) in
    state_same (was_started k window.objects) (was_started k (window.objects ++ object ∷ []))
    (list_any (has_number k) window.objects) (list_any (has_number k) (window.objects ++ object ∷ [])) (has given_out k)
    (any_more (was_started_with k) window.objects object (and-false (has_number k object)))
    (any_more (has_number k) window.objects object not_it)

not_begun_by : (was is_open given : Bool) → was ≡ false → is_open ≡ true → state_by was is_open given ≡ NotBegun
not_begun_by was is_open given not_was open_ =
    ap (λ b. state_by b is_open given) not_was ∙ ap (λ b. state_by false b given) open_

not_was : (n : ℕ) (objects : List OpenObject) → list_any (has_number n) objects ≡ false → was_started n objects ≡ false
not_was n objects none = by_test (was_started n objects) refl
  where
    by_test : (b : Bool) → was_started n objects ≡ b → b ≡ false
    by_test false is = refl
    by_test true is = (let open_ = was_open n objects is in let bad : ⊥ = cc in absurd bad)

pub sealed_itself : (window : WindowState) (given_out : List ℕ) (is_checkpoint : Bool) → Ascends 0 window.objects window.last
    → put_state (entered (window.last + 1) is_checkpoint window) given_out (window.last + 1) ≡ NotBegun
sealed_itself window given_out is_checkpoint order =
    let n : ℕ = window.last + 1 in
    let object : OpenObject = new_object n is_checkpoint in
    let none : list_any (has_number n) window.objects ≡ false = none_past n 0 window.objects window.last order (omega arith) in
    not_begun_by (was_started n (window.objects ++ object ∷ [])) (list_any (has_number n) (window.objects ++ object ∷ []))
    (has given_out n)
    (any_more (was_started_with n) window.objects object (and-false (has_number n object)) ∙ not_was n window.objects none)
    (any_last (has_number n) window.objects object (eq-eqb n n refl))
