-- The objects on their way to the store, of which no put is under way between the calls of an owner.
use Rattle.std.proofs.Common.{arith, ◌≡◌, ℕ, suc, ◌+◌, ◌≤◌, nat_eq, nat_lt, Bool, true, false, cond, not, ◌&&◌, ◌||◌, List, []}
use Rattle.std.proofs.Common.{◌∷◌, ◌++◌, length, refl, ◌∙◌, ap, inl, inr}
use Rattle.std.specs.Prelude.{Some, None, option_map, find}
use Rattle.std.specs.List.{list_any}
use Rattle.std.proofs.Math.Bool.{or-true}
use Rattle.std.proofs.lemmas.Bool.{cases_eq, eq-eqb, ne_eqb}
use Rattle.std.proofs.lemmas.Bool.Decides.{nat_tests}
use Rattle.upload_window.specs.declared.object.OpenObject.{OpenObject}
use Rattle.upload_window.specs.Window.{Ascends, has_number, is_ready, lowest_ready, is_started, with_started, without}

-- the put of some object is under way
abbrev pub any_started : List OpenObject → Bool
any_started objects = list_any (λ (object : OpenObject). object.is_started) objects

-- ---- where none is

either_false : (a b : Bool) → (a || b) ≡ false → (a ≡ false) × (b ≡ false)
either_false true b none = let bad : ⊥ = cc in absurd bad
either_false false b none = (refl, none)

-- the first of some is not, nor any of the others
pub none_started_first : (object : OpenObject) (objects : List OpenObject) → any_started (object ∷ objects) ≡ false
    → (object.is_started ≡ false) × (any_started objects ≡ false)
none_started_first object objects none = either_false object.is_started (any_started objects) none

-- none of those past a number has a lower one
none_lower : (n low : ℕ) (objects : List OpenObject) (last : ℕ) → Ascends low objects last → n ≤ low
    → list_any (λ (other : OpenObject). nat_lt other.number n) objects ≡ false
none_lower n low [] last ascends within = refl
none_lower n low (object ∷ objects) last ascends within =
    let not_lower : nat_lt object.number n ≡ false = (let above = ascends.0 in grind (arith, nat_tests)) in
    ap (λ b. b || list_any (λ (other : OpenObject). nat_lt other.number n) objects) not_lower
    ∙ none_lower n object.number objects last ascends.1 (omega (arith, ascends.0, within))

ready_by : (started checkpoint lower : Bool) → started ≡ false → lower ≡ false
    → (not started && (not checkpoint || not lower)) ≡ true
ready_by started true lower not_started none = rw (not_started, none) refl
ready_by started false lower not_started none = rw not_started refl

-- so the first is ready, unless there is none
pub none_is_ready : (low : ℕ) (objects : List OpenObject) (last : ℕ) → Ascends low objects last → any_started objects ≡ false
    → lowest_ready objects ≡ None → objects ≡ []
none_is_ready low [] last ascends none lowest = refl
none_is_ready low (object ∷ objects) last ascends none lowest =
    let first = none_started_first object objects none in
    let own : nat_lt object.number object.number ≡ false = grind (arith, nat_tests) in
    let lower : list_any (λ (other : OpenObject). nat_lt other.number object.number) (object ∷ objects) ≡ false =
    ap (λ b. b || list_any (λ (other : OpenObject). nat_lt other.number object.number) objects) own
    ∙ none_lower object.number object.number objects last ascends.1 (omega arith) in
    let ready : is_ready (object ∷ objects) object ≡ true =
    ready_by object.is_started object.is_checkpoint
    (list_any (λ (other : OpenObject). nat_lt other.number object.number) (object ∷ objects)) first.0 lower in
    let found = ap (λ (b : Bool). option_map (λ (o : OpenObject). o.number)
    (cond b (Some object) (find (is_ready (object ∷ objects)) objects))) ready in
    let bad : ⊥ = cc in
    absurd bad

-- ---- a put begins

pub started_once : (n : ℕ) (objects : List OpenObject) → list_any (has_number n) objects ≡ true
    → is_started n (with_started n true objects) ≡ true
started_once n [] open_ = let bad : ⊥ = cc in absurd bad
started_once n (object ∷ objects) open_ =
    elim (cases_eq object.number n) [
      | inl same ↦ (let here : nat_eq object.number n ≡ true = eq-eqb object.number n same in rw (here, here) refl)
      | inr other ↦
          let not_here : nat_eq object.number n ≡ false = ne_eqb object.number n other in
          let later : list_any (has_number n) objects ≡ true = rw not_here at open_ in
          let rest = started_once n objects later in
          rw (not_here, not_here, rest) refl
    ]

-- and without it none would be under way
pub begun_alone : (n : ℕ) (objects : List OpenObject) → any_started objects ≡ false
    → any_started (with_started n false (with_started n true objects)) ≡ false
begun_alone n [] none = refl
begun_alone n (object ∷ objects) none =
    let first = none_started_first object objects none in
    let started = first.0 in
    let none_later = first.1 in
    elim (cases_eq object.number n) [
      | inl same ↦ (let here : nat_eq object.number n ≡ true = eq-eqb object.number n same in rw (here, here) none_later)
      | inr other ↦
          let not_here : nat_eq object.number n ≡ false = ne_eqb object.number n other in
          let rest = begun_alone n objects none_later in
          rw (not_here, not_here, started) rest
    ]

-- ---- a put is done

pub without_shorter : (n : ℕ) (objects : List OpenObject) → is_started n objects ≡ true
    → length (without n objects) + 1 ≡ length objects
without_shorter n [] is = let bad : ⊥ = cc in absurd bad
without_shorter n (object ∷ objects) is =
    elim (cases_eq object.number n) [
      | inl same ↦ (let here : nat_eq object.number n ≡ true = eq-eqb object.number n same in rw here (omega arith))
      | inr other ↦
          let not_here : nat_eq object.number n ≡ false = ne_eqb object.number n other in
          let later : is_started n objects ≡ true = rw not_here at is in
          let rest = without_shorter n objects later in
          rw not_here (omega (arith, rest))
    ]

pub without_it : (n : ℕ) (objects : List OpenObject) → any_started (with_started n false objects) ≡ false
    → any_started (without n objects) ≡ false
without_it n [] none = refl
without_it n (object ∷ objects) none =
    elim (cases_eq object.number n) [
      | inl same ↦
          let here : nat_eq object.number n ≡ true = eq-eqb object.number n same in
          let now : any_started objects ≡ false = rw here at none in
          rw here now
      | inr other ↦
          let not_here : nat_eq object.number n ≡ false = ne_eqb object.number n other in
          let now : any_started (object ∷ with_started n false objects) ≡ false = rw not_here at none in
          let first = none_started_first object (with_started n false objects) now in
          let started = first.0 in
          let rest = without_it n objects first.1 in
          rw (not_here, started) rest
    ]

-- ---- an object is sealed

pub entered_none : (objects : List OpenObject) (object : OpenObject) → any_started objects ≡ false → object.is_started ≡ false
    → any_started (objects ++ object ∷ []) ≡ false
entered_none [] object none not_started = rw not_started refl
entered_none (first ∷ objects) object none not_started =
    let parts = none_started_first first objects none in
    let started = parts.0 in
    let rest = entered_none objects object parts.1 not_started in
    rw started rest

-- ---- numbers that are open

pub ready_is_open : (n : ℕ) (test : OpenObject → Bool) (objects : List OpenObject)
    → option_map (λ (object : OpenObject). object.number) (find test objects) ≡ Some n → list_any (has_number n) objects ≡ true
ready_is_open n test [] is = cc
ready_is_open n test (object ∷ objects) is =
    let more = ready_is_open n test objects in
    elim (test object) as (λ b. option_map (λ (o : OpenObject). o.number) (cond b (Some object) (find test objects)) ≡ Some n
    → list_any (has_number n) (object ∷ objects) ≡ true) [
      | true ↦ λ i.
          let same : object.number ≡ n = cc in
          let here : nat_eq object.number n ≡ true = eq-eqb object.number n same in
          rw here refl
      | false ↦ λ i. (let rest = more i in rw rest (or-true (has_number n object)))
    ] is

-- a mark leaves them
pub marked_numbers : (k n : ℕ) (started : Bool) (objects : List OpenObject)
    → list_any (has_number k) (with_started n started objects) ≡ list_any (has_number k) objects
marked_numbers k n started [] = refl
marked_numbers k n started (object ∷ objects) =
    let changed : OpenObject = record object { is_started = started; was_started = object.was_started || started } in
    let rest = marked_numbers k n started objects in
    elim (has_number n object) as (λ b. list_any (has_number k)
    (cond b (changed ∷ objects) (object ∷ with_started n started objects))
    ≡ list_any (has_number k) (object ∷ objects)) [
      | true ↦ refl
      | false ↦ ap (λ b. has_number k object || b) rest
    ]

pub marked_long : (n : ℕ) (started : Bool) (objects : List OpenObject) → length (with_started n started objects) ≡ length objects
marked_long n started [] = refl
marked_long n started (object ∷ objects) =
    let changed : OpenObject = record object { is_started = started; was_started = object.was_started || started } in
    let rest = marked_long n started objects in
    elim (has_number n object) as (λ b. length (cond b (changed ∷ objects) (object ∷ with_started n started objects))
    ≡ suc (length objects)) [
      | true ↦ refl
      | false ↦ ap suc rest
    ]
