-- The objects under way beside the open objects of a window, and what the steps of puts make of both.
use Rattle.std.proofs.Common.{◌≡◌, ℕ, ◌<◌, ◌≤◌, ◌==◌, ◌⊎◌, nat_eq, nat_lt, Bool, true, false, cond, ◌&&◌, ◌||◌, List, [], ◌∷◌}
use Rattle.std.proofs.Common.{map, refl, sym, ◌∙◌, ap, subst, inl, inr, arith}
use Rattle.std.specs.Prelude.{Some, None, option_map, find, IsTrue}
use Rattle.std.specs.List.{All, AllByRecursion, list_any, filter}
use Rattle.std.proofs.Math.Bool.{or-true, or-false, and-false}
use Rattle.std.proofs.lemmas.Bool.{cases_eq, cases_lt, eq-eqb, ne_eqb, lt-ltb, le-ltb}
use Rattle.std.proofs.lemmas.List.Elements.{All-head, All-tail}
use Rattle.upload_window.specs.declared.object.OpenObject.{OpenObject}
use Rattle.upload_window.specs.Window.{Ascends, has_number, is_started, with_started, without}
use Rattle.upload_window.proofs.Order.{at_most, none_open}
use Rattle.replay_rig.specs.Puts.{PutView, put_of, is_put_out, out_put, with_begun, with_failed, without_put, lowest_out}
use Rattle.replay_rig.specs.Puts.{lowest_started}
use Rattle.replay_rig.specs.Rig.{AreUnderWay, IsFirstUnderWay}

-- ---- their numbers

numbers_by : (object : OpenObject) (objects : List OpenObject) (puts : List PutView) (b : Bool)
    → ((more : List PutView) → AreUnderWay objects more
    → map (λ (put : PutView). put.number) more ≡ map (λ (o : OpenObject). o.number)
    (filter (λ (o : OpenObject). o.was_started) objects))
    → IsFirstUnderWay b object puts (AreUnderWay objects)
    → map (λ (put : PutView). put.number) puts
    ≡ map (λ (o : OpenObject). o.number)
    (cond b (object ∷ filter (λ (o : OpenObject). o.was_started) objects) (filter (λ (o : OpenObject). o.was_started) objects))
numbers_by object objects [] true more are = absurd are
numbers_by object objects (put ∷ puts) true more are =
    ap (λ k. k ∷ map (λ (p : PutView). p.number) puts) are.0 ∙ ap (λ ks. object.number ∷ ks) (more puts are.2)
numbers_by object objects puts false more are = more puts are

pub under_way_numbers : (objects : List OpenObject) (puts : List PutView) → AreUnderWay objects puts
    → map (λ (put : PutView). put.number) puts
    ≡ map (λ (object : OpenObject). object.number) (filter (λ (object : OpenObject). object.was_started) objects)
under_way_numbers [] puts are = ap (map (λ (put : PutView). put.number)) are
under_way_numbers (object ∷ objects) puts are = numbers_by object objects puts object.was_started (under_way_numbers objects) are

-- ---- a number that is open

-- it is above the lower end, and not above the last
pub open_above : (n low : ℕ) (objects : List OpenObject) (last : ℕ) → Ascends low objects last
    → list_any (has_number n) objects ≡ true
    → (low < n) × (n ≤ last)
open_above n low [] last ascends is = cc
open_above n low (object ∷ objects) last ascends is =
    let most = at_most object.number objects last ascends.1 in
    elim (cases_eq object.number n) [
      | inl same ↦ (omega (arith, ascends.0, same), omega (arith, most, same))
      | inr other ↦
          let not_here : nat_eq object.number n ≡ false = ne_eqb object.number n other in
          let later : list_any (has_number n) objects ≡ true = rw not_here at is in
          let rest = open_above n object.number objects last ascends.1 later in
          (omega (arith, ascends.0, rest.0), rest.1)
    ]

-- one whose put is started is open
pub started_is_open : (n : ℕ) (objects : List OpenObject) → is_started n objects ≡ true → list_any (has_number n) objects ≡ true
started_is_open n [] is = cc
started_is_open n (object ∷ objects) is =
    let more = started_is_open n objects in
    elim (has_number n object) as (λ b. ((b && object.is_started) || is_started n objects) ≡ true
    → (b || list_any (has_number n) objects) ≡ true) [
      | true ↦ λ i. refl
      | false ↦ λ i. more i
    ] is

-- and so is one that is ready
pub ready_is_open : (n : ℕ) (test : OpenObject → Bool) (objects : List OpenObject)
    → option_map (λ (object : OpenObject). object.number) (find test objects) ≡ Some n → list_any (has_number n) objects ≡ true
ready_is_open n test [] is = cc
ready_is_open n test (object ∷ objects) is =
    let more = ready_is_open n test objects in
    elim (test object) as (λ b. option_map (λ (o : OpenObject). o.number) (cond b (Some object) (find test objects)) ≡ Some n
    → list_any (has_number n) (object ∷ objects) ≡ true) [
      | true ↦ λ i.
          let same : object.number ≡ n = cc in
          let here : nat_eq object.number n ≡ true = eq-eqb object.number n same in
          rw here refl
      | false ↦ λ i. (let rest = more i in rw rest (or-true (has_number n object)))
    ] is

-- none is started up to the lower end
none_started : (n low : ℕ) (objects : List OpenObject) (last : ℕ) → n ≤ low → Ascends low objects last
    → is_started n objects ≡ false
none_started n low [] last below ascends = refl
none_started n low (object ∷ objects) last below ascends =
    let above = ascends.0 in
    let not_here : nat_eq object.number n ≡ false = ne_eqb object.number n (λ e. omega (arith, e, below, above)) in
    let rest = none_started n object.number objects last (omega (arith, below, above)) ascends.1 in
    rw (not_here, rest) refl

-- a mark leaves the numbers
pub marked_numbers : (k n : ℕ) (started : Bool) (objects : List OpenObject)
    → list_any (has_number k) (with_started n started objects) ≡ list_any (has_number k) objects
marked_numbers k n started [] = refl
marked_numbers k n started (object ∷ objects) =
    let changed : OpenObject = record object { is_started = started; was_started = object.was_started || started } in
    let rest = marked_numbers k n started objects in
    elim (has_number n object) as (λ b. list_any (has_number k)
    (cond b (changed ∷ objects) (object ∷ with_started n started objects))
    ≡ list_any (has_number k) (object ∷ objects)) [
      | true ↦ refl
      | false ↦ ap (λ b. has_number k object || b) rest
    ]

-- an object that is done leaves the others' numbers, and not its own
pub without_others : (k n : ℕ) (objects : List OpenObject) → (k ≡ n → ⊥)
    → list_any (has_number k) (without n objects) ≡ list_any (has_number k) objects
without_others k n [] other = refl
without_others k n (object ∷ objects) other =
    let rest = without_others k n objects other in
    elim (cases_eq object.number n) [
      | inl is ↦
          let here : nat_eq object.number n ≡ true = eq-eqb object.number n is in
          let not_k : nat_eq object.number k ≡ false = ne_eqb object.number k (λ e. other (sym e ∙ is)) in
          rw (here, not_k) refl
      | inr no_ ↦
          let not_here : nat_eq object.number n ≡ false = ne_eqb object.number n no_ in
          rw not_here (ap (λ b. has_number k object || b) rest)
    ]

pub without_own : (n low : ℕ) (objects : List OpenObject) (last : ℕ) → Ascends low objects last
    → list_any (has_number n) (without n objects) ≡ false
without_own n low [] last ascends = refl
without_own n low (object ∷ objects) last ascends =
    let rest = without_own n object.number objects last ascends.1 in
    elim (cases_eq object.number n) [
      | inl is ↦
          let here : nat_eq object.number n ≡ true = eq-eqb object.number n is in
          rw here (none_open object.number objects last n ascends.1 (omega (arith, is)))
      | inr no_ ↦
          let not_here : nat_eq object.number n ≡ false = ne_eqb object.number n no_ in
          rw not_here (ap (λ b. has_number n object || b) rest ∙ ap (λ b. b || false) not_here)
    ]

-- ---- puts of greater numbers

-- each put of a list is past a number: the first is, and they ascend
abbrev StartsPast : ℕ → List PutView → Type 0
StartsPast n [] = Unit {0}
StartsPast n (put ∷ puts) = n < put.number

past_by : (n : ℕ) (object : OpenObject) (objects : List OpenObject) (puts : List PutView) (b : Bool) → n < object.number
    → ((more : List PutView) → AreUnderWay objects more → StartsPast n more) → IsFirstUnderWay b object puts (AreUnderWay objects)
    → StartsPast n puts
past_by n object objects [] true above more are = absurd are
past_by n object objects (put ∷ puts) true above more are = omega (arith, are.0, above)
past_by n object objects puts false above more are = more puts are

puts_past : (n low : ℕ) (objects : List OpenObject) (last : ℕ) (puts : List PutView) → n ≤ low → Ascends low objects last
    → AreUnderWay objects puts → StartsPast n puts
puts_past n low [] last puts below ascends are = subst (StartsPast n) (sym are) tt
puts_past n low (object ∷ objects) last puts below ascends are =
    let above : n < object.number = omega (arith, below, ascends.0) in
    past_by n object objects puts object.was_started above
    (λ more are_. puts_past n object.number objects last more (omega (arith, above)) ascends.1 are_) are

-- a step of a number leaves those past it
record Leaves (n : ℕ) (bytes : List ℕ) (puts : List PutView) : Type 0 where
  begun : with_begun n bytes puts ≡ out_put n bytes ∷ puts
  failed : with_failed n puts ≡ puts
  done : without_put n puts ≡ puts
  none : put_of n puts ≡ None

leaves_past : (n : ℕ) (bytes : List ℕ) (puts : List PutView) → StartsPast n puts → Leaves n bytes puts
leaves_past n bytes [] past = record { begun = refl; failed = refl; done = refl; none = refl }
leaves_past n bytes (put ∷ puts) past =
    let not_below : nat_lt put.number n ≡ false = le-ltb put.number n (omega (arith, past)) in
    let not_same : nat_eq put.number n ≡ false = ne_eqb put.number n (λ e. omega (arith, e, past)) in
    record {
      begun = rw (not_below, not_same) refl;
      failed = rw (not_below, not_same) refl;
      done = rw (not_below, not_same) refl;
      none = rw (not_below, not_same) refl;
    }

-- ---- a step of the put of a number

-- a change leaves the puts of lower numbers
abbrev Skips : ℕ → (List PutView → List PutView) → Type 0
Skips n change = (put : PutView) (more : List PutView) → put.number < n → change (put ∷ more) ≡ put ∷ change more

skips_begun : (n : ℕ) (bytes : List ℕ) → Skips n (with_begun n bytes)
skips_begun n bytes put more less = (let below : nat_lt put.number n ≡ true = lt-ltb put.number n less in rw below refl)

skips_failed : (n : ℕ) → Skips n (with_failed n)
skips_failed n put more less = (let below : nat_lt put.number n ≡ true = lt-ltb put.number n less in rw below refl)

skips_done : (n : ℕ) → Skips n (without_put n)
skips_done n put more less = (let below : nat_lt put.number n ≡ true = lt-ltb put.number n less in rw below refl)

-- so an object of a lower number stays in front
later_by : (n : ℕ) (object : OpenObject) (objects changed : List OpenObject) (puts : List PutView) (change : List PutView
    → List PutView) (b : Bool)
    → object.number < n → Skips n change → ((more : List PutView) → AreUnderWay objects more → AreUnderWay changed (change more))
    → IsFirstUnderWay b object puts (AreUnderWay objects) → IsFirstUnderWay b object (change puts) (AreUnderWay changed)
later_by n object objects changed [] change true less skips more are = absurd are
later_by n object objects changed (put ∷ puts) change true less skips more are =
    let same : change (put ∷ puts) ≡ put ∷ change puts = skips put puts (omega (arith, are.0, less)) in
    subst (λ list. IsFirstUnderWay true object list (AreUnderWay changed)) (sym same) (are.0, are.1, more puts are.2)
later_by n object objects changed puts change false less skips more are = more puts are

-- the number of the first object is that of a step, or below it
first_or_later : (n low : ℕ) (object : OpenObject) (objects : List OpenObject) (last : ℕ) → Ascends low (object ∷ objects) last
    → list_any (has_number n) (object ∷ objects) ≡ true
    → (object.number ≡ n) ⊎ ((has_number n object ≡ false) × (object.number < n) × (list_any (has_number n) objects ≡ true))
first_or_later n low object objects last ascends is =
    elim (cases_eq object.number n) [
      | inl same ↦ inl same
      | inr other ↦
          let not_here : nat_eq object.number n ≡ false = ne_eqb object.number n other in
          let later : list_any (has_number n) objects ≡ true = rw not_here at is in
          inr (not_here, (open_above n object.number objects last ascends.1 later).0, later)
    ]

-- ---- a put begins

-- an object after a mark
abbrev marked_object : Bool → OpenObject → OpenObject
marked_object started object = record object { is_started = started; was_started = object.was_started || started }

begun_first : (n : ℕ) (bytes : List ℕ) (object : OpenObject) (objects : List OpenObject) (puts : List PutView) → object.number ≡ n
    → AreUnderWay objects puts
    → AreUnderWay (marked_object true object ∷ objects) (out_put n bytes ∷ puts)
begun_first n bytes object objects puts is are = rw (or-true object.was_started) (sym is, refl, are)

begun_here : (n : ℕ) (bytes : List ℕ) (object : OpenObject) (objects : List OpenObject) (last : ℕ)
    (puts : List PutView) (b : Bool)
    → object.number ≡ n → Ascends object.number objects last → IsFirstUnderWay b object puts (AreUnderWay objects)
    → AreUnderWay (marked_object true object ∷ objects) (with_begun n bytes puts)
begun_here n bytes object objects last [] true is ascends are = absurd are
begun_here n bytes object objects last (put ∷ puts) true is ascends are =
    let not_below : nat_lt put.number n ≡ false = le-ltb put.number n (omega (arith, are.0, is)) in
    let same : nat_eq put.number n ≡ true = eq-eqb put.number n (are.0 ∙ is) in
    rw (not_below, same) (begun_first n bytes object objects puts is are.2)
begun_here n bytes object objects last puts false is ascends are =
    let past = puts_past n object.number objects last puts (omega (arith, is)) ascends are in
    subst (AreUnderWay (marked_object true object ∷ objects)) (sym (leaves_past n bytes puts past).begun)
    (begun_first n bytes object objects puts is are)

pub begun_under_way : (n : ℕ) (bytes : List ℕ) (low : ℕ) (objects : List OpenObject) (last : ℕ) (puts : List PutView)
    → Ascends low objects last
    → list_any (has_number n) objects ≡ true → AreUnderWay objects puts
    → AreUnderWay (with_started n true objects) (with_begun n bytes puts)
begun_under_way n bytes low [] last puts ascends is are = cc
begun_under_way n bytes low (object ∷ objects) last puts ascends is are =
    elim (first_or_later n low object objects last ascends is) [
      | inl same ↦
          let here : nat_eq object.number n ≡ true = eq-eqb object.number n same in
          rw here (begun_here n bytes object objects last puts object.was_started same ascends.1 are)
      | inr later ↦
          let not_here : nat_eq object.number n ≡ false = later.0 in
          let rest = λ (more : List PutView) (are_ : AreUnderWay objects more).
          begun_under_way n bytes object.number objects last more ascends.1 later.2 are_ in
          rw not_here (later_by n object objects (with_started n true objects) puts (with_begun n bytes)
          object.was_started later.1
          (skips_begun n bytes) rest are)
    ]

-- ---- a put fails

failed_here : (n : ℕ) (object : OpenObject) (objects : List OpenObject) (last : ℕ) (puts : List PutView) (b : Bool)
    → object.number ≡ n
    → object.was_started ≡ b → Ascends object.number objects last → IsFirstUnderWay b object puts (AreUnderWay objects)
    → AreUnderWay (marked_object false object ∷ objects) (with_failed n puts)
failed_here n object objects last [] true is was ascends are = absurd are
failed_here n object objects last (put ∷ puts) true is was ascends are =
    let not_below : nat_lt put.number n ≡ false = le-ltb put.number n (omega (arith, are.0, is)) in
    let same : nat_eq put.number n ≡ true = eq-eqb put.number n (are.0 ∙ is) in
    rw (not_below, same, was) (are.0, refl, are.2)
failed_here n object objects last puts false is was ascends are =
    let past = puts_past n object.number objects last puts (omega (arith, is)) ascends are in
    subst (AreUnderWay (marked_object false object ∷ objects)) (sym (leaves_past n [] puts past).failed)
    (rw was are)

pub failed_under_way : (n low : ℕ) (objects : List OpenObject) (last : ℕ) (puts : List PutView) → Ascends low objects last
    → list_any (has_number n) objects ≡ true → AreUnderWay objects puts
    → AreUnderWay (with_started n false objects) (with_failed n puts)
failed_under_way n low [] last puts ascends is are = cc
failed_under_way n low (object ∷ objects) last puts ascends is are =
    elim (first_or_later n low object objects last ascends is) [
      | inl same ↦
          let here : nat_eq object.number n ≡ true = eq-eqb object.number n same in
          rw here (failed_here n object objects last puts object.was_started same refl ascends.1 are)
      | inr later ↦
          let not_here : nat_eq object.number n ≡ false = later.0 in
          rw not_here (later_by n object objects (with_started n false objects) puts (with_failed n) object.was_started later.1
          (skips_failed n)
          (λ more are_. failed_under_way n object.number objects last more ascends.1 later.2 are_) are)
    ]

-- ---- a put is done

done_here : (n : ℕ) (object : OpenObject) (objects : List OpenObject) (last : ℕ) (puts : List PutView) (b : Bool)
    → object.number ≡ n
    → Ascends object.number objects last → IsFirstUnderWay b object puts (AreUnderWay objects)
    → AreUnderWay objects (without_put n puts)
done_here n object objects last [] true is ascends are = absurd are
done_here n object objects last (put ∷ puts) true is ascends are =
    let not_below : nat_lt put.number n ≡ false = le-ltb put.number n (omega (arith, are.0, is)) in
    let same : nat_eq put.number n ≡ true = eq-eqb put.number n (are.0 ∙ is) in
    rw (not_below, same) are.2
done_here n object objects last puts false is ascends are =
    let past = puts_past n object.number objects last puts (omega (arith, is)) ascends are in
    subst (AreUnderWay objects) (sym (leaves_past n [] puts past).done) are

pub done_under_way : (n low : ℕ) (objects : List OpenObject) (last : ℕ) (puts : List PutView) → Ascends low objects last
    → list_any (has_number n) objects ≡ true → AreUnderWay objects puts → AreUnderWay (without n objects) (without_put n puts)
done_under_way n low [] last puts ascends is are = cc
done_under_way n low (object ∷ objects) last puts ascends is are =
    elim (first_or_later n low object objects last ascends is) [
      | inl same ↦
          let here : nat_eq object.number n ≡ true = eq-eqb object.number n same in
          rw here (done_here n object objects last puts object.was_started same ascends.1 are)
      | inr later ↦
          let not_here : nat_eq object.number n ≡ false = later.0 in
          rw not_here (later_by n object objects (without n objects) puts (without_put n) object.was_started later.1
          (skips_done n)
          (λ more are_. done_under_way n object.number objects last more ascends.1 later.2 are_) are)
    ]

-- ---- the put of a number is out

-- the first object has this number, a lower or a greater one
by_number : (object : OpenObject) (n : ℕ) → (object.number < n) ⊎ ((object.number ≡ n) ⊎ (n < object.number))
by_number object n =
    elim (cases_eq object.number n) [
      | inl same ↦ inr (inl same)
      | inr other ↦ elim (cases_lt object.number n) [ inl less ↦ inl less | inr more ↦ inr (inr (omega (arith, more, other))) ]
    ]

-- of which a put was ever begun
out_first : (n low : ℕ) (object : OpenObject) (objects : List OpenObject) (last : ℕ) (put : PutView) (puts : List PutView)
    → Ascends low (object ∷ objects) last → put.number ≡ object.number → put.is_out ≡ object.is_started
    → is_put_out (put_of n puts) ≡ is_started n objects → is_put_out (put_of n (put ∷ puts)) ≡ is_started n (object ∷ objects)
out_first n low object objects last put puts ascends number out more =
    elim (by_number object n) [
      | inl less ↦
          let below : nat_lt put.number n ≡ true = lt-ltb put.number n (omega (arith, number, less)) in
          let not_here : nat_eq object.number n ≡ false = ne_eqb object.number n (λ e. omega (arith, e, less)) in
          rw (below, not_here) more
      | inr (inl same) ↦
          let not_below : nat_lt put.number n ≡ false = le-ltb put.number n (omega (arith, number, same)) in
          let there : nat_eq put.number n ≡ true = eq-eqb put.number n (number ∙ same) in
          let here : nat_eq object.number n ≡ true = eq-eqb object.number n same in
          let none : is_started n objects ≡ false = none_started n object.number objects last (omega (arith, same)) ascends.1 in
          rw (not_below, there, here, none) (out ∙ sym (or-false object.is_started))
      | inr (inr greater) ↦
          let not_below : nat_lt put.number n ≡ false = le-ltb put.number n (omega (arith, number, greater)) in
          let not_there : nat_eq put.number n ≡ false = ne_eqb put.number n (λ e. omega (arith, e, number, greater)) in
          let not_here : nat_eq object.number n ≡ false = ne_eqb object.number n (λ e. omega (arith, e, greater)) in
          let none : is_started n objects ≡ false = none_started n object.number objects last (omega (arith, greater))
          ascends.1 in
          rw (not_below, not_there, not_here, none) refl
    ]

not_started : (started was : Bool) → was ≡ false → (IsTrue started → IsTrue was) → started ≡ false
not_started true was never keeps = (let e = keeps refl in cc)
not_started false was never keeps = refl

out_by : (n low : ℕ) (object : OpenObject) (objects : List OpenObject) (last : ℕ) (puts : List PutView) (b : Bool)
    → object.was_started ≡ b
    → Ascends low (object ∷ objects) last → (IsTrue object.is_started → IsTrue object.was_started)
    → ((more : List PutView) → AreUnderWay objects more → is_put_out (put_of n more) ≡ is_started n objects)
    → IsFirstUnderWay b object puts (AreUnderWay objects) → is_put_out (put_of n puts) ≡ is_started n (object ∷ objects)
out_by n low object objects last [] true was ascends keeps more are = absurd are
out_by n low object objects last (put ∷ puts) true was ascends keeps more are =
    out_first n low object objects last put puts ascends are.0 are.1 (more puts are.2)
out_by n low object objects last puts false was ascends keeps more are =
    let never : object.is_started ≡ false = not_started object.is_started object.was_started was keeps in
    more puts are ∙ sym (rw (never, and-false (has_number n object)) refl)

-- it is out just where it is started
pub out_if_started : (n low : ℕ) (objects : List OpenObject) (last : ℕ) (puts : List PutView) → Ascends low objects last
    → All (λ (object : OpenObject). IsTrue object.is_started → IsTrue object.was_started) objects → AreUnderWay objects puts
    → is_put_out (put_of n puts) ≡ is_started n objects
out_if_started n low [] last puts ascends starts are = ap (λ list. is_put_out (put_of n list)) are
out_if_started n low (object ∷ objects) last puts ascends starts are =
    let Keeps : OpenObject → Type 0 = λ (o : OpenObject). IsTrue o.is_started → IsTrue o.was_started in
    out_by n low object objects last puts object.was_started refl ascends (All-head Keeps object objects starts)
    (λ more are_. out_if_started n object.number objects last more ascends.1 (All-tail Keeps object objects starts) are_) are

-- the first that is out is the first that is started
lowest_by : (object : OpenObject) (objects : List OpenObject) (puts : List PutView) (b : Bool) → object.was_started ≡ b
    → (IsTrue object.is_started → IsTrue object.was_started)
    → ((more : List PutView) → AreUnderWay objects more → lowest_out more ≡ lowest_started objects)
    → IsFirstUnderWay b object puts (AreUnderWay objects) → lowest_out puts ≡ lowest_started (object ∷ objects)
lowest_by object objects [] true was keeps more are = absurd are
lowest_by object objects (put ∷ puts) true was keeps more are =
    let rest : lowest_out puts ≡ lowest_started objects = more puts are.2 in
    elim object.is_started as (λ b. put.is_out ≡ b
    → option_map (λ (p : PutView). p.number) (cond put.is_out (Some put) (find (λ (p : PutView). p.is_out) puts))
    ≡ option_map (λ (o : OpenObject). o.number) (cond b (Some object) (find (λ (o : OpenObject). o.is_started) objects))) [
      | true ↦ λ out. rw out (ap Some are.0)
      | false ↦ λ out. rw out rest
    ] are.1
lowest_by object objects puts false was keeps more are =
    let never : object.is_started ≡ false = not_started object.is_started object.was_started was keeps in
    more puts are ∙ sym (rw never refl)

pub lowest_if_started : (objects : List OpenObject) (puts : List PutView)
    → All (λ (object : OpenObject). IsTrue object.is_started → IsTrue object.was_started) objects → AreUnderWay objects puts
    → lowest_out puts ≡ lowest_started objects
lowest_if_started [] puts starts are = ap lowest_out are
lowest_if_started (object ∷ objects) puts starts are =
    let Keeps : OpenObject → Type 0 = λ (o : OpenObject). IsTrue o.is_started → IsTrue o.was_started in
    lowest_by object objects puts object.was_started refl (All-head Keeps object objects starts)
    (λ more are_. lowest_if_started objects more (All-tail Keeps object objects starts) are_) are

-- ---- what holds of each put

pub all_begun : (P : PutView → Type 0) (n : ℕ) (bytes : List ℕ) (puts : List PutView) → P (out_put n bytes)
    → AllByRecursion P puts
    → AllByRecursion P (with_begun n bytes puts)
all_begun P n bytes [] one all = (one, tt)
all_begun P n bytes (put ∷ puts) one all =
    let more = all_begun P n bytes puts one all.1 in
    elim (nat_lt put.number n) as (λ b. AllByRecursion P (cond b (put ∷ with_begun n bytes puts)
    (cond (put.number == n) (out_put n bytes ∷ puts) (out_put n bytes ∷ put ∷ puts)))) [
      | true ↦ (all.0, more)
      | false ↦
          let out = out_put n bytes in
          elim (put.number == n) as (λ c. AllByRecursion P (cond c (out ∷ puts) (out ∷ put ∷ puts))) [
            | true ↦ (one, all.1)
            | false ↦ (one, all)
          ]
    ]

pub all_failed : (P : PutView → Type 0) (n : ℕ) (puts : List PutView)
    → ((put : PutView) → P put → P (record put { is_out = false }))
    → AllByRecursion P puts → AllByRecursion P (with_failed n puts)
all_failed P n [] keeps all = tt
all_failed P n (put ∷ puts) keeps all =
    let more = all_failed P n puts keeps all.1 in
    elim (nat_lt put.number n) as (λ b. AllByRecursion P (cond b (put ∷ with_failed n puts)
    (cond (put.number == n) (record put { is_out = false } ∷ puts) (put ∷ puts)))) [
      | true ↦ (all.0, more)
      | false ↦ elim (put.number == n) as (λ c. AllByRecursion P (cond c (record put { is_out = false } ∷ puts) (put ∷ puts))) [
        | true ↦ (keeps put all.0, all.1)
        | false ↦ all
      ]
    ]

pub all_without : (P : PutView → Type 0) (n : ℕ) (puts : List PutView) → AllByRecursion P puts
    → AllByRecursion P (without_put n puts)
all_without P n [] all = tt
all_without P n (put ∷ puts) all =
    let more = all_without P n puts all.1 in
    elim (nat_lt put.number n) as (λ b. AllByRecursion P
    (cond b (put ∷ without_put n puts) (cond (put.number == n) puts (put ∷ puts)))) [
      | true ↦ (all.0, more)
      | false ↦ elim (put.number == n) as (λ c. AllByRecursion P (cond c puts (put ∷ puts))) [ true ↦ all.1 | false ↦ all ]
    ]

-- so of that of a number
pub all_at : (P : PutView → Type 0) (n : ℕ) (puts : List PutView) (put : PutView) → put_of n puts ≡ Some put
    → AllByRecursion P puts → P put
all_at P n [] put is all = cc
all_at P n (first ∷ puts) put is all =
    let more = λ (i : put_of n puts ≡ Some put). all_at P n puts put i all.1 in
    let here = cond (first.number == n) (Some first) None in
    elim (nat_lt first.number n) as (λ b. cond b (put_of n puts) here ≡ Some put → P put) [
      | true ↦ λ i. more i
      | false ↦ elim (first.number == n) as (λ c. cond c (Some first) None ≡ Some put → P put) [
        | true ↦ λ i. (let e : first ≡ put = cc in subst P e all.0)
        | false ↦ λ i. absurd (cc i)
      ]
    ] is
