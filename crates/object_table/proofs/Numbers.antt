-- Ascending numbers, with one put in or taken out.
use Rattle.std.proofs.Common.{ℕ, zero, suc, ◌<◌, ◌≤◌, ◌≡◌, ◌≢◌, true, false, List, [], ◌∷◌, ◌++◌, length}
use Rattle.std.proofs.Common.{get_or, refl, ap, arith, inl, inr}
use Rattle.std.specs.Prelude.{nat_eq, nat_lt, Result, MatchResult}
use Rattle.std.proofs.lemmas.Bool.{cases_lt}
use Rattle.std.specs.List.{insert, remove}
use Rattle.std.proofs.lemmas.Bool.Decides.{nat_tests}
use Rattle.object_table.specs.Lists.{Climbs, inserted, removed}

pub lower : (low from : ℕ) (ns : List ℕ) → low ≤ from → Climbs from ns → Climbs low ns
lower low from [] is order = tt
lower low from (n ∷ ns) is order = (omega (arith, order.0), order.1)

-- each number is above
pub above : (low : ℕ) (ns : List ℕ) (i : ℕ) → Climbs low ns → i < length ns → low < get_or ns i 0
above low [] i order inside = absurd (omega arith)
above low (n ∷ ns) zero order inside = order.0
above low (n ∷ ns) (suc i) order inside = (let rest = above n ns i order.1 (omega arith) in omega (arith, order.0, rest))

pub rises : (low : ℕ) (ns : List ℕ) (i j : ℕ) → Climbs low ns → i ≤ j → j < length ns → get_or ns i 0 ≤ get_or ns j 0
rises low [] i j order le inside = absurd (omega arith)
rises low (n ∷ ns) zero zero order le inside = omega arith
rises low (n ∷ ns) zero (suc j) order le inside = (let rest = above n ns j order.1 (omega arith) in omega (arith, rest))
rises low (n ∷ ns) (suc i) zero order le inside = absurd (omega arith)
rises low (n ∷ ns) (suc i) (suc j) order le inside = rises n ns i j order.1 (omega arith) (omega arith)

-- ---- one is put in

pub inserted_at : (number : ℕ) (ns : List ℕ) (i : ℕ) → i ≤ length ns → ((k : ℕ) → k < i → get_or ns k 0 < number)
    → ((k : ℕ) → i ≤ k → k < length ns → number < get_or ns k 0) → insert ns i number ≡ inserted number ns
inserted_at number [] zero within below over = refl
inserted_at number [] (suc i) within below over = absurd (omega arith)
inserted_at number (n ∷ ns) zero within below over =
    let first = over 0 (omega arith) (omega arith) in
    let here : nat_lt number n ≡ true = grind (arith, nat_tests) in
    rw here refl
inserted_at number (n ∷ ns) (suc i) within below over =
    let first = below 0 (omega arith) in
    let not_before : nat_lt number n ≡ false = grind (arith, nat_tests) in
    let not_it : nat_eq n number ≡ false = grind (arith, nat_tests) in
    rw (not_before, not_it) (ap (λ rest. n ∷ rest) (inserted_at number ns i (omega arith)
    (λ k less. below (suc k) (omega arith)) (λ k from less. over (suc k) (omega arith) (omega arith))))

pub inserted_there : (low number : ℕ) (ns : List ℕ) (i : ℕ) → Climbs low ns → i < length ns → get_or ns i 0 ≡ number
    → ns ≡ inserted number ns
inserted_there low number [] i order inside is = absurd (omega arith)
inserted_there low number (n ∷ ns) zero order inside is =
    let not_before : nat_lt number n ≡ false = grind (arith, nat_tests) in
    let it : nat_eq n number ≡ true = grind (arith, nat_tests) in
    rw (not_before, it) refl
inserted_there low number (n ∷ ns) (suc i) order inside is =
    let more = above n ns i order.1 (omega arith) in
    let not_before : nat_lt number n ≡ false = grind (arith, nat_tests) in
    let not_it : nat_eq n number ≡ false = grind (arith, nat_tests) in
    rw (not_before, not_it) (ap (λ rest. n ∷ rest) (inserted_there n number ns i order.1 (omega arith) is))

pub inserted_front : (number : ℕ) (ns : List ℕ) → Climbs number ns → inserted number ns ≡ number ∷ ns
inserted_front number [] order = refl
inserted_front number (n ∷ ns) order =
    let first = order.0 in
    let here : nat_lt number n ≡ true = grind (arith, nat_tests) in
    rw here refl

-- ---- one is taken out

pub removed_at : (low number : ℕ) (ns : List ℕ) (i : ℕ) → Climbs low ns → i < length ns → get_or ns i 0 ≡ number
    → remove ns i ≡ removed number ns
removed_at low number [] i order inside is = absurd (omega arith)
removed_at low number (n ∷ ns) zero order inside is =
    let it : nat_eq n number ≡ true = grind (arith, nat_tests) in
    rw it refl
removed_at low number (n ∷ ns) (suc i) order inside is =
    let more = above n ns i order.1 (omega arith) in
    let not_it : nat_eq n number ≡ false = grind (arith, nat_tests) in
    rw not_it (ap (λ rest. n ∷ rest) (removed_at n number ns i order.1 (omega arith) is))

pub removed_nowhere : (number : ℕ) (ns : List ℕ) → ((k : ℕ) → k < length ns → get_or ns k 0 ≢ number) → ns ≡ removed number ns
removed_nowhere number [] absent = refl
removed_nowhere number (n ∷ ns) absent =
    let first : n ≢ number = absent 0 (omega arith) in
    let not_it : nat_eq n number ≡ false = grind (arith, nat_tests) in
    rw not_it (ap (λ rest. n ∷ rest) (removed_nowhere number ns (λ k less. absent (suc k) (omega arith))))

pub removed_below : (low number : ℕ) (ns : List ℕ) → Climbs low ns → number ≤ low → removed number ns ≡ ns
removed_below low number [] order le = refl
removed_below low number (n ∷ ns) order le =
    let first = order.0 in
    let not_it : nat_eq n number ≡ false = grind (arith, nat_tests) in
    rw not_it (ap (λ rest. n ∷ rest) (removed_below n number ns order.1 (omega arith)))

last_above : (low number : ℕ) (ns : List ℕ) → Climbs low (ns ++ number ∷ []) → low < number
last_above low number [] order = order.0
last_above low number (n ∷ ns) order = (let rest = last_above n number ns order.1 in omega (arith, order.0, rest))

pub removed_last : (low number : ℕ) (ns : List ℕ) → Climbs low (ns ++ number ∷ []) → removed number (ns ++ number ∷ []) ≡ ns
removed_last low number [] order =
    let it : nat_eq number number ≡ true = grind (arith, nat_tests) in
    rw it refl
removed_last low number (n ∷ ns) order =
    let more = last_above n number ns order.1 in
    let not_it : nat_eq n number ≡ false = grind (arith, nat_tests) in
    rw not_it (ap (λ rest. n ∷ rest) (removed_last n number ns order.1))

-- what a search among ascending numbers found
abbrev pub IsFound : (number : ℕ) → List ℕ → Result ℕ ℕ → Type 0
IsFound number numbers found =
    MatchResult found (λ i. (i < length numbers) × (get_or numbers i 0 ≡ number))
    (λ i. (i ≤ length numbers) × ((k : ℕ) → k < i → get_or numbers k 0 < number) ×
    ((k : ℕ) → i ≤ k → k < length numbers → number < get_or numbers k 0))

pub removed_gap : (number i : ℕ) (ns : List ℕ) → ((k : ℕ) → k < i → get_or ns k 0 < number)
    → ((k : ℕ) → i ≤ k → k < length ns → number < get_or ns k 0) → ns ≡ removed number ns
removed_gap number i ns below over =
    removed_nowhere number ns (λ k less is. elim (cases_lt k i) [
      | inl low ↦ (let h = below k low in omega (arith, h, is))
      | inr high ↦ (let h = over k high less in omega (arith, h, is))
    ])
