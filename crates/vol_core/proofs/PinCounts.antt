-- How often a number is among others.
use Rattle.std.proofs.Common.{◌≡◌, ◌≢◌, ℕ, suc, ◌+◌, ◌<◌, ◌≤◌, ◌==◌, inl, inr, cond, List, [], ◌∷◌, length, get_or, refl}
use Rattle.std.proofs.Common.{◌∙◌, ap, arith}
use Rattle.std.specs.List.{AllPairs}
use Rattle.std.proofs.lemmas.Bool.{cases_eq, eq-eqb, ne_eqb}
use Rattle.std.proofs.lemmas.List.Sums.{sum_by-cons, get_or-le-sum_by}
use Rattle.refine_objects.specs.Table.{times_pinned}

-- ---- one number

-- 1 for the number, and 0 for each other
abbrev pub is_it : (number other : ℕ) → ℕ
is_it number other = cond (other == number) 1 0

pub one_of : (number other : ℕ) → other ≡ number → is_it number other ≡ 1
one_of number other same = ap (λ b. cond b 1 0) (eq-eqb other number same)

pub none_of : (number other : ℕ) → (other ≡ number → ⊥) → is_it number other ≡ 0
none_of number other apart = ap (λ b. cond b 1 0) (ne_eqb other number apart)

pub counted : (number pin : ℕ) (pins : List ℕ) → times_pinned number (pin ∷ pins) ≡ is_it number pin + times_pinned number pins
counted number pin pins = sum_by-cons (is_it number) pin pins

-- ---- where it is

pub times_there : (number i : ℕ) (numbers : List ℕ) → i < length numbers → get_or numbers i 0 ≡ number
    → 0 < times_pinned number numbers
times_there number i numbers inside is =
    let least = get_or-le-sum_by (is_it number) numbers i 0 inside in
    let one = one_of number (get_or numbers i 0) is in
    omega (arith, least, one)

pub times_nowhere : (number : ℕ) (numbers : List ℕ) → ((k : ℕ) → k < length numbers → get_or numbers k 0 ≢ number)
    → times_pinned number numbers ≡ 0
times_nowhere number [] absent = refl
times_nowhere number (first ∷ rest) absent =
    let none = none_of number first (absent 0 (omega arith)) in
    let more = times_nowhere number rest (λ k less. absent (suc k) (omega arith)) in
    counted number first rest ∙ omega (arith, none, more)

-- ---- ascending numbers

-- numbers of which each is below all later ones
abbrev pub Ascend : List ℕ → Type 0
Ascend numbers = AllPairs (λ a b. a < b) numbers

pub rest_ascend : (first : ℕ) (rest : List ℕ) → Ascend (first ∷ rest) → Ascend rest
rest_ascend first rest ascend = λ i j d less inside. ascend (suc i) (suc j) d (omega arith) (omega arith)

-- each is there once
pub times_of_ascending : (number : ℕ) (numbers : List ℕ) → Ascend numbers → times_pinned number numbers ≤ 1
times_of_ascending number [] ascend = omega arith
times_of_ascending number (first ∷ rest) ascend =
    let both = counted number first rest in
    elim (cases_eq first number) [
      | inl same ↦
          let none = times_nowhere number rest (λ k inside is.
          let h = ascend 0 (suc k) 0 (omega arith) (omega arith) in
          omega (arith, h, is, same)) in
          let one = one_of number first same in
          omega (arith, both, none, one)
      | inr apart ↦
          let more = times_of_ascending number rest (rest_ascend first rest ascend) in
          let none = none_of number first apart in
          omega (arith, both, more, none)
    ]
