-- A number that is halved with each step: after as many steps as it has binary digits nothing is left.
use Rattle.std.proofs.Common.{ℕ, zero, suc, ◌+◌, ◌-◌, ◌*◌, ◌^◌, ◌<◌, ◌≤◌, ◌≡◌, arith, sym, subst}
use Rattle.std.proofs.Math.Nat.{two-pow-succ}

-- of n, what is left after some steps is below the power of two that has that many digits less
abbrev pub Halved : ℕ → ℕ → ℕ → Type 0
Halved n left steps = (k : ℕ) → n < 2 ^ k → (steps ≤ k) × (left < 2 ^ (k - steps))

pub halved_none : (n : ℕ) → Halved n n 0
halved_none n k below =
    let is : k - 0 ≡ k = omega arith in
    (omega arith, subst (λ j. n < 2 ^ j) (sym is) below)

-- where something is left, there is a digit left
below_one : (left j : ℕ) → 0 < left → left < 2 ^ j → 0 < j
below_one left zero some below = omega arith
below_one left (suc j) some below = omega arith

half_below : (left next j : ℕ) → 2 * next ≤ left → left < 2 ^ (suc j) → next < 2 ^ j
half_below left next j half below = omega (arith, two-pow-succ j)

pub halved_more : (n left next steps : ℕ) → 0 < left → 2 * next ≤ left → Halved n left steps → Halved n next (steps + 1)
halved_more n left next steps some half halved k below =
    let old : (steps ≤ k) × (left < 2 ^ (k - steps)) = halved k below in
    let digit : 0 < k - steps = below_one left (k - steps) some old.1 in
    let is : k - steps ≡ suc (k - (steps + 1)) = omega arith in
    (omega arith, half_below left next (k - (steps + 1)) half (subst (λ j. left < 2 ^ j) is old.1))
