-- Victims compare: of two one comes before the other, and it goes on over a third.
use Rattle.std.proofs.Common.{◌≡◌, ℕ, ◌==◌, ◌*◌, ◌<◌, ◌≤◌, ◌&&◌, ◌||◌, Bool, true, false, ap, arith}
use Rattle.std.specs.Prelude.{nat_lt, not, IsTrue}
use Rattle.std.proofs.Math.Nat.{mul-le-mul_right, le_of_mul-le-mul_right}
use Rattle.std.proofs.lemmas.Bool.{and_parts}
use Rattle.std.proofs.lemmas.Bool.Decides.{nat_tests}
use Rattle.plain_disk.specs.State.{PlainState, payload_of}
use Rattle.plain_disk.specs.Removals.{has}
use Rattle.plain_disk.specs.Collection.{live_in, is_victim, comes_before}

-- ---- shares as products, and numbers where these are equal

abbrev less : (share other number others : ℕ) → Bool
less share other number others = nat_lt share other || ((share == other) && nat_lt number others)

abbrev Less : (share other number others : ℕ) → Type 0
Less share other number others = (share ≤ other) × (share ≡ other → number < others)

less_parts : (share other number others : ℕ) → less share other number others ≡ true → Less share other number others
less_parts share other number others is = (grind (arith, nat_tests), λ same. grind (arith, nat_tests))

less_from : (share other number others : ℕ) → Less share other number others → less share other number others ≡ true
less_from share other number others is =
    let most = is.0 in
    let tie = is.1 in
    grind (arith, nat_tests, most, tie)

less_one_way : (share other number others : ℕ) → less share other number others ≡ true
    → less other share others number ≡ false
less_one_way share other number others is = grind (arith, nat_tests)

less_apart : (share other number others : ℕ) → (number == others) ≡ false → less share other number others ≡ false
    → less other share others number ≡ true
less_apart share other number others apart is = grind (arith, nat_tests)

-- ---- three shares, each of a payload that is not 0

-- where a first is not more than a second, and this not than a third, the first is not more than the third
first_least : (live_a live_b live_c payload_a payload_b payload_c : ℕ) → 0 < payload_b
    → live_a * payload_b ≤ live_b * payload_a → live_b * payload_c ≤ live_c * payload_b
    → live_a * payload_c ≤ live_c * payload_a
first_least live_a live_b live_c payload_a payload_b payload_c some first second =
    let up : live_a * payload_b * payload_c ≤ live_b * payload_a * payload_c = mul-le-mul_right payload_c first in
    let on : live_b * payload_c * payload_a ≤ live_c * payload_b * payload_a = mul-le-mul_right payload_a second in
    let whole : (live_a * payload_c) * payload_b ≤ (live_c * payload_a) * payload_b = omega (arith, up, on) in
    le_of_mul-le-mul_right whole some

-- and where the first and the third are equal, all are
all_equal : (live_a live_b live_c payload_a payload_b payload_c : ℕ) → 0 < payload_a → 0 < payload_c
    → live_a * payload_b ≤ live_b * payload_a → live_b * payload_c ≤ live_c * payload_b
    → live_a * payload_c ≡ live_c * payload_a
    → (live_a * payload_b ≡ live_b * payload_a) × (live_b * payload_c ≡ live_c * payload_b)
all_equal live_a live_b live_c payload_a payload_b payload_c some_a some_c first second same =
    let up : live_a * payload_b * payload_c ≤ live_b * payload_a * payload_c = mul-le-mul_right payload_c first in
    let on : live_b * payload_c * payload_a ≤ live_c * payload_b * payload_a = mul-le-mul_right payload_a second in
    let round : live_a * payload_c * payload_b ≡ live_c * payload_a * payload_b = ap (λ n. n * payload_b) same in
    let back : (live_b * payload_a) * payload_c ≤ (live_a * payload_b) * payload_c = omega (arith, up, on, round) in
    let back_on : (live_c * payload_b) * payload_a ≤ (live_b * payload_c) * payload_a = omega (arith, up, on, round) in
    let at_most = le_of_mul-le-mul_right back some_c in
    let on_at_most = le_of_mul-le-mul_right back_on some_a in
    (omega (arith, first, at_most), omega (arith, second, on_at_most))

-- ---- victims

module _ (plain : PlainState) where
  abbrev pub IsVictim : ℕ → Type 0
  IsVictim number = IsTrue (is_victim plain number)

  some_payload : (number : ℕ) → IsVictim number → 0 < payload_of plain number
  some_payload number is =
      let poor = nat_lt 0 (live_in plain number) && nat_lt (live_in plain number * 100) (70 * payload_of plain number) in
      let few = (and_parts (nat_lt 0 (live_in plain number)) _ (and_parts poor (not (has plain.held number)) is).0).1 in
      grind (arith, nat_tests, few)

  pub one_way : (a b : ℕ) → comes_before plain a b ≡ true → comes_before plain b a ≡ false
  one_way a b is =
      less_one_way (live_in plain a * payload_of plain b) (live_in plain b * payload_of plain a) a b is

  pub apart : (a b : ℕ) → IsVictim a → IsVictim b → (a == b) ≡ false → comes_before plain a b ≡ false
      → comes_before plain b a ≡ true
  apart a b is_a is_b other is =
      less_apart (live_in plain a * payload_of plain b) (live_in plain b * payload_of plain a) a b other is

  pub chain : (a b c : ℕ) → IsVictim a → IsVictim b → IsVictim c → comes_before plain a b ≡ true
      → comes_before plain b c ≡ true → comes_before plain a c ≡ true
  chain a b c is_a is_b is_c first second =
      let one = less_parts (live_in plain a * payload_of plain b) (live_in plain b * payload_of plain a) a b first in
      let two = less_parts (live_in plain b * payload_of plain c) (live_in plain c * payload_of plain b) b c second in
      less_from (live_in plain a * payload_of plain c) (live_in plain c * payload_of plain a) a c (
        first_least (live_in plain a) (live_in plain b) (live_in plain c) (payload_of plain a) (payload_of plain b)
            (payload_of plain c) (some_payload b is_b) one.0 two.0,
        λ same.
            (let equal =
            all_equal (live_in plain a) (live_in plain b) (live_in plain c) (payload_of plain a) (payload_of plain b)
            (payload_of plain c) (some_payload a is_a) (some_payload c is_c) one.0 two.0 same in
            let below = one.1 equal.0 in
            let on = two.1 equal.1 in
            omega (arith, below, on)),
      )
