-- The order in which candidates are taken: of two with different numbers one goes first, and it goes on over a third.
use Rattle.std.proofs.Common.{not, ℕ, ◌*◌, ◌<◌, ◌≤◌, ◌≡◌, ◌≢◌, Bool, true, false, ◌&&◌, nat_eq, ap, arith}
use Rattle.std.specs.Prelude.{◌||◌, nat_lt, IsTrue}
use Rattle.std.specs.Cmp.{IsStrictWeakOrder}
use Rattle.std.proofs.Math.Nat.{mul-le-mul_right, le_of_mul-le-mul_right}
use Rattle.std.proofs.lemmas.Bool.{and_parts}
use Rattle.std.proofs.lemmas.Bool.Decides.{nat_tests}
use Rattle.object_table.specs.declared.row.ObjectRow.{ObjectRow}
use Rattle.gc_policy.specs.declared.candidate.Candidate.{Candidate}
use Rattle.gc_policy.specs.Victims.{goes_before}

-- ---- shares as products, and numbers where these are equal

abbrev less : (share other number others : ℕ) → Bool
less share other number others = nat_lt share other || (nat_eq share other && nat_lt number others)

abbrev NotLess : (share other number others : ℕ) → Type 0
NotLess share other number others = (other ≤ share) × (share ≡ other → others ≤ number)

not_less : (share other number others : ℕ) → less share other number others ≡ false → NotLess share other number others
not_less share other number others is = (grind (arith, nat_tests), λ same. grind (arith, nat_tests))

not_less_from : (share other number others : ℕ) → NotLess share other number others → less share other number others ≡ false
not_less_from share other number others least =
    let most = least.0 in
    let tie = least.1 in
    grind (arith, nat_tests, most, tie)

one_way : (share other number others : ℕ) → less share other number others ≡ true → less other share others number ≡ false
one_way share other number others is = grind (arith, nat_tests)

apart : (share other number others : ℕ) → less other share others number ≡ false → number ≢ others
    → less share other number others ≡ true
apart share other number others is different = grind (arith, nat_tests)

-- ---- three shares, each of a payload that is not 0

-- where a first is not less than a second, and this not than a third, the first is not less than the third
least_last : (live_a live_b live_c payload_a payload_b payload_c : ℕ) → 0 < payload_b
    → live_b * payload_a ≤ live_a * payload_b → live_c * payload_b ≤ live_b * payload_c
    → live_c * payload_a ≤ live_a * payload_c
least_last live_a live_b live_c payload_a payload_b payload_c some first second =
    let up : live_b * payload_a * payload_c ≤ live_a * payload_b * payload_c = mul-le-mul_right payload_c first in
    let on : live_c * payload_b * payload_a ≤ live_b * payload_c * payload_a = mul-le-mul_right payload_a second in
    let whole : (live_c * payload_a) * payload_b ≤ (live_a * payload_c) * payload_b = omega (arith, up, on) in
    le_of_mul-le-mul_right whole some

-- and where the first and the third are equal, all are
all_equal : (live_a live_b live_c payload_a payload_b payload_c : ℕ) → 0 < payload_a → 0 < payload_c
    → live_b * payload_a ≤ live_a * payload_b → live_c * payload_b ≤ live_b * payload_c
    → live_a * payload_c ≡ live_c * payload_a
    → (live_a * payload_b ≡ live_b * payload_a) × (live_b * payload_c ≡ live_c * payload_b)
all_equal live_a live_b live_c payload_a payload_b payload_c some_a some_c first second same =
    let up : live_b * payload_a * payload_c ≤ live_a * payload_b * payload_c = mul-le-mul_right payload_c first in
    let on : live_c * payload_b * payload_a ≤ live_b * payload_c * payload_a = mul-le-mul_right payload_a second in
    let round : live_a * payload_c * payload_b ≡ live_c * payload_a * payload_b = ap (λ n. n * payload_b) same in
    let back : (live_a * payload_b) * payload_c ≤ (live_b * payload_a) * payload_c = omega (arith, up, on, round) in
    let back_on : (live_b * payload_c) * payload_a ≤ (live_c * payload_b) * payload_a = omega (arith, up, on, round) in
    let at_most = le_of_mul-le-mul_right back some_c in
    let on_at_most = le_of_mul-le-mul_right back_on some_a in
    (omega (arith, first, at_most), omega (arith, second, on_at_most))

-- ---- candidates

some_payload : (candidate : Candidate) → 0 < candidate.row.payload
some_payload candidate =
    let row = candidate.row in
    let poor = nat_lt 0 row.live && nat_lt (row.live * 100) (70 * row.payload) in
    let few = (and_parts (nat_lt 0 row.live) _ (and_parts poor (not row.is_held) candidate.is_one).0).1 in
    grind (arith, nat_tests, few)

goes_on : (one other third : Candidate) → goes_before one.row other.row ≡ false → goes_before other.row third.row ≡ false
    → goes_before one.row third.row ≡ false
goes_on one other third first second =
    let a = one.row in
    let b = other.row in
    let c = third.row in
    let here = not_less _ _ a.number b.number first in
    let there = not_less _ _ b.number c.number second in
    not_less_from _ _ _ _ (
      least_last a.live b.live c.live a.payload b.payload c.payload (some_payload other) here.0 there.0,
      λ same.
          (let equal =
          all_equal a.live b.live c.live a.payload b.payload c.payload (some_payload one) (some_payload third) here.0 there.0
          same in
          omega (arith, here.1 equal.0, there.1 equal.1)),
    )

-- candidates compare
pub in_order : IsStrictWeakOrder (λ (one other : Candidate). goes_before one.row other.row)
in_order = record {
  one_way = λ one other is.
      one_way (one.row.live * other.row.payload) (other.row.live * one.row.payload) one.row.number other.row.number is;
  chain = goes_on;
}

-- of two with different numbers one goes before the other
pub one_first : (one other : ObjectRow) → goes_before other one ≡ false → one.number ≢ other.number
    → IsTrue (goes_before one other)
one_first one other is different =
    apart (one.live * other.payload) (other.live * one.payload) one.number other.number is different
