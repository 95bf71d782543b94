-- The hexadecimal digits of a number: what they are, how they are read, and what `{:016x}` writes.
use Rattle.std.proofs.Common.{◌≡◌, ℕ, zero, suc, ◌+◌, ◌-◌, ◌*◌, ◌/◌, ◌%◌, ◌^◌, ◌<◌, ◌≤◌, false, cond, eq-eqb, inl, inr, List, []}
use Rattle.std.proofs.Common.{◌∷◌, ◌++◌, length, get_or, replicate, refl, sym, ◌∙◌, ap, arith, length-append, append_assoc}
use Rattle.std.specs.Char.{digit_char, digit_value}
use Rattle.std.specs.Fmt.{digits, digits_onto, digit_glyph, padded_integral, format_spec, char_count}
use Rattle.std.specs.Str.Parse.{digits_value}
use Rattle.std.proofs.lemmas.Bool.{cases_lt}
use Rattle.std.proofs.lemmas.Bool.Decides.{nat_tests}
use Rattle.std.proofs.lemmas.List.{get_or_append_left, get_or_push, length-replicate, replicate-append-replicate, append-nil}
use Rattle.std.proofs.lemmas.Int.Digits.{digits_value_push}
use borrow.Author.Tests.{ne_eqb}
use Rattle.std.proofs.lemmas.Grind.{pow_more}
use Rattle.std.proofs.Math.Nat.{pow-le-pow_right}
use Rattle.lsvd_names.specs.Spelling.{hex_digits}

-- there are as many as asked for
pub length-hex_digits : (count n : ℕ) → length (hex_digits count n) ≡ count
unfolding hex_digits
length-hex_digits zero n = refl
length-hex_digits (suc count) n = omega
    (arith, length-append (hex_digits count (n / 16)) (digit_char (n % 16) ∷ []), length-hex_digits count (n / 16))

-- each of them is a digit
pub digit_at : (count n i : ℕ) → i < count → (d : ℕ) × (d < 16) × (get_or (hex_digits count n) i 0 ≡ digit_char d)
unfolding hex_digits
digit_at zero n i h = absurd (omega arith)
digit_at (suc count) n i h =
    let front = hex_digits count (n / 16) in
    elim (cases_lt i count) [
      | inl under ↦
          let before = digit_at count (n / 16) i under in (
            before.0,
            before.1,
            get_or_append_left front (digit_char (n % 16) ∷ []) 0 i
                (omega (arith, length-hex_digits count (n / 16))) ∙ before.2,
          )
      | inr over ↦ (
        n % 16,
        omega arith,
        get_or_push front (digit_char (n % 16)) 0 i
            (omega (arith, length-hex_digits count (n / 16))),
      )
    ]

-- one digit more at the end
pub one_more_digit : (count n d : ℕ) → d < 16 → hex_digits (count + 1) (n * 16 + d) ≡ hex_digits count n ++ digit_char d ∷ []
unfolding hex_digits
one_more_digit count n d small =
    let more : count + 1 ≡ suc count = omega arith in
    let front : (n * 16 + d) / 16 ≡ n = omega arith in
    let last : (n * 16 + d) % 16 ≡ d = omega arith in
    rw (more, front, last) refl

-- a number with one digit more fits
pub fits_more : (count n d : ℕ) → n < 16 ^ count → d < 16 → n * 16 + d < 16 ^ (count + 1)
fits_more count n d small digit = omega (arith, pow_more 16 count)

pub fits_in_64_bits : (count n : ℕ) → n < 16 ^ count → count ≤ 16 → n < 2 ^ 64
fits_in_64_bits count n small few = let most : 16 ^ count ≤ 16 ^ 16 = pow-le-pow_right (omega arith) few in omega arith

-- where one byte is no digit, the bytes are no number's digits
pub bad_digit : (bytes : List ℕ) (i : ℕ) → i < 16 → ((d : ℕ) → d < 16 → get_or bytes i 0 ≡ digit_char d → ⊥) → (n : ℕ)
    → bytes ≡ hex_digits 16 n → ⊥
bad_digit bytes i h bad n e =
    let digit = digit_at 16 n i h in
    bad digit.0 digit.1 (ap (λ l. get_or l i 0) e ∙ digit.2)

-- a digit's value
digit_value-digit_char : (d : ℕ) → d < 16 → digit_value (digit_char d) ≡ d
digit_value-digit_char d small = grind (arith, nat_tests)

-- the number is the value of its digits
pub digits_value-hex_digits : (count n : ℕ) → n < 16 ^ count → digits_value 16 (hex_digits count n) ≡ n
unfolding hex_digits
digits_value-hex_digits zero n small = omega arith
digits_value-hex_digits (suc count) n small =
    let front = digits_value-hex_digits count (n / 16) (omega arith) in
    omega (
      arith,
      digits_value_push 16 (hex_digits count (n / 16)) (digit_char (n % 16)),
      front,
      digit_value-digit_char (n % 16)
          (omega arith),
    )

-- so two numbers of 64 bits with the same digits are one
pub hex_digits_injective : (m n : ℕ) → m < 2 ^ 64 → n < 2 ^ 64 → hex_digits 16 m ≡ hex_digits 16 n → m ≡ n
hex_digits_injective m n small_m small_n e =
    sym (digits_value-hex_digits 16 m (omega arith)) ∙ ap (digits_value 16) e ∙ digits_value-hex_digits 16 n (omega arith)

-- zero has zeros
zeros : (count : ℕ) → hex_digits count 0 ≡ replicate count 48
unfolding hex_digits
zeros zero = refl
zeros (suc count) =
    let one_more : count + 1 ≡ suc count = omega arith in
    ap (λ l. l ++ 48 ∷ []) (zeros count) ∙ replicate-append-replicate count 1 48 ∙ ap (λ k. replicate k 48) one_more

-- the digit that stands last
abbrev last_glyph : ℕ → ℕ
last_glyph n = digit_glyph false (n % 16)

-- how digits are written before others
onto_last : (k n : ℕ) (acc : List ℕ) → n < 16 → digits_onto (suc k) 16 false n acc ≡ last_glyph n ∷ acc
onto_last k n acc h = ap (λ t. cond t (last_glyph n ∷ acc) (digits_onto k 16 false (n / 16) (last_glyph n ∷ acc)))
    (eq-eqb (n / 16) 0 (omega arith))

onto_next : (k n : ℕ) (acc : List ℕ) → 16 ≤ n → digits_onto (suc k) 16 false n acc ≡ digits_onto k 16 false (n / 16)
    (last_glyph n ∷ acc)
onto_next k n acc h = ap (λ t. cond t (last_glyph n ∷ acc) (digits_onto k 16 false (n / 16) (last_glyph n ∷ acc)))
    (ne_eqb (n / 16) 0 (λ e. omega arith))

-- a number with more than one digit has some before the last
some_left : (count n : ℕ) → n < 16 ^ suc count → 16 ≤ n → 0 < count
some_left zero n small more = absurd (omega arith)
some_left (suc count) n small more = omega arith

-- what is written with no leading zeros lacks only those
without_zeros : (count k n : ℕ) (acc : List ℕ) → 0 < count → count ≤ k → n < 16 ^ count
    → (pad : ℕ) × (replicate pad 48 ++ digits_onto k 16 false n acc ≡ hex_digits count n ++ acc)
unfolding hex_digits
without_zeros zero k n acc some room small = absurd (omega arith)
without_zeros (suc count) zero n acc some room small = absurd (omega arith)
without_zeros (suc count) (suc k) n acc some room small =
    let regroup : (hex_digits count (n / 16) ++ last_glyph n ∷ []) ++ acc ≡ hex_digits count (n / 16) ++ last_glyph n ∷ acc =
    append_assoc (hex_digits count (n / 16)) (last_glyph n ∷ []) acc in
    elim (cases_lt n 16) [
      | inl one ↦
          let front : n / 16 ≡ 0 = omega arith in (
            count,
            ap (λ l. replicate count 48 ++ l) (onto_last k n acc one) ∙ ap (λ l. l ++ last_glyph n ∷ acc) (sym (zeros count)
                ∙ ap (hex_digits count) (sym front)) ∙ sym regroup,
          )
      | inr more ↦
          let before = without_zeros count k (n / 16) (last_glyph n ∷ acc) (some_left count n small more) (omega arith)
          (omega arith) in
          (before.0, ap (λ l. replicate before.0 48 ++ l) (onto_next k n acc more) ∙ before.1 ∙ sym regroup)
    ]

-- zeros stand before what is padded to sixteen
padded_to_sixteen : (numeral : List ℕ) → padded_integral (format_spec 32 0 4 16 (2 ^ 64 - 1)) false [] numeral
    ≡ replicate (16 - length numeral - 0 - 0) 48 ++ (numeral ++ [])
unfolding padded_integral char_count
padded_to_sixteen numeral = refl

digits_at_once : (n : ℕ) → digits 16 false n ≡ digits_onto 64 16 false n []
unfolding digits
digits_at_once n = refl

same_padding : (pad : ℕ) (written all : List ℕ) → replicate pad 48 ++ written ≡ all → length all ≡ 16
    → replicate (16 - length written - 0 - 0) 48 ++ (written ++ []) ≡ all
same_padding pad written all e sixteen =
    let count : 16 - length written - 0 - 0 ≡ pad =
    omega (arith, ap length e, length-append (replicate pad 48) written, length-replicate {A = ℕ} pad 48) in
    rw (count, append-nil written) e

-- what `{:016x}` writes
pub zero_padded : (n : ℕ) → n < 2 ^ 64 → padded_integral (format_spec 32 0 4 16 (2 ^ 64 - 1)) false [] (digits 16 false n)
    ≡ hex_digits 16 n
zero_padded n small =
    let whole = without_zeros 16 64 n [] (omega arith) (omega arith) (omega arith) in
    ap (padded_integral (format_spec 32 0 4 16 (2 ^ 64 - 1)) false []) (digits_at_once n)
    ∙ padded_to_sixteen (digits_onto 64 16 false n [])
    ∙ same_padding whole.0 (digits_onto 64 16 false n []) (hex_digits 16 n) (whole.1 ∙ append-nil (hex_digits 16 n))
    (length-hex_digits 16 n)
