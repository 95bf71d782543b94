-- What a word that spells a number is: facts for the loop over its digits, and the tests that decide it.
use Rattle.std.proofs.Common.{◌≡◌, ℕ, ◌+◌, ◌-◌, ◌*◌, ◌/◌, ◌%◌, ◌^◌, ◌<◌, ◌&&◌, Bool, true, false, cond, ◌⊎◌, inl, inr, List, []}
use Rattle.std.proofs.Common.{◌∷◌, length, get_or, take, refl, sym, ◌∙◌, ap, arith, Option, Some, None}
use Rattle.std.specs.Prelude.{decimal, nat_lt}
use Rattle.std.specs.Char.{digit_char, digit_value}
use Rattle.std.specs.Int.{IsInRange}
use Rattle.std.specs.Str.{bytes_eq}
use Rattle.std.specs.Str.Parse.{digits_value, AllDigits}
use Rattle.std.proofs.lemmas.Str.Parse.{IsNumeralModel, numerals_by_value, tells_digits, digit_at, digits_value-take-le}
use Rattle.std.proofs.lemmas.Int.Digits.{digits_more, digits_value_more}
use Rattle.std.specs.Option.{SomeIff, IfSome, IfNone}
use Rattle.std.proofs.lemmas.Fmt.{decimal-digits_value, decimal_nonempty, first_decimal, decimal_digit, digits_decimal}
use Rattle.std.proofs.lemmas.Fmt.{digits_value-decimal}
use Rattle.std.proofs.lemmas.Slice.Eq.{bytes_eq-Decides}
use Rattle.std.proofs.lemmas.Bool.Decides.{nat_tests, Decides-ltb, Decides-and}
use Rattle.std.specs.Bool.{Decides}
use Rattle.std.proofs.lemmas.Bool.{cases_lt}
use Rattle.replay_script.specs.Grammar.{hexadecimal}

-- digits and their value, in std's own words
own : IsNumeralModel (AllDigits 10) (digits_value 10)
own = numerals_by_value _ tells_digits

-- digits with no needless zero in front spell their value
pub spells_its_value : (word : List ℕ) → AllDigits 10 word → 0 < length word → (get_or word 0 0 ≡ 48 → length word ≡ 1)
    → digits_value 10 word < 2 ^ 64 → word ≡ decimal (digits_value 10 word)
spells_its_value word digits some zero small = sym (decimal-digits_value own word digits some zero small)

-- no other word spells a number
pub no_number_empty : (word : List ℕ) → length word ≡ 0 → (n : ℕ) → n < 2 ^ 64 → word ≡ decimal n → ⊥
no_number_empty word none n small e = omega (arith, decimal_nonempty n small, ap length e)

pub no_number_zero : (word : List ℕ) → 1 < length word → get_or word 0 0 ≡ 48 → (n : ℕ) → n < 2 ^ 64 → word ≡ decimal n → ⊥
no_number_zero word long zero n small e =
    elim (cases_lt 0 n) [
      | inl above ↦ let first = first_decimal n above small in omega (arith, ap (λ w. get_or w 0 0) e)
      | inr none ↦
          let is_zero : n ≡ 0 = omega arith in
          let one : word ≡ 48 ∷ [] = e ∙ ap decimal is_zero ∙ decimal_digit 0 (omega arith) in
          omega (arith, ap length one)
    ]

pub no_number_digits : (word : List ℕ) → ¬ (AllDigits 10 word × (digits_value 10 word < 2 ^ 64)) → (n : ℕ) → n < 2 ^ 64
    → word ≡ decimal n → ⊥
no_number_digits word bad n small e =
    let value : digits_value 10 word ≡ n = rw e (digits_value-decimal own n small) in
    bad (rw e (digits_decimal own n small), omega arith)

-- what the value of the digits tells of the word
pub number_found : (word : List ℕ) (value : Option ℕ) → SomeIff value (AllDigits 10 word × (digits_value 10 word < 2 ^ 64))
    (digits_value 10 word) → 0 < length word → ¬ ((1 < length word) × (get_or word 0 0 ≡ 48))
    → IfSome value (λ n. (n < 2 ^ 64) × (word ≡ decimal n))
number_found word (Some n) (found, is_value) some zero =
    let one : get_or word 0 0 ≡ 48 → length word ≡ 1 = λ h. elim (cases_lt 1 (length word)) [
      | inl long ↦ absurd (zero (long, h))
      | inr short ↦ omega arith
    ] in
    (omega (arith, found.1), spells_its_value word found.0 some one found.1 ∙ ap decimal (sym is_value))
number_found word None bad some zero = tt

pub number_none : (word : List ℕ) (value : Option ℕ) → SomeIff value (AllDigits 10 word × (digits_value 10 word < 2 ^ 64))
    (digits_value 10 word) → IfNone value ((n : ℕ) → n < 2 ^ 64 → word ≡ decimal n → ⊥)
number_none word (Some n) found = tt
number_none word None bad = no_number_digits word bad

-- a digit's value
digit_value-in_range : (c : ℕ) → IsInRange 48 57 c → digit_value c ≡ c - 48
digit_value-in_range c inside = grind (arith, nat_tests)

-- one more digit, and what it adds to the value
pub one_more_digit : (digits : List ℕ) (i : ℕ) → i < length digits → AllDigits 10 (take i digits)
    → IsInRange 48 57 (get_or digits i 0) → AllDigits 10 (take (i + 1) digits)
    × (digits_value 10 (take (i + 1) digits) ≡ digits_value 10 (take i digits) * 10 + (get_or digits i 0 - 48))
one_more_digit digits i inside front digit =
    let v = digit_value-in_range (get_or digits i 0) digit in (
      digits_more 10 digits i inside front (omega arith),
      digits_value_more 10 digits i inside
          ∙ ap (λ d. digits_value 10 (take i digits) * 10 + d) v,
    )

-- where one byte is no digit, or takes the value past the limit, so do all of them
pub bad_digit : (digits : List ℕ) (i : ℕ) → i < length digits
    → ¬ (IsInRange 48 57 (get_or digits i 0) × (digits_value 10 (take i digits) * 10 + (get_or digits i 0 - 48) < 2 ^ 64))
    → ¬ (AllDigits 10 digits × (digits_value 10 digits < 2 ^ 64))
bad_digit digits i inside bad (all, small) =
    let digit = digit_at digits i all inside in
    let v = digit_value-in_range (get_or digits i 0) digit in
    let more = digits_value_more 10 digits i inside in
    let front = digits_value-take-le 10 digits (i + 1) (omega arith) in
    bad (digit, omega arith)

-- a fact that a test decides holds or does not
pub decided : {P : Type 0} (test : Bool) → Decides test P → P ⊎ (P → ⊥)
decided true d = inl (d.0 refl)
decided false d = inr (λ p. let same = d.1 p in cc)

-- whether a word spells a number is decided
pub decide_number : (word : List ℕ) → ((n : ℕ) × (n < 2 ^ 64) × (word ≡ decimal n))
    ⊎ ((n : ℕ) → n < 2 ^ 64 → word ≡ decimal n → ⊥)
decide_number word =
    let value = digits_value 10 word in
    elim (decided (nat_lt value (2 ^ 64) && bytes_eq word (decimal value))
    (Decides-and _ _ (Decides-ltb value (2 ^ 64)) (bytes_eq-Decides word (decimal value)))) [
      | inl spells ↦ inl (value, spells.0, spells.1)
      | inr other ↦ inr (λ n small e. let v : value ≡ n = rw e (digits_value-decimal own n small) in
          other (omega arith, e ∙ ap decimal (sym v)))
    ]

-- the value of a hexadecimal digit; what it gives for any other byte is of no use
abbrev hex_value : ℕ → ℕ
hex_value c = cond (nat_lt c 58) (c - 48) (c - 87)

hex_value-digit_char : (d : ℕ) → d < 16 → hex_value (digit_char d) ≡ d
hex_value-digit_char d small = grind (arith, nat_tests)

-- a byte is the value of its two digits
hex_value-hexadecimal : (n high low : ℕ) → n < 256 → high ∷ low ∷ [] ≡ hexadecimal n → hex_value high * 16 + hex_value low ≡ n
hex_value-hexadecimal n high low small e =
    let first : high ≡ digit_char (n / 16) = cc in
    let second : low ≡ digit_char (n % 16) = cc in
    omega (
      arith,
      ap hex_value first ∙ hex_value-digit_char (n / 16) (omega arith),
      ap hex_value second
          ∙ hex_value-digit_char (n % 16) (omega arith),
    )

pub hexadecimal_injective : (m n : ℕ) → m < 256 → n < 256 → hexadecimal m ≡ hexadecimal n → m ≡ n
hexadecimal_injective m n small_m small_n e =
    sym (hex_value-hexadecimal m (digit_char (m / 16)) (digit_char (m % 16)) small_m refl)
    ∙ hex_value-hexadecimal n (digit_char (m / 16)) (digit_char (m % 16)) small_n e

-- whether a word spells a byte is decided
pub decide_byte : (word : List ℕ) → ((n : ℕ) × (n < 256) × (word ≡ hexadecimal n))
    ⊎ ((n : ℕ) → n < 256 → word ≡ hexadecimal n → ⊥)
decide_byte (high ∷ low ∷ []) =
    let value = hex_value high * 16 + hex_value low in
    elim (decided (nat_lt value 256 && bytes_eq (high ∷ low ∷ []) (hexadecimal value))
    (Decides-and _ _ (Decides-ltb value 256) (bytes_eq-Decides (high ∷ low ∷ []) (hexadecimal value)))) [
      | inl spells ↦ inl (value, spells.0, spells.1)
      | inr other ↦ inr (λ n small e. let v : value ≡ n = hex_value-hexadecimal n high low small e in
          other (omega arith, e ∙ ap hexadecimal (sym v)))
    ]
decide_byte _ = inr (λ n small e. omega (arith, ap length e))
