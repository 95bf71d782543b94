-- The spelling of a name is a text.
use Rattle.std.proofs.Common.{◌≡◌, refl, ℕ, zero, suc, ◌<◌, Bool, true, ◌&&◌, List, [], ◌∷◌, ◌++◌, get_or, arith, inl, inr}
use Rattle.std.specs.Prelude.{IsAscii, IsUtf8, nat_lt}
use Rattle.std.specs.List.{list_all}
use Rattle.std.specs.Char.{digit_char}
use Rattle.std.proofs.lemmas.Bool.{cases_lt}
use Rattle.std.proofs.lemmas.Bool.Decides.{nat_tests}
use Rattle.std.proofs.lemmas.List.{get_or_past}
use Rattle.std.proofs.lemmas.Str.{IsUtf8-from_ascii}
use Rattle.uuid.specs.Text.{hyphenated_text, lower}
use Rattle.uuid.proofs.TextLemmas.{hyphenated_ascii}
use Rattle.lsvd_names.specs.Spelling.{hex_digits, dot, word, ending, spelling}
use Rattle.lsvd_names.specs.declared.name.NameKind.{NameKind}
use Rattle.lsvd_names.specs.declared.name.NameKind.TheVariants.{Super, Epoch, Object, Hold}
use Rattle.lsvd_names.specs.declared.name.ObjName.{ObjName}
use Rattle.lsvd_names.proofs.Hexadecimal.{length-hex_digits, digit_at}

ascii-append : (xs ys : List ℕ) → IsAscii xs → IsAscii ys → IsAscii (xs ++ ys)
ascii-append [] ys a b = b
ascii-append (x ∷ xs) ys a b = λ i. elim i as (λ k. get_or (x ∷ (xs ++ ys)) k 0 < 128) [
  | zero ↦ a 0
  | suc k ↦ ascii-append xs ys (λ j. a (suc j)) b k
]

first_small : (x : ℕ) (rest : Bool) → (nat_lt x 128 && rest) ≡ true → (x < 128) × (rest ≡ true)
first_small x rest e = grind (arith, nat_tests)

ascii_all : (xs : List ℕ) → list_all (λ b. nat_lt b 128) xs ≡ true → IsAscii xs
ascii_all [] e = λ i. omega arith
ascii_all (x ∷ xs) e = λ i. elim i as (λ k. get_or (x ∷ xs) k 0 < 128) [
  | zero ↦ (first_small x (list_all (λ b. nat_lt b 128) xs) e).0
  | suc k ↦ ascii_all xs (first_small x (list_all (λ b. nat_lt b 128) xs) e).1 k
]

digit_small : (d : ℕ) → d < 16 → digit_char d < 128
digit_small d h = grind (arith, nat_tests)

ascii-hex_digits : (number : ℕ) → IsAscii (hex_digits 16 number)
ascii-hex_digits number = λ i. elim (cases_lt i 16) [
  | inl under ↦
      let digit = digit_at 16 number i under in
      let small = digit_small digit.0 digit.1 in
      omega (arith, digit.2, small)
  | inr over ↦ omega (arith, get_or_past (hex_digits 16 number) i 0 (omega (arith, length-hex_digits 16 number)))
]

ascii-ending : (kind : NameKind) (number : ℕ) → IsAscii (dot ∷ ending kind number)
ascii-ending Super number = ascii_all (dot ∷ word Super) refl
ascii-ending Epoch number = ascii-append (dot ∷ (word Epoch ++ dot ∷ [])) (hex_digits 16 number)
    (ascii_all (dot ∷ (word Epoch ++ dot ∷ [])) refl) (ascii-hex_digits number)
ascii-ending Object number = ascii-append (dot ∷ (word Object ++ dot ∷ [])) (hex_digits 16 number)
    (ascii_all (dot ∷ (word Object ++ dot ∷ [])) refl) (ascii-hex_digits number)
ascii-ending Hold number = ascii-append (dot ∷ (word Hold ++ dot ∷ [])) (hex_digits 16 number)
    (ascii_all (dot ∷ (word Hold ++ dot ∷ [])) refl) (ascii-hex_digits number)

pub spelling_is_text : (name : ObjName) → IsUtf8 (spelling name)
spelling_is_text name =
    IsUtf8-from_ascii (spelling name)
    (ascii-append (hyphenated_text lower name.uuid) (dot ∷ ending name.kind name.number)
    (hyphenated_ascii lower name.uuid (inl refl)) (ascii-ending name.kind name.number))
