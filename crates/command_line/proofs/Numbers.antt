-- A text that spells a number in decimal digits is parsed to it.
use Rattle.std.proofs.Common.{◌≡◌, ◌≢◌, ◌∙◌, ◌^◌, ◌%◌, ◌<◌, ◌+◌, ◌++◌, ℕ, Bool, true, false, inl, List, [], ◌∷◌, Option, Some}
use Rattle.std.proofs.Common.{None, ap, arith, refl, sym}
use Rattle.std.specs.Prelude.{Ok, Result, decimal, IfNone, slice_get}
use Rattle.std.specs.Bool.{then_some}
use Rattle.std.specs.Str.{bytes_eq}
use Rattle.std.specs.Str.Parse.{ParsesUnsigned}
use Rattle.std.proofs.lemmas.Fmt.{decimal_by_steps, parse-decimal}
use Rattle.std.proofs.lemmas.Slice.Eq.{bytes_eq-Decides}
use Rattle.command_line.specs.Options.{StandsAlone}

-- what `ok` makes of a result that is `Ok`
module _ {E : Type 0} where
  abbrev pub ok_of : Result ℕ E → Option ℕ
  ok_of (Ok n) = Some n
  ok_of _ = None

  pub no_number : (text : List ℕ) (parsed : Result ℕ E) → ParsesUnsigned 64 10 text parsed → ok_of parsed ≡ None
      → (n : ℕ) → n < 2 ^ 64 → text ≢ decimal n
  no_number text parsed parses none n small is =
      let found : parsed ≡ Ok n = parse-decimal 64 n text parsed small small is parses in
      let both : Some n ≡ None = ap ok_of (sym found) ∙ none in cc

  pub other_number : (text printed : List ℕ) (parsed : Result ℕ E) (number : ℕ) → ParsesUnsigned 64 10 text parsed
      → ok_of parsed ≡ Some number
      → printed ≡ decimal number → IfNone (then_some (bytes_eq printed text) number) ((n : ℕ) → n < 2 ^ 64 → text ≢ decimal n)
  other_number text printed parsed number parses some prints = go (bytes_eq printed text) refl
    where
      go : (test : Bool) → bytes_eq printed text ≡ test → IfNone (then_some test number) ((n : ℕ) → n < 2 ^ 64 → text ≢ decimal n)
      go true e = tt
      go false e = λ n small is.
          let found : parsed ≡ Ok n = parse-decimal 64 n text parsed small small is parses in
          let same : Some n ≡ Some number = ap ok_of (sym found) ∙ some in
          let equal : n ≡ number = cc in
          let texts : printed ≡ text = prints ∙ ap decimal (sym equal) ∙ sym is in
          let both : true ≡ false = sym ((bytes_eq-Decides printed text).1 texts) ∙ e in cc

-- ---- the digits of a number are a value that is a word of its own

abbrev NoHyphen : List ℕ → Type 0
NoHyphen text = slice_get text 0 ≢ Some 45

digit_no_hyphen : (n : ℕ) → NoHyphen ((48 + n) ∷ [])
digit_no_hyphen n bad =
    let same : Some (48 + n) ≡ Some 45 = bad in
    let is : 48 + n ≡ 45 = cc in omega (arith, is)

more_no_hyphen : (digit : ℕ) (text : List ℕ) → NoHyphen text → NoHyphen (text ++ (48 + digit) ∷ [])
more_no_hyphen digit [] none = digit_no_hyphen digit
more_no_hyphen digit (x ∷ xs) none = none

pub decimal_stands : (n : ℕ) → n < 2 ^ 64 → StandsAlone (decimal n)
decimal_stands n small =
    inl (decimal_by_steps (λ _ text. NoHyphen text) (λ m below. digit_no_hyphen m)
    (λ m text above before. more_no_hyphen (m % 10) text before) n small)
