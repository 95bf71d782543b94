-- Contract: the line that tells why a volume is not created or not mounted.
use Rattle.std.specs.Prelude.{ℕ, List, ◌++◌, codes, decimal}
use Rattle.uuid.specs.Text.{hyphenated_text, lower}
use Rattle.refusals.specs.Numbers.{refusal_number, refusal_values}
use Rattle.refusals.specs.declared.refusal.Refusal.{Refusal}
use Rattle.refusals.specs.declared.refusal.Values.{Values}
use Rattle.refusals.specs.declared.refusal.Values.TheVariants.{Nothing, One, Two, Volume}

-- the line with a number, and values after it
abbrev pub line_with : (number : ℕ) → Values → List ℕ
line_with number Nothing = codes "refused " ++ decimal number ++ codes "\n"
line_with number (One value) = codes "refused " ++ decimal number ++ codes " " ++ decimal value ++ codes "\n"
line_with number (Two first second) =
    codes "refused " ++ decimal number ++ codes " " ++ decimal first ++ codes " " ++ decimal second ++ codes "\n"
line_with number (Volume found) =
    codes "refused " ++ decimal number ++ codes " " ++ hyphenated_text lower found ++ codes "\n"

-- that of a refusal, with its number and its values
abbrev pub refusal_line : Refusal → List ℕ
refusal_line refusal = line_with (refusal_number refusal) (refusal_values refusal)
