-- Contract: what the words after `churn` ask for.
use Rattle.std.specs.Prelude.{◌≡◌, true, if◌then◌else◌, List, [], ◌∷◌, Option, Some, None, codes}
use Rattle.std.specs.Str.{bytes_eq}
use Rattle.clap.specs.Simple.{new_rule}
use Rattle.clap.specs.Walk.{Rule, Text}
use Rattle.command_line.specs.Options.{MayEnd, StandsAlone}
use Rattle.command_line.specs.Values.{IsBetween, IsNumber, LacksBetween, LacksNumber}
use Rattle.command_line.specs.declared.churn.ChurnRequest.{ChurnRequest}

-- a word that the command asks for, which has a place and no name before it
abbrev pub rule_of_place : Text → Rule
rule_of_place name = record (new_rule name) { value_names = 1; required = true }

-- the two words of `churn`
abbrev pub churn_rules : List Rule
churn_rules = rule_of_place (codes "steps") ∷ rule_of_place (codes "seed") ∷ []

-- The words after the command: the steps, and then the seed. `--` may come once, before, between or behind them; a word before it
-- stands alone, and one behind it may be any.
pub data AreNumbers (steps seed : Text) (words : List Text) : Type 0 where
  plain : StandsAlone steps → StandsAlone seed → MayEnd (steps ∷ seed ∷ []) words → AreNumbers steps seed words
  seed_behind : StandsAlone steps → words ≡ steps ∷ codes "--" ∷ seed ∷ [] → AreNumbers steps seed words
  both_behind : words ≡ codes "--" ∷ steps ∷ seed ∷ [] → AreNumbers steps seed words

-- each of them by its name
abbrev pub churn_value : (steps seed : Text) → Text → Option Text
churn_value steps seed name =
    if bytes_eq (codes "steps") name then Some steps else (if bytes_eq (codes "seed") name then Some seed else None)

-- they ask for this
pub record AsksToChurn (value : Text → Option Text) (request : ChurnRequest) : Type 0 where
  pub steps : IsBetween value (codes "steps") 0 1000000 request.steps
  pub seed : IsNumber value (codes "seed") request.seed

-- why they ask for nothing
pub data HasBadNumber (value : Text → Option Text) : Type 0 where
  steps : LacksBetween value (codes "steps") 0 1000000 → HasBadNumber value
  seed : LacksNumber value (codes "seed") → HasBadNumber value
