-- Contract: the options of a command, and the words that give them.
use Rattle.std.specs.Prelude.{◌≡◌, ◌≢◌, ◌⊎◌, Bool, true, false, not, ◌&&◌, ◌||◌, List, [], ◌∷◌, ◌++◌, Option, Some, None, is_some}
use Rattle.std.specs.Prelude.{codes, drop, find, option_and_then, option_map, slice_get}
use Rattle.std.specs.List.{All, list_all, list_any}
use Rattle.std.specs.Option.{option_or, option_to_list}
use Rattle.std.specs.Str.{bytes_eq, chars}
use Rattle.clap.specs.Simple.{new_rule}
use Rattle.clap.specs.Values.{bool_text}
use Rattle.clap.specs.Walk.{Rule, Text}
use Rattle.clap.specs.declared.builder.action.ArgAction.TheVariants.{SetTrue}

-- ---- what a command asks for

-- an option of a command, by its name
pub data CommandOption : Type 0 where
  -- it takes a value, and the command asks for it
  required : Text → CommandOption
  -- it takes a value; where the words give none, this one stands
  optional : Text → Option Text → CommandOption
  -- it takes no value
  flag : Text → CommandOption

abbrev pub option_name : CommandOption → Text
option_name (required name) = name
option_name (optional name default) = name
option_name (flag name) = name

abbrev pub is_required : CommandOption → Bool
is_required (required name) = true
is_required (optional name default) = false
is_required (flag name) = false

abbrev pub takes_value : CommandOption → Bool
takes_value (required name) = true
takes_value (optional name default) = true
takes_value (flag name) = false

-- the value that stands where the words give none: that of a flag says that it is not given
abbrev pub default_of : CommandOption → Option Text
default_of (required name) = None
default_of (optional name default) = default
default_of (flag name) = Some (bool_text false)

-- an option with a name alone, as clap reads it
abbrev pub rule_named : Text → Rule
rule_named name = record (new_rule name) { long = Some name; value_names = 1 }

abbrev pub rule_for : CommandOption → Rule
rule_for (required name) = record (rule_named name) { required = true }
rule_for (optional name default) = record (rule_named name) { defaults = option_to_list default }
rule_for (flag name) = record (new_rule name) { long = Some name; action = Some SetTrue }

-- ---- what words give

-- an option as it is given
pub data Given : Type 0 where
  -- `--name value`
  apart : Text → Text → Given
  -- `--name=value`
  joined : Text → Text → Given
  -- `--name`, of a flag
  alone : Text → Given

abbrev pub option_words : Given → List Text
option_words (apart name value) = (codes "--" ++ name) ∷ value ∷ []
option_words (joined name value) = (codes "--" ++ name ++ codes "=" ++ value) ∷ []
option_words (alone name) = (codes "--" ++ name) ∷ []

abbrev pub name_in : Given → Text
name_in (apart name value) = name
name_in (joined name value) = name
name_in (alone name) = name

-- the value: that of a flag says that it is given
abbrev pub text_in : Given → Text
text_in (apart name value) = value
text_in (joined name value) = value
text_in (alone name) = bool_text true

-- after the words, `--` may end the options
abbrev pub MayEnd : List Text → List Text → Type 0
MayEnd before words = (words ≡ before) ⊎ (words ≡ before ++ codes "--" ∷ [])

-- a value that is a word of its own does not begin with a hyphen, unless no character follows that
abbrev pub StandsAlone : Text → Type 0
StandsAlone value = (slice_get value 0 ≢ Some 45) ⊎ (chars (drop 1 value) ≡ [])

-- whether the option of the command with this name takes a value
abbrev pub kind_named : List CommandOption → Text → Option Bool
kind_named command name = option_map takes_value (find (λ option. bytes_eq (option_name option) name) command)

-- an option of the command, with a value that may stand as it does, or with none if it is a flag
abbrev pub IsOptionOf : List CommandOption → Given → Type 0
IsOptionOf command (apart name value) = (kind_named command name ≡ Some true) × StandsAlone value
IsOptionOf command (joined name value) = kind_named command name ≡ Some true
IsOptionOf command (alone name) = kind_named command name ≡ Some false

abbrev pub has_option : Text → List Given → Bool
has_option name options = list_any (λ given. bytes_eq (name_in given) name) options

-- no option is given twice
abbrev pub EachOnce : List Given → Type 0
EachOnce [] = Unit {0}
EachOnce (given ∷ rest) = (has_option (name_in given) rest ≡ false) × EachOnce rest

-- each option that the command asks for is given
abbrev pub has_required : List CommandOption → List Given → Bool
has_required command options = list_all (λ option. not (is_required option) || has_option (option_name option) options) command

-- these may be given to the command
pub record AreOptionsOf (command : List CommandOption) (options : List Given) : Type 0 where
  pub each : All (IsOptionOf command) options
  pub once : EachOnce options
  pub required : has_required command options ≡ true

-- ---- the values

abbrev pub given_value : List Given → Text → Option Text
given_value options name = option_map text_in (find (λ given. bytes_eq (name_in given) name) options)

abbrev pub default_value : List CommandOption → Text → Option Text
default_value command name =
    option_and_then default_of (find (λ option. bytes_eq (option_name option) name && is_some (default_of option)) command)

-- the value of an option of the command: the one that is given, else the default
abbrev pub value_of : List CommandOption → List Given → Text → Option Text
value_of command options name = option_or (given_value options name) (default_value command name)

-- ---- plain options

-- the value is not empty, and does not begin with a hyphen
abbrev pub IsPlainValue : Text → Type 0
IsPlainValue value = (value ≢ []) × (slice_get value 0 ≢ Some 45)

-- a flag, or an option with a plain value as a word of its own
abbrev pub IsPlainOption : Given → Type 0
IsPlainOption (apart name value) = IsPlainValue value
IsPlainOption (joined name value) = ⊥
IsPlainOption (alone name) = Unit {0}
