-- Contract: when what is told of a faulty command line is true of its words.
use Rattle.std.specs.Prelude.{◌≡◌, ◌≢◌, ◌⊎◌, ◌+◌, ◌*◌, ◌<◌, ◌==◌, ◌&&◌, ℕ, Bool, true, false, not, if◌then◌else◌, List, [], ◌∷◌}
use Rattle.std.specs.Prelude.{◌++◌, Option, Some, None, codes, drop, filter, is_some, map, take}
use Rattle.std.specs.List.{All, before_first, list_any}
use Rattle.std.specs.Str.{bytes_eq}
use Rattle.clap.specs.Walk.{Row, Rule, Text, rule_of}
use Rattle.clap.specs.Facts.{args_of}
use Rattle.clap.specs.declared.builder.command.Command.{Command}
use Rattle.clap.specs.declared.builder.command.Command.TheViews.{out-Command}
use Rattle.uuid.specs.Text.{parsed}
use Rattle.command_line.specs.Check.{check_options, check_value}
use Rattle.command_line.specs.Churn.{churn_value}
use Rattle.command_line.specs.Collect.{collect_options, collect_value}
use Rattle.command_line.specs.CommandLine.{HasBadOptions, IsAskedBy, IsFaulty, Line, Spells, check, churn, collect, commands}
use Rattle.command_line.specs.CommandLine.{create, replay, serve}
use Rattle.command_line.specs.Create.{create_options, value_in}
use Rattle.command_line.specs.Met.{IsMet, value_among}
use Rattle.command_line.specs.Options.{CommandOption, flag, is_required, option_name, rule_for, takes_value}
use Rattle.command_line.specs.Serve.{serve_options, serve_value}
use Rattle.command_line.specs.Values.{IsNumber, LacksBetween}
use Rattle.command_line.specs.declared.mistake.Mistake.{Mistake}
use Rattle.command_line.specs.declared.mistake.Mistake.TheVariants.{NoCommand, UnknownCommand, UnknownOption, StrayWord, NoValue}
use Rattle.command_line.specs.declared.mistake.Mistake.TheVariants.{FlagValue, Twice, Missing, EmptyValue, NoNumber, NoUuid}
use Rattle.command_line.specs.declared.mistake.Mistake.TheVariants.{ShortLog, BadNumber, MissingWord, Other}
use Rattle.command_line.specs.declared.request.Request.{Request}

-- the words are a line that asks for something, and they are refused
abbrev pub AreTaken : List Text → Type 0
AreTaken words = (line : Line) × (request : Request) × Spells words line × IsAskedBy line request

abbrev pub AreRefused : List Text → Type 0
AreRefused words = IsFaulty words ⊎ ((line : Line) × Spells words line × HasBadOptions line)

-- ---- words by themselves

-- what stands before the value that a word joins to an option by `=`, and whether it does
abbrev pub before_value : Text → Text
before_value word = before_first (λ byte. byte == 61) word

abbrev pub has_value : Text → Bool
has_value word = list_any (λ byte. byte == 61) word

-- the word is the option of this name, with a value or without one
abbrev pub gives : Text → Text → Bool
gives name word = bytes_eq (before_value word) (codes "--" ++ name)

abbrev pub is_given : Text → List Text → Bool
is_given name words = list_any (gives name) words

-- ---- what is said of the words

abbrev pub IsTrueOfWords : List Text → Mistake → Type 0
IsTrueOfWords words NoCommand = words ≡ []
IsTrueOfWords words (UnknownCommand word) =
    ((rest : List Text) × (words ≡ word.now ∷ rest)) × All (λ command. command ≢ word.now) commands
IsTrueOfWords words Other = Unit {0}
IsTrueOfWords words _ = ⊥

-- ---- what is said of the options of a command

-- the command has an option of this name, of which this holds
abbrev pub has_option : (CommandOption → Bool) → Text → List CommandOption → Bool
has_option holds name command = list_any (λ option. holds option && bytes_eq (option_name option) name) command

abbrev pub IsTrueOfOptions : Text → List CommandOption → List Text → Mistake → Type 0
IsTrueOfOptions name command words (UnknownOption of_command option) =
    (of_command.now ≡ name) × (list_any (λ word. bytes_eq (before_value word) option.now) words ≡ true)
IsTrueOfOptions name command words (StrayWord of_command word) =
    (of_command.now ≡ name) × (list_any (λ other. bytes_eq other word.now) words ≡ true)
IsTrueOfOptions name command words (NoValue option) =
    (has_option takes_value option.now command ≡ true)
    × (list_any (λ word. gives option.now word && not (has_value word)) words ≡ true)
IsTrueOfOptions name command words (FlagValue option) =
    (has_option (λ o. not (takes_value o)) option.now command ≡ true)
    × (list_any (λ word. gives option.now word && has_value word) words ≡ true)
-- words up to some place give it, and so do words from there on
IsTrueOfOptions name command words (Twice option) =
    (has_option (λ _. true) option.now command ≡ true)
    × ((at : ℕ) × (is_given option.now (take at words) ≡ true) × (is_given option.now (drop at words) ≡ true))
IsTrueOfOptions name command words (Missing option) =
    (has_option is_required option.now command ≡ true) × (is_given option.now words ≡ false)
-- it asks for more words than there are; how many is not said here
IsTrueOfOptions name command words (MissingWord of_command) = of_command.now ≡ name
IsTrueOfOptions name command words Other = Unit {0}
IsTrueOfOptions name command words _ = ⊥

-- the options of the command of this name. Each command has the flag `--help` of clap too.
abbrev pub options_of : Text → List CommandOption
options_of command =
    flag (codes "help") ∷ (if bytes_eq command (codes "create") then create_options
    else (if bytes_eq command (codes "serve") then serve_options
    else (if bytes_eq command (codes "collect") then collect_options
    else (if bytes_eq command (codes "check") then check_options else []))))

-- ---- what is said of the values of options

abbrev pub IsTrueOfValues : (Text → Option Text) → Mistake → Type 0
IsTrueOfValues value (EmptyValue option) = value option.now ≡ Some []
IsTrueOfValues value (NoNumber option text least most) =
    (value option.now ≡ Some text.now) × LacksBetween value option.now least most
IsTrueOfValues value (NoUuid option text) = (value option.now ≡ Some text.now) × (parsed text.now ≡ None)
IsTrueOfValues value (ShortLog log least) =
    (max_write : ℕ) × IsNumber value (codes "max-write") max_write × IsNumber value (codes "log") log
    × (least ≡ 2 * (max_write + 1)) × (log < least)
IsTrueOfValues value (BadNumber name text least most) =
    (value name.now ≡ Some text.now) × LacksBetween value name.now least most
IsTrueOfValues value _ = ⊥

-- the values that a line gives
abbrev pub line_value : Line → Text → Option Text
line_value replay name = None
line_value (create options) name = value_in options name
line_value (serve options) name = serve_value options name
line_value (collect options) name = collect_value options name
line_value (check options) name = check_value options name
line_value (churn steps seed) name = churn_value steps seed name

-- ---- what is said

-- the mistake is true of the words, of the options that their command has, or of the values in the line that they spell
pub data IsTrueOf (words : List Text) (mistake : Mistake) : Type 0 where
  by_words : IsTrueOfWords words mistake → IsTrueOf words mistake
  by_options : (command : Text) (rest : List Text) → words ≡ command ∷ rest
      → IsTrueOfOptions command (options_of command) words mistake → IsTrueOf words mistake
  by_values : (line : Line) → Spells words line → IsTrueOfValues (line_value line) mistake → IsTrueOf words mistake

-- ---- for this crate's own clauses

-- the mistake is true of the values that clap met, whatever the command is
abbrev pub IsTrueOfMet : Option (Text × List Row) → Mistake → Type 0
IsTrueOfMet met mistake =
    (command : Text) × (rows : List Row) × IsMet met command rows × IsTrueOfValues (value_among rows) mistake

-- a rule of clap is that of an option: it has a name before its value
abbrev pub is_named : Rule → Bool
is_named rule = is_some rule.long

-- clap has these options of the command, beside its own
abbrev pub HasOptions : Command → List CommandOption → Type 0
HasOptions command options = filter is_named (map rule_of (args_of command)) ≡ map rule_for options

abbrev pub with_help : List CommandOption → List CommandOption
with_help options = flag (codes "help") ∷ options

abbrev pub IsTrueOfCommand : Command → List Text → Mistake → Type 0
IsTrueOfCommand command words mistake = (options : List CommandOption) → HasOptions command options
    → IsTrueOfOptions (out-Command command).name.now (with_help options) words mistake

-- an option takes a value, or takes none
abbrev pub takes : Bool → CommandOption → Bool
takes value option = if value then takes_value option else not (takes_value option)

-- the word gives the command's option of this name, which takes a value or takes none
abbrev pub IsGivenOption : Command → Text → Text → Bool → Type 0
IsGivenOption command word name value = (gives name word ≡ true)
    × ((options : List CommandOption) → HasOptions command options → has_option (takes value) name (with_help options) ≡ true)
