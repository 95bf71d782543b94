-- Contract: which command lines the program takes, and what they ask for.
use Rattle.std.specs.Prelude.{◌≡◌, ◌≢◌, ◌⊎◌, List, [], ◌∷◌, Result, Ok, Err, codes}
use Rattle.std.specs.List.{flat_map}
use Rattle.clap.specs.Walk.{Text}
use Rattle.clap.specs.Faults.{fault_of}
use Rattle.clap.specs.Kinds.{Kinds, IsAmong}
use Rattle.clap.specs.declared.error.kind.ErrorKind.TheVariants.{DisplayHelp, DisplayVersion}
use Rattle.command_line.specs.Check.{AsksToCheck, HasBadCheckValue, check_options, check_value}
use Rattle.command_line.specs.Churn.{AreNumbers, AsksToChurn, HasBadNumber, churn_value}
use Rattle.command_line.specs.Collect.{collect_options, collect_value}
use Rattle.command_line.specs.Create.{AsksToCreate, HasBadValue, create_options, value_in}
use Rattle.command_line.specs.Mount.{AsksToMount, HasBadMountValue}
use Rattle.command_line.specs.Options.{AreOptionsOf, Given, MayEnd, option_words}
use Rattle.command_line.specs.Program.{lsvdctl}
use Rattle.command_line.specs.Serve.{AsksToServe, HasBadServeValue, serve_options, serve_value}
use Rattle.command_line.specs.declared.request.CommandLineError.{CommandLineError}
use Rattle.command_line.specs.declared.request.CommandLineError.TheVariants.{Usage, OutOfMemory}
use Rattle.command_line.specs.declared.request.Request.{Request}
use Rattle.command_line.specs.declared.request.Request.TheVariants.{Replay, Create, Serve, Collect, Check, Churn}

-- the kinds of error by which clap refuses the words after the program's name
unfoldable pub faults_of : List Text → Kinds
faults_of words = fault_of lsvdctl words

-- clap refuses the words
abbrev pub IsFaulty : List Text → Type 0
IsFaulty words = faults_of words ≢ []

-- the words ask for help or for the version
abbrev pub AsksForHelp : List Text → Type 0
AsksForHelp words = IsAmong DisplayHelp (faults_of words) ⊎ IsAmong DisplayVersion (faults_of words)

-- the names of the commands
abbrev pub commands : List Text
commands = codes "replay" ∷ codes "create" ∷ codes "serve" ∷ codes "collect" ∷ codes "check" ∷ codes "churn" ∷ []

-- the words are told to be no command line, or it is out of memory
abbrev pub IsRefused : Result Request CommandLineError → Type 0
IsRefused result = (result ≡ Err Usage) ⊎ (result ≡ Err OutOfMemory)

-- ---- what words spell

-- a command, with the options or the words that are given to it
pub data Line : Type 0 where
  replay : Line
  create : List Given → Line
  serve : List Given → Line
  collect : List Given → Line
  check : List Given → Line
  churn : (steps seed : Text) → Line

-- the words that make a line: its command with its options, which `--` may end, or with its words
abbrev pub Spells : List Text → Line → Type 0
Spells words replay = MayEnd (codes "replay" ∷ []) words
Spells words (create options) = AreOptionsOf create_options options
    × MayEnd (codes "create" ∷ flat_map option_words options) words
Spells words (serve options) = AreOptionsOf serve_options options × MayEnd (codes "serve" ∷ flat_map option_words options) words
Spells words (collect options) = AreOptionsOf collect_options options
    × MayEnd (codes "collect" ∷ flat_map option_words options) words
Spells words (check options) = AreOptionsOf check_options options × MayEnd (codes "check" ∷ flat_map option_words options) words
Spells words (churn steps seed) = (rest : List Text) × (words ≡ codes "churn" ∷ rest) × AreNumbers steps seed rest

-- the line asks for this
abbrev pub IsAskedBy : Line → Request → Type 0
IsAskedBy replay Replay = Unit {0}
IsAskedBy (create options) (Create request) = AsksToCreate (value_in options) request
IsAskedBy (serve options) (Serve request) = AsksToServe (serve_value options) request
IsAskedBy (collect options) (Collect request) = AsksToMount (collect_value options) request
IsAskedBy (check options) (Check request) = AsksToCheck (check_value options) request
IsAskedBy (churn steps seed) (Churn request) = AsksToChurn (churn_value steps seed) request
IsAskedBy _ _ = ⊥

-- the values of its options, or its words, ask for nothing
abbrev pub HasBadOptions : Line → Type 0
HasBadOptions replay = ⊥
HasBadOptions (create options) = HasBadValue (value_in options)
HasBadOptions (serve options) = HasBadServeValue (serve_value options)
HasBadOptions (collect options) = HasBadMountValue (collect_value options)
HasBadOptions (check options) = HasBadCheckValue (check_value options)
HasBadOptions (churn steps seed) = HasBadNumber (churn_value steps seed)

-- how the line is read
abbrev pub IsRead : Line → Result Request CommandLineError → Type 0
IsRead line (Ok request) = IsAskedBy line request
IsRead line (Err Usage) = HasBadOptions line
IsRead line (Err OutOfMemory) = Unit {0}

-- an option that asks for help, and one that asks for the version
abbrev pub IsHelpOption : Text → Type 0
IsHelpOption word = (word ≡ codes "-h") ⊎ (word ≡ codes "--help")

abbrev pub IsVersionOption : Text → Type 0
IsVersionOption word = (word ≡ codes "-V") ⊎ (word ≡ codes "--version")
