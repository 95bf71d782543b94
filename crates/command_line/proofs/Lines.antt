-- The command lines that clap takes, and how it refuses each other one.
use Rattle.std.proofs.Common.{Bool, true, false, List, [], ◌∷◌, ◌++◌, Option, Some, None, ◌≡◌, ◌≢◌, ◌⊎◌, ◌∙◌, inl, inr, refl, sym}
use Rattle.std.proofs.Common.{ap, ap₂, subst, codes, is_some, lit<}
use Rattle.std.specs.Prelude.{fold}
use Rattle.std.specs.List.{All, flat_map}
use Rattle.std.specs.Str.{bytes_eq}
use Rattle.std.proofs.lemmas.List.Elements.{All-cons, All-nil}
use Rattle.std.proofs.lemmas.Slice.Eq.{bytes_eq-Decides}
use Rattle.clap.specs.Walk.{Row, Text, Walk, finished, first_of, idle, nothing_held, rows_after, settled, subcommand_met}
use Rattle.clap.specs.Walk.{walk_from, walked}
use Rattle.clap.specs.Simple.{App, Shape, built, built_leaf, entered, inherited, names_of, subcommand_of}
use Rattle.clap.specs.Kinds.{HasKind, IsAmong, Kinds, or_else}
use Rattle.clap.specs.Values.{kind_of}
use Rattle.clap.specs.declared.error.Error.{Error}
use Rattle.clap.specs.declared.error.kind.ErrorKind.{ErrorKind}
use Rattle.clap.specs.declared.error.kind.ErrorKind.TheVariants as errors
use Rattle.clap.specs.declared.error.kind.ErrorKind.TheVariants.{DisplayHelp, DisplayVersion, InvalidSubcommand}
use Rattle.clap.specs.declared.error.kind.ErrorKind.TheVariants.{MissingSubcommand, UnknownArgument}
use Rattle.clap.specs.Faults.{check_fault, defaults_fault, entered_fault, level_fault, settle_fault, walk_fault}
use Rattle.clap.proofs.OnLiterals.{clap_on_literals}
use Rattle.command_line.specs.CommandLine.{AsksForHelp, IsHelpOption, IsVersionOption, Line, Spells, commands, create, faults_of}
use Rattle.command_line.specs.CommandLine.{check, churn, collect, replay, serve}
use Rattle.command_line.specs.Check.{check_options}
use Rattle.command_line.specs.Collect.{collect_options}
use Rattle.command_line.specs.Create.{create_options}
use Rattle.command_line.specs.Mistake.{line_value}
use Rattle.command_line.specs.Options.{AreOptionsOf, Given, MayEnd, option_words, value_of}
use Rattle.command_line.specs.Program.{bare, lsvdctl}
use Rattle.command_line.specs.Program as program
use Rattle.command_line.specs.Serve.{serve_options}
use Rattle.command_line.proofs.Given.{HasNames, given_is_found, given_is_taken, has_names}
use Rattle.command_line.proofs.Leaves.{Reads, leaf_faults}
use Rattle.command_line.proofs.Levels.{IsByFirst, next_refused, stopped_fault, stopped_walk}
use Rattle.command_line.proofs.Places.{churn_faults, numbers_are_found, numbers_are_taken, refused_or_numbers}
use Rattle.command_line.proofs.Places as places
use Rattle.command_line.proofs.Refusals.{HasRequestsOnly, IsRefusal, first_refused, refusal_first, trailing_refused}
use Rattle.command_line.proofs.Rules.{Known, rules_for}
use Rattle.command_line.proofs.Taken.{refused_or_read}
use Rattle.command_line.proofs.Turns.{held_for}

-- where a walk stands after `--`
abbrev trailing : Walk
trailing = record (walk_from nothing_held) { is_trailing = true }

-- ---- the words after `replay`

abbrev leaf : Shape
leaf = built_leaf (inherited bare.top program.replay)

leaf_has : HasRequestsOnly leaf
leaf_has = record {
  requests = (record { bare = refl; refused = λ again rows. inl (DisplayHelp, refl) }, tt);
  places = refl;
}

abbrev replay_faults : List Text → Kinds
replay_faults words = level_fault leaf [] nothing_held words false []

-- they are none, or `--`, or are refused
abbrev IsAfterReplay : List Text → Type 0
IsAfterReplay words = (words ≡ []) ⊎ ((words ≡ codes "--" ∷ []) ⊎ IsRefusal (replay_faults words))

leaf_dashes : (words : List Text) → IsAfterReplay (codes "--" ∷ words)
unfolding clap_on_literals
leaf_dashes [] = inr (inl refl)
leaf_dashes (next ∷ more) = inr (inr (next_refused leaf [] trailing next more false [] (trailing_refused leaf [] next leaf_has)))

after_replay : (words : List Text) → IsAfterReplay words
after_replay [] = inl refl
after_replay (word ∷ rest) = go (bytes_eq word (codes "--")) refl
  where
    go : (test : Bool) → bytes_eq word (codes "--") ≡ test → IsAfterReplay (word ∷ rest)
    go true e = subst (λ (w : Text). IsAfterReplay (w ∷ rest)) (sym ((bytes_eq-Decides word (codes "--")).0 e)) (leaf_dashes rest)
    go false e = inr (inr (next_refused leaf [] (walk_from nothing_held) word rest false []
        (first_refused leaf [] word leaf_has refl e)))

-- ---- the words of the program

abbrev app : App
app = built lsvdctl

top_has : HasRequestsOnly app.top
unfolding lsvdctl
top_has = record {
  requests = (
    record { bare = refl; refused = λ again rows. inl (DisplayHelp, refl) },
    (record { bare = refl; refused = λ again rows. inl (DisplayVersion, refl) }, tt),
  );
  places = refl;
}

-- the kinds of error by where the walk over all words ends
abbrev top_at : Kinds → Walk → Kinds
top_at walking end =
    or_else walking
    (or_else (entered_fault app end.stopped) (or_else (settle_fault app.top.rules app.top.args_override_self end.held)
    (or_else (defaults_fault (settled app.top.rules end.held).rows app.top.rules)
    (check_fault app.top (finished app.top.rules end.held) (is_some (entered app end.stopped))))))

abbrev top_from : Walk → List Text → Kinds
top_from w words = top_at (walk_fault app.top (names_of app) w words) (fold (walked app.top.rules (names_of app)) w words)

-- where a walk stands after a command and these words
abbrev stopped : Text → List Text → Walk
stopped name words = record (walk_from nothing_held) { stopped = Some (name, words) }

top_stopped : (name : Text) (words : List Text) → top_from (stopped name []) words ≡ top_at [] (stopped name words)
top_stopped name words =
    ap₂ top_at (stopped_fault app.top (names_of app) (walk_from nothing_held) name [] words)
    (stopped_walk app.top.rules (names_of app) (walk_from nothing_held) name [] words)

-- what a command makes of the words after it is what the program makes of the line
replay_stops : (words : List Text) → faults_of (codes "replay" ∷ words) ≡ top_at [] (stopped (codes "replay") words)
unfolding faults_of lsvdctl walk_fault walked
replay_stops words = top_stopped (codes "replay") words

replay_entered : (words : List Text) → entered_fault app (Some (codes "replay", words)) ≡ replay_faults words
unfolding lsvdctl
replay_entered words = refl

after_replay_holds : (P : Kinds → Type 0) → IsByFirst P → (words : List Text) → P (replay_faults words)
    → P (faults_of (codes "replay" ∷ words))
after_replay_holds P by_first words holds =
    subst P (sym (replay_stops words)) (by_first _ _ (subst P (sym (replay_entered words)) holds))

-- ---- the words after a command with options

abbrev faults_after : Text → Known → List Text → Kinds
faults_after command known words = leaf_faults command known (walk_from (held_for [] None)) words

-- the program has this command
record Has (command : Text) (known : Known) : Type 0 where
  pub names : HasNames known
  pub stops : (words : List Text) → faults_of (command ∷ words) ≡ top_at [] (stopped command words)
  pub enters : (words : List Text) → entered_fault app (Some (command, words)) ≡ faults_after command known words
  -- where the command takes the words, so does the program
  pub quiet : (words : List Text) → faults_after command known words ≡ [] → top_at [] (stopped command words) ≡ []
  pub meets : (words : List Text) → subcommand_of lsvdctl (command ∷ words)
      ≡ Some (command, rows_after (rules_for known) [] words)
  pub asks : (option : Text) (rest : List Text) → IsHelpOption option
      → IsAmong DisplayHelp (faults_after command known (option ∷ rest))

stopped_at : (name : Text) (words : List Text)
    → (fold (walked app.top.rules (names_of app)) (stopped name []) words).stopped ≡ Some (name, words)
stopped_at name words = ap (λ (w : Walk). w.stopped) (stopped_walk app.top.rules (names_of app) (walk_from nothing_held)
    name [] words)

has_create : Has (codes "create") create_options
unfolding faults_of lsvdctl walk_fault walked defaults_fault clap_on_literals
has_create = record {
  names = has_names create_options refl;
  stops = λ words. top_stopped (codes "create") words;
  enters = λ words. refl;
  quiet = λ words quiet. rw quiet refl;
  meets = λ words. ap (entered app) (stopped_at (codes "create") words);
  asks = λ option rest is. elim is [ inl short ↦ rw short (inl refl) | inr long ↦ rw long (inl refl) ];
}

has_serve : Has (codes "serve") serve_options
unfolding faults_of lsvdctl walk_fault walked defaults_fault clap_on_literals
has_serve = record {
  names = has_names serve_options refl;
  stops = λ words. top_stopped (codes "serve") words;
  enters = λ words. refl;
  quiet = λ words quiet. rw quiet refl;
  meets = λ words. ap (entered app) (stopped_at (codes "serve") words);
  asks = λ option rest is. elim is [ inl short ↦ rw short (inl refl) | inr long ↦ rw long (inl refl) ];
}

has_collect : Has (codes "collect") collect_options
unfolding faults_of lsvdctl walk_fault walked defaults_fault clap_on_literals
has_collect = record {
  names = has_names collect_options refl;
  stops = λ words. top_stopped (codes "collect") words;
  enters = λ words. refl;
  quiet = λ words quiet. rw quiet refl;
  meets = λ words. ap (entered app) (stopped_at (codes "collect") words);
  asks = λ option rest is. elim is [ inl short ↦ rw short (inl refl) | inr long ↦ rw long (inl refl) ];
}

has_check : Has (codes "check") check_options
unfolding faults_of lsvdctl walk_fault walked defaults_fault clap_on_literals
has_check = record {
  names = has_names check_options refl;
  stops = λ words. top_stopped (codes "check") words;
  enters = λ words. refl;
  quiet = λ words quiet. rw quiet refl;
  meets = λ words. ap (entered app) (stopped_at (codes "check") words);
  asks = λ option rest is. elim is [ inl short ↦ rw short (inl refl) | inr long ↦ rw long (inl refl) ];
}

module _ (command : Text) (known : Known) (has : Has command known) where
  after_holds : (P : Kinds → Type 0) → IsByFirst P → (words : List Text) → P (faults_after command known words)
      → P (faults_of (command ∷ words))
  after_holds P by_first words holds = subst P (sym (has.stops words)) (by_first _ _ (subst P (sym (has.enters words)) holds))

  after_quiet : (words : List Text) → faults_after command known words ≡ [] → faults_of (command ∷ words) ≡ []
  after_quiet words quiet = has.stops words ∙ has.quiet words quiet

-- ---- the words after `churn`

churn_stops : (words : List Text) → faults_of (codes "churn" ∷ words) ≡ top_at [] (stopped (codes "churn") words)
unfolding faults_of lsvdctl walk_fault walked
churn_stops words = top_stopped (codes "churn") words

churn_entered : (words : List Text) → entered_fault app (Some (codes "churn", words)) ≡ churn_faults words
unfolding lsvdctl
churn_entered words = refl

after_churn_holds : (P : Kinds → Type 0) → IsByFirst P → (words : List Text) → P (churn_faults words)
    → P (faults_of (codes "churn" ∷ words))
after_churn_holds P by_first words holds =
    subst P (sym (churn_stops words)) (by_first _ _ (subst P (sym (churn_entered words)) holds))

-- where the command takes the words, so does the program
churn_quiet : (words : List Text) → churn_faults words ≡ [] → top_at [] (stopped (codes "churn") words) ≡ []
unfolding faults_of lsvdctl walk_fault walked defaults_fault clap_on_literals
churn_quiet words quiet = rw quiet refl

churn_meets : (words : List Text) → subcommand_of lsvdctl (codes "churn" ∷ words)
    ≡ Some (codes "churn", rows_after places.rules [] words)
unfolding lsvdctl walked
churn_meets words = ap (entered app) (stopped_at (codes "churn") words)

-- ---- other first words

trailing_word : (next : Text) (more : List Text) → IsRefusal (top_from trailing (next ∷ more))
trailing_word next more =
    let stop = (fold (walked app.top.rules (names_of app)) trailing (next ∷ more)).stopped in
    next_refused app.top (names_of app) trailing next more (is_some (entered app stop)) (entered_fault app stop)
    (trailing_refused app.top (names_of app) next top_has)

top_dashes : (words : List Text) → IsRefusal (faults_of (codes "--" ∷ words))
unfolding faults_of lsvdctl clap_on_literals
top_dashes [] = inl (MissingSubcommand, refl)
top_dashes (next ∷ more) = trailing_word next more

-- a first word that is no command, and not `--`
first_word : (word : Text) (rest : List Text) → subcommand_met (names_of app) idle word ≡ None
    → bytes_eq word (codes "--") ≡ false
    → IsRefusal (top_from (walk_from nothing_held) (word ∷ rest))
first_word word rest none other =
    let stop = (fold (walked app.top.rules (names_of app)) (walk_from nothing_held) (word ∷ rest)).stopped in
    next_refused app.top (names_of app) (walk_from nothing_held) word rest (is_some (entered app stop)) (entered_fault app stop)
    (first_refused app.top (names_of app) word top_has none other)

no_command : (word : Text) → bytes_eq (codes "replay") word ≡ false → bytes_eq (codes "create") word ≡ false
    → bytes_eq (codes "serve") word ≡ false → bytes_eq (codes "collect") word ≡ false → bytes_eq (codes "check") word ≡ false
    → bytes_eq (codes "churn") word ≡ false
    → subcommand_met (names_of app) idle word ≡ None
unfolding lsvdctl
no_command word replays creates serves collects checks churns = rw (replays, creates, serves, collects, checks, churns) refl

top_first : (word : Text) (rest : List Text) → subcommand_met (names_of app) idle word ≡ None → bytes_eq word (codes "--") ≡ false
    → IsRefusal (faults_of (word ∷ rest))
unfolding faults_of lsvdctl defaults_fault
top_first word rest none other = first_word word rest none other

-- ---- each command line

-- the words spell a line, or are refused
abbrev pub IsLine : List Text → Type 0
IsLine words = ((line : Line) × Spells words line) ⊎ IsRefusal (faults_of words)

nothing_refused : IsRefusal (faults_of [])
unfolding faults_of lsvdctl clap_on_literals
nothing_refused = inl (MissingSubcommand, refl)

replay_line : (words : List Text) → IsAfterReplay words → IsLine (codes "replay" ∷ words)
replay_line words (inl none) = inl (replay, inl (ap (λ rest. codes "replay" ∷ rest) none))
replay_line words (inr (inl one)) = inl (replay, inr (ap (λ rest. codes "replay" ∷ rest) one))
replay_line words (inr (inr refused)) = inr (after_replay_holds IsRefusal refusal_first words refused)

-- the words after a command are refused, or give it its options
abbrev IsGiven : Text → Known → List Text → Type 0
IsGiven command known words = (options : List Given) × AreOptionsOf known options
    × MayEnd (command ∷ flat_map option_words options) words

given_or_refused : (command : Text) (known : Known) (has : Has command known) (words : List Text)
    → IsGiven command known (command ∷ words) ⊎ IsRefusal (faults_of (command ∷ words))
given_or_refused command known has words = go (refused_or_read command known words)
  where
    go : IsRefusal (faults_after command known words) ⊎ Reads known [] words
        → IsGiven command known (command ∷ words) ⊎ IsRefusal (faults_of (command ∷ words))
    go (inl refused) = inr (after_holds command known has IsRefusal refusal_first words refused)
    go (inr reads) =
        inl (
          reads.more,
          record { each = reads.each; once = reads.once; required = reads.required },
          elim reads.ends [
            | inl whole ↦ inl (ap (λ (rest : List Text). command ∷ rest) whole)
            | inr whole ↦ inr (ap (λ (rest : List Text). command ∷ rest) whole)
          ],
        )

create_line : (words : List Text) → IsLine (codes "create" ∷ words)
create_line words = elim (given_or_refused (codes "create") create_options has_create words) [
  | inl given ↦ inl (create given.0, (given.1, given.2))
  | inr refused ↦ inr refused
]

serve_line : (words : List Text) → IsLine (codes "serve" ∷ words)
serve_line words = elim (given_or_refused (codes "serve") serve_options has_serve words) [
  | inl given ↦ inl (serve given.0, (given.1, given.2))
  | inr refused ↦ inr refused
]

collect_line : (words : List Text) → IsLine (codes "collect" ∷ words)
collect_line words = elim (given_or_refused (codes "collect") collect_options has_collect words) [
  | inl given ↦ inl (collect given.0, (given.1, given.2))
  | inr refused ↦ inr refused
]

check_line : (words : List Text) → IsLine (codes "check" ∷ words)
check_line words = elim (given_or_refused (codes "check") check_options has_check words) [
  | inl given ↦ inl (check given.0, (given.1, given.2))
  | inr refused ↦ inr refused
]

churn_line : (words : List Text) → IsLine (codes "churn" ∷ words)
churn_line words = elim (refused_or_numbers words) [
  | inl refused ↦ inr (after_churn_holds IsRefusal refusal_first words refused)
  | inr numbers ↦ inl (churn numbers.0 numbers.1, (words, refl, numbers.2))
]

other_line : (word : Text) (rest : List Text) (test : Bool) → subcommand_met (names_of app) idle word ≡ None
    → bytes_eq word (codes "--") ≡ test → IsRefusal (faults_of (word ∷ rest))
other_line word rest true none is =
    subst (λ (w : Text). IsRefusal (faults_of (w ∷ rest))) (sym ((bytes_eq-Decides word (codes "--")).0 is)) (top_dashes rest)
other_line word rest false none other = top_first word rest none other

-- what begins with a command is its line
line_named : (command word : Text) (rest : List Text) → IsLine (command ∷ rest) → bytes_eq command word ≡ true
    → IsLine (word ∷ rest)
line_named command word rest line is = subst (λ (w : Text). IsLine (w ∷ rest)) ((bytes_eq-Decides command word).0 is) line

first_line : (word : Text) (rest : List Text) (replays creates serves collects checks churns : Bool)
    → bytes_eq (codes "replay") word ≡ replays → bytes_eq (codes "create") word ≡ creates → bytes_eq (codes "serve") word ≡ serves
    → bytes_eq (codes "collect") word ≡ collects → bytes_eq (codes "check") word ≡ checks → bytes_eq (codes "churn") word ≡ churns
    → IsLine (word ∷ rest)
first_line word rest true creates serves collects checks churns e f g h j k =
    line_named (codes "replay") word rest (replay_line rest (after_replay rest)) e
first_line word rest false true serves collects checks churns e f g h j k =
    line_named (codes "create") word rest (create_line rest) f
first_line word rest false false true collects checks churns e f g h j k =
    line_named (codes "serve") word rest (serve_line rest) g
first_line word rest false false false true checks churns e f g h j k =
    line_named (codes "collect") word rest (collect_line rest) h
first_line word rest false false false false true churns e f g h j k = line_named (codes "check") word rest (check_line rest) j
first_line word rest false false false false false true e f g h j k = line_named (codes "churn") word rest (churn_line rest) k
first_line word rest false false false false false false e f g h j k =
    inr (other_line word rest (bytes_eq word (codes "--")) (no_command word e f g h j k) refl)

pub each_line : (words : List Text) → IsLine words
each_line [] = inr nothing_refused
each_line (word ∷ rest) =
    first_line word rest (bytes_eq (codes "replay") word) (bytes_eq (codes "create") word) (bytes_eq (codes "serve") word)
    (bytes_eq (codes "collect") word) (bytes_eq (codes "check") word) (bytes_eq (codes "churn") word)
    refl refl refl refl refl refl

-- the words after a command that may be ended
after_command : (command : Text) (options words : List Text) → MayEnd (command ∷ options) words
    → (rest : List Text) × (words ≡ command ∷ rest) × MayEnd options rest
after_command command options words (inl is) = (options, is, inl refl)
after_command command options words (inr is) = (options ++ codes "--" ∷ [], is, inr refl)

given_is_quiet : (command : Text) (known : Known) (has : Has command known) (words : List Text) → IsGiven command known words
    → faults_of words ≡ []
given_is_quiet command known has words (options, are, end) = go (after_command command (flat_map option_words options) words end)
  where
    go : (rest : List Text) × (words ≡ command ∷ rest) × MayEnd (flat_map option_words options) rest → faults_of words ≡ []
    go (rest, is, ends) =
        rw is (after_quiet command known has rest (given_is_taken command known has.names options rest are ends))

pub spelled_is_taken : (words : List Text) (line : Line) → Spells words line → faults_of words ≡ []
unfolding faults_of lsvdctl clap_on_literals
spelled_is_taken words replay (inl is) = rw is refl
spelled_is_taken words replay (inr is) = rw is refl
spelled_is_taken words (create options) (are, end) =
    given_is_quiet (codes "create") create_options has_create words (options, are, end)
spelled_is_taken words (serve options) (are, end) =
    given_is_quiet (codes "serve") serve_options has_serve words (options, are, end)
spelled_is_taken words (collect options) (are, end) =
    given_is_quiet (codes "collect") collect_options has_collect words (options, are, end)
spelled_is_taken words (check options) (are, end) =
    given_is_quiet (codes "check") check_options has_check words (options, are, end)
spelled_is_taken words (churn steps seed) (rest, is, are) =
    rw is (churn_stops rest ∙ churn_quiet rest (numbers_are_taken steps seed rest are))

-- ---- what clap finds

replay_met : (words : List Text) → subcommand_of lsvdctl (codes "replay" ∷ words)
    ≡ Some (codes "replay", rows_after leaf.rules [] words)
unfolding lsvdctl walked
replay_met words = ap (entered app) (stopped_at (codes "replay") words)

-- the command with these options is found, and their values
abbrev FindsValues : Text → Known → List Given → Option (Text × List Row) → Type 0
FindsValues command known options met = (rows : List Row) × (met ≡ Some (command, rows))
    × ((name : Text) → first_of name rows ≡ value_of known options name)

-- the first word of a line
abbrev pub command_of : Line → Text
command_of replay = codes "replay"
command_of (create options) = codes "create"
command_of (serve options) = codes "serve"
command_of (collect options) = codes "collect"
command_of (check options) = codes "check"
command_of (churn steps seed) = codes "churn"

-- the command and the values that clap finds, where the words spell a line
abbrev pub IsFound : Line → Option (Text × List Row) → Type 0
IsFound line met = (rows : List Row) × (met ≡ Some (command_of line, rows))
    × ((name : Text) → first_of name rows ≡ line_value line name)

-- `replay` has no values
replay_values : (rest : List Text) → MayEnd [] rest → (name : Text) → first_of name (rows_after leaf.rules [] rest) ≡ None
unfolding clap_on_literals
replay_values rest (inl is) name = rw is refl
replay_values rest (inr is) name = rw is refl

replay_found : (words : List Text) → (rest : List Text) × (words ≡ codes "replay" ∷ rest) × MayEnd [] rest
    → IsFound replay (subcommand_of lsvdctl words)
replay_found words (rest, is, end) = (rows_after leaf.rules [] rest, rw is (replay_met rest), replay_values rest end)

given_finds : (command : Text) (known : Known) (has : Has command known) (words : List Text) (options : List Given)
    → AreOptionsOf known options
    → MayEnd (command ∷ flat_map option_words options) words
    → FindsValues command known options (subcommand_of lsvdctl words)
given_finds command known has words options are end = go (after_command command (flat_map option_words options) words end)
  where
    go : (rest : List Text) × (words ≡ command ∷ rest) × MayEnd (flat_map option_words options) rest
        → FindsValues command known options (subcommand_of lsvdctl words)
    go (rest, is, ends) = (
      rows_after (rules_for known) [] rest,
      rw is (has.meets rest),
      given_is_found command known has.names options rest are ends,
    )

pub spelled_is_found : (words : List Text) (line : Line) → Spells words line → IsFound line (subcommand_of lsvdctl words)
spelled_is_found words replay end = replay_found words (after_command (codes "replay") [] words end)
spelled_is_found words (create options) (are, end) = given_finds (codes "create") create_options has_create words options are end
spelled_is_found words (serve options) (are, end) = given_finds (codes "serve") serve_options has_serve words options are end
spelled_is_found words (collect options) (are, end) =
    given_finds (codes "collect") collect_options has_collect words options are end
spelled_is_found words (check options) (are, end) = given_finds (codes "check") check_options has_check words options are end
spelled_is_found words (churn steps seed) (rest, is, are) = (
  rows_after places.rules [] rest,
  rw is (churn_meets rest),
  numbers_are_found steps seed rest are,
)

-- ---- what follows for a request, and for help

pub taken_is_spelled : (words : List Text) → faults_of words ≡ [] → (line : Line) × Spells words line
taken_is_spelled words taken = go (each_line words)
  where
    go : IsLine words → (line : Line) × Spells words line
    go (inl spelled) = spelled
    go (inr (inl one)) = let bad : one.0 ∷ [] ≡ [] = sym one.1 ∙ taken in cc
    go (inr (inr stray)) = let bad : UnknownArgument ∷ InvalidSubcommand ∷ [] ≡ [] = sym stray ∙ taken in cc

-- clap's error for words that it takes
pub error_of_taken : (kinds : Kinds) (error : Error) → HasKind kinds error → kinds ≡ [] → kind_of error ≡ errors.OutOfMemory
error_of_taken kinds error (inl memory) taken = memory
error_of_taken kinds error (inr among) taken = absurd (subst (IsAmong (kind_of error)) taken among)

-- and for words that it does not take
pub error_of_faulty : (kinds : Kinds) (error : Error) → HasKind kinds error → kind_of error ≢ errors.OutOfMemory → kinds ≢ []
error_of_faulty kinds error (inl memory) other none = other memory
error_of_faulty kinds error (inr among) other none = absurd (subst (IsAmong (kind_of error)) none among)

first_is : (command : Text) (options : List Text) (first : Text) (rest : List Text) → MayEnd (command ∷ options) (first ∷ rest)
    → first ≡ command
first_is command options first rest end = go (after_command command options (first ∷ rest) end)
  where
    go : (more : List Text) × (first ∷ rest ≡ command ∷ more) × MayEnd options more → first ≡ command
    go (more, is, ends) = cc

first_of_line : (first : Text) (rest : List Text) (line : Line) → Spells (first ∷ rest) line → first ≡ command_of line
first_of_line first rest replay end = first_is (codes "replay") [] first rest end
first_of_line first rest (create options) (are, end) = first_is (codes "create") (flat_map option_words options) first rest end
first_of_line first rest (serve options) (are, end) = first_is (codes "serve") (flat_map option_words options) first rest end
first_of_line first rest (collect options) (are, end) = first_is (codes "collect") (flat_map option_words options) first rest end
first_of_line first rest (check options) (are, end) = first_is (codes "check") (flat_map option_words options) first rest end
first_of_line first rest (churn steps seed) (more, is, are) = cc

pub spells_a_command : (first : Text) (rest : List Text) (line : Line) → Spells (first ∷ rest) line
    → All (λ command. command ≢ first) commands → ⊥
spells_a_command first rest line spelled others = go line (first_of_line first rest line spelled)
  where
    go : (line : Line) → first ≡ command_of line → ⊥
    go replay is = others 0 [] (lit< tt) (sym is)
    go (create options) is = others 1 [] (lit< tt) (sym is)
    go (serve options) is = others 2 [] (lit< tt) (sym is)
    go (collect options) is = others 3 [] (lit< tt) (sym is)
    go (check options) is = others 4 [] (lit< tt) (sym is)
    go (churn steps seed) is = others 5 [] (lit< tt) (sym is)

pub nothing_is_spelled : (line : Line) → Spells [] line → ⊥
nothing_is_spelled replay (inl is) = cc
nothing_is_spelled replay (inr is) = cc
nothing_is_spelled (create options) (are, inl is) = cc
nothing_is_spelled (create options) (are, inr is) = cc
nothing_is_spelled (serve options) (are, inl is) = cc
nothing_is_spelled (serve options) (are, inr is) = cc
nothing_is_spelled (collect options) (are, inl is) = cc
nothing_is_spelled (collect options) (are, inr is) = cc
nothing_is_spelled (check options) (are, inl is) = cc
nothing_is_spelled (check options) (are, inr is) = cc
nothing_is_spelled (churn steps seed) (rest, is, are) = cc

-- an error of words that ask for help is the answer to it
abbrev AsksIn : Kinds → Type 0
AsksIn kinds = IsAmong DisplayHelp kinds ⊎ IsAmong DisplayVersion kinds

abbrev IsAnswer : ErrorKind → Type 0
IsAnswer kind = (kind ≡ DisplayHelp) ⊎ (kind ≡ DisplayVersion)

one_answers : (kind one : ErrorKind) → AsksIn (one ∷ []) → IsAmong kind (one ∷ []) → IsAnswer kind
one_answers kind one (inl (inl help)) (inl is) = inl (is ∙ sym help)
one_answers kind one (inr (inl version)) (inl is) = inr (is ∙ sym version)
one_answers kind one (inl (inr none)) among = absurd none
one_answers kind one (inr (inr none)) among = absurd none
one_answers kind one (inl (inl help)) (inr none) = absurd none
one_answers kind one (inr (inl version)) (inr none) = absurd none

stray_asks_nothing : AsksIn (UnknownArgument ∷ InvalidSubcommand ∷ []) → ⊥
stray_asks_nothing (inl (inl is)) = cc
stray_asks_nothing (inl (inr (inl is))) = cc
stray_asks_nothing (inl (inr (inr none))) = none
stray_asks_nothing (inr (inl is)) = cc
stray_asks_nothing (inr (inr (inl is))) = cc
stray_asks_nothing (inr (inr (inr none))) = none

pub help_is_answered : (words : List Text) (kind : ErrorKind) → AsksForHelp words → IsAmong kind (faults_of words) → IsAnswer kind
help_is_answered words kind asks among = go (each_line words)
  where
    go : IsLine words → IsAnswer kind
    go (inl spelled) = absurd (subst (IsAmong kind) (spelled_is_taken words spelled.0 spelled.1) among)
    go (inr (inl one)) = one_answers kind one.0 (subst AsksIn one.1 asks) (subst (IsAmong kind) one.1 among)
    go (inr (inr stray)) = absurd (stray_asks_nothing (subst AsksIn stray asks))

pub first_asks : (option : Text) (rest : List Text) → IsHelpOption option ⊎ IsVersionOption option → AsksForHelp (option ∷ rest)
unfolding faults_of lsvdctl clap_on_literals
first_asks option rest (inl (inl is)) = rw is (inl (inl refl))
first_asks option rest (inl (inr is)) = rw is (inl (inl refl))
first_asks option rest (inr (inl is)) = rw is (inr (inl refl))
first_asks option rest (inr (inr is)) = rw is (inr (inl refl))

among_first : (kind : ErrorKind) (first next : Kinds) → IsAmong kind first → IsAmong kind (or_else first next)
among_first kind [] next among = absurd among
among_first kind (one ∷ more) next among = among

replay_asks : (option : Text) (rest : List Text) → IsHelpOption option → IsAmong DisplayHelp (replay_faults (option ∷ rest))
unfolding clap_on_literals
replay_asks option rest (inl is) = rw is (inl refl)
replay_asks option rest (inr is) = rw is (inl refl)

churn_asks : (option : Text) (rest : List Text) → IsHelpOption option → IsAmong DisplayHelp (churn_faults (option ∷ rest))
unfolding clap_on_literals
churn_asks option rest (inl is) = rw is (inl refl)
churn_asks option rest (inr is) = rw is (inl refl)

given_asks : (command : Text) (known : Known) (has : Has command known) (option : Text) (rest : List Text) → IsHelpOption option
    → AsksForHelp (command ∷ option ∷ rest)
given_asks command known has option rest is =
    inl (after_holds command known has (IsAmong DisplayHelp) (among_first DisplayHelp) (option ∷ rest) (has.asks option rest is))

pub second_asks : (option : Text) (rest : List Text) → IsHelpOption option
    → All (λ command. AsksForHelp (command ∷ option ∷ rest)) commands
second_asks option rest is =
    let Asks : Text → Type 0 = λ command. AsksForHelp (command ∷ option ∷ rest) in
    All-cons Asks (codes "replay") (codes "create" ∷ codes "serve" ∷ codes "collect" ∷ codes "check" ∷ codes "churn" ∷ [])
    (inl (after_replay_holds (IsAmong DisplayHelp) (among_first DisplayHelp) (option ∷ rest) (replay_asks option rest is)))
    (All-cons Asks (codes "create") (codes "serve" ∷ codes "collect" ∷ codes "check" ∷ codes "churn" ∷ [])
    (given_asks (codes "create") create_options has_create option rest is)
    (All-cons Asks (codes "serve") (codes "collect" ∷ codes "check" ∷ codes "churn" ∷ [])
    (given_asks (codes "serve") serve_options has_serve option rest is)
    (All-cons Asks (codes "collect") (codes "check" ∷ codes "churn" ∷ [])
    (given_asks (codes "collect") collect_options has_collect option rest is)
    (All-cons Asks (codes "check") (codes "churn" ∷ []) (given_asks (codes "check") check_options has_check option rest is)
    (All-cons Asks (codes "churn") []
    (inl (after_churn_holds (IsAmong DisplayHelp) (among_first DisplayHelp) (option ∷ rest) (churn_asks option rest is)))
    (All-nil Asks))))))
