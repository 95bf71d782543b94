-- What is told of a faulty command line is true.
use Rattle.std.proofs.Common.{◌≡◌, ◌≢◌, ◌⊎◌, ◌∙◌, ◌<◌, ◌+◌, ◌&&◌, ◌||◌, ℕ, Bool, true, false, not, List, [], ◌∷◌, Option, Some}
use Rattle.std.proofs.Common.{None, inl, inr, refl, sym, ap, ap₂, arith, codes, drop, find, get_or, is_some, length, map}
use Rattle.std.proofs.Common.{option_map, string_bytes, subst, take, unwrap_or}
use Rattle.std.specs.Prelude.{slice_get, ◌↔◌, ◌==◌, IfSome, IsTrue, String, filter, if◌then◌else◌}
use Rattle.std.specs.Borrow.{Bor}
use Rattle.std.specs.List.{All, list_any}
use Rattle.std.specs.Option.{option_map_or}
use Rattle.std.specs.Str.{bytes_eq}
use Rattle.std.proofs.lemmas.List.{get_or-drop, get_or-map, length-drop, length-map, take-map}
use Rattle.std.proofs.lemmas.List.Elements.{All-cons, All-nil}
use Rattle.std.proofs.lemmas.List.Folds.{list_any_at}
use Rattle.std.proofs.lemmas.Bool.Decides.{nat_tests}
use Rattle.std.proofs.lemmas.Slice.Eq.{bytes_eq-Decides}
use Rattle.uuid.specs.Text.{parsed}
use Rattle.clap.specs.Kinds.{HasKind, IsAmong, Kinds}
use Rattle.clap.specs.Simple.{App, Shape, label_of, shape_of}
use Rattle.clap.specs.Values.{kind_of}
use Rattle.clap.specs.Walk.{Row, Rule, Text, action_of, answers_to, rule_of}
use Rattle.clap.specs.declared.builder.action.ArgAction.{ArgAction}
use Rattle.clap.specs.declared.builder.action.ArgAction.TheVariants.{Set, Append, SetTrue, SetFalse, Count, Help, HelpShort}
use Rattle.clap.specs.declared.builder.action.ArgAction.TheVariants.{HelpLong, Version}
use Rattle.clap.specs.declared.builder.arg.Arg.{Arg}
use Rattle.clap.specs.declared.builder.command.Command.{Command}
use Rattle.clap.specs.declared.builder.command.Command.TheViews.{out-Command}
use Rattle.clap.specs.declared.error.Error.{Error}
use Rattle.clap.specs.declared.error.kind.ErrorKind.{ErrorKind}
use Rattle.clap.specs.declared.error.kind.ErrorKind.TheVariants.{OutOfMemory}
use Rattle.command_line.specs.Check.{check_options}
use Rattle.command_line.specs.Collect.{collect_options}
use Rattle.command_line.specs.CommandLine.{IsFaulty, Line, Spells, commands, faults_of}
use Rattle.command_line.specs.Create.{create_options}
use Rattle.command_line.specs.Mistake.{IsGivenOption, IsTrueOf, IsTrueOfCommand, IsTrueOfMet, IsTrueOfOptions, IsTrueOfValues}
use Rattle.command_line.specs.Mistake.{by_options, by_values, by_words, before_value, gives, has_option, has_value}
use Rattle.command_line.specs.Mistake.{is_named, options_of, takes, with_help}
use Rattle.command_line.specs.Options.{CommandOption, flag, is_required, option_name, optional, required, rule_for}
use Rattle.command_line.specs.Program.{lsvdctl}
use Rattle.command_line.specs.Program as program
use Rattle.command_line.specs.Serve.{serve_options}
use Rattle.command_line.specs.Values.{IsNoUuid}
use Rattle.command_line.specs.declared.mistake.Mistake.{Mistake}
use Rattle.command_line.specs.declared.mistake.Mistake.TheVariants.{UnknownOption, StrayWord, NoValue, FlagValue, Twice, Missing}
use Rattle.command_line.specs.declared.mistake.Mistake.TheVariants.{Other}
use Rattle.command_line.proofs.Lines.{IsFound}
use Rattle.command_line.proofs.Requests.{values_met}

-- ---- clap refuses the words

-- an error of clap that is not for want of memory
pub error_is_faulty : (words : List Text) (error : Error) (kind : ErrorKind) → kind ≡ kind_of error
    → HasKind (faults_of words) error
    → (kind ≡ OutOfMemory → ⊥) → IsFaulty words
error_is_faulty words error kind is (inl memory) other = λ none. other (is ∙ memory)
error_is_faulty words error kind is (inr among) other =
    λ none. subst (λ (kinds : Kinds). IsAmong (kind_of error) kinds) none among

-- ---- values

-- what is true of the values that clap met is true of the line
pub met_is_true : (words : List Text) (line : Line) (met : Option (Text × List Row)) (mistake : Mistake) → Spells words line
    → IsFound line met
    → IsTrueOfMet met mistake → IsTrueOf words mistake
met_is_true words line met mistake spelled found (command, rows, is, holds) =
    by_values line spelled (values_met (λ value. IsTrueOfValues value mistake) line met command rows found is holds)

pub found_or_other : (words : List Text) (line : Line) (met : Option (Text × List Row)) (found : Option Mistake)
    → Spells words line
    → IsFound line met → IfSome found (IsTrueOfMet met) → IsTrueOf words (unwrap_or found Other)
found_or_other words line met None spelled is holds = by_words tt
found_or_other words line met (Some mistake) spelled is holds = met_is_true words line met mistake spelled is holds

no_text : (text : Text) → (length text == 0) ≡ true → text ≡ []
no_text [] empty = refl
no_text (x ∷ rest) empty = absurd (grind (arith, nat_tests))

pub empty_value : (value : Text → Option Text) (name text : Text) → value name ≡ Some text → (length text == 0) ≡ true
    → value name ≡ Some []
empty_value value name text is empty = is ∙ ap Some (no_text text empty)

pub text_is_no_uuid : (value : Text → Option Text) (name text : Text) → value name ≡ Some text → IsNoUuid value name
    → (value name ≡ Some text) × (parsed text ≡ None)
text_is_no_uuid value name text is (other, also, none) =
    let same : other ≡ text = ap (λ (o : Option Text). unwrap_or o text) (sym also ∙ is) in
    (is, ap parsed (sym same) ∙ none)

-- ---- commands

-- the program has a command of this name, with these options
pub record IsCommand (word : Text) (shape : Shape) : Type 0 where
  pub name : shape.name ≡ word
  pub options : List CommandOption
  pub rules : filter is_named shape.rules ≡ map rule_for options
  pub are : with_help options ≡ options_of word

abbrev Shapes : Type 0
Shapes = List Shape

abbrev shapes : Shapes
shapes = program.replay ∷ program.create ∷ program.serve ∷ program.collect ∷ program.check ∷ program.churn ∷ []

subs_are : lsvdctl.subs ≡ shapes
unfolding lsvdctl
subs_are = refl

abbrev named : Text → Shape → Bool
named word s = answers_to word (label_of s)

differ : (first second : Text) → bytes_eq first second ≡ false → first ≢ second
differ first second other same = let bad : true ≡ false = sym ((bytes_eq-Decides first second).1 same) ∙ other in cc

shape_is : (word name : Text) (shape known : Shape) → bytes_eq name word ≡ true → Some shape ≡ Some known → IsCommand name known
    → IsCommand word shape
shape_is word name shape known same is command =
    let also : known ≡ shape = sym (ap (λ (o : Option Shape). unwrap_or o shape) is) in
    subst (λ (s : Shape). IsCommand word s) also
    (subst (λ (w : Text). IsCommand w known) ((bytes_eq-Decides name word).0 same) command)

found_among : (word : Text) (shape : Shape) → Some shape ≡ find (λ s. answers_to word (label_of s)) shapes → IsCommand word shape
found_among word shape is =
    go (bytes_eq (codes "replay") word) (bytes_eq (codes "create") word) (bytes_eq (codes "serve") word)
    (bytes_eq (codes "collect") word) (bytes_eq (codes "check") word) (bytes_eq (codes "churn") word)
    refl refl refl refl refl refl
  where
    go : (first second third fourth fifth last : Bool) → bytes_eq (codes "replay") word ≡ first
        → bytes_eq (codes "create") word ≡ second → bytes_eq (codes "serve") word ≡ third
        → bytes_eq (codes "collect") word ≡ fourth → bytes_eq (codes "check") word ≡ fifth
        → bytes_eq (codes "churn") word ≡ last → IsCommand word shape
    go true second third fourth fifth last e f g h j k = shape_is word (codes "replay") shape program.replay e (rw e at is)
        (record { name = refl; options = []; rules = refl; are = refl })
    go false true third fourth fifth last e f g h j k = shape_is word (codes "create") shape program.create f (rw (e, f) at is)
        (record { name = refl; options = create_options; rules = refl; are = refl })
    go false false true fourth fifth last e f g h j k = shape_is word (codes "serve") shape program.serve g (rw (e, f, g) at is)
        (record { name = refl; options = serve_options; rules = refl; are = refl })
    go false false false true fifth last e f g h j k = shape_is word (codes "collect") shape program.collect h
        (rw (e, f, g, h) at is) (record { name = refl; options = collect_options; rules = refl; are = refl })
    go false false false false true last e f g h j k = shape_is word (codes "check") shape program.check j
        (rw (e, f, g, h, j) at is) (record { name = refl; options = check_options; rules = refl; are = refl })
    go false false false false false true e f g h j k = shape_is word (codes "churn") shape program.churn k
        (rw (e, f, g, h, j, k) at is) (record { name = refl; options = []; rules = refl; are = refl })
    go false false false false false false e f g h j k = let bad : Some shape ≡ None = rw (e, f, g, h, j, k) at is in cc

abbrev IsNot : Text → Text → Type 0
IsNot word command = command ≢ word

none_among : (word : Text) → None ≡ find (λ s. answers_to word (label_of s)) shapes → All (λ command. command ≢ word) commands
none_among word is =
    go (bytes_eq (codes "replay") word) (bytes_eq (codes "create") word) (bytes_eq (codes "serve") word)
    (bytes_eq (codes "collect") word) (bytes_eq (codes "check") word) (bytes_eq (codes "churn") word)
    refl refl refl refl refl refl
  where
    go : (first second third fourth fifth last : Bool) → bytes_eq (codes "replay") word ≡ first
        → bytes_eq (codes "create") word ≡ second → bytes_eq (codes "serve") word ≡ third
        → bytes_eq (codes "collect") word ≡ fourth → bytes_eq (codes "check") word ≡ fifth
        → bytes_eq (codes "churn") word ≡ last → All (λ command. command ≢ word) commands
    go true second third fourth fifth last e f g h j k = let bad : None ≡ Some program.replay = rw e at is in cc
    go false true third fourth fifth last e f g h j k = let bad : None ≡ Some program.create = rw (e, f) at is in cc
    go false false true fourth fifth last e f g h j k = let bad : None ≡ Some program.serve = rw (e, f, g) at is in cc
    go false false false true fifth last e f g h j k = let bad : None ≡ Some program.collect = rw (e, f, g, h) at is in cc
    go false false false false true last e f g h j k = let bad : None ≡ Some program.check = rw (e, f, g, h, j) at is in cc
    go false false false false false true e f g h j k = let bad : None ≡ Some program.churn = rw (e, f, g, h, j, k) at is in cc
    go false false false false false false e f g h j k =
        All-cons (IsNot word) (codes "replay")
        (codes "create" ∷ codes "serve" ∷ codes "collect" ∷ codes "check" ∷ codes "churn" ∷ [])
        (differ (codes "replay") word e)
        (All-cons (IsNot word) (codes "create") (codes "serve" ∷ codes "collect" ∷ codes "check" ∷ codes "churn" ∷ [])
        (differ (codes "create") word f)
        (All-cons (IsNot word) (codes "serve") (codes "collect" ∷ codes "check" ∷ codes "churn" ∷ [])
        (differ (codes "serve") word g)
        (All-cons (IsNot word) (codes "collect") (codes "check" ∷ codes "churn" ∷ [])
        (differ (codes "collect") word h)
        (All-cons (IsNot word) (codes "check") (codes "churn" ∷ [])
        (differ (codes "check") word j)
        (All-cons (IsNot word) (codes "churn") [] (differ (codes "churn") word k) (All-nil (IsNot word)))))))

-- the same, by what clap found in the program
pub command_found : (app : App) (word : Text) (shape : Shape) → app ≡ lsvdctl
    → Some shape ≡ find (λ s. answers_to word (label_of s)) app.subs → IsCommand word shape
command_found app word shape is found =
    found_among word shape (found ∙ ap (λ (s : Shapes). find (named word) s) (ap (λ (a : App). a.subs) is ∙ subs_are))

pub no_command_found : (app : App) (word : Text) → app ≡ lsvdctl
    → None ≡ find (λ s. answers_to word (label_of s)) app.subs → All (λ command. command ≢ word) commands
no_command_found app word is found =
    none_among word (found ∙ ap (λ (s : Shapes). find (named word) s) (ap (λ (a : App). a.subs) is ∙ subs_are))

-- what is true of the command's options is true
pub command_is_true : (command : Command) (words : List Text) (word : Text) (rest : List Text) (mistake : Mistake)
    → IsCommand word (shape_of command) → words ≡ word ∷ rest → IsTrueOfCommand command words mistake → IsTrueOf words mistake
command_is_true command words word rest mistake is split holds =
    by_options word rest split
    (subst (λ (name : Text). IsTrueOfOptions name (options_of word) words mistake) is.name
    (subst (λ (options : List CommandOption). IsTrueOfOptions (shape_of command).name options words mistake) is.are
    (holds is.options is.rules)))

-- ---- options

abbrev pub rule_has : (Rule → Bool) → Text → Rule → Bool
rule_has p name rule = p rule && option_map_or (λ long. bytes_eq long name) rule.long false

by_rules : (p : Rule → Bool) (holds : CommandOption → Bool) (name : Text) → ((o : CommandOption) → p (rule_for o) ≡ holds o)
    → (options : List CommandOption) → list_any (rule_has p name) (map rule_for options) ≡ has_option holds name options
by_rules p holds name same [] = refl
by_rules p holds name same (option ∷ rest) = ap₂ (λ a b. a || b) (one option) (by_rules p holds name same rest)
  where
    one : (o : CommandOption) → rule_has p name (rule_for o) ≡ (holds o && bytes_eq (option_name o) name)
    one (required n) = ap (λ b. b && bytes_eq n name) (same (required n))
    one (optional n d) = ap (λ b. b && bytes_eq n name) (same (optional n d))
    one (flag n) = ap (λ b. b && bytes_eq n name) (same (flag n))

lacks_name : (passes : Bool) (long : Option Text) (name : Text) → is_some long ≡ false
    → (passes && option_map_or (λ l. bytes_eq l name) long false) ≡ false
lacks_name true None name none = refl
lacks_name false None name none = refl
lacks_name passes (Some long) name none = cc

-- a rule of this name is that of an option
named_alike : (p : Rule → Bool) (name : Text) (rules : List Rule)
    → list_any (rule_has p name) (filter is_named rules) ≡ list_any (rule_has p name) rules
named_alike p name [] = refl
named_alike p name (rule ∷ rest) = go (is_named rule) refl (named_alike p name rest)
  where
    go : (named : Bool) → is_named rule ≡ named
        → list_any (rule_has p name) (filter is_named rest) ≡ list_any (rule_has p name) rest
        → list_any (rule_has p name) (filter is_named (rule ∷ rest)) ≡ list_any (rule_has p name) (rule ∷ rest)
    go true e more = rw e (ap (λ b. rule_has p name rule || b) more)
    go false e more = rw (e, lacks_name (p rule) rule.long name e) more

either : (first second : Bool) → second ≡ true → (first || second) ≡ true
either true second holds = refl
either false second holds = holds

both : (first second : Bool) → first ≡ true → second ≡ true → (first && second) ≡ true
both first second e f = rw (e, f) refl

same_text : (text : Text) → bytes_eq text text ≡ true
same_text text = (bytes_eq-Decides text text).1 refl

-- the argument of clap at this place has the name, and passes a test that says what holds of the option
rule_is_option : (p : Rule → Bool) (holds : CommandOption → Bool) (name : Text) → ((o : CommandOption) → p (rule_for o) ≡ holds o)
    → (args : List Arg) (options : List CommandOption) (i : ℕ) (arg : Arg) → filter is_named (map rule_of args)
    ≡ map rule_for options
    → i < length args
    → get_or args i arg ≡ arg → p (rule_of arg) ≡ true → (rule_of arg).long ≡ Some name
    → has_option holds name (with_help options) ≡ true
rule_is_option p holds name same args options i arg are within at passes long =
    let P : Rule → Bool = rule_has p name in
    let here : P (rule_of arg) ≡ true = both (p (rule_of arg)) _ passes
    (ap (λ (o : Option Text). option_map_or (λ l. bytes_eq l name) o false) long ∙ same_text name) in
    let there : get_or (map rule_of args) i (rule_of arg) ≡ rule_of arg = get_or-map rule_of args i arg (rule_of arg) within
    ∙ ap rule_of at in
    let length_is : length (map rule_of args) ≡ length args = length-map args rule_of in
    let any : list_any P (map rule_of args) ≡ true =
    list_any_at P (map rule_of args) i (rule_of arg) (omega arith) (ap P there ∙ here) in
    either _ (has_option holds name options)
    (sym (by_rules p holds name same options) ∙ ap (list_any P) (sym are) ∙ named_alike p name (map rule_of args) ∙ any)

-- the options of clap among these
abbrev named_rules : List Arg → List Rule
named_rules args = filter is_named (map rule_of args)

required_same : (o : CommandOption) → (rule_for o).required ≡ is_required o
required_same (required n) = refl
required_same (optional n d) = refl
required_same (flag n) = refl

pub required_is_option : (name : Text) (args : List Arg) (options : List CommandOption) (i : ℕ) (arg : Arg)
    → filter is_named (map rule_of args) ≡ map rule_for options → i < length args → get_or args i arg ≡ arg → arg.required ≡ true
    → (rule_of arg).long ≡ Some name → has_option is_required name (with_help options) ≡ true
required_is_option name = rule_is_option (λ r. r.required) is_required name required_same

-- whether an argument of this action takes a value
sets : ArgAction → Bool
sets Set = true
sets Append = true
sets SetTrue = false
sets SetFalse = false
sets Count = false
sets Help = false
sets HelpShort = false
sets HelpLong = false
sets Version = false

sets_none : (r : Bool) (a : ArgAction) → (a ≡ Set → ⊥) → (a ≡ Append → ⊥) → IsTrue r ↔ ((a ≡ Set) ⊎ (a ≡ Append)) → r ≡ false
sets_none false a set append is = refl
sets_none true a set append is = elim (is.0 refl) [ inl e ↦ absurd (set e) | inr e ↦ absurd (append e) ]

sets_is : (r : Bool) (a : ArgAction) → IsTrue r ↔ ((a ≡ Set) ⊎ (a ≡ Append)) → r ≡ sets a
unfolding sets
sets_is r Set is = is.1 (inl refl)
sets_is r Append is = is.1 (inr refl)
sets_is r SetTrue is = sets_none r SetTrue (λ e. cc) (λ e. cc) is
sets_is r SetFalse is = sets_none r SetFalse (λ e. cc) (λ e. cc) is
sets_is r Count is = sets_none r Count (λ e. cc) (λ e. cc) is
sets_is r Help is = sets_none r Help (λ e. cc) (λ e. cc) is
sets_is r HelpShort is = sets_none r HelpShort (λ e. cc) (λ e. cc) is
sets_is r HelpLong is = sets_none r HelpLong (λ e. cc) (λ e. cc) is
sets_is r Version is = sets_none r Version (λ e. cc) (λ e. cc) is

agrees : Bool → Bool → Bool
agrees value other = if value then other else not other

agrees_same : (value other : Bool) → value ≡ other → agrees value other ≡ true
unfolding agrees
agrees_same true other e = sym e
agrees_same false other e = ap not (sym e)

takes_same : (value : Bool) (o : CommandOption) → agrees value (sets (action_of (rule_for o))) ≡ takes value o
unfolding agrees sets
takes_same value (required n) = refl
takes_same value (optional n d) = refl
takes_same value (flag n) = refl

pub valued_is_option : (value : Bool) (name : Text) (args : List Arg) (options : List CommandOption) (i : ℕ) (arg : Arg)
    → filter is_named (map rule_of args) ≡ map rule_for options → i < length args → get_or args i arg ≡ arg
    → IsTrue value ↔ ((action_of (rule_of arg) ≡ Set) ⊎ (action_of (rule_of arg) ≡ Append))
    → (rule_of arg).long ≡ Some name → has_option (takes value) name (with_help options) ≡ true
valued_is_option value name args options i arg are within at is =
    rule_is_option (λ r. agrees value (sets (action_of r))) (takes value) name (takes_same value) args options i arg are within at
    (agrees_same value (sets (action_of (rule_of arg))) (sets_is value (action_of (rule_of arg)) is))

-- an option of some kind is an option
pub given_is_option : (value : Bool) (name : Text) (options : List CommandOption) → has_option (takes value) name options ≡ true
    → has_option (λ _. true) name options ≡ true
given_is_option value name [] has = has
given_is_option value name (option ∷ rest) has =
    go (takes value option) (bytes_eq (option_name option) name) refl refl (given_is_option value name rest)
  where
    go : (holds same : Bool) → takes value option ≡ holds → bytes_eq (option_name option) name ≡ same
        → (has_option (takes value) name rest ≡ true → has_option (λ _. true) name rest ≡ true)
        → has_option (λ _. true) name (option ∷ rest) ≡ true
    go holds true e f more = rw f refl
    go true false e f more = rw f (more (rw (e, f) at has))
    go false false e f more = rw f (more (rw e at has))

-- ---- words

module _ {Z : Type 0} where
  -- a test of each word
  texts_pass : (p : Text → Bool) (words : List (String Z))
      → list_any p (map string_bytes words) ≡ list_any (λ w. p (string_bytes w)) words
  texts_pass p [] = refl
  texts_pass p (word ∷ rest) = ap (λ b. p (string_bytes word) || b) (texts_pass p rest)

  -- the first word
  pub first_text : (words : List (String Z)) (first : String Z) (text : Text) → Some first ≡ slice_get words 0
      → text ≡ string_bytes first → (rest : List Text) × (map string_bytes words ≡ text ∷ rest)
  first_text [] first text is same = let bad : Some first ≡ None = is in cc
  first_text (word ∷ more) first text is same =
      let also : first ≡ word = ap (λ (o : Option (String Z)). unwrap_or o first) is in
      (map string_bytes more, ap (λ (t : Text). t ∷ map string_bytes more) (sym (same ∙ ap string_bytes also)))

  -- what is said of the word at a place
  module _ (command : Command) (words : List (String Z)) (at : ℕ) (word : String Z) (text : Text) (within : at < length words)
      (here : word ≡ get_or words at word) (is : text ≡ string_bytes word) where
    text_at : get_or (map string_bytes words) at text ≡ text
    text_at = get_or-map string_bytes words at word text within ∙ ap string_bytes (sym here) ∙ sym is

    -- the word passes a test
    word_passes : (p : Text → Bool) → p text ≡ true → list_any p (map string_bytes words) ≡ true
    word_passes p passes =
        let length_is : length (map string_bytes words) ≡ length words = length-map words string_bytes in
        list_any_at p (map string_bytes words) at text (omega arith) (ap p text_at ∙ passes)

    -- and so some word from there on does
    word_passes_later : (p : Text → Bool) → p text ≡ true → list_any p (drop at (map string_bytes words)) ≡ true
    word_passes_later p passes =
        let texts : List Text = map string_bytes words in
        let length_is : length (map string_bytes words) ≡ length words = length-map words string_bytes in
        let same : at + 0 ≡ at = omega arith in
        let first : get_or (drop at texts) 0 text ≡ text =
        get_or-drop at texts 0 text ∙ ap (λ i. get_or texts i text) same ∙ text_at in
        let some : 0 < length (drop at texts) = omega (arith, length-drop at texts) in
        list_any_at p (drop at texts) 0 text some (ap p first ∙ passes)

    pub unknown_is_true : (of_command option : Bor Text) → of_command ≡ (out-Command command).name
        → option.now ≡ before_value text
        → IsTrueOfCommand command (map string_bytes words) (UnknownOption of_command option)
    unknown_is_true of_command option name value = λ options are. (
      ap (λ (t : Bor Text). t.now) name,
      word_passes (λ w. bytes_eq (before_value w) option.now)
          (ap (bytes_eq (before_value text)) value ∙ same_text (before_value text)),
    )

    pub stray_is_true : (of_command : Bor Text) (stray : Bor Text) → of_command ≡ (out-Command command).name → stray.now ≡ text
        → IsTrueOfCommand command (map string_bytes words) (StrayWord of_command stray)
    stray_is_true of_command stray name same = λ options are. (
      ap (λ (t : Bor Text). t.now) name,
      word_passes (λ w. bytes_eq w stray.now) (ap (bytes_eq text) same ∙ same_text text),
    )

    pub no_value_is_true : (option : Bor Text) (value : Bool) → IsGivenOption command text option.now value → value ≡ true
        → has_value text ≡ false → IsTrueOfCommand command (map string_bytes words) (NoValue option)
    no_value_is_true option value given kind none = λ options are. (
      subst (λ (v : Bool). has_option (takes v) option.now (with_help options) ≡ true) kind (given.1 options are),
      word_passes (λ w. gives option.now w && not (has_value w)) (both (gives option.now text) _ given.0 (ap not none)),
    )

    pub flag_value_is_true : (option : Bor Text) (value : Bool) → IsGivenOption command text option.now value → value ≡ false
        → has_value text ≡ true → IsTrueOfCommand command (map string_bytes words) (FlagValue option)
    flag_value_is_true option value given kind has = λ options are. (
      subst (λ (v : Bool). has_option (takes v) option.now (with_help options) ≡ true) kind (given.1 options are),
      word_passes (λ w. gives option.now w && has_value w) (both (gives option.now text) _ given.0 has),
    )

    pub twice_is_true : (option : Bor Text) (value : Bool) → IsGivenOption command text option.now value
        → list_any (λ w. gives option.now (string_bytes w)) (take at words) ≡ true
        → IsTrueOfCommand command (map string_bytes words) (Twice option)
    twice_is_true option value given before = λ options are. (
      given_is_option value option.now (with_help options) (given.1 options are),
      (
        at,
        ap (list_any (gives option.now)) (take-map string_bytes at words)
            ∙ texts_pass (gives option.now) (take at words) ∙ before,
        word_passes_later (gives option.now) given.0,
      ),
    )

  pub missing_is_true : (command : Command) (words : List (String Z)) (items : List Arg) (i : ℕ) (arg : Arg) (option : Bor Text)
      → items ≡ (out-Command command).args.items → i < length items → arg ≡ get_or items i arg → arg.required ≡ true
      → arg.long ≡ Some option → list_any (λ w. gives option.now (string_bytes w)) words ≡ false
      → IsTrueOfCommand command (map string_bytes words) (Missing option)
  missing_is_true command words items i arg option same within at wanted long none = λ options are. (
    required_is_option option.now items options i arg (ap named_rules same ∙ are) within (sym at) wanted
        (ap (option_map (λ (t : Bor Text). t.now)) long),
    texts_pass (gives option.now) words ∙ none,
  )

pub given_is_true : (command : Command) (word : Text) (value : Bool) (action : ArgAction) (items : List Arg) (i : ℕ) (arg : Arg)
    (long : Bor Text)
    → items ≡ (out-Command command).args.items → i < length items → arg ≡ get_or items i arg → arg.long ≡ Some long
    → action ≡ unwrap_or arg.action Set → IsTrue value ↔ ((action ≡ Set) ⊎ (action ≡ Append)) → gives long.now word ≡ true
    → IsGivenOption command word long.now value
given_is_true command word value action items i arg long same within at is action_is takes_it given = (
  given,
  λ options are. valued_is_option value long.now items options i arg (ap named_rules same ∙ are) within (sym at)
      (subst (λ (a : ArgAction). IsTrue value ↔ ((a ≡ Set) ⊎ (a ≡ Append))) action_is takes_it)
      (ap (option_map (λ (t : Bor Text). t.now)) is),
)
