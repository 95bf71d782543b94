-- The words that the options of a command make, and how clap refuses all others.
use Rattle.std.proofs.Common.{◌≡◌, ◌⊎◌, ◌∙◌, ◌||◌, ℕ, Bool, true, false, not, inl, inr, List, [], ◌∷◌, ◌++◌, Option, Some, None}
use Rattle.std.proofs.Common.{ap, ap₂, append_assoc, length, refl, subst, sym}
use Rattle.std.specs.Prelude.{IfSome, if◌then◌else◌, slice_get}
use Rattle.std.specs.List.{All, flat_map}
use Rattle.std.specs.Str.{bytes_eq, chars}
use Rattle.std.proofs.lemmas.List.Elements.{All-cons}
use Rattle.std.proofs.lemmas.List.Folds.{list_any-append}
use Rattle.std.proofs.lemmas.Slice.Eq.{bytes_eq-Decides}
use Rattle.clap.specs.Lexer.{long_of, short_of}
use Rattle.clap.specs.Walk.{Held, Rule, Text, Waiting, Walk, arg_by_long, arg_by_short, idle, option, positional, settled}
use Rattle.clap.specs.Walk.{subcommand_met, walk_from}
use Rattle.clap.specs.Kinds.{Kinds, or_else}
use Rattle.clap.specs.Faults.{flags_fault, long_fault, settle_fault, short_fault, turn_fault, walk_fault}
use Rattle.clap.specs.declared.error.kind.ErrorKind.TheVariants.{DisplayHelp, MissingRequiredArgument, TooManyValues}
use Rattle.clap.specs.declared.error.kind.ErrorKind.TheVariants.{UnknownArgument}
use Rattle.command_line.specs.Options.{CommandOption, EachOnce, Given, IsOptionOf, MayEnd, has_option, has_required, name_in}
use Rattle.command_line.specs.Options.{option_words}
use Rattle.command_line.proofs.Levels.{faults_from}
use Rattle.command_line.proofs.Refusals.{IsRefusal, refusal_first}
use Rattle.command_line.proofs.Rows.{given_at_end, lacks_required, rows_at_end}
use Rattle.command_line.proofs.Rules.{Known, built_flag, built_help, built_value, found_by_short, no_defaults_fault}
use Rattle.command_line.proofs.Rules.{nothing_by_index, rows_for, rules_for}
use Rattle.command_line.proofs.Turns.{ComesTo, held_for, leaf_for, no_flag_fault, no_flag_met}
use Rattle.command_line.proofs.Words.{IsPlain, dashes}

abbrev pub leaf_faults : Text → Known → Walk → List Text → Kinds
leaf_faults command known w words = faults_from (leaf_for command known) [] w words false []

-- ---- the end of the words

abbrev pub ends_as : Bool → Kinds
ends_as true = []
ends_as false = MissingRequiredArgument ∷ []

ends_as-not : (test : Bool) → (if not test then MissingRequiredArgument ∷ [] else []) ≡ ends_as test
ends_as-not true = refl
ends_as-not false = refl

pub end_faults : (command : Text) (known : Known) (w : Walk) (options : List Given) → ComesTo known w.held options
    → leaf_faults command known w [] ≡ ends_as (has_required known options)
unfolding walk_fault
end_faults command known w options comes =
    let rows : (settled (rules_for known) w.held).rows ≡ rows_for options = ap (λ (k : Held). k.rows) comes.is in
    rw (
      comes.quiet,
      rows,
      no_defaults_fault known (rows_for options),
      lacks_required known options (rows_at_end known options)
          (given_at_end known options),
    )
    (ends_as-not (has_required known options))

-- ---- words that are refused

-- what is held settles without a fault, or with one
abbrev pub MayRefuse : Kinds → Type 0
MayRefuse kinds = (kinds ≡ []) ⊎ IsRefusal kinds

pub after_first : (first next : Kinds) → MayRefuse first → IsRefusal next → IsRefusal (or_else first next)
after_first first next (inl quiet) refused = rw quiet refused
after_first first next (inr refused) more = refusal_first first next refused

pub no_subcommand : (waiting : Waiting) (word : Text) → subcommand_met [] waiting word ≡ None
no_subcommand idle word = refl
no_subcommand (option name) word = refl
no_subcommand positional word = refl

module _ (command : Text) (known : Known) (before : List Given) (pending : Option (Text × List Text)) where
  abbrev pub h : Held
  h = held_for before pending

  abbrev pub settling : Kinds
  settling = settle_fault (rules_for known) false h

  abbrev pub waits : Waiting → Walk
  waits waiting = record (walk_from h) { waiting = waiting }

  -- a long name that is no option's
  pub no_option_refused : (found : Option Rule) (value : Option Text) → MayRefuse settling → (found ≡ None)
      ⊎ (found ≡ Some built_help)
      → IsRefusal (long_fault (rules_for known) false found value h)
  no_option_refused found value settles (inl none) = rw none (inl (UnknownArgument, refl))
  no_option_refused found None settles (inr is) = rw is (after_first settling _ settles (inl (DisplayHelp, refl)))
  no_option_refused found (Some value) settles (inr is) = rw is (inl (TooManyValues, refl))

  -- an option, where what is held does not settle
  pub unsettled_refused : (own : CommandOption) (found : Option Rule) (value : Option Text) → IsRefusal settling
      → found ≡ Some (built_value own)
      → IsRefusal (long_fault (rules_for known) false found value h)
  unsettled_refused own found None refused is = rw is refused
  unsettled_refused own found (Some value) refused is = rw is (refusal_first settling _ refused)

  pub unsettled_flag_refused : (name : Text) (found : Option Rule) (value : Option Text) → IsRefusal settling
      → found ≡ Some (built_flag name)
      → IsRefusal (long_fault (rules_for known) false found value h)
  unsettled_flag_refused name found None refused is = rw is (refusal_first settling _ refused)
  unsettled_flag_refused name found (Some value) refused is = rw is (inl (TooManyValues, refl))

  -- a flag with a value
  pub joined_flag_refused : (name : Text) (found : Option Rule) (value : Text) → found ≡ Some (built_flag name)
      → IsRefusal (long_fault (rules_for known) false found (Some value) h)
  joined_flag_refused name found value is = rw is (inl (TooManyValues, refl))

  short_refused : (rest : Text) (next : Held → Kinds) (found : Option Rule) → MayRefuse settling
      → IfSome found (λ rule. rule ≡ built_help)
      → IsRefusal (short_fault (rules_for known) false found rest h next)
  short_refused rest next None settles is = inl (UnknownArgument, refl)
  short_refused rest next (Some rule) settles is =
      rw is (refusal_first _ _ (after_first settling _ settles (inl (DisplayHelp, refl))))

  flags_refused : (flags : Text) (x : ℕ) → MayRefuse settling → slice_get (chars flags) 0 ≡ Some x
      → IsRefusal (flags_fault (rules_for known) false (length flags) flags 0 h)
  unfolding flags_fault chars
  flags_refused [] x settles first = let bad : None ≡ Some x = first in cc
  flags_refused (y ∷ ys) x settles first =
      rw first (short_refused _ _ (arg_by_short (rules_for known) x) settles (found_by_short known x))

  pub short_word_refused : (waiting : Waiting) (word flags : Text) (x : ℕ) → MayRefuse settling → bytes_eq word dashes ≡ false
      → long_of word ≡ None
      → short_of word ≡ Some flags → slice_get (chars flags) 0 ≡ Some x
      → IsRefusal (turn_fault (leaf_for command known) [] (waits waiting) word)
  short_word_refused waiting word flags x settles other not_long is first =
      rw (no_subcommand waiting word, other, not_long, is) (refusal_first _ _ (flags_refused flags x settles first))

  pub long_word_refused : (waiting : Waiting) (word name : Text) (value : Option Text) → bytes_eq word dashes ≡ false
      → long_of word ≡ Some (name, value)
      → IsRefusal (long_fault (rules_for known) false (arg_by_long (rules_for known) name) value h)
      → IsRefusal (turn_fault (leaf_for command known) [] (waits waiting) word)
  long_word_refused waiting word name value other is refused =
      rw (no_subcommand waiting word, other, is) (refusal_first _ _ refused)

  -- a plain word, where no option waits for a value
  pub stray_refused : (word : Text) → IsPlain word → IsRefusal (turn_fault (leaf_for command known) [] (walk_from h) word)
  stray_refused word is = go is.not_short
    where
      go : (short_of word ≡ None) ⊎ ((flags : Text) × (short_of word ≡ Some flags) × (slice_get (chars flags) 0 ≡ None))
          → IsRefusal (turn_fault (leaf_for command known) [] (walk_from h) word)
      go (inl none) = rw (is.other, is.not_long, none, nothing_by_index known) (inl (UnknownArgument, refl))
      go (inr (flags, some, none)) =
          rw (
            is.other,
            is.not_long,
            some,
            no_flag_fault (rules_for known) flags none (length flags) h,
            no_flag_met (rules_for known) flags none (length flags) h,
            nothing_by_index known,
          )
          (inl (UnknownArgument, refl))

  pub trailing_refused : (waiting : Waiting) (word : Text)
      → IsRefusal (turn_fault (leaf_for command known) [] (record (waits waiting) { is_trailing = true }) word)
  trailing_refused waiting word = rw (nothing_by_index known) (inl (UnknownArgument, refl))

-- ---- each option once

differs_both : (a b : Text) → bytes_eq a b ≡ false → bytes_eq b a ≡ false
differs_both a b differs = go (bytes_eq b a) refl
  where
    go : (test : Bool) → bytes_eq b a ≡ test → bytes_eq b a ≡ false
    go false e = e
    go true e =
        let same : b ≡ a = (bytes_eq-Decides b a).0 e in
        let bad : true ≡ false = sym ((bytes_eq-Decides a b).1 (sym same)) ∙ differs in cc

neither : (a b : Bool) → (a || b) ≡ false → (a ≡ false) × (b ≡ false)
neither true b both = cc
neither false b both = (refl, both)

pub once_more : (before : List Given) (given : Given) → EachOnce before → has_option (name_in given) before ≡ false
    → EachOnce (before ++ given ∷ [])
once_more [] given once none = (refl, tt)
once_more (first ∷ rest) given once none =
    let both = neither (bytes_eq (name_in first) (name_in given)) (has_option (name_in given) rest) none in
    let absent : has_option (name_in first) (rest ++ given ∷ []) ≡ false =
    list_any-append (λ (g : Given). bytes_eq (name_in g) (name_in first)) rest (given ∷ [])
    ∙ ap₂ ◌||◌ once.0 (ap (λ b. b || false) (differs_both (name_in first) (name_in given) both.0)) in
    (absent, once_more rest given once.1 both.1)

pub once_before : (before : List Given) (given : Given) (more : List Given) → EachOnce (before ++ given ∷ more)
    → has_option (name_in given) before ≡ false
once_before [] given more once = refl
once_before (first ∷ rest) given more once =
    let split : (has_option (name_in first) rest || has_option (name_in first) (given ∷ more)) ≡ false =
    sym (list_any-append (λ (g : Given). bytes_eq (name_in g) (name_in first)) rest (given ∷ more)) ∙ once.0 in
    let here = (neither _ _ (neither (has_option (name_in first) rest) (has_option (name_in first) (given ∷ more)) split).1).0 in
    ap₂ ◌||◌ (differs_both (name_in given) (name_in first) here) (once_before rest given more once.1)

-- ---- words that are taken

-- the words give these options after those before
pub record Reads (known : Known) (before : List Given) (words : List Text) : Type 0 where
  pub more : List Given
  pub ends : MayEnd (flat_map option_words more) words
  pub each : All (IsOptionOf known) more
  pub once : EachOnce (before ++ more)
  pub required : has_required known (before ++ more) ≡ true

-- one more option in front of what words give
pub one_more : (known : Known) (before : List Given) (given : Given) (words rest : List Text) → words ≡ option_words given ++ rest
    → IsOptionOf known given
    → Reads known (before ++ given ∷ []) rest → Reads known before words
one_more known before given words rest is allowed reads = record {
  more = given ∷ reads.more;
  ends = elim reads.ends [
    | inl whole ↦ inl (is ∙ ap (λ (ws : List Text). option_words given ++ ws) whole)
    | inr whole ↦ inr (is ∙ ap (λ (ws : List Text). option_words given ++ ws) whole
        ∙ sym (append_assoc (option_words given) (flat_map option_words reads.more) (dashes ∷ [])))
  ];
  each = All-cons (IsOptionOf known) given reads.more allowed reads.each;
  once = subst EachOnce (append_assoc before (given ∷ []) reads.more) reads.once;
  required = ap (has_required known) (sym (append_assoc before (given ∷ []) reads.more)) ∙ reads.required;
}
