-- How clap walks over the options of a command, word by word.
use Rattle.std.proofs.Common.{◌≡◌, ◌⊎◌, ◌∙◌, ℕ, zero, suc, true, false, inl, inr, List, [], ◌∷◌, ◌++◌, Option, Some, None, ap}
use Rattle.std.proofs.Common.{ap₂, length, refl, sym}
use Rattle.std.specs.Prelude.{slice_get}
use Rattle.std.specs.Str.{bytes_eq, chars}
use Rattle.std.proofs.lemmas.Slice.Eq.{bytes_eq-Decides}
use Rattle.clap.specs.Lexer.{long_of, short_of}
use Rattle.clap.specs.Simple.{Shape, built_leaf, inherited, new_shape}
use Rattle.clap.specs.Walk.{Held, Row, Rule, Text, Walk, arg_by_id, arg_by_long, bundle_met, has_row, idle, option, option_word}
use Rattle.clap.specs.Walk.{plain, reacted, settled, used, walk_from, walked}
use Rattle.clap.specs.Kinds.{or_else}
use Rattle.clap.specs.Faults.{flags_fault, react_fault, settle_fault, turn_fault, use_fault}
use Rattle.command_line.specs.Options.{CommandOption, Given, alone, apart, has_option, joined, name_in, option_name, text_in}
use Rattle.command_line.specs.Program.{bare}
use Rattle.command_line.proofs.Rules.{Known, built_flag, built_value, has_row-rows, id_is_long, no_fault_of_set, no_fault_of_use}
use Rattle.command_line.proofs.Rules.{rows_for, rules_for, set_once, used_once}
use Rattle.command_line.proofs.Words.{IsPlain, dashes}

-- a command with these options, built
abbrev pub leaf_for : Text → Known → Shape
leaf_for command known = record (built_leaf (inherited bare.top (new_shape command))) { rules = rules_for known }

abbrev pub held_for : List Given → Option (Text × List Text) → Held
held_for before pending = record { rows = rows_for before; pending = pending; skip = 0 }

-- what is held comes to these options
pub record ComesTo (known : Known) (h : Held) (options : List Given) : Type 0 where
  pub quiet : settle_fault (rules_for known) false h ≡ []
  pub is : settled (rules_for known) h ≡ held_for options None

-- the word passes, and the walk goes on from there
pub record Turns (s : Shape) (from : Walk) (word : Text) (to : Walk) : Type 0 where
  pub passes : turn_fault s [] from word ≡ []
  pub goes : walked s.rules [] from word ≡ to

-- where a walk stands after the name of an option
abbrev pub after_name : Held → Text → Walk
after_name h name = record (walk_from h) { waiting = option name }

-- the name is that of an option that takes a value
pub record Names (known : Known) (name : Text) : Type 0 where
  pub option : CommandOption
  pub same : option_name option ≡ name
  pub found : arg_by_long (rules_for known) name ≡ Some (built_value option)

-- ---- what is held

pub nothing_comes : (known : Known) (before : List Given) → ComesTo known (held_for before None) before
nothing_comes known before = record { quiet = refl; is = refl }

-- a use of the rule adds this option to those before
pub record Adds (rule : Rule) (values : List Text) (before : List Given) (given : Given) : Type 0 where
  pub quiet : use_fault false rule values (rows_for before) ≡ []
  pub adds : used rule values (rows_for before) ≡ rows_for (before ++ given ∷ [])

adds_value : (known : Known) (before : List Given) (given : Given) (names : Names known (name_in given))
    → has_option (name_in given) before ≡ false
    → Adds (built_value names.option) (text_in given ∷ []) before given
adds_value known before given names none = record {
  quiet = no_fault_of_use names.option (text_in given) (rows_for before)
      (ap (λ (name : Text). has_row name (rows_for before)) names.same ∙ has_row-rows (name_in given) before ∙ none);
  adds = used_once names.option given before names.same none;
}

adds_flag : (name : Text) (before : List Given) → has_option name before ≡ false → Adds (built_flag name) [] before (alone name)
adds_flag name before none = record {
  quiet = no_fault_of_set name (rows_for before) (has_row-rows name before ∙ none);
  adds = set_once name before none;
}

module _ (known : Known) (h : Held) (before : List Given) (rule : Rule) (values : List Text) (given : Given)
    (comes : ComesTo known h before)
    (one : Adds rule values before given) where
  reaction_passes : react_fault (rules_for known) false rule values h ≡ []
  reaction_passes = ap₂ or_else comes.quiet (ap (λ (k : Held). use_fault false rule values k.rows) comes.is ∙ one.quiet)

  reaction_comes : reacted (rules_for known) rule values h ≡ held_for (before ++ given ∷ []) None
  reaction_comes =
      ap (λ (k : Held). record k { rows = used rule values k.rows; pending = None }) comes.is
      ∙ ap (λ (rows : List Row). record (held_for [] None) { rows = rows }) one.adds

pub value_comes : (known : Known) (before : List Given) (name value : Text) → Names known name → has_option name before ≡ false
    → ComesTo known (held_for before (Some (name, value ∷ []))) (before ++ apart name value ∷ [])
value_comes known before name value names none =
    let by_id : arg_by_id (rules_for known) name ≡ Some (built_value names.option) = id_is_long known name ∙ names.found in
    let one = adds_value known before (apart name value) names none in
    record {
      quiet = rw by_id one.quiet;
      is = rw by_id (reaction_comes known (held_for before None) before _ _ (apart name value) (nothing_comes known before) one);
    }

-- the word of a flag
module _ (command : Text) (known : Known) (h : Held) (before : List Given) (word name : Text) (comes : ComesTo known h before)
    (other : bytes_eq word dashes ≡ false) (found : arg_by_long (rules_for known) name ≡ Some (built_flag name))
    (is : long_of word ≡ Some (name, None)) (none : has_option name before ≡ false) where
  flag_goes : walked (rules_for known) [] (walk_from h) word ≡ walk_from (held_for (before ++ alone name ∷ []) None)
  unfolding walked
  flag_goes = rw (other, is, found)
      (ap (λ (k : Held). walk_from k) (reaction_comes known h before _ _ (alone name) comes (adds_flag name before none)))

  pub turn_flag : Turns (leaf_for command known) (walk_from h) word (walk_from (held_for (before ++ alone name ∷ []) None))
  turn_flag = record {
    passes = rw (other, is, found, reaction_passes known h before _ _ (alone name) comes (adds_flag name before none)) refl;
    goes = flag_goes;
  }

-- the words of an option, with its value in the same word or in the next
module _ (command : Text) (known : Known) (h : Held) (before : List Given) (word name : Text) (comes : ComesTo known h before)
    (other : bytes_eq word dashes ≡ false) (names : Names known name) where
  joined_goes : (value : Text) → long_of word ≡ Some (name, Some value) → has_option name before ≡ false
      → walked (rules_for known) [] (walk_from h) word ≡ walk_from (held_for (before ++ joined name value ∷ []) None)
  unfolding walked
  joined_goes value is none = rw (other, is, names.found)
      (ap (λ (k : Held). walk_from k)
      (reaction_comes known h before _ _ (joined name value) comes (adds_value known before (joined name value) names none)))

  pub turn_joined : (value : Text) → long_of word ≡ Some (name, Some value) → has_option name before ≡ false
      → Turns (leaf_for command known) (walk_from h) word (walk_from (held_for (before ++ joined name value ∷ []) None))
  turn_joined value is none = record {
    passes = rw (
      other,
      is,
      names.found,
      reaction_passes known h before _ _ (joined name value) comes
          (adds_value known before (joined name value) names none),
    ) refl;
    goes = joined_goes value is none;
  }

  name_goes : long_of word ≡ Some (name, None)
      → walked (rules_for known) [] (walk_from h) word ≡ after_name (held_for before (Some (name, []))) name
  unfolding walked
  name_goes is =
      rw (other, is, names.found, names.same)
      (ap (λ (k : Held). record (walk_from (record k { pending = Some (name, []) })) { waiting = option name }) comes.is)

  pub turn_name : long_of word ≡ Some (name, None)
      → Turns (leaf_for command known) (walk_from h) word (after_name (held_for before (Some (name, []))) name)
  turn_name is = record { passes = rw (other, is, names.found, comes.quiet) refl; goes = name_goes is }

-- a word without a character after its hyphen is no flag
module _ (rules : List Rule) (flags : Text) (none : slice_get (chars flags) 0 ≡ None) where
  pub no_flag_fault : (count : ℕ) (h : Held) → flags_fault rules false count flags 0 h ≡ []
  unfolding flags_fault
  no_flag_fault zero h = refl
  no_flag_fault (suc count) h = rw none refl

  pub no_flag_met : (count : ℕ) (h : Held) → bundle_met rules count flags 0 plain h ≡ (h, plain)
  unfolding bundle_met
  no_flag_met zero h = refl
  no_flag_met (suc count) h = rw none refl

module _ (command : Text) (known : Known) (before : List Given) (word name : Text) (word_is : IsPlain word)
    (names : Names known name) where
  abbrev named : Held
  named = held_for before (Some (name, []))

  value_held : option_word (arg_by_id (rules_for known) name) name word named ≡ (held_for before (Some (name, word ∷ [])), idle)
  value_held =
      let by_id : arg_by_id (rules_for known) name ≡ Some (built_value names.option) = id_is_long known name ∙ names.found in
      let same : bytes_eq name (option_name names.option) ≡ true =
      (bytes_eq-Decides name (option_name names.option)).1 (sym names.same) in
      rw (by_id, same) refl

  value_passes : (short_of word ≡ None) ⊎ ((flags : Text) × (short_of word ≡ Some flags) × (slice_get (chars flags) 0 ≡ None))
      → turn_fault (leaf_for command known) [] (after_name named name) word ≡ []
  value_passes (inl none) = rw (word_is.other, word_is.not_long, none) refl
  value_passes (inr (flags, some, none)) =
      rw (
        word_is.other,
        word_is.not_long,
        some,
        no_flag_fault (rules_for known) flags none (length flags) named,
        no_flag_met (rules_for known) flags none (length flags) named,
      )
      refl

  value_goes : (short_of word ≡ None) ⊎ ((flags : Text) × (short_of word ≡ Some flags) × (slice_get (chars flags) 0 ≡ None))
      → walked (rules_for known) [] (after_name named name) word ≡ walk_from (held_for before (Some (name, word ∷ [])))
  unfolding walked
  value_goes (inl none) = rw (word_is.other, word_is.not_long, none, value_held) refl
  value_goes (inr (flags, some, none)) = rw
      (word_is.other, word_is.not_long, some, no_flag_met (rules_for known) flags none (length flags) named, value_held) refl

  pub turn_value : Turns (leaf_for command known) (after_name named name) word
      (walk_from (held_for before (Some (name, word ∷ []))))
  turn_value = record { passes = value_passes word_is.not_short; goes = value_goes word_is.not_short }
