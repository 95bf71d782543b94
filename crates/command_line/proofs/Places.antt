-- How clap takes the two words of `churn`, each by its place, and refuses all other words after the command.
use Rattle.std.proofs.Common.{◌≡◌, ◌⊎◌, ◌∙◌, ◌==◌, ℕ, Bool, true, false, inl, inr, List, [], ◌∷◌, Option, Some, None, ap, codes}
use Rattle.std.proofs.Common.{length, refl, subst, sym}
use Rattle.std.specs.Prelude.{IfSome, fold, slice_get}
use Rattle.std.specs.Str.{bytes_eq, chars}
use Rattle.clap.specs.Lexer.{short_of}
use Rattle.clap.specs.Simple.{Shape, built_leaf, inherited, new_rule, new_shape}
use Rattle.clap.specs.Walk.{Held, Row, Rule, Text, Walk, arg_by_long, arg_by_short, finished, first_of, nothing_held, rows_after}
use Rattle.clap.specs.Walk.{walk_from, walked}
use Rattle.clap.specs.Kinds.{Kinds}
use Rattle.clap.specs.Faults.{defaults_fault, flags_fault, long_fault, settle_fault, short_fault, turn_fault, walk_fault}
use Rattle.clap.specs.declared.builder.action.ArgAction.TheVariants.{Set}
use Rattle.clap.specs.declared.builder.value_parser.ValueParser.TheVariants as vp
use Rattle.clap.specs.declared.error.kind.ErrorKind.TheVariants.{DisplayHelp, MissingRequiredArgument, TooManyValues}
use Rattle.clap.specs.declared.error.kind.ErrorKind.TheVariants.{UnknownArgument}
use Rattle.command_line.specs.Churn.{AreNumbers, both_behind, churn_value, plain, seed_behind}
use Rattle.command_line.specs.Options.{MayEnd, StandsAlone, apart}
use Rattle.command_line.specs.Program.{bare}
use Rattle.command_line.proofs.Leaves.{after_first}
use Rattle.command_line.proofs.Levels.{faults_from, next_passes, next_refused}
use Rattle.command_line.proofs.Refusals.{IsRefusal, refusal_first}
use Rattle.command_line.proofs.Rules.{built_help, row_for}
use Rattle.command_line.proofs.Turns.{Turns, no_flag_fault, no_flag_met}
use Rattle.command_line.proofs.Words.{IsPlain, WordKind, dashes, ends, kind_of_word, long, short, stands_plain}
use Rattle.command_line.proofs.Words as kinds

-- a word with a place, as building fills it in
abbrev built_place : ℕ → Text → Rule
built_place at name = record (new_rule name) {
  index = Some at;
  value_names = 1;
  required = true;
  action = Some Set;
  range = Some (record { start_inclusive = 1; end_inclusive = 1 });
  parser = Some vp.String;
}

abbrev pub rules : List Rule
rules = built_place 1 (codes "steps") ∷ built_place 2 (codes "seed") ∷ built_help ∷ []

abbrev pub leaf : Shape
leaf = record (built_leaf (inherited bare.top (new_shape (codes "churn")))) { rules = rules }

abbrev faults : Walk → List Text → Kinds
faults w words = faults_from leaf [] w words false []

-- ---- where a walk stands between two words

data Taken : Type 0 where
  neither : Taken
  one : Text → Taken
  both : Text → Text → Taken

abbrev held : Taken → Held
held neither = nothing_held
held (one steps) = record { rows = []; pending = Some (codes "steps", steps ∷ []); skip = 0 }
held (both steps seed) = record {
  rows = row_for (apart (codes "steps") steps) ∷ [];
  pending = Some (codes "seed", seed ∷ []);
  skip = 0;
}

abbrev place : Taken → ℕ
place neither = 1
place (one steps) = 2
place (both steps seed) = 3

abbrev stands : Bool → Taken → Walk
stands trailing taken = record (walk_from (held taken)) { position = place taken; is_trailing = trailing }

-- the words after the command are refused
abbrev Refused : Walk → List Text → Type 0
Refused w words = IsRefusal (faults w words)

refused_on : (w to : Walk) (word : Text) (more : List Text) → Turns leaf w word to → Refused to more → Refused w (word ∷ more)
refused_on w to word more turns refused = rw (next_passes leaf [] w to word more false [] turns.passes turns.goes) refused

lacks_one : (trailing : Bool) (steps : Text) → Refused (stands trailing (one steps)) []
unfolding walk_fault defaults_fault
lacks_one trailing steps = inl (MissingRequiredArgument, refl)

lacks_both : (trailing : Bool) → Refused (stands trailing neither) []
unfolding walk_fault defaults_fault
lacks_both trailing = inl (MissingRequiredArgument, refl)

has_both : (trailing : Bool) (steps seed : Text) → faults (stands trailing (both steps seed)) [] ≡ []
unfolding walk_fault defaults_fault
has_both trailing steps seed = refl

-- ---- a word that may be a value

module _ (word : Text) where
  first_behind : Turns leaf (stands true neither) word (stands true (one word))
  unfolding walked
  first_behind = record { passes = refl; goes = refl }

  second_behind : (steps : Text) → Turns leaf (stands true (one steps)) word (stands true (both steps word))
  unfolding walked
  second_behind steps = record { passes = refl; goes = refl }

  module _ (is : IsPlain word) where
    abbrev NotShort : Type 0
    NotShort = (short_of word ≡ None) ⊎ ((flags : Text) × (short_of word ≡ Some flags) × (slice_get (chars flags) 0 ≡ None))

    first_turns : NotShort → Turns leaf (stands false neither) word (stands false (one word))
    unfolding walked
    first_turns (inl none) = record {
      passes = rw (is.other, is.not_long, none) refl;
      goes = rw (is.other, is.not_long, none) refl;
    }
    first_turns (inr (flags, some, none)) = record {
      passes = rw (
        is.other,
        is.not_long,
        some,
        no_flag_fault rules flags none (length flags) (held neither),
        no_flag_met rules flags none (length flags) (held neither),
      ) refl;
      goes = rw (is.other, is.not_long, some, no_flag_met rules flags none (length flags) (held neither)) refl;
    }

    second_turns : (steps : Text) → NotShort → Turns leaf (stands false (one steps)) word (stands false (both steps word))
    unfolding walked
    second_turns steps (inl none) = record {
      passes = rw (is.other, is.not_long, none) refl;
      goes = rw (is.other, is.not_long, none) refl;
    }
    second_turns steps (inr (flags, some, none)) = record {
      passes = rw (
        is.other,
        is.not_long,
        some,
        no_flag_fault rules flags none (length flags) (held (one steps)),
        no_flag_met rules flags none (length flags) (held (one steps)),
      ) refl;
      goes = rw (is.other, is.not_long, some, no_flag_met rules flags none (length flags) (held (one steps))) refl;
    }

    -- a third has no place
    third_refused : (steps seed : Text) → NotShort → IsRefusal (turn_fault leaf [] (stands false (both steps seed)) word)
    third_refused steps seed (inl none) = rw (is.other, is.not_long, none) (inl (UnknownArgument, refl))
    third_refused steps seed (inr (flags, some, none)) = rw (
      is.other,
      is.not_long,
      some,
      no_flag_fault rules flags none (length flags) (held (both steps seed)),
      no_flag_met rules flags none (length flags) (held (both steps seed)),
    ) (inl (UnknownArgument, refl))

dashes_turn : (taken : Taken) → Turns leaf (stands false taken) dashes (stands true taken)
unfolding walked
dashes_turn neither = record { passes = refl; goes = refl }
dashes_turn (one steps) = record { passes = refl; goes = refl }
dashes_turn (both steps seed) = record { passes = refl; goes = refl }

-- ---- a word that looks like an option

found_by_long : (name : Text) → (arg_by_long rules name ≡ None) ⊎ (arg_by_long rules name ≡ Some built_help)
found_by_long name = go (bytes_eq (codes "help") name) refl
  where
    go : (test : Bool) → bytes_eq (codes "help") name ≡ test
        → (arg_by_long rules name ≡ None) ⊎ (arg_by_long rules name ≡ Some built_help)
    go true e = inr (rw e refl)
    go false e = inl (rw e refl)

found_by_short : (x : ℕ) → IfSome (arg_by_short rules x) (λ rule. rule ≡ built_help)
found_by_short x = go (104 == x) refl
  where
    go : (test : Bool) → (104 == x) ≡ test → IfSome (arg_by_short rules x) (λ rule. rule ≡ built_help)
    go true e = rw e refl
    go false e = rw e tt

module _ (rows : List Row) (pending : Option (Text × List Text)) (at : ℕ) where
  abbrev h : Held
  h = record { rows = rows; pending = pending; skip = 0 }

  abbrev w : Walk
  w = record (walk_from h) { position = at }

  module _ (settles : settle_fault rules false h ≡ []) where
    long_refused : (found : Option Rule) (value : Option Text) → (found ≡ None) ⊎ (found ≡ Some built_help)
        → IsRefusal (long_fault rules false found value h)
    long_refused found value (inl none) = rw none (inl (UnknownArgument, refl))
    long_refused found None (inr is) = rw is (after_first (settle_fault rules false h) _ (inl settles) (inl (DisplayHelp, refl)))
    long_refused found (Some value) (inr is) = rw is (inl (TooManyValues, refl))

    short_refused : (rest : Text) (next : Held → Kinds) (found : Option Rule) → IfSome found (λ rule. rule ≡ built_help)
        → IsRefusal (short_fault rules false found rest h next)
    short_refused rest next None is = inl (UnknownArgument, refl)
    short_refused rest next (Some rule) is =
        rw is (refusal_first _ _ (after_first (settle_fault rules false h) _ (inl settles) (inl (DisplayHelp, refl))))

    flags_refused : (flags : Text) (x : ℕ) → slice_get (chars flags) 0 ≡ Some x
        → IsRefusal (flags_fault rules false (length flags) flags 0 h)
    unfolding flags_fault chars
    flags_refused [] x first = let bad : None ≡ Some x = first in cc
    flags_refused (y ∷ ys) x first = rw first (short_refused _ _ (arg_by_short rules x) (found_by_short x))

    -- a word is refused, or is no option
    by_kind : (word : Text) → WordKind word
        → IsRefusal (turn_fault leaf [] w word) ⊎ ((word ≡ dashes) ⊎ (IsPlain word × StandsAlone word))
    by_kind word (ends is) = inr (inl is)
    by_kind word (long name value other is) =
        inl (rw (other, is) (refusal_first _ _ (long_refused (arg_by_long rules name) value (found_by_long name))))
    by_kind word (short flags x other not_long is first) =
        inl (rw (other, not_long, is) (refusal_first _ _ (flags_refused flags x first)))
    by_kind word (kinds.plain is alone) = inr (inr (is, alone))

-- ---- the words behind `--`

both_trail : (steps seed : Text) (words : List Text) → Refused (stands true (both steps seed)) words ⊎ (words ≡ [])
both_trail steps seed [] = inr refl
both_trail steps seed (word ∷ more) =
    inl (next_refused leaf [] (stands true (both steps seed)) word more false [] (inl (UnknownArgument, refl)))

one_trails : (steps : Text) (words : List Text)
    → Refused (stands true (one steps)) words ⊎ ((seed : Text) × (words ≡ seed ∷ []))
one_trails steps [] = inl (lacks_one true steps)
one_trails steps (word ∷ more) = elim (both_trail steps word more) [
  | inl refused ↦ inl (refused_on (stands true (one steps)) (stands true (both steps word)) word more
      (second_behind word steps) refused)
  | inr is ↦ inr (word, ap (λ (rest : List Text). word ∷ rest) is)
]

neither_trails : (words : List Text)
    → Refused (stands true neither) words ⊎ ((steps : Text) × (seed : Text) × (words ≡ steps ∷ seed ∷ []))
neither_trails [] = inl (lacks_both true)
neither_trails (word ∷ more) = elim (one_trails word more) [
  | inl refused ↦ inl (refused_on (stands true neither) (stands true (one word)) word more (first_behind word) refused)
  | inr found ↦ inr (word, found.0, ap (λ (rest : List Text). word ∷ rest) found.1)
]

-- `--` is passed
dashes_refused : (taken : Taken) (word : Text) (more : List Text) → word ≡ dashes → Refused (stands true taken) more
    → Refused (stands false taken) (word ∷ more)
dashes_refused taken word more is refused =
    subst (λ (first : Text). Refused (stands false taken) (first ∷ more)) (sym is)
    (refused_on (stands false taken) (stands true taken) dashes more (dashes_turn taken) refused)

-- ---- the words before it

both_end : (steps seed : Text) (words : List Text) → Refused (stands false (both steps seed)) words ⊎ MayEnd [] words
both_end steps seed [] = inr (inl refl)
both_end steps seed (word ∷ more) =
    go (by_kind (row_for (apart (codes "steps") steps) ∷ []) (Some (codes "seed", seed ∷ [])) 3 refl word (kind_of_word word))
  where
    go : IsRefusal (turn_fault leaf [] (stands false (both steps seed)) word)
        ⊎ ((word ≡ dashes) ⊎ (IsPlain word × StandsAlone word))
        → Refused (stands false (both steps seed)) (word ∷ more) ⊎ MayEnd [] (word ∷ more)
    go (inl refused) = inl (next_refused leaf [] (stands false (both steps seed)) word more false [] refused)
    go (inr (inl is)) = elim (both_trail steps seed more) [
      | inl refused ↦ inl (dashes_refused (both steps seed) word more is refused)
      | inr none ↦ inr (inr (rw (is, none) refl))
    ]
    go (inr (inr (is, alone))) =
        inl (next_refused leaf [] (stands false (both steps seed)) word more false []
        (third_refused word is steps seed is.not_short))

-- a seed, after the steps
data HasSeed (words : List Text) : Type 0 where
  before : (seed : Text) → StandsAlone seed → MayEnd (seed ∷ []) words → HasSeed words
  behind : (seed : Text) → words ≡ dashes ∷ seed ∷ [] → HasSeed words

one_ends : (steps : Text) (words : List Text) → Refused (stands false (one steps)) words ⊎ HasSeed words
one_ends steps [] = inl (lacks_one false steps)
one_ends steps (word ∷ more) = go (by_kind [] (Some (codes "steps", steps ∷ [])) 2 refl word (kind_of_word word))
  where
    go : IsRefusal (turn_fault leaf [] (stands false (one steps)) word) ⊎ ((word ≡ dashes) ⊎ (IsPlain word × StandsAlone word))
        → Refused (stands false (one steps)) (word ∷ more) ⊎ HasSeed (word ∷ more)
    go (inl refused) = inl (next_refused leaf [] (stands false (one steps)) word more false [] refused)
    go (inr (inl is)) = elim (one_trails steps more) [
      | inl refused ↦ inl (dashes_refused (one steps) word more is refused)
      | inr found ↦ inr (behind found.0 (rw (is, found.1) refl))
    ]
    go (inr (inr (is, alone))) = elim (both_end steps word more) [
      | inl refused ↦ inl (refused_on (stands false (one steps)) (stands false (both steps word)) word more
          (second_turns word is steps is.not_short) refused)
      | inr (inl none) ↦ inr (before word alone (inl (rw none refl)))
      | inr (inr end) ↦ inr (before word alone (inr (rw end refl)))
    ]

abbrev HasBoth : List Text → Type 0
HasBoth words = (steps : Text) × (seed : Text) × AreNumbers steps seed words

neither_ends : (words : List Text) → Refused (stands false neither) words ⊎ HasBoth words
neither_ends [] = inl (lacks_both false)
neither_ends (word ∷ more) = go (by_kind [] None 1 refl word (kind_of_word word))
  where
    seeded : StandsAlone word → HasSeed more → HasBoth (word ∷ more)
    seeded alone (before seed also (inl whole)) = (word, seed, plain alone also (inl (rw whole refl)))
    seeded alone (before seed also (inr whole)) = (word, seed, plain alone also (inr (rw whole refl)))
    seeded alone (behind seed whole) = (word, seed, seed_behind alone (rw whole refl))

    go : IsRefusal (turn_fault leaf [] (stands false neither) word) ⊎ ((word ≡ dashes) ⊎ (IsPlain word × StandsAlone word))
        → Refused (stands false neither) (word ∷ more) ⊎ HasBoth (word ∷ more)
    go (inl refused) = inl (next_refused leaf [] (stands false neither) word more false [] refused)
    go (inr (inl is)) = elim (neither_trails more) [
      | inl refused ↦ inl (dashes_refused neither word more is refused)
      | inr found ↦ inr (found.0, found.1, both_behind (rw (is, found.2) refl))
    ]
    go (inr (inr (is, alone))) = elim (one_ends word more) [
      | inl refused ↦ inl (refused_on (stands false neither) (stands false (one word)) word more
          (first_turns word is is.not_short) refused)
      | inr seed ↦ inr (seeded alone seed)
    ]

-- what clap says of the words after the command
abbrev pub churn_faults : List Text → Kinds
churn_faults words = faults_from leaf [] (walk_from nothing_held) words false []

pub refused_or_numbers : (words : List Text)
    → IsRefusal (churn_faults words) ⊎ ((steps : Text) × (seed : Text) × AreNumbers steps seed words)
refused_or_numbers words = neither_ends words

-- ---- the two words are taken, and found

record Walks (from : Walk) (words : List Text) (to : Walk) : Type 0 where
  pub same : faults from words ≡ faults to []
  pub goes : fold (walked rules []) from words ≡ to

walks_no_more : (w : Walk) → Walks w [] w
walks_no_more w = record { same = refl; goes = refl }

walks_on : (from through to : Walk) (word : Text) (words : List Text) → Turns leaf from word through → Walks through words to
    → Walks from (word ∷ words) to
walks_on from through to word words turns walks = record {
  same = next_passes leaf [] from through word words false [] turns.passes turns.goes ∙ walks.same;
  goes = ap (λ (at : Walk). fold (walked rules []) at words) turns.goes ∙ walks.goes;
}

module _ (steps seed : Text) where
  abbrev end : Bool → Walk
  end trailing = stands trailing (both steps seed)

  walks_dashes : Walks (end false) (dashes ∷ []) (end true)
  walks_dashes = walks_on (end false) (end true) (end true) dashes [] (dashes_turn (both steps seed)) (walks_no_more (end true))

  walks_seed_behind : Walks (stands true (one steps)) (seed ∷ []) (end true)
  walks_seed_behind =
      walks_on (stands true (one steps)) (end true) (end true) seed [] (second_behind seed steps) (walks_no_more (end true))

  -- a walk over them, with `--` or without it
  abbrev Ends : Walk → List Text → Type 0
  Ends from words = (trailing : Bool) × Walks from words (end trailing)

  ends_after_steps : (rest : List Text) → StandsAlone steps → Ends (stands false (one steps)) rest
      → Ends (stands false neither) (steps ∷ rest)
  ends_after_steps rest alone (trailing, walks) =
      let is = stands_plain steps alone in (
        trailing,
        walks_on (stands false neither) (stands false (one steps)) (end trailing) steps rest
            (first_turns steps is is.not_short) walks,
      )

  ends_after_seed : (rest : List Text) → StandsAlone seed → Ends (end false) rest → Ends (stands false (one steps)) (seed ∷ rest)
  ends_after_seed rest alone (trailing, walks) =
      let is = stands_plain seed alone in (
        trailing,
        walks_on (stands false (one steps)) (end false) (end trailing) seed rest
            (second_turns seed is steps is.not_short) walks,
      )

  ends_by : (words : List Text) → AreNumbers steps seed words → Ends (stands false neither) words
  ends_by words (plain first second (inl is)) =
      rw is (ends_after_steps (seed ∷ []) first (ends_after_seed [] second (false, walks_no_more (end false))))
  ends_by words (plain first second (inr is)) =
      rw is (ends_after_steps (seed ∷ dashes ∷ []) first (ends_after_seed (dashes ∷ []) second (true, walks_dashes)))
  ends_by words (seed_behind first is) =
      rw is (ends_after_steps (dashes ∷ seed ∷ []) first (
        true,
        walks_on (stands false (one steps)) (stands true (one steps)) (end true) dashes (seed ∷ [])
            (dashes_turn (one steps)) walks_seed_behind,
      ))
  ends_by words (both_behind is) =
      rw is (
        true,
        walks_on (stands false neither) (stands true neither) (end true) dashes (steps ∷ seed ∷ [])
            (dashes_turn neither)
            (walks_on (stands true neither) (stands true (one steps)) (end true) steps (seed ∷ [])
            (first_behind steps) walks_seed_behind),
      )

  pub numbers_are_taken : (words : List Text) → AreNumbers steps seed words → churn_faults words ≡ []
  numbers_are_taken words are =
      let all = ends_by words are in all.1.same ∙ has_both all.0 steps seed

  value_at_end : (trailing : Bool) (name : Text)
      → first_of name (finished rules (end trailing).held) ≡ churn_value steps seed name
  value_at_end trailing name = go (bytes_eq (codes "steps") name) (bytes_eq (codes "seed") name) refl refl
    where
      go : (first second : Bool) → bytes_eq (codes "steps") name ≡ first → bytes_eq (codes "seed") name ≡ second
          → first_of name (finished rules (end trailing).held) ≡ churn_value steps seed name
      go true second e f = rw e refl
      go false true e f = rw (e, f) refl
      go false false e f = rw (e, f) refl

  pub numbers_are_found : (words : List Text) → AreNumbers steps seed words
      → (name : Text) → first_of name (rows_after rules [] words) ≡ churn_value steps seed name
  numbers_are_found words are name =
      let all = ends_by words are in
      ap (λ (at : Walk). first_of name (finished rules at.held)) all.1.goes ∙ value_at_end all.0 name
