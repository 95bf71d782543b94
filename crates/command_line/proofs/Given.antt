-- Words that give a command its options are taken, and clap finds the values that they give.
use Rattle.std.proofs.Common.{◌≡◌, ◌⊎◌, ◌∙◌, Bool, true, false, inl, inr, List, [], ◌∷◌, ◌++◌, Some, None, ap, append-nil}
use Rattle.std.proofs.Common.{append_assoc, codes, refl, subst, sym}
use Rattle.std.specs.Prelude.{fold}
use Rattle.std.specs.List.{All, flat_map, list_all}
use Rattle.std.specs.Str.{bytes_eq}
use Rattle.std.proofs.lemmas.List.Elements.{All-head, All-tail}
use Rattle.std.proofs.lemmas.Slice.Eq.{bytes_eq-Decides}
use Rattle.clap.specs.Walk.{Held, Text, Walk, arg_by_long, first_of, rows_after, walk_from, walked, with_default}
use Rattle.clap.specs.Faults.{walk_fault}
use Rattle.command_line.specs.Options.{AreOptionsOf, EachOnce, Given, IsOptionOf, MayEnd, alone, apart, has_option, joined}
use Rattle.command_line.specs.Options.{kind_named, name_in, option_name, option_words, value_of}
use Rattle.command_line.proofs.Leaves.{end_faults, ends_as, leaf_faults, once_before}
use Rattle.command_line.proofs.Rows.{value_at_end}
use Rattle.command_line.proofs.Rules.{Found, Known, a_flag, an_option, built_flag, found_by_long, help, nothing, rules_for}
use Rattle.command_line.proofs.Turns.{ComesTo, Names, Turns, held_for, leaf_for, nothing_comes, turn_flag, turn_joined, turn_name}
use Rattle.command_line.proofs.Turns.{turn_value, value_comes}
use Rattle.command_line.proofs.Words.{IsName, dashes, is_name, joined_no_dashes, long_alone, long_joined, name_from_test}
use Rattle.command_line.proofs.Words.{no_dashes, stands_plain}

-- each option of the command has a name
abbrev pub HasNames : Known → Type 0
HasNames known = (name : Text) (valued : Bool) → kind_named known name ≡ Some valued → IsName name

pub has_names : (known : Known) → list_all (λ option. is_name (option_name option)) known ≡ true → HasNames known
has_names [] all name valued named = cc
has_names (option ∷ rest) all name valued named =
    go (is_name (option_name option)) (bytes_eq (option_name option) name) refl refl (has_names rest)
  where
    go : (well same : Bool) → is_name (option_name option) ≡ well → bytes_eq (option_name option) name ≡ same
        → (list_all (λ other. is_name (option_name other)) rest ≡ true → HasNames rest) → IsName name
    go false same e f more = let bad : false ≡ true = rw e at all in cc
    go true true e f more = subst IsName ((bytes_eq-Decides (option_name option) name).0 f)
        (name_from_test (option_name option) e)
    go true false e f more = more (rw e at all) name valued (rw f at named)

names_of : (known : Known) (name : Text) → kind_named known name ≡ Some true → Names known name
names_of known name named = go (found_by_long known name)
  where
    go : Found known name → Names known name
    go (an_option own same allowed found) = record { option = own; same = same; found = found }
    go (a_flag absent found) = let bad : Some true ≡ Some false = sym named ∙ absent in cc
    go (help absent found) = let bad : Some true ≡ None = sym named ∙ absent in cc
    go (nothing absent found) = let bad : Some true ≡ None = sym named ∙ absent in cc

flag_found : (known : Known) (name : Text) → kind_named known name ≡ Some false
    → arg_by_long (rules_for known) name ≡ Some (built_flag name)
flag_found known name named = go (found_by_long known name)
  where
    go : Found known name → arg_by_long (rules_for known) name ≡ Some (built_flag name)
    go (an_option own same absent found) = let bad : Some false ≡ Some true = sym named ∙ absent in cc
    go (a_flag allowed found) = found
    go (help absent found) = let bad : Some false ≡ None = sym named ∙ absent in cc
    go (nothing absent found) = let bad : Some false ≡ None = sym named ∙ absent in cc

module _ (command : Text) (known : Known) (well_named : HasNames known) where
  -- the walk passes all words, and what it holds then comes to these options
  record Walks (w : Walk) (words : List Text) (options : List Given) : Type 0 where
    pub quiet : walk_fault (leaf_for command known) [] w words ≡ []
    pub comes : ComesTo known (fold (walked (rules_for known) []) w words).held options

  walks_on : (w to : Walk) (word : Text) (more : List Text) (options : List Given) → Turns (leaf_for command known) w word to
      → Walks to more options
      → Walks w (word ∷ more) options
  unfolding walk_fault
  walks_on w to word more options turns walks =
      let on : Walks (walked (rules_for known) [] w word) more options =
      subst (λ (t : Walk). Walks t more options) (sym turns.goes) walks in
      record { quiet = rw (turns.passes, on.quiet) refl; comes = on.comes }

  abbrev IsEnding : List Text → Type 0
  IsEnding words = (words ≡ []) ⊎ (words ≡ dashes ∷ [])

  walks_nothing : (h : Held) (options : List Given) → ComesTo known h options → Walks (walk_from h) [] options
  unfolding walk_fault
  walks_nothing h options comes = record { quiet = refl; comes = comes }

  walks_dashes : (h : Held) (options : List Given) → ComesTo known h options → Walks (walk_from h) (dashes ∷ []) options
  unfolding walk_fault walked
  walks_dashes h options comes = record { quiet = refl; comes = comes }

  walks_ending : (h : Held) (options : List Given) (words : List Text) → ComesTo known h options → IsEnding words
      → Walks (walk_from h) words options
  walks_ending h options words comes (inl none) = rw none (walks_nothing h options comes)
  walks_ending h options words comes (inr one) = rw one (walks_dashes h options comes)

  -- one option, and then more
  walks_option : (h : Held) (before : List Given) (given : Given) (words : List Text) (options : List Given)
      → ComesTo known h before → IsOptionOf known given → has_option (name_in given) before ≡ false
      → ((k : Held) → ComesTo known k (before ++ given ∷ []) → Walks (walk_from k) words options)
      → Walks (walk_from h) (option_words given ++ words) options
  walks_option h before (joined name value) words options comes named none next =
      let name_is = well_named name true named in
      let turns = turn_joined command known h before (dashes ++ name ++ codes "=" ++ value) name comes
      (joined_no_dashes name value name_is.some)
      (names_of known name named) value (long_joined name value name_is) none in
      walks_on _ _ _ words options turns (next (held_for (before ++ joined name value ∷ []) None)
      (nothing_comes known (before ++ joined name value ∷ [])))
  walks_option h before (apart name value) words options comes (named, stands) none next =
      let name_is = well_named name true named in
      let names = names_of known name named in
      let to_name = turn_name command known h before (dashes ++ name) name comes (no_dashes name name_is.some) names
      (long_alone name name_is) in
      let to_value = turn_value command known before value name (stands_plain value stands) names in
      walks_on _ _ _ (value ∷ words) options to_name
      (walks_on _ _ _ words options to_value (next (held_for before (Some (name, value ∷ [])))
      (value_comes known before name value names none)))
  walks_option h before (alone name) words options comes named none next =
      let name_is = well_named name false named in
      let turns = turn_flag command known h before (dashes ++ name) name comes (no_dashes name name_is.some)
      (flag_found known name named) (long_alone name name_is) none in
      walks_on _ _ _ words options turns (next (held_for (before ++ alone name ∷ []) None)
      (nothing_comes known (before ++ alone name ∷ [])))

  walks : (more : List Given) (before : List Given) (h : Held) (ending : List Text) → ComesTo known h before
      → All (IsOptionOf known) more
      → EachOnce (before ++ more) → IsEnding ending → Walks (walk_from h) (flat_map option_words more ++ ending) (before ++ more)
  walks [] before h ending comes each once ends =
      subst (λ (options : List Given). Walks (walk_from h) ending options) (sym (append-nil before))
      (walks_ending h before ending comes ends)
  walks (given ∷ more) before h ending comes each once ends =
      let moved = append_assoc before (given ∷ []) more in
      let next : (k : Held) → ComesTo known k (before ++ given ∷ [])
      → Walks (walk_from k) (flat_map option_words more ++ ending) (before ++ given ∷ more) =
      λ k holds. subst (λ (options : List Given). Walks (walk_from k) (flat_map option_words more ++ ending) options) moved
      (walks more (before ++ given ∷ []) k ending holds (All-tail (IsOptionOf known) given more each)
      (subst EachOnce (sym moved) once) ends) in
      subst (λ (words : List Text). Walks (walk_from h) words (before ++ given ∷ more))
      (sym (append_assoc (option_words given) (flat_map option_words more) ending))
      (walks_option h before given (flat_map option_words more ++ ending) (before ++ given ∷ more) comes
      (All-head (IsOptionOf known) given more each) (once_before before given more once) next)

  walks_all : (options : List Given) (words : List Text) → AreOptionsOf known options
      → MayEnd (flat_map option_words options) words
      → Walks (walk_from (held_for [] None)) words options
  walks_all options words are (inl whole) =
      subst (λ (ws : List Text). Walks (walk_from (held_for [] None)) ws options) (append-nil (flat_map option_words options)
      ∙ sym whole)
      (walks options [] (held_for [] None) [] (nothing_comes known []) are.each are.once (inl refl))
  walks_all options words are (inr whole) =
      subst (λ (ws : List Text). Walks (walk_from (held_for [] None)) ws options) (sym whole)
      (walks options [] (held_for [] None) (dashes ∷ []) (nothing_comes known []) are.each are.once (inr refl))

  pub given_is_taken : (options : List Given) (words : List Text) → AreOptionsOf known options
      → MayEnd (flat_map option_words options) words
      → leaf_faults command known (walk_from (held_for [] None)) words ≡ []
  unfolding walk_fault
  given_is_taken options words are end =
      let all = walks_all options words are end in
      let last = end_faults command known (fold (walked (rules_for known) []) (walk_from (held_for [] None)) words) options
      all.comes in
      rw all.quiet (last ∙ ap ends_as are.required)

  pub given_is_found : (options : List Given) (words : List Text) → AreOptionsOf known options
      → MayEnd (flat_map option_words options) words
      → (id : Text) → first_of id (rows_after (rules_for known) [] words) ≡ value_of known options id
  given_is_found options words are end id =
      let all = walks_all options words are end in
      ap (λ (k : Held). first_of id (fold with_default k.rows (rules_for known))) all.comes.is ∙ value_at_end known options id
