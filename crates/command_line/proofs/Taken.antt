-- All words after a command give it options, or are refused.
use Rattle.std.proofs.Common.{◌≡◌, ◌⊎◌, ◌∙◌, Bool, true, false, inl, inr, List, [], ◌∷◌, ◌++◌, Option, Some, None, ap, ap₂}
use Rattle.std.proofs.Common.{append-nil, refl, subst, sym}
use Rattle.std.specs.Str.{bytes_eq}
use Rattle.std.proofs.lemmas.List.Elements.{All-nil}
use Rattle.clap.specs.Lexer.{long_of}
use Rattle.clap.specs.Walk.{Held, Text, Waiting, Walk, arg_by_id, arg_by_long, has_row, idle, option, settled, walk_from, walked}
use Rattle.clap.specs.Kinds.{Kinds}
use Rattle.clap.specs.Faults.{long_fault, settle_fault, turn_fault, use_fault, walk_fault}
use Rattle.clap.specs.declared.error.kind.ErrorKind.TheVariants.{ArgumentConflict, InvalidValue, MissingRequiredArgument}
use Rattle.command_line.specs.Options.{CommandOption, EachOnce, Given, IsOptionOf, MayEnd, StandsAlone, alone, apart, has_option}
use Rattle.command_line.specs.Options.{has_required, joined, kind_named, option_name}
use Rattle.command_line.proofs.Levels.{next_passes, next_refused}
use Rattle.command_line.proofs.Leaves.{Reads, end_faults, joined_flag_refused, leaf_faults, long_word_refused, no_option_refused}
use Rattle.command_line.proofs.Leaves.{no_subcommand, once_more, one_more, short_word_refused, stray_refused, trailing_refused}
use Rattle.command_line.proofs.Leaves.{unsettled_flag_refused, unsettled_refused}
use Rattle.command_line.proofs.Refusals.{IsRefusal, refusal_first}
use Rattle.command_line.proofs.Rules.{Found, Known, a_flag, an_option, built_flag, built_help, built_value, fault_of_repeat}
use Rattle.command_line.proofs.Rules.{fault_of_set, found_by_long, has_row-rows, help, id_is_long, nothing, rows_for, rules_for}
use Rattle.command_line.proofs.Turns.{ComesTo, Names, Turns, after_name, held_for, leaf_for, nothing_comes, turn_flag}
use Rattle.command_line.proofs.Turns.{turn_joined, turn_name, turn_value, value_comes}
use Rattle.command_line.proofs.Words.{IsPlain, WordKind, dashes, ends, kind_of_word, long, plain, short, word_of_joined}
use Rattle.command_line.proofs.Words.{word_of_long}

-- where a walk stands between two words
data Stand : Type 0 where
  at_rest : List Given → Stand
  at_value : List Given → Text → Text → Stand
  at_name : List Given → Text → Stand

abbrev walk_at : Stand → Walk
walk_at (at_rest before) = walk_from (held_for before None)
walk_at (at_value before name value) = walk_from (held_for before (Some (name, value ∷ [])))
walk_at (at_name before name) = after_name (held_for before (Some (name, []))) name

abbrev IsStand : Known → Stand → Type 0
IsStand known (at_rest before) = EachOnce before
IsStand known (at_value before name value) = EachOnce before × Names known name
IsStand known (at_name before name) = EachOnce before × Names known name

abbrev GoesOn : Known → Stand → List Text → Type 0
GoesOn known (at_rest before) words = Reads known before words
GoesOn known (at_value before name value) words = Reads known (before ++ apart name value ∷ []) words
GoesOn known (at_name before name) words =
    (value : Text) × (more : List Text) × (words ≡ value ∷ more) × StandsAlone value
    × Reads known (before ++ apart name value ∷ []) more

module _ (command : Text) (known : Known) where
  abbrev pub faults : Walk → List Text → Kinds
  faults w words = leaf_faults command known w words

  -- the words are refused, or taken as options after those before
  abbrev Judged : Walk → List Given → List Text → Type 0
  Judged w before words = IsRefusal (faults w words) ⊎ Reads known before words

  refused_on : (w to : Walk) (word : Text) (more : List Text) → Turns (leaf_for command known) w word to
      → IsRefusal (faults to more)
      → IsRefusal (faults w (word ∷ more))
  refused_on w to word more turns refused =
      rw (next_passes (leaf_for command known) [] w to word more false [] turns.passes turns.goes) refused

  -- ---- the end, and `--`

  -- no words are left, but for `--`
  at_end : (w : Walk) (options : List Given) (words : List Text) → MayEnd [] words → ComesTo known w.held options
      → EachOnce options
      → IsRefusal (faults w []) ⊎ Reads known options words
  at_end w options words end comes once = go (has_required known options) refl
    where
      go : (test : Bool) → has_required known options ≡ test → IsRefusal (faults w []) ⊎ Reads known options words
      go true e = inr (record {
        more = [];
        ends = end;
        each = All-nil (IsOptionOf known);
        once = subst EachOnce (sym (append-nil options)) once;
        required = ap (has_required known) (append-nil options) ∙ e;
      })
      go false e = inl (rw (end_faults command known w options comes, e) (inl (MissingRequiredArgument, refl)))

  unsettled_end : (w : Walk) → IsRefusal (settle_fault (rules_for known) false w.held) → IsRefusal (faults w [])
  unfolding walk_fault
  unsettled_end w refused = refusal_first _ _ refused

  module _ (before : List Given) (pending : Option (Text × List Text)) where
    abbrev h : Held
    h = held_for before pending

    abbrev settling : Kinds
    settling = settle_fault (rules_for known) false h

    abbrev at : Waiting → Walk
    at waiting = record (walk_from h) { waiting = waiting }

    abbrev ended : Waiting → Walk
    ended waiting = record (at waiting) { is_trailing = true }

    dashes_goes : (waiting : Waiting) → walked (rules_for known) [] (at waiting) dashes ≡ ended waiting
    unfolding walked
    dashes_goes waiting = rw (no_subcommand waiting dashes) refl

    turn_ends : (waiting : Waiting) → Turns (leaf_for command known) (at waiting) dashes (ended waiting)
    turn_ends waiting = record { passes = rw (no_subcommand waiting dashes) refl; goes = dashes_goes waiting }

    more_after_dashes : (waiting : Waiting) (word : Text) (more : List Text)
        → IsRefusal (faults (at waiting) (dashes ∷ word ∷ more))
    more_after_dashes waiting word more =
        refused_on (at waiting) (ended waiting) dashes (word ∷ more) (turn_ends waiting)
        (next_refused (leaf_for command known) [] (ended waiting) word more false []
        (trailing_refused command known before pending waiting word))

    after_dashes : (options : List Given) (more : List Text) → ComesTo known h options → EachOnce options
        → Judged (walk_from h) options (dashes ∷ more)
    after_dashes options [] comes once = go (at_end (ended idle) options (dashes ∷ []) (inr refl) comes once)
      where
        go : IsRefusal (faults (ended idle) []) ⊎ Reads known options (dashes ∷ []) → Judged (walk_from h) options (dashes ∷ [])
        go (inl refused) = inl (refused_on (walk_from h) (ended idle) dashes [] (turn_ends idle) refused)
        go (inr reads) = inr reads
    after_dashes options (word ∷ more) comes once = inl (more_after_dashes idle word more)

    unsettled_dashes : (waiting : Waiting) (more : List Text) → IsRefusal settling
        → IsRefusal (faults (at waiting) (dashes ∷ more))
    unsettled_dashes waiting [] refused = refused_on (at waiting) (ended waiting) dashes [] (turn_ends waiting)
        (unsettled_end (ended waiting) refused)
    unsettled_dashes waiting (word ∷ more) refused = more_after_dashes waiting word more

    -- ---- flags, where what is held does not settle

    refused_here : (waiting : Waiting) (word : Text) (more : List Text)
        → IsRefusal (turn_fault (leaf_for command known) [] (at waiting) word)
        → IsRefusal (faults (at waiting) (word ∷ more))
    refused_here waiting word more refused = next_refused (leaf_for command known) [] (at waiting) word more false [] refused

    unsettled_long : (name : Text) (value : Option Text) → IsRefusal settling → Found known name
        → IsRefusal (long_fault (rules_for known) false (arg_by_long (rules_for known) name) value h)
    unsettled_long name value refused (an_option own same named found) =
        unsettled_refused command known before pending own (arg_by_long (rules_for known) name) value refused found
    unsettled_long name value refused (a_flag named found) =
        unsettled_flag_refused command known before pending name (arg_by_long (rules_for known) name) value refused found
    unsettled_long name value refused (help named found) =
        no_option_refused command known before pending (arg_by_long (rules_for known) name) value (inr refused) (inr found)
    unsettled_long name value refused (nothing named found) =
        no_option_refused command known before pending (arg_by_long (rules_for known) name) value (inr refused) (inl found)

    -- a word that is no plain one
    unsettled_word : (waiting : Waiting) (word : Text) (more : List Text) → IsRefusal settling → WordKind word
        → IsRefusal (faults (at waiting) (word ∷ more)) ⊎ (IsPlain word × StandsAlone word)
    unsettled_word waiting word more refused (ends is) =
        inl (subst (λ (w : Text). IsRefusal (faults (at waiting) (w ∷ more))) (sym is) (unsettled_dashes waiting more refused))
    unsettled_word waiting word more refused (long name value other is) =
        inl (refused_here waiting word more (long_word_refused command known before pending waiting word name value other is
        (unsettled_long name value refused (found_by_long known name))))
    unsettled_word waiting word more refused (short flags x other not_long is first) =
        inl (refused_here waiting word more (short_word_refused command known before pending waiting word flags x
        (inr refused) other not_long is first))
    unsettled_word waiting word more refused (plain is stands) = inr (is, stands)

    unsettled_refuses : (words : List Text) → IsRefusal settling → IsRefusal (faults (walk_from h) words)
    unsettled_refuses [] refused = unsettled_end (walk_from h) refused
    unsettled_refuses (word ∷ more) refused = go (unsettled_word idle word more refused (kind_of_word word))
      where
        go : IsRefusal (faults (walk_from h) (word ∷ more)) ⊎ (IsPlain word × StandsAlone word)
            → IsRefusal (faults (walk_from h) (word ∷ more))
        go (inl all) = all
        go (inr is) = refused_here idle word more (stray_refused command known before pending word is.0)

    -- ---- flags, where it does

    long_repeated : (own : CommandOption) (options : List Given) (value : Text) → ComesTo known h options
        → has_option (option_name own) options ≡ true
        → use_fault false (built_value own) (value ∷ []) (settled (rules_for known) h).rows ≡ ArgumentConflict ∷ []
    long_repeated own options value comes has =
        ap (λ (k : Held). use_fault false (built_value own) (value ∷ []) k.rows) comes.is
        ∙ fault_of_repeat own value (rows_for options) (has_row-rows (option_name own) options ∙ has)

    repeated_refused : (own : CommandOption) (options : List Given) (name value : Text) → ComesTo known h options
        → option_name own ≡ name
        → arg_by_long (rules_for known) name ≡ Some (built_value own) → has_option name options ≡ true
        → IsRefusal (long_fault (rules_for known) false (arg_by_long (rules_for known) name) (Some value) h)
    repeated_refused own options name value comes same found has =
        rw (found, comes.quiet, long_repeated own options value comes (ap (λ (n : Text). has_option n options) same ∙ has))
        (inl (ArgumentConflict, refl))

    set_repeated : (options : List Given) (name : Text) → ComesTo known h options → has_option name options ≡ true
        → use_fault false (built_flag name) [] (settled (rules_for known) h).rows ≡ ArgumentConflict ∷ []
    set_repeated options name comes has =
        ap (λ (k : Held). use_fault false (built_flag name) [] k.rows) comes.is
        ∙ fault_of_set name (rows_for options) (has_row-rows name options ∙ has)

    set_refused : (options : List Given) (name : Text) → ComesTo known h options
        → arg_by_long (rules_for known) name ≡ Some (built_flag name) → has_option name options ≡ true
        → IsRefusal (long_fault (rules_for known) false (arg_by_long (rules_for known) name) None h)
    set_refused options name comes found has = rw (found, comes.quiet, set_repeated options name comes has)
        (inl (ArgumentConflict, refl))

    abbrev Next : List Text → Type 0
    Next more = (st : Stand) → IsStand known st → IsRefusal (faults (walk_at st) more) ⊎ GoesOn known st more

    long_option : (options : List Given) (word name : Text) (value : Option Text) (more : List Text) → ComesTo known h options
        → EachOnce options
        → bytes_eq word dashes ≡ false → long_of word ≡ Some (name, value) → Names known name → kind_named known name ≡ Some true
        → Next more
        → Judged (walk_from h) options (word ∷ more)
    long_option options word name None more comes once other is names allowed next =
        go (next (at_name options name) (once, names))
      where
        go : IsRefusal (faults (walk_at (at_name options name)) more) ⊎ GoesOn known (at_name options name) more
            → Judged (walk_from h) options (word ∷ more)
        go (inl refused) = inl (refused_on (walk_from h) (walk_at (at_name options name)) word more
            (turn_name command known h options word name comes other names is) refused)
        go (inr (value, after, whole, stands, reads)) =
            inr (one_more known options (apart name value) (word ∷ more) after
            (ap₂ (λ (w : Text) (ws : List Text). w ∷ ws) (word_of_long word name is) whole)
            (allowed, stands) reads)
    long_option options word name (Some value) more comes once other is names allowed next = by_use (has_option name options) refl
      where
        go : has_option name options ≡ false → IsRefusal (faults (walk_at (at_rest (options ++ joined name value ∷ []))) more)
            ⊎ Reads known (options ++ joined name value ∷ []) more
            → Judged (walk_from h) options (word ∷ more)
        go none (inl refused) =
            inl (refused_on (walk_from h) (walk_at (at_rest (options ++ joined name value ∷ []))) word more
            (turn_joined command known h options word name comes other names value is none) refused)
        go none (inr reads) =
            inr (one_more known options (joined name value) (word ∷ more) more
            (ap (λ (w : Text). w ∷ more) (word_of_joined word name value is))
            allowed reads)

        by_use : (test : Bool) → has_option name options ≡ test → Judged (walk_from h) options (word ∷ more)
        by_use true e =
            inl (refused_here idle word more (long_word_refused command known before pending idle word name (Some value) other is
            (repeated_refused names.option options name value comes names.same names.found e)))
        by_use false e = go e (next (at_rest (options ++ joined name value ∷ [])) (once_more options (joined name value) once e))

    flag_word : (options : List Given) (word name : Text) (value : Option Text) (more : List Text) → ComesTo known h options
        → EachOnce options
        → bytes_eq word dashes ≡ false → long_of word ≡ Some (name, value) → kind_named known name ≡ Some false
        → arg_by_long (rules_for known) name ≡ Some (built_flag name) → Next more → Judged (walk_from h) options (word ∷ more)
    flag_word options word name (Some value) more comes once other is allowed found next =
        inl (refused_here idle word more (long_word_refused command known before pending idle word name (Some value) other is
        (joined_flag_refused command known before pending name (arg_by_long (rules_for known) name) value found)))
    flag_word options word name None more comes once other is allowed found next = by_use (has_option name options) refl
      where
        go : has_option name options ≡ false → IsRefusal (faults (walk_at (at_rest (options ++ alone name ∷ []))) more)
            ⊎ Reads known (options ++ alone name ∷ []) more
            → Judged (walk_from h) options (word ∷ more)
        go none (inl refused) =
            inl (refused_on (walk_from h) (walk_at (at_rest (options ++ alone name ∷ []))) word more
            (turn_flag command known h options word name comes other found is none) refused)
        go none (inr reads) =
            inr (one_more known options (alone name) (word ∷ more) more
            (ap (λ (w : Text). w ∷ more) (word_of_long word name is)) allowed reads)

        by_use : (test : Bool) → has_option name options ≡ test → Judged (walk_from h) options (word ∷ more)
        by_use true e =
            inl (refused_here idle word more (long_word_refused command known before pending idle word name None other is
            (set_refused options name comes found e)))
        by_use false e = go e (next (at_rest (options ++ alone name ∷ [])) (once_more options (alone name) once e))

    idle_word : (options : List Given) (word : Text) (more : List Text) → ComesTo known h options → EachOnce options
        → WordKind word
        → Next more
        → Judged (walk_from h) options (word ∷ more)
    idle_word options word more comes once (ends is) next =
        subst (λ (w : Text). Judged (walk_from h) options (w ∷ more)) (sym is) (after_dashes options more comes once)
    idle_word options word more comes once (short flags x other not_long is first) next =
        inl (refused_here idle word more (short_word_refused command known before pending idle word flags x
        (inl comes.quiet) other not_long is first))
    idle_word options word more comes once (plain is stands) next =
        inl (refused_here idle word more (stray_refused command known before pending word is))
    idle_word options word more comes once (long name value other is) next = go (found_by_long known name)
      where
        refused : (arg_by_long (rules_for known) name ≡ None) ⊎ (arg_by_long (rules_for known) name ≡ Some built_help)
            → Judged (walk_from h) options (word ∷ more)
        refused none =
            inl (refused_here idle word more (long_word_refused command known before pending idle word name value other is
            (no_option_refused command known before pending (arg_by_long (rules_for known) name) value (inl comes.quiet) none)))

        go : Found known name → Judged (walk_from h) options (word ∷ more)
        go (a_flag allowed found) = flag_word options word name value more comes once other is allowed found next
        go (help absent found) = refused (inr found)
        go (nothing absent found) = refused (inl found)
        go (an_option own same allowed found) =
            long_option options word name value more comes once other is (record { option = own; same = same; found = found })
            allowed next

  -- ---- each stand

  -- a name without a value does not settle
  name_unsettled : (before : List Given) (name : Text) → Names known name
      → IsRefusal (settle_fault (rules_for known) false (held_for before (Some (name, []))))
  name_unsettled before name names =
      let by_id : arg_by_id (rules_for known) name ≡ Some (built_value names.option) = id_is_long known name ∙ names.found in
      rw by_id (inl (InvalidValue, refl))

  -- nor does the value of an option that was used before
  value_unsettled : (before : List Given) (name value : Text) → Names known name → has_option name before ≡ true
      → IsRefusal (settle_fault (rules_for known) false (held_for before (Some (name, value ∷ []))))
  value_unsettled before name value names has =
      let by_id : arg_by_id (rules_for known) name ≡ Some (built_value names.option) = id_is_long known name ∙ names.found in
      let used : has_row (option_name names.option) (rows_for before) ≡ true =
      ap (λ (n : Text). has_row n (rows_for before)) names.same ∙ has_row-rows name before ∙ has in
      rw (by_id, fault_of_repeat names.option value (rows_for before) used) (inl (ArgumentConflict, refl))

  value_word : (before : List Given) (name : Text) (word : Text) (more : List Text) → EachOnce before → Names known name
      → ((st : Stand) → IsStand known st → IsRefusal (faults (walk_at st) more) ⊎ GoesOn known st more)
      → IsRefusal (faults (walk_at (at_name before name)) (word ∷ more)) ⊎ GoesOn known (at_name before name) (word ∷ more)
  value_word before name word more once names next =
      go (unsettled_word before (Some (name, [])) (option name) word more (name_unsettled before name names) (kind_of_word word))
    where
      on : IsPlain word → StandsAlone word → IsRefusal (faults (walk_at (at_value before name word)) more)
          ⊎ Reads known (before ++ apart name word ∷ []) more
          → IsRefusal (faults (walk_at (at_name before name)) (word ∷ more)) ⊎ GoesOn known (at_name before name) (word ∷ more)
      on is stands (inl refused) = inl (refused_on _ _ word more (turn_value command known before word name is names) refused)
      on is stands (inr reads) = inr (word, more, refl, stands, reads)

      go : IsRefusal (faults (walk_at (at_name before name)) (word ∷ more)) ⊎ (IsPlain word × StandsAlone word)
          → IsRefusal (faults (walk_at (at_name before name)) (word ∷ more)) ⊎ GoesOn known (at_name before name) (word ∷ more)
      go (inl refused) = inl refused
      go (inr is) = on is.0 is.1 (next (at_value before name word) (once, names))

  end_of : (st : Stand) → IsStand known st → IsRefusal (faults (walk_at st) []) ⊎ GoesOn known st []
  end_of (at_rest before) once = at_end (walk_at (at_rest before)) before [] (inl refl) (nothing_comes known before) once
  end_of (at_name before name) (once, names) =
      inl (unsettled_end (walk_at (at_name before name)) (name_unsettled before name names))
  end_of (at_value before name value) (once, names) = go (has_option name before) refl
    where
      go : (test : Bool) → has_option name before ≡ test
          → IsRefusal (faults (walk_at (at_value before name value)) []) ⊎ Reads known (before ++ apart name value ∷ []) []
      go true e = inl (unsettled_end (walk_at (at_value before name value)) (value_unsettled before name value names e))
      go false e =
          at_end (walk_at (at_value before name value)) (before ++ apart name value ∷ []) [] (inl refl)
          (value_comes known before name value names e)
          (once_more before (apart name value) once e)

  step_of : (word : Text) (more : List Text)
      → ((st : Stand) → IsStand known st → IsRefusal (faults (walk_at st) more) ⊎ GoesOn known st more)
      → (st : Stand) → IsStand known st → IsRefusal (faults (walk_at st) (word ∷ more)) ⊎ GoesOn known st (word ∷ more)
  step_of word more next (at_rest before) once =
      idle_word before None before word more (nothing_comes known before) once (kind_of_word word) next
  step_of word more next (at_name before name) (once, names) = value_word before name word more once names next
  step_of word more next (at_value before name value) (once, names) = go (has_option name before) refl
    where
      go : (test : Bool) → has_option name before ≡ test
          → IsRefusal (faults (walk_at (at_value before name value)) (word ∷ more))
          ⊎ Reads known (before ++ apart name value ∷ []) (word ∷ more)
      go true e = inl (unsettled_refuses before (Some (name, value ∷ [])) (word ∷ more)
          (value_unsettled before name value names e))
      go false e =
          idle_word before (Some (name, value ∷ [])) (before ++ apart name value ∷ []) word more
          (value_comes known before name value names e)
          (once_more before (apart name value) once e) (kind_of_word word) next

  each_from : (words : List Text) (st : Stand) → IsStand known st → IsRefusal (faults (walk_at st) words) ⊎ GoesOn known st words
  each_from [] st is = end_of st is
  each_from (word ∷ more) st is = step_of word more (λ next stands. each_from more next stands) st is

  -- the words are refused, or give the command its options
  pub refused_or_read : (words : List Text) → IsRefusal (faults (walk_from (held_for [] None)) words) ⊎ Reads known [] words
  refused_or_read words = each_from words (at_rest []) tt
