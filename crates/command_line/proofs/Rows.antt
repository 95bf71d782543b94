-- What clap finds of an option at the end, where these options are given.
use Rattle.std.proofs.Common.{◌≡◌, ◌∙◌, ◌&&◌, Bool, true, false, not, List, [], ◌∷◌, Option, Some, None, ap, codes, find, is_some}
use Rattle.std.proofs.Common.{option_map, refl, subst, sym}
use Rattle.std.specs.Prelude.{fold, if◌then◌else◌, option_and_then, slice_get}
use Rattle.std.specs.List.{list_any}
use Rattle.std.specs.Option.{option_map_or, option_or}
use Rattle.std.specs.Str.{bytes_eq}
use Rattle.std.proofs.lemmas.List.Folds.{find-append}
use Rattle.std.proofs.lemmas.Slice.Eq.{bytes_eq-Decides}
use Rattle.clap.specs.Facts.{explicit_source}
use Rattle.clap.specs.Takes.{is_given}
use Rattle.clap.specs.Walk.{Row, Rule, Text, default_rows, first_of, has_row, more_values, reading_by, with_default}
use Rattle.clap.proofs.WalkLemmas.{find-map}
use Rattle.clap.specs.declared.builder.value_parser.Reading.{Reading}
use Rattle.clap.specs.declared.parser.matches.ValueSource.TheVariants.{DefaultValue}
use Rattle.command_line.specs.Options.{Given, default_of, default_value, has_option, has_required, is_required, name_in}
use Rattle.command_line.specs.Options.{option_name, text_in, value_of}
use Rattle.command_line.proofs.Rules.{Known, at_none, built_help, row_for, rows_for, rules_for}

abbrev find_row : Text → List Row → Option Row
find_row id rows = find (λ r. bytes_eq r.id id) rows

-- ---- tests and looks

pub any_found : {X : Type 0} (p : X → Bool) (xs : List X) → list_any p xs ≡ is_some (find p xs)
any_found p [] = refl
any_found p (x ∷ xs) = go (p x) refl (any_found p xs)
  where
    go : (test : Bool) → p x ≡ test → list_any p xs ≡ is_some (find p xs) → list_any p (x ∷ xs) ≡ is_some (find p (x ∷ xs))
    go true e more = rw e refl
    go false e more = rw e more

or_none : (row : Option Row) → row ≡ option_or row None
or_none None = refl
or_none (Some row) = refl

or_more : (a b c : Option Row) → option_or (option_or a b) c ≡ option_or a (option_or b c)
or_more None b c = refl
or_more (Some row) b c = refl

-- ---- the row of a default

abbrev row_of_default : Text → Reading → List Text → Option Row
row_of_default name how [] = None
row_of_default name how (value ∷ values) = Some (record {
  id = name;
  values = value ∷ values;
  count = None;
  source = Some DefaultValue;
  reading = how;
})

abbrev own_default : Text → Rule → Option Row
own_default id rule = if bytes_eq rule.id id then row_of_default rule.id (reading_by rule) rule.defaults else None

abbrev default_row : Text → List Rule → Option Row
default_row id [] = None
default_row id (rule ∷ rest) = option_or (own_default id rule) (default_row id rest)

-- a row that stands outweighs a default
stands_before : (id : Text) (rows : List Row) (rule : Rule) → has_row rule.id rows ≡ true
    → find_row id rows ≡ option_or (find_row id rows) (own_default id rule)
stands_before id rows rule has = go (bytes_eq rule.id id) (find_row id rows) refl refl
  where
    go : (test : Bool) (found : Option Row) → bytes_eq rule.id id ≡ test → find_row id rows ≡ found
        → find_row id rows ≡ option_or (find_row id rows) (own_default id rule)
    go false found e f = rw e (or_none (find_row id rows))
    go true (Some row) e f = rw f refl
    go true None e f =
        let same : rule.id ≡ id = (bytes_eq-Decides rule.id id).0 e in
        let there : has_row id rows ≡ true = subst (λ (name : Text). has_row name rows ≡ true) same has in
        let bad : true ≡ false = sym there ∙ any_found (λ (r : Row). bytes_eq r.id id) rows ∙ ap is_some f in cc

one_default : (id : Text) (rows : List Row) (name : Text) (how : Reading) (defaults : List Text) → has_row name rows ≡ false
    → find_row id (default_rows name how defaults rows) ≡ option_or (find_row id rows)
    (if bytes_eq name id then row_of_default name how defaults else None)
one_default id rows name how [] none = go (bytes_eq name id) refl
  where
    go : (test : Bool) → bytes_eq name id ≡ test
        → find_row id rows ≡ option_or (find_row id rows) (if bytes_eq name id then None else None)
    go true e = rw e (or_none (find_row id rows))
    go false e = rw e (or_none (find_row id rows))
one_default id rows name how (value ∷ values) none =
    let row : Row = record { id = name; values = value ∷ values; count = None; source = Some DefaultValue; reading = how } in
    ap (find_row id) (at_none name (more_values DefaultValue (value ∷ values)) (row ∷ []) rows none)
    ∙ find-append (λ (r : Row). bytes_eq r.id id) rows (row ∷ [])

with_one_default : (id : Text) (rows : List Row) (rule : Rule)
    → find_row id (with_default rows rule) ≡ option_or (find_row id rows) (own_default id rule)
with_one_default id rows rule = go (has_row rule.id rows) refl
  where
    go : (test : Bool) → has_row rule.id rows ≡ test
        → find_row id (with_default rows rule) ≡ option_or (find_row id rows) (own_default id rule)
    go true e = rw e (stands_before id rows rule e)
    go false e = rw e (one_default id rows rule.id (reading_by rule) rule.defaults e)

with_defaults : (id : Text) (rules : List Rule) (rows : List Row)
    → find_row id (fold with_default rows rules) ≡ option_or (find_row id rows) (default_row id rules)
with_defaults id [] rows = or_none (find_row id rows)
with_defaults id (rule ∷ rest) rows =
    with_defaults id rest (with_default rows rule)
    ∙ ap (λ (row : Option Row). option_or row (default_row id rest)) (with_one_default id rows rule)
    ∙ or_more (find_row id rows) (own_default id rule) (default_row id rest)

-- ---- by the options that are given

abbrev pub rows_at_end : Known → List Given → List Row
rows_at_end known options = fold with_default (rows_for options) (rules_for known)

found_at_end : (known : Known) (options : List Given) (id : Text)
    → find_row id (rows_at_end known options) ≡ option_or (option_map row_for (find (λ g. bytes_eq (name_in g) id) options))
    (default_row id (rules_for known))
found_at_end known options id =
    with_defaults id (rules_for known) (rows_for options)
    ∙ ap (λ (row : Option Row). option_or row (default_row id (rules_for known)))
    (sym (find-map (λ (r : Row). bytes_eq r.id id) row_for options))

-- the default of an option
abbrev first_value_of : Option Row → Option Text
first_value_of = option_and_then (λ r. slice_get r.values 0)

help_has_none : (id : Text) → own_default id built_help ≡ None
help_has_none id = go (bytes_eq (codes "help") id) refl
  where
    go : (test : Bool) → bytes_eq (codes "help") id ≡ test → own_default id built_help ≡ None
    go true e = rw e refl
    go false e = rw e refl

first_default : (known : Known) (id : Text) → first_value_of (default_row id (rules_for known)) ≡ default_value known id
first_default [] id = rw (help_has_none id) refl
first_default (option ∷ rest) id = go (bytes_eq (option_name option) id) (default_of option) refl refl (first_default rest id)
  where
    go : (test : Bool) (default : Option Text) → bytes_eq (option_name option) id ≡ test → default_of option ≡ default
        → first_value_of (default_row id (rules_for rest)) ≡ default_value rest id
        → first_value_of (default_row id (rules_for (option ∷ rest))) ≡ default_value (option ∷ rest) id
    go false default e d more = rw e more
    go true None e d more = rw (e, d) more
    go true (Some value) e d more = rw (e, d) (sym d)

pub value_at_end : (known : Known) (options : List Given) (id : Text) → first_of id (rows_at_end known options)
    ≡ value_of known options id
value_at_end known options id =
    ap first_value_of (found_at_end known options id) ∙ go (find (λ g. bytes_eq (name_in g) id) options)
  where
    go : (found : Option Given) → first_value_of (option_or (option_map row_for found) (default_row id (rules_for known)))
        ≡ option_or (option_map text_in found) (default_value known id)
    go None = first_default known id
    go (Some given) = refl

-- ---- what is required

abbrev is_explicit : Option Row → Bool
is_explicit row = option_map_or (λ r. explicit_source r.source) row false

default_not_given : (known : Known) (id : Text) → is_explicit (default_row id (rules_for known)) ≡ false
default_not_given [] id = rw (help_has_none id) refl
default_not_given (option ∷ rest) id = go (bytes_eq (option_name option) id) (default_of option) refl refl
    (default_not_given rest id)
  where
    go : (test : Bool) (default : Option Text) → bytes_eq (option_name option) id ≡ test → default_of option ≡ default
        → is_explicit (default_row id (rules_for rest)) ≡ false → is_explicit (default_row id (rules_for (option ∷ rest))) ≡ false
    go false default e d more = rw e more
    go true None e d more = rw (e, d) more
    go true (Some value) e d more = rw (e, d) refl

pub given_at_end : (known : Known) (options : List Given) (id : Text) → is_given id (rows_at_end known options)
    ≡ has_option id options
given_at_end known options id =
    ap is_explicit (found_at_end known options id) ∙ go (find (λ g. bytes_eq (name_in g) id) options)
    ∙ sym (any_found (λ (g : Given). bytes_eq (name_in g) id) options)
  where
    go : (found : Option Given) → is_explicit (option_or (option_map row_for found) (default_row id (rules_for known)))
        ≡ is_some found
    go None = default_not_given known id
    go (Some given) = refl

-- clap's test of what is required, by a test of what is given
pub lacks_required : (known : Known) (options : List Given) (rows : List Row)
    → ((id : Text) → is_given id rows ≡ has_option id options)
    → list_any (λ a. a.required && not (is_given a.id rows)) (rules_for known) ≡ not (has_required known options)
lacks_required [] options rows given = refl
lacks_required (option ∷ rest) options rows given =
    go (is_required option) (has_option (option_name option) options) refl refl (lacks_required rest options rows given)
  where
    go : (required has : Bool) → is_required option ≡ required → has_option (option_name option) options ≡ has
        → list_any (λ a. a.required && not (is_given a.id rows)) (rules_for rest) ≡ not (has_required rest options)
        → list_any (λ a. a.required && not (is_given a.id rows)) (rules_for (option ∷ rest))
        ≡ not (has_required (option ∷ rest) options)
    go false has e f more = rw e more
    go true true e f more = rw (e, given (option_name option), f) more
    go true false e f more = rw (e, given (option_name option), f) refl
