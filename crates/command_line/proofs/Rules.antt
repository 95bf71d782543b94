-- The rules that clap makes of the options of a command, and what a use of one does.
use Rattle.std.proofs.Common.{◌≡◌, ◌∙◌, ◌==◌, ℕ, Bool, true, false, List, [], ◌∷◌, ◌++◌, Option, Some, None, ap, append-nil}
use Rattle.std.proofs.Common.{codes, map, refl, sym}
use Rattle.std.specs.Prelude.{IfSome}
use Rattle.std.specs.Option.{option_to_list}
use Rattle.std.specs.Str.{bytes_eq}
use Rattle.std.proofs.lemmas.List.{map-append}
use Rattle.std.proofs.lemmas.Slice.Eq.{bytes_eq-Decides}
use Rattle.clap.specs.Simple.{filled, help_rule, new_rule}
use Rattle.clap.specs.Values.{bool_text}
use Rattle.clap.specs.Walk.{Row, Rule, Text, arg_by_id, arg_by_index, arg_by_long, arg_by_short, at_row, has_row, more_values}
use Rattle.clap.specs.Walk.{used, with_default, without}
use Rattle.clap.specs.Faults.{default_fault, defaults_fault, use_fault}
use Rattle.clap.proofs.WalkLemmas.{list_any-map}
use Rattle.clap.specs.declared.builder.action.ArgAction.{ArgAction}
use Rattle.clap.specs.declared.builder.action.ArgAction.TheVariants.{Set, SetTrue}
use Rattle.clap.specs.declared.builder.value_parser.ValueParser.{ValueParser}
use Rattle.clap.specs.declared.builder.value_parser.ValueParser.TheVariants as vp
use Rattle.clap.specs.declared.builder.value_parser.Reading.TheVariants.{AsWritten}
use Rattle.clap.specs.declared.error.kind.ErrorKind.TheVariants.{ArgumentConflict}
use Rattle.clap.specs.declared.parser.matches.ValueSource.TheVariants.{CommandLine}
use Rattle.command_line.specs.Options.{CommandOption, Given, alone, default_of, flag, has_option, is_required, kind_named}
use Rattle.command_line.specs.Options.{name_in, option_name, optional, required, text_in}

abbrev pub Known : Type 0
Known = List CommandOption

-- an option that takes a value, and a flag, as building fills them in
abbrev pub built_value : CommandOption → Rule
built_value option = record (new_rule (option_name option)) {
  long = Some (option_name option);
  value_names = 1;
  required = is_required option;
  defaults = option_to_list (default_of option);
  action = Some Set;
  range = Some (record { start_inclusive = 1; end_inclusive = 1 });
  parser = Some vp.String;
}

abbrev pub built_flag : Text → Rule
built_flag name = record (new_rule name) {
  long = Some name;
  defaults = bool_text false ∷ [];
  missing = bool_text true ∷ [];
  action = Some SetTrue;
  range = Some (record { start_inclusive = 0; end_inclusive = 0 });
  parser = Some vp.Bool;
}

-- what of an option is by whether it takes a value
abbrev value_names_of : CommandOption → ℕ
value_names_of (flag name) = 0
value_names_of _ = 1

abbrev action_for : CommandOption → ArgAction
action_for (flag name) = SetTrue
action_for _ = Set

abbrev parser_for : CommandOption → ValueParser
parser_for (flag name) = vp.Bool
parser_for _ = vp.String

abbrev missing_for : CommandOption → List Text
missing_for (flag name) = bool_text true ∷ []
missing_for _ = []

abbrev pub built_option : CommandOption → Rule
built_option option = record (built_value option) {
  value_names = value_names_of option;
  missing = missing_for option;
  action = Some (action_for option);
  range = Some (record { start_inclusive = value_names_of option; end_inclusive = value_names_of option });
  parser = Some (parser_for option);
}

abbrev pub built_help : Rule
built_help = filled help_rule

abbrev pub rules_for : Known → List Rule
rules_for known = map built_option known ++ built_help ∷ []

-- ---- the rule of a name

-- the long name is that of an option, or that of help, or of nothing
pub data Found (known : Known) (name : Text) : Type 0 where
  an_option : (option : CommandOption) → option_name option ≡ name → kind_named known name ≡ Some true
      → arg_by_long (rules_for known) name ≡ Some (built_value option) → Found known name
  a_flag : kind_named known name ≡ Some false → arg_by_long (rules_for known) name ≡ Some (built_flag name) → Found known name
  help : kind_named known name ≡ None → arg_by_long (rules_for known) name ≡ Some built_help → Found known name
  nothing : kind_named known name ≡ None → arg_by_long (rules_for known) name ≡ None → Found known name

found_first : (option : CommandOption) (rest : Known) (name : Text) → bytes_eq (option_name option) name ≡ true
    → Found (option ∷ rest) name
found_first (required own) rest name e = an_option (required own) ((bytes_eq-Decides own name).0 e) (rw e refl) (rw e refl)
found_first (optional own default) rest name e =
    an_option (optional own default) ((bytes_eq-Decides own name).0 e) (rw e refl) (rw e refl)
found_first (flag own) rest name e =
    a_flag (rw e refl) (rw e (ap (λ (n : Text). Some (built_flag n)) ((bytes_eq-Decides own name).0 e)))

pub found_by_long : (known : Known) (name : Text) → Found known name
found_by_long [] name = go (bytes_eq (codes "help") name) refl
  where
    go : (test : Bool) → bytes_eq (codes "help") name ≡ test → Found [] name
    go true e = help refl (rw e refl)
    go false e = nothing refl (rw e refl)
found_by_long (option ∷ rest) name = go (bytes_eq (option_name option) name) refl (found_by_long rest name)
  where
    go : (test : Bool) → bytes_eq (option_name option) name ≡ test → Found rest name → Found (option ∷ rest) name
    go true e more = found_first option rest name e
    go false e (an_option other is named found) = an_option other is (rw e named) (rw e found)
    go false e (a_flag named found) = a_flag (rw e named) (rw e found)
    go false e (help named found) = help (rw e named) (rw e found)
    go false e (nothing named found) = nothing (rw e named) (rw e found)

-- the id of an option is its long name
pub id_is_long : (known : Known) (name : Text) → arg_by_id (rules_for known) name ≡ arg_by_long (rules_for known) name
id_is_long [] name = go (bytes_eq (codes "help") name) refl
  where
    go : (test : Bool) → bytes_eq (codes "help") name ≡ test → arg_by_id (rules_for []) name ≡ arg_by_long (rules_for []) name
    go true e = rw e refl
    go false e = rw e refl
id_is_long (option ∷ rest) name = go (bytes_eq (option_name option) name) refl (id_is_long rest name)
  where
    go : (test : Bool) → bytes_eq (option_name option) name ≡ test
        → arg_by_id (rules_for rest) name ≡ arg_by_long (rules_for rest) name
        → arg_by_id (rules_for (option ∷ rest)) name ≡ arg_by_long (rules_for (option ∷ rest)) name
    go true e more = rw e refl
    go false e more = rw e more

-- only help has a short name
pub found_by_short : (known : Known) (x : ℕ) → IfSome (arg_by_short (rules_for known) x) (λ rule. rule ≡ built_help)
found_by_short [] x = go (104 == x) refl
  where
    go : (test : Bool) → (104 == x) ≡ test → IfSome (arg_by_short (rules_for []) x) (λ rule. rule ≡ built_help)
    go true e = rw e refl
    go false e = rw e tt
found_by_short (option ∷ rest) x = found_by_short rest x

pub nothing_by_index : (known : Known) → arg_by_index (rules_for known) 1 ≡ None
nothing_by_index [] = refl
nothing_by_index (option ∷ rest) = nothing_by_index rest

-- ---- the rows of what is given

abbrev pub row_for : Given → Row
row_for given = record {
  id = name_in given;
  values = text_in given ∷ [];
  count = None;
  source = Some CommandLine;
  reading = AsWritten;
}

abbrev pub rows_for : List Given → List Row
rows_for options = map row_for options

pub has_row-rows : (name : Text) (options : List Given) → has_row name (rows_for options) ≡ has_option name options
has_row-rows name options = sym (list_any-map (λ (r : Row). bytes_eq r.id name) row_for options)

-- one more use of an option that was not used
pub at_none : (id : Text) (change : Row → List Row) (missing rows : List Row) → has_row id rows ≡ false
    → at_row id change missing rows ≡ rows ++ missing
at_none id change missing [] none = refl
at_none id change missing (r ∷ rs) none = go (bytes_eq r.id id) refl (at_none id change missing rs)
  where
    go : (test : Bool) → bytes_eq r.id id ≡ test → (has_row id rs ≡ false → at_row id change missing rs ≡ rs ++ missing)
        → at_row id change missing (r ∷ rs) ≡ (r ∷ rs) ++ missing
    go true e more = let bad : true ≡ false = rw e at none in cc
    go false e more = rw e (ap (λ rows. r ∷ rows) (more (rw e at none)))

-- a use of an option that was not used adds its row
with_one_more : (given : Given) (before : List Given) → has_option (name_in given) before ≡ false
    → at_row (name_in given) (more_values CommandLine (text_in given ∷ [])) (row_for given ∷ [])
    (without (name_in given) (rows_for before))
    ≡ rows_for (before ++ given ∷ [])
with_one_more given before none =
    let rows = rows_for before in
    let absent : has_row (name_in given) rows ≡ false = has_row-rows (name_in given) before ∙ none in
    let same : without (name_in given) rows ≡ rows = at_none (name_in given) (λ _. []) [] rows absent ∙ append-nil rows in
    rw same
    (at_none (name_in given) (more_values CommandLine (text_in given ∷ [])) (row_for given ∷ []) rows absent
    ∙ sym (map-append row_for before (given ∷ [])))

pub used_once : (option : CommandOption) (given : Given) (before : List Given) → option_name option ≡ name_in given
    → has_option (name_in given) before ≡ false
    → used (built_value option) (text_in given ∷ []) (rows_for before) ≡ rows_for (before ++ given ∷ [])
used_once option given before is none = rw is (with_one_more given before none)

pub set_once : (name : Text) (before : List Given) → has_option name before ≡ false
    → used (built_flag name) [] (rows_for before) ≡ rows_for (before ++ alone name ∷ [])
set_once name before none = with_one_more (alone name) before none

-- a use with one value is refused only where the option was used before, and one without a value always
pub fault_of_repeat : (option : CommandOption) (value : Text) (rows : List Row) → has_row (option_name option) rows ≡ true
    → use_fault false (built_value option) (value ∷ []) rows ≡ ArgumentConflict ∷ []
fault_of_repeat option value rows has = rw has refl

pub no_fault_of_use : (option : CommandOption) (value : Text) (rows : List Row) → has_row (option_name option) rows ≡ false
    → use_fault false (built_value option) (value ∷ []) rows ≡ []
no_fault_of_use option value rows none = rw none refl

-- and that of a flag only there
pub fault_of_set : (name : Text) (rows : List Row) → has_row name rows ≡ true
    → use_fault false (built_flag name) [] rows ≡ ArgumentConflict ∷ []
fault_of_set name rows has = rw has refl

pub no_fault_of_set : (name : Text) (rows : List Row) → has_row name rows ≡ false → use_fault false (built_flag name) [] rows ≡ []
no_fault_of_set name rows none = rw none refl

-- ---- defaults

value_default_fault : (option : CommandOption) (rows : List Row) (default : Option Text)
    → default_fault rows (record (built_value option) { defaults = option_to_list default }) ≡ []
value_default_fault option rows default = go (has_row (option_name option) rows) refl default
  where
    go : (test : Bool) → has_row (option_name option) rows ≡ test → (default : Option Text)
        → default_fault rows (record (built_value option) { defaults = option_to_list default }) ≡ []
    go true e default = rw e refl
    go false e None = rw e refl
    go false e (Some value) = rw e refl

flag_default_fault : (name : Text) (rows : List Row) → default_fault rows (built_flag name) ≡ []
flag_default_fault name rows = go (has_row name rows) refl
  where
    go : (test : Bool) → has_row name rows ≡ test → default_fault rows (built_flag name) ≡ []
    go true e = rw e refl
    go false e = rw e refl

no_default_fault : (option : CommandOption) (rows : List Row) → default_fault rows (built_option option) ≡ []
no_default_fault (required name) rows = value_default_fault (required name) rows None
no_default_fault (optional name default) rows = value_default_fault (optional name default) rows default
no_default_fault (flag name) rows = flag_default_fault name rows

no_help_fault : (rows : List Row) → default_fault rows built_help ≡ []
no_help_fault rows = go (has_row (codes "help") rows) refl
  where
    go : (test : Bool) → has_row (codes "help") rows ≡ test → default_fault rows built_help ≡ []
    go true e = rw e refl
    go false e = rw e refl

pub no_defaults_fault : (known : Known) (rows : List Row) → defaults_fault rows (rules_for known) ≡ []
unfolding defaults_fault
no_defaults_fault [] rows = rw (no_help_fault rows) refl
no_defaults_fault (option ∷ rest) rows =
    rw (no_default_fault option rows)
    (no_defaults_fault rest (with_default rows (built_option option)))
