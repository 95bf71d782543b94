-- Contract: the commands of the program, as clap reads them.
use Rattle.std.specs.Prelude.{[], ◌∷◌, codes, fold, map, true}
use Rattle.clap.specs.Simple.{App, Shape, new_shape, with_subcommand}
use Rattle.command_line.specs.Check.{check_options}
use Rattle.command_line.specs.Churn.{churn_rules}
use Rattle.command_line.specs.Collect.{collect_options}
use Rattle.command_line.specs.Create.{create_options}
use Rattle.command_line.specs.Options.{rule_for}
use Rattle.command_line.specs.Serve.{serve_options}

-- `replay` has no options
abbrev pub replay : Shape
replay = new_shape (codes "replay")

abbrev pub create : Shape
create = record (new_shape (codes "create")) { rules = map rule_for create_options }

abbrev pub serve : Shape
serve = record (new_shape (codes "serve")) { rules = map rule_for serve_options }

abbrev pub collect : Shape
collect = record (new_shape (codes "collect")) { rules = map rule_for collect_options }

abbrev pub check : Shape
check = record (new_shape (codes "check")) { rules = map rule_for check_options }

-- `churn` has no options, but two words that have their places
abbrev pub churn : Shape
churn = record (new_shape (codes "churn")) { rules = churn_rules }

-- The program asks for one of its commands. It has a version, and no command `help`. Its own name is not
-- among the words.
abbrev pub bare : App
bare = record {
  top = record (new_shape (codes "lsvdctl")) {
    has_version = true;
    no_binary_name = true;
    subcommand_required = true;
    disable_help_subcommand = true;
  };
  subs = [];
}

-- the program with all its commands
unfoldable pub lsvdctl : App
lsvdctl = fold with_subcommand bare (replay ∷ create ∷ serve ∷ collect ∷ check ∷ churn ∷ [])
