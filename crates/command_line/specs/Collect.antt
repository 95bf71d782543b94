-- Contract: the options of `collect`.
use Rattle.std.specs.Prelude.{◌^◌, ℕ, List, [], ◌∷◌, Option, None, codes}
use Rattle.std.specs.List.{All}
use Rattle.clap.specs.Walk.{Text}
use Rattle.command_line.specs.Options.{AreOptionsOf, CommandOption, Given, IsPlainOption, flag, optional, required, value_of}
use Rattle.command_line.specs.Values.{MayBeBetween}

-- the options of `collect`: those that name what it mounts
abbrev pub collect_options : List CommandOption
collect_options =
    required (codes "store") ∷ required (codes "volume") ∷ required (codes "cache") ∷ flag (codes "lost")
    ∷ optional (codes "log") None ∷ []

-- the value of an option, where these are given
abbrev pub collect_value : List Given → Text → Option Text
collect_value options name = value_of collect_options options name

-- plain options, of which the log keeps its limits
pub record AreValidToCollect (options : List Given) : Type 0 where
  pub are : AreOptionsOf collect_options options
  pub plain : All IsPlainOption options
  pub log : (sectors : Option ℕ) × MayBeBetween (collect_value options) (codes "log") 0 (2 ^ 31) sectors
