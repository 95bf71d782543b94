-- Contract: what the options of `check` ask for.
use Rattle.std.specs.Prelude.{◌≡◌, List, [], ◌∷◌, Option, Some, codes, option_map}
use Rattle.std.specs.List.{All}
use Rattle.clap.specs.Walk.{Text}
use Rattle.uuid.specs.Text.{parsed}
use Rattle.command_line.specs.Options.{AreOptionsOf, CommandOption, Given, IsPlainOption, required, value_of}
use Rattle.command_line.specs.Values.{IsNoUuid}
use Rattle.command_line.specs.declared.check.CheckRequest.{CheckRequest}

-- the options of `check`
abbrev pub check_options : List CommandOption
check_options = required (codes "store") ∷ required (codes "volume") ∷ []

-- the value of an option, where these are given
abbrev pub check_value : List Given → Text → Option Text
check_value options name = value_of check_options options name

-- by the values of the options they ask for this
pub record AsksToCheck (value : Text → Option Text) (request : CheckRequest) : Type 0 where
  pub store : value (codes "store") ≡ Some request.store.now
  pub volume : option_map parsed (value (codes "volume")) ≡ Some (Some request.volume)

-- why they ask for nothing
abbrev pub HasBadCheckValue : (Text → Option Text) → Type 0
HasBadCheckValue value = IsNoUuid value (codes "volume")

-- plain options
pub record AreValidToCheck (options : List Given) : Type 0 where
  pub are : AreOptionsOf check_options options
  pub plain : All IsPlainOption options
