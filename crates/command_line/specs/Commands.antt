-- For this crate's own clauses: a command that gets options.
use Rattle.std.specs.Prelude.{◌≡◌, false, List, [], ◌∷◌, Some, None}
use Rattle.clap.specs.Simple.{App, app_of, with_rule}
use Rattle.clap.specs.declared.builder.command.Command.{Command}
use Rattle.clap.specs.declared.builder.command.Command.TheViews.{out-Command}
use Rattle.command_line.specs.Options.{CommandOption, flag, optional, required, rule_for}
use Rattle.command_line.specs.declared.options.OptionText.{OptionText}
use Rattle.command_line.specs.declared.options.OptionText.TheVariants.{Required, Optional, Defaulted, Flag}

-- the option without what help tells of it
abbrev pub option_of : OptionText → CommandOption
option_of (Required name value help) = required name.now
option_of (Optional name value help) = optional name.now None
option_of (Defaulted name value help default) = optional name.now (Some default.now)
option_of (Flag name help) = flag name.now

abbrev pub with_options : App → List CommandOption → App
with_options app [] = app
with_options app (option ∷ options) = with_options (with_rule app (rule_for option)) options

-- `new` is `old` with these options too
pub record AddsOptions (old : Command) (options : List CommandOption) (new : Command) : Type 0 where
  pub app : app_of new ≡ with_options (app_of old) options
  pub local : (out-Command old).has_globals ≡ false → (out-Command new).has_globals ≡ false
