use Rattle.std.proofs.Common.{◌≡◌, drop, map}
use Rattle.std.specs.Prelude.{false}
use Rattle.clap.specs.Simple.{app_of}
use Rattle.clap.specs.declared.builder.command.Command.TheViews.{out-Command}
use Rattle.command_line.specs.Commands.{option_of, with_options}
use Rattle.command_line.proofs.options.with_options.Given as goal

-- the command with the options that are left is the one with them all
abbrev pub invariant-loop-text : goal.invariant-loop-text
invariant-loop-text l =
    (with_options (app_of l.command) (map option_of (drop l.text-index l.options))
    ≡ with_options (app_of l.initial.command) (map option_of l.options))
    × ((out-Command l.initial.command).has_globals ≡ false → (out-Command l.command).has_globals ≡ false)
