-- Commands that get their options.
use Rattle.std.proofs.Common.{◌≡◌, ◌∙◌, ◌+◌, ◌<◌, ◌≤◌, ℕ, List, ap, ap₂, codes, drop, get_or, length, map, refl, sym}
use Rattle.std.specs.Prelude.{false}
use Rattle.std.proofs.lemmas.List.{at_drop_all, at_drop_more}
use Rattle.clap.specs.Built.{AddsArg}
use Rattle.clap.specs.Simple.{App, app_of, new_app, shape_of, with_rule}
use Rattle.clap.specs.Walk.{Text, rule_of}
use Rattle.clap.specs.declared.builder.arg.Arg.{Arg}
use Rattle.clap.specs.declared.builder.command.Command.{Command}
use Rattle.clap.specs.declared.builder.command.Command.TheViews.{out-Command}
use Rattle.command_line.specs.Churn.{rule_of_place}
use Rattle.command_line.specs.Commands.{AddsOptions, option_of, with_options}
use Rattle.command_line.specs.Options.{CommandOption, rule_for}
use Rattle.command_line.specs.Program.{churn}
use Rattle.command_line.specs.declared.options.OptionText.{OptionText}

-- the command with the options that are left, before the next is added and after
pub adds_next : (old new : Command) (arg : Arg) (texts : List OptionText) (at : ℕ) (other : OptionText) (all : App)
    → AddsArg old arg new → arg.global ≡ false → rule_of arg ≡ rule_for (option_of (get_or texts at other))
    → at < length texts → with_options (app_of old) (map option_of (drop at texts)) ≡ all
    → with_options (app_of new) (map option_of (drop (at + 1) texts)) ≡ all
adds_next old new arg texts at other all adds local is below before =
    ap (λ (app : App). with_options app (map option_of (drop (at + 1) texts)))
    (adds.shape local ∙ ap (with_rule (app_of old)) is)
    ∙ sym (at_drop_more (λ (left : List OptionText). with_options (app_of old) (map option_of left)) texts at other below)
    ∙ before

pub adds_no_more : (command : Command) (texts : List OptionText) (at : ℕ) (all : App) → length texts ≤ at
    → with_options (app_of command) (map option_of (drop at texts)) ≡ all → app_of command ≡ all
adds_no_more command texts at all past is =
    sym (at_drop_all (λ (left : List OptionText). with_options (app_of command) (map option_of left)) texts at past) ∙ is

pub adds_local : (old new : Command) (arg : Arg) → AddsArg old arg new → arg.global ≡ false
    → (out-Command old).has_globals ≡ false → (out-Command new).has_globals ≡ false
adds_local old new arg adds local old_local = rw (adds.globals, old_local, local) refl

-- a new command has the options that it gets, and no others
pub shape_with : (name : Text) (options : List CommandOption) (start new : Command) → app_of start ≡ new_app name
    → AddsOptions start options new → shape_of new ≡ (with_options (new_app name) options).top
shape_with name options start new is adds =
    ap (λ (app : App). app.top) (adds.app ∙ ap (λ (app : App). with_options app options) is)

-- a new command `churn` has the words that it gets, each at its place
pub shape_with_places : (start middle new : Command) (steps seed : Arg) → app_of start ≡ new_app (codes "churn")
    → AddsArg start steps middle → AddsArg middle seed new → steps.global ≡ false → seed.global ≡ false
    → rule_of steps ≡ rule_of_place (codes "steps") → rule_of seed ≡ rule_of_place (codes "seed") → shape_of new ≡ churn
shape_with_places start middle new steps seed begun first second first_local second_local steps_are seed_is =
    let one : app_of middle ≡ with_rule (new_app (codes "churn")) (rule_of_place (codes "steps")) =
    first.shape first_local ∙ ap₂ with_rule begun steps_are in
    ap (λ (app : App). app.top) (second.shape second_local ∙ ap₂ with_rule one seed_is)
