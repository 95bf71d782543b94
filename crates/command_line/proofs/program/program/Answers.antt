use Rattle.std.proofs.Common.{◌≡◌, ◌∙◌, ◌∷◌, List, [], ap₂}
use Rattle.std.specs.Prelude.{fold}
use Rattle.std.proofs.lemmas.Result.{IfOk-weaker}
use Rattle.clap.specs.Words.{app_of}
use Rattle.clap.specs.Simple.{App, Shape, with_subcommand}
use Rattle.command_line.specs.Program.{bare, check, collect, create, lsvdctl, replay, serve}
use Rattle.command_line.proofs.program.program.Goals as goal

-- the program with these commands
abbrev with_commands : List Shape → App
with_commands shapes = fold with_subcommand bare shapes

pub returns : goal.returns
unfolding lsvdctl
returns c =
    let one : app_of c.in_ok-program.program ≡ with_commands (replay ∷ []) =
    c.in_ok-program.ensures.shape c.replay_command.ensures.local
    ∙ ap₂ with_subcommand c.in_ok-bare_program.ensures c.replay_command.ensures.shape in
    let two : app_of c.in_ok-program-2.program ≡ with_commands (replay ∷ create ∷ []) =
    c.in_ok-program-2.ensures.shape c.in-Ok.ensures.local
    ∙ ap₂ with_subcommand one c.in-Ok.ensures.shape in
    let three : app_of c.in_ok-program-3.program ≡ with_commands (replay ∷ create ∷ serve ∷ []) =
    c.in_ok-program-3.ensures.shape c.in-Ok-serve_command.ensures.local
    ∙ ap₂ with_subcommand two c.in-Ok-serve_command.ensures.shape in
    let four : app_of c.in_ok-program-4.program ≡ with_commands (replay ∷ create ∷ serve ∷ collect ∷ []) =
    c.in_ok-program-4.ensures.shape c.in-Ok-collect_command.ensures.local
    ∙ ap₂ with_subcommand three c.in-Ok-collect_command.ensures.shape in
    let five : app_of c.in_ok-program-5.program ≡ with_commands (replay ∷ create ∷ serve ∷ collect ∷ check ∷ []) =
    c.in_ok-program-5.ensures.shape c.in-Ok-check_command.ensures.local
    ∙ ap₂ with_subcommand four c.in-Ok-check_command.ensures.shape in
    IfOk-weaker c.subcommand-6.result _ _ (λ program added. added.shape c.in-Ok-churn_command.ensures.local
    ∙ ap₂ with_subcommand five c.in-Ok-churn_command.ensures.shape) c.subcommand-6.ensures
