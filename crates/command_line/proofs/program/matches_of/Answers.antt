use Rattle.std.proofs.Common.{◌≡◌, ◌∙◌, ap, refl, true, subst, map, string_bytes}
use Rattle.std.proofs.lemmas.Result.{IfOk-weaker}
use Rattle.clap.specs.Words.{App, FailsBy, app_of, fault_of, is_simple, is_simple_and_free, subcommand_of}
use Rattle.command_line.specs.Program.{lsvdctl}
use Rattle.command_line.specs.CommandLine.{faults_of}
use Rattle.command_line.proofs.program.matches_of.Goals as goal

lsvdctl_is_simple : is_simple lsvdctl ≡ true
unfolding lsvdctl
lsvdctl_is_simple = refl

lsvdctl_is_free : is_simple_and_free lsvdctl ≡ true
unfolding lsvdctl
lsvdctl_is_free = refl

pub returns-clause-kinds : goal.returns-clause-kinds
unfolding faults_of
returns-clause-kinds c =
    let is : app_of c.in_ok-program.field-0 ≡ lsvdctl = c.in_ok-program.ensures in
    let words = map string_bytes c.args.words.now in
    let P : App → Type 0 = λ app. FailsBy (fault_of app words) c.try_get_matches_from.result in
    subst P is (c.try_get_matches_from.ensures.kinds (ap is_simple_and_free is ∙ lsvdctl_is_free))

pub returns-clause-met : goal.returns-clause-met
returns-clause-met c =
    let is : app_of c.in_ok-program.field-0 ≡ lsvdctl = c.in_ok-program.ensures in
    let words = map string_bytes c.args.words.now in
    IfOk-weaker c.try_get_matches_from.result _ _ (λ matches has.
    (has (ap is_simple is ∙ lsvdctl_is_simple)).1 ∙ ap (λ (app : App). subcommand_of app words) is)
    c.try_get_matches_from.ensures.matches
