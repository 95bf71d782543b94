use Rattle.std.proofs.Common.{refl, ◌∙◌}
use Rattle.std.proofs.lemmas.Fn.{says_at}
use Rattle.page_list.proofs.Probes.{first_passes}
use Rattle.page_list.proofs.search.starts_passing.Goals as goal

pub returns-in-Some : goal.returns-in-Some
returns-in-Some g c p says =
    says c.in-Some.item c.test.result (says_at g.F.Fn c.test.ensures refl)
    ∙ first_passes p c.args.page.now c.in-Some.item c.in-Some.ensures
