use Rattle.std.proofs.Common.{◌≡◌, rules, tests}
use Rattle.std.specs.Prelude.{nat_lt}
use Rattle.std.specs.List.{list_all}
use Rattle.std.proofs.lemmas.Iterator.{YieldsList-from_slice}
use Rattle.std.proofs.lemmas.Iterator.Search.{all_from_yields_List}
use Rattle.read_plan.proofs.PinLemmas.{pins_on, pass_where_pinned}
use Rattle.read_plan.proofs.pinning.are_pinned.Goals as goal

pub returns : goal.returns
returns g c =
    let all : c.all.result ≡ list_all (λ number. nat_lt 0 (pins_on c.args.uploads.now number)) c.args.numbers.now =
    all_from_yields_List (λ number. nat_lt 0 (pins_on c.args.uploads.now number)) _ _ c.all.result c.all.ensures.ran
    (YieldsList-from_slice c.args.numbers.now cc) (λ x b q k. search (rules, tests)) in
    rw all (pass_where_pinned c.args.numbers.now c.args.uploads.now)
