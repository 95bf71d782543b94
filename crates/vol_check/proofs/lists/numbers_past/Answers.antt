use Rattle.std.proofs.Common.{ℕ, ◌<◌, List, ltb, sym, subst, rules, tests}
use Rattle.std.proofs.lemmas.Bool.{ltb-true, lt-ltb}
use Rattle.std.proofs.lemmas.Iterator.{YieldsList-from_slice, items_from_collect}
use Rattle.std.proofs.lemmas.Iterator.Consumers.{YieldsList-at, YieldsList-from_copied, YieldsList-from_filter}
use Rattle.std.proofs.lemmas.Result.{IfOk-weaker}
use Rattle.vol_check.specs.Steps.{IsFilterOf}
use Rattle.vol_check.proofs.FilterLemmas.{is_filter}
use Rattle.vol_check.proofs.lists.numbers_past.Goals as goal

pub returns : goal.returns
returns c =
    let numbers : List ℕ = c.args.numbers.now in
    let last : ℕ = c.args.last in
    IfOk-weaker c.collect.result _ _
    (λ list is. subst (IsFilterOf numbers (λ n. last < n)) (sym is)
    (is_filter (ltb last) numbers (λ n. last < n) (ltb-true last) (lt-ltb last) c.requires))
    (items_from_collect _ c.collect.ensures.ran (YieldsList-from_filter _ (ltb last) (YieldsList-at c.filter.ensures.source
    (YieldsList-from_copied (YieldsList-from_slice numbers cc))) c.filter.ensures.closure (λ x b q k. search (rules, tests))))
