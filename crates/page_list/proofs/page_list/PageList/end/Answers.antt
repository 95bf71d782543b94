use Rattle.std.proofs.Common.{length, sym, ◌∙◌, arith, ap}
use Rattle.std.proofs.lemmas.List.{length-map}
use Rattle.page_list.proofs.Lengths.{start_all}
use Rattle.page_list.proofs.Seen.{count_is}
use Rattle.page_list.proofs.page_list.PageList.end.Goals as goal

pub returns-clause-index : goal.returns-clause-index
returns-clause-index g c =
    let count = count_is c.self.inside.pages.items (length c.self.inside.free.items) c.args.self.now c.self.view_is in
    let long = length-map c.self.inside.pages.items length in
    let shown = ap (λ s. length s.lengths) c.self.view_is in
    c.start_at.ensures.index ∙ start_all c.args.self.now.lengths c.len.result
    (omega (arith, c.len.ensures, c.self.inside.pages.ok.0, long, shown)) ∙ sym count
