use Rattle.std.proofs.Common.{length, sym, ◌∙◌, arith}
use Rattle.page_list.proofs.Lengths.{index_bound}
use Rattle.page_list.proofs.Seen.{count_is, none_is_past}
use Rattle.page_list.proofs.page_list.PageList.before.Goals as goal

pub returns-in_err-get : goal.returns-in_err-get
returns-in_err-get g c =
    let count = count_is c.self.inside.pages.items (length c.self.inside.free.items) c.args.self.now c.self.view_is in
    let bound = index_bound c.args.self.now.lengths c.args.at c.requires in
    let past = none_is_past c.args.self.now.items _ (sym c.get.ensures ∙ c.in_err-get.was) in
    let a = c.previous.ensures in let b = c.in_ok-last.ensures in
    absurd (omega (arith, count, bound, past, c.in_ok-last.ensures.1))
