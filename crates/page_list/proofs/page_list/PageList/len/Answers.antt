use Rattle.std.proofs.Common.{◌+◌, length, take, ◌∙◌, ap, arith}
use Rattle.std.proofs.lemmas.List.{take_all}
use Rattle.page_list.specs.Pages.{items_of}
use Rattle.page_list.proofs.More.{count_more, count_bound, seen_items}
use Rattle.page_list.proofs.page_list.PageList.len.Goals as goal

pub overflow_add-len : goal.overflow_add-len
overflow_add-len g c =
    let pages = c.deref-page-items.result.now in
    let i = c.loop-page.page-index in
    let kept = c.self.invariant in
    let same = c.deref-page-items.ensures.value in
    let more = count_more pages i c.page-item.result c.loop-page-test.true c.page-item.is in
    let bound = count_bound c.self.inside.pages.items (i + 1) kept.filled in
    omega (
      arith,
      c.loop-page.invariant,
      c.len-len.ensures,
      more,
      bound,
      ap (λ ps. length (items_of (take (i + 1) ps))) same,
      kept.few,
    )

pub loop-page-preserved : goal.loop-page-preserved
loop-page-preserved g c =
    let pages = c.deref-page-items.result.now in
    let i = c.loop-page.page-index in
    let more = count_more pages i c.page-item.result c.loop-page-test.true c.page-item.is in
    omega (arith, c.loop-page.invariant, c.len-len.ensures, more)

pub returns : goal.returns
returns g c =
    let pages = c.deref-page-items.result.now in
    c.loop-page.invariant
    ∙ ap (λ ps. length (items_of ps)) (take_all c.loop-page.page-index pages c.loop-page-test.false
    ∙ c.deref-page-items.ensures.value)
    ∙ ap length (seen_items c.self.inside.pages.items (length c.self.inside.free.items) c.args.self.now c.self.view_is)
