use Rattle.std.proofs.Common.{◌++◌, length, sym, ◌∙◌, ap, arith}
use Rattle.std.proofs.lemmas.List.{take_all}
use Rattle.std.proofs.lemmas.Result.{IfOk-from_err}
use Rattle.page_list.specs.Pages.{items_of}
use Rattle.page_list.proofs.More.{items_more, seen_items}
use Rattle.page_list.proofs.page_list.PageList.to_vec.Goals as goal

pub loop-page-init : goal.loop-page-init
loop-page-init g c = c.new-all.ensures.items

pub offset_bounds-page-items-page-index : goal.offset_bounds-page-items-page-index
offset_bounds-page-items-page-index g c =
    omega (arith, c.loop-page-test.true, ap length c.deref-page-items.ensures.value, c.self.invariant.few)

pub returns-in_err-extend_from_slice : goal.returns-in_err-extend_from_slice
returns-in_err-extend_from_slice g c = IfOk-from_err c.from_residual.result _ c.from_residual.ensures.0

pub loop-page-preserved : goal.loop-page-preserved
loop-page-preserved g c =
    let pages = c.deref-page-items.result.now in
    c.in_ok-extend_from_slice.ensures.items
    ∙ ap (λ xs. c.loop-page.all.items ++ xs) c.as_slice.ensures
    ∙ ap (λ xs. xs ++ c.page-item.result) c.loop-page.invariant
    ∙ sym (items_more pages c.loop-page.page-index c.page-item.result c.loop-page-test.true c.page-item.is)

pub returns : goal.returns
returns g c =
    let pages = c.deref-page-items.result.now in
    c.loop-page.invariant
    ∙ ap items_of (take_all c.loop-page.page-index pages c.loop-page-test.false ∙ c.deref-page-items.ensures.value)
    ∙ seen_items c.self.inside.pages.items (length c.self.inside.free.items) c.args.self.now c.self.view_is
