use Rattle.std.proofs.Common.{◌∷◌, drop, sym, ◌∙◌, ap}
use Rattle.std.proofs.lemmas.Option.{slice_get_within}
use Rattle.page_list.specs.Items.{cursor_index}
use Rattle.extent_map.proofs.PutPlaces.{none_left, rest_at}
use Rattle.extent_map.proofs.in_order.RowsInOrder.next.Goals as goal

pub returns-in_err-row-clause-end : goal.returns-in_err-row-clause-end
returns-in_err-row-clause-end g c =
    let rows = c.self.inside.rows.now in
    let n = cursor_index rows.lengths c.self.inside.at in
    rw c.from_residual.ensures
    (sym c.self.view_is ∙ none_left rows.items n (sym c.get.ensures ∙ c.in_err-row.was))

pub next-self-inside-requires-clause-some : goal.next-self-inside-requires-clause-some
next-self-inside-requires-clause-some g c =
    let rows = c.self.inside.rows.now in
    slice_get_within rows.items (cursor_index rows.lengths c.self.inside.at) c.in_ok-row.row (sym c.in_ok-row.ensures)

pub returns-clause-gives : goal.returns-clause-gives
returns-clause-gives g c =
    let rows = c.self.inside.rows.now in
    let n = cursor_index rows.lengths c.self.inside.at in
    sym c.self.view_is
    ∙ rest_at rows.items n c.in_ok-row.row (sym c.in_ok-row.ensures)
    ∙ ap (λ k. c.in_ok-row.row ∷ drop k rows.items) (sym c.next-self-inside.ensures.index)
