use Rattle.std.proofs.Common.{Some, ◌∙◌, sym, ap}
use Rattle.object_table.proofs.Rows.{row_at, placed}
use Rattle.object_table.proofs.table.ObjectTable.row.Goals as goal

pub returns : goal.returns
returns c =
    let place = placed c.args.number _ _ _ _ c.deref.ensures.value c.in_ok-at.was c.place_of.ensures in
    let is =
    row_at 0 c.args.number c.self.inside.rows.items c.in_ok-at.at c.index.result.now c.self.invariant.0.order place.0
    (place.1 c.index.result.now) in
    rw (← c.self.view_is) (ap Some c.index.ensures ∙ sym is)
