use Rattle.std.proofs.Common.{◌<◌, subst, sym, ap}
use Rattle.std.specs.List.{All}
use Rattle.object_table.specs.declared.row.ObjectRow.{ObjectRow}
use Rattle.object_table.specs.Table.{TableState}
use Rattle.object_table.proofs.Passing.{below_passed}
use Rattle.object_table.proofs.table.ObjectTable.acknowledge_checkpoint.Goals as goal

pub put_last-requires-clause-last : goal.put_last-requires-clause-last
put_last-requires-clause-last c =
    let lower =
    subst (λ (t : TableState). All (λ (other : ObjectRow). other.number < c.args.number) t.rows) (sym c.self.view_is)
    c.requires.newest.above_rows in
    let passed_lower = below_passed c.args.number c.self.inside.rows.items lower in
    rw (c.pass_dead.ensures.passed, ap (λ (row : ObjectRow). row.number) c.new_row.ensures) passed_lower
