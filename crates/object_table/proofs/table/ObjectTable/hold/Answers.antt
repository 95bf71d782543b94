use Rattle.std.proofs.Common.{◌∙◌, refl, sym, arith}
use Rattle.object_table.specs.Table.{held}
use Rattle.object_table.proofs.Rows.{keeps, changed_table, unchanged_table}
use Rattle.object_table.proofs.table.ObjectTable.hold.Goals as goal

pub put_row-requires : goal.put_row-requires
put_row-requires c =
    keeps c.args.number (held c.in-Some.row) c.in-Some.row c.args.self.now.rows refl
    (sym c.row.ensures ∙ c.in-Some.is) (λ unmapped. (unmapped, omega arith))

pub returns-in-Some : goal.returns-in-Some
returns-in-Some c =
    c.put_row.ensures
    ∙ changed_table held c.args.number c.args.self.now c.in-Some.row refl (sym c.row.ensures ∙ c.in-Some.is)

pub returns-in_default : goal.returns-in_default
returns-in_default c = unchanged_table held c.args.number c.args.self.now (sym c.row.ensures ∙ c.in_default.is)
