use Rattle.std.proofs.Common.{◌∙◌, refl, sym}
use Rattle.object_table.specs.Table.{gained}
use Rattle.object_table.proofs.Rows.{changed_table, unchanged_table}
use Rattle.object_table.proofs.table.ObjectTable.gain.Goals as goal

pub returns-in-Some : goal.returns-in-Some
returns-in-Some c =
    c.put_row.ensures
    ∙ changed_table (gained c.args.sectors) c.args.number c.args.self.now c.in-Some.row refl (sym c.row.ensures ∙ c.in-Some.is)

pub returns-in_default : goal.returns-in_default
returns-in_default c =
    unchanged_table (gained c.args.sectors) c.args.number c.args.self.now (sym c.row.ensures ∙ c.in_default.is)
