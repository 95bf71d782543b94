use Rattle.std.proofs.Common.{◌-◌, ◌≤◌, ◌<◌, ◌≡◌, ◌∙◌, ◌∷◌, ◌++◌}
use Rattle.std.proofs.Common.{[], true, refl, subst, sym, arith}
use Rattle.std.specs.Prelude.{is_ok, length}
use Rattle.std.specs.List.{All}
use Rattle.std.proofs.lemmas.List.{length_push}
use Rattle.object_table.specs.declared.row.ObjectRow.{ObjectRow}
use Rattle.object_table.specs.Table.{TableState}
use Rattle.object_table.proofs.Listed.{are_few, listed_last}
use Rattle.object_table.proofs.table.ObjectTable.put_last.Goals as goal

pub invariant_of-self : goal.invariant_of-self
invariant_of-self c =
    let free_place : 1 ≤ c.self.inside.room - length c.self.inside.rows.items =
    subst (λ (t : TableState). 1 ≤ t.spare) (sym c.self.view_is) c.requires.room in
    let lower =
    subst (λ (t : TableState). All (λ (other : ObjectRow). other.number < c.args.row.number) t.rows) (sym c.self.view_is)
    c.requires.last in
    let few = are_few _ _ _ _ _ c.self.invariant.0 in
    let fits : is_ok c.push.result ≡ true =
    c.push.ensures.succeeds (omega (arith, free_place, c.self.invariant.2, c.self.inside.rows.ok.0)) in
    let rows : c.push.new.self.items ≡ c.self.inside.rows.items ++ c.args.row ∷ [] = c.push.ensures.items ∙ (rw fits refl) in
    let fits_dead : is_ok c.push-2.result ≡ true =
    c.push-2.ensures.succeeds
    (omega (arith, free_place, few.0, c.self.invariant.3, c.self.inside.dead.ok.0)) in
    let dead : c.push-2.new.self.items ≡ c.self.inside.dead.items ++ c.args.row.number ∷ [] =
    c.push-2.ensures.items ∙ (rw fits_dead refl) in
    let longer = length_push c.self.inside.rows.items c.args.row in
    rw (rows, dead) (
      listed_last _ c.args.row _ _ _ _ c.requires.some lower c.requires.dead c.requires.mapped c.self.invariant.0,
      omega (arith, longer, free_place),
      omega (arith, c.self.invariant.2, c.push.ensures.capacity),
      omega (arith, c.self.invariant.3, c.push-2.ensures.capacity),
      c.self.invariant.4,
      c.self.invariant.5,
    )
