use Rattle.std.proofs.Common.{List, ℕ, ◌∙◌, ap}
use Rattle.std.specs.Prelude.{slice_get}
use Rattle.object_table.proofs.Free.{lowest}
use Rattle.object_table.proofs.table.ObjectTable.removable.Goals as goal

pub returns : goal.returns
returns c =
    let first =
    c.copied.ensures ∙ c.first.ensures.value ∙ ap (λ (free : List ℕ). slice_get free 0) c.deref.ensures.value in
    let table = c.self.inside in
    rw (← c.self.view_is, first)
    (lowest _ table.dead.items table.free.items table.candidates.items c.self.invariant.0)
