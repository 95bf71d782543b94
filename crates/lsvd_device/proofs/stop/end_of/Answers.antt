use Rattle.std.proofs.Common.{rules, ◌≡◌, ◌+◌, ◌<◌, ℕ, List, length, get_or, max}
use Rattle.std.proofs.lemmas.List.{get_or_default}
use Rattle.lsvd_device.specs.declared.change.Change.{Change}
use Rattle.lsvd_device.specs.declared.change.Change.TheVariants.{Write}
use Rattle.lsvd_device.proofs.Replayed.{IsEndSoFar, end_next}
use Rattle.lsvd_device.proofs.stop.end_of.Goals as goal

pub loop-change-preserved : goal.loop-change-preserved
loop-change-preserved c =
    let changes : List Change = c.args.changes.now in
    let k : ℕ = c.loop-change.change-index in
    let change : Change = get_or changes k (Write 0 0) in
    let inside : k < length changes = search rules in
    let is : change ≡ get_or changes k change = get_or_default changes k (Write 0 0) change inside in
    let far : IsEndSoFar changes (k + 1) (max c.end_with.result c.loop-change.end) =
    end_next changes k c.loop-change.end c.end_with.result change inside is c.loop-change.invariant
    c.end_with.ensures.inside c.end_with.ensures.least in
    rw c.max-end.ensures far
