use Rattle.std.proofs.Common.{rules, ◌≡◌, ◌↔◌, []}
use Rattle.std.specs.Prelude.{IsTrue}
use Rattle.object_table.specs.Table.{candidates}
use Rattle.vol_core.proofs.CollectionLemmas.{none_is_planned}
use Rattle.vol_core.proofs.collecting.plan_copy.Goals as goal

pub returns-then-not-has_victims : goal.returns-then-not-has_victims
returns-then-not-has_victims g c =
    let uploads = c.args.objects.now.uploads in
    let has = c.has_victims.result in
    let means : IsTrue has ↔ (candidates uploads.queue.maps.objects.rows ≡ [] → ⊥) =
    rw c.uploads.ensures at c.has_victims.ensures in
    (search rules, search rules, none_is_planned _ uploads has means c.if-not-has_victims.true, search rules)
