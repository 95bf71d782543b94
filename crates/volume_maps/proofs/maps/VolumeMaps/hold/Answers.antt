use Rattle.std.proofs.Common.{refl}
use Rattle.object_table.specs.declared.row.ObjectRow.{ObjectRow}
use Rattle.object_table.specs.Table.{with_changed, held}
use Rattle.volume_maps.proofs.TableLemmas.{changed_unseen}
use Rattle.volume_maps.proofs.KeptLemmas.{count_of, kept_counts}
use Rattle.volume_maps.proofs.ReverseLemmas.{reverse_same}
use Rattle.volume_maps.proofs.maps.VolumeMaps.hold.Goals as goal

pub invariant_of-self : goal.invariant_of-self
invariant_of-self c =
    let objects = c.self.inside.objects in
    let number = c.args.number in
    rw c.hold.ensures (
      kept_counts c.self.inside.settled.rows objects (with_changed held number objects) c.self.invariant.0
          (changed_unseen count_of held number objects.rows (λ row. refl)),
      reverse_same c.self.inside.settled.rows objects (with_changed held number objects) c.self.inside.reverse.objects
          c.self.invariant.1 (changed_unseen (λ (row : ObjectRow). row.number) held number objects.rows (λ row. refl)),
      c.self.invariant.2,
    )

pub returns-clause-counted : goal.returns-clause-counted
returns-clause-counted c = (invariant_of-self c).0.counted
