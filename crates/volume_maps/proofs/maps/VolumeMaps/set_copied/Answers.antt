use Rattle.std.proofs.Common.{refl}
use Rattle.object_table.specs.declared.row.ObjectRow.{ObjectRow}
use Rattle.object_table.specs.Table.{with_changed, copied}
use Rattle.volume_maps.proofs.TableLemmas.{changed_unseen}
use Rattle.volume_maps.proofs.KeptLemmas.{count_of, kept_counts}
use Rattle.volume_maps.proofs.ReverseLemmas.{reverse_same}
use Rattle.volume_maps.proofs.maps.VolumeMaps.set_copied.Goals as goal

pub invariant_of-self : goal.invariant_of-self
invariant_of-self c =
    let objects = c.self.inside.objects in
    let number = c.args.number in
    let change = copied c.args.is_copied in
    rw c.set_copied.ensures (
      kept_counts c.self.inside.settled.rows objects (with_changed change number objects) c.self.invariant.0
          (changed_unseen count_of change number objects.rows (λ row. refl)),
      reverse_same c.self.inside.settled.rows objects (with_changed change number objects) c.self.inside.reverse.objects
          c.self.invariant.1 (changed_unseen (λ (row : ObjectRow). row.number) change number objects.rows (λ row. refl)),
      c.self.invariant.2,
    )

pub returns-clause-counted : goal.returns-clause-counted
returns-clause-counted c = (invariant_of-self c).0.counted
