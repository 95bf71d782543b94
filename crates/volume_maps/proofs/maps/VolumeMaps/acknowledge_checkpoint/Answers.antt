use Rattle.std.proofs.Common.{◌<◌, [], refl, sym, subst, arith}
use Rattle.std.specs.Prelude.{map}
use Rattle.std.proofs.lemmas.List.Elements.{All-map}
use Rattle.object_table.specs.declared.row.ObjectRow.{ObjectRow}
use Rattle.object_table.specs.Table.{TableState, IsNewest, new_row, passed, acknowledged}
use Rattle.volume_maps.specs.Maps.{MapsState}
use Rattle.volume_maps.proofs.KeptLemmas.{kept_more, kept_passed}
use Rattle.volume_maps.proofs.RangeLemmas.{above_ranges}
use Rattle.volume_maps.proofs.ReverseLemmas.{reverse_more, reverse_passed}
use Rattle.volume_maps.proofs.maps.VolumeMaps.acknowledge_checkpoint.Goals as goal

pub add_empty-requires-clause-above : goal.add_empty-requires-clause-above
add_empty-requires-clause-above c =
    let number = c.args.number in
    let newest = subst (λ (maps : MapsState). IsNewest maps.objects number) (sym c.self.view_is) c.requires.newest in
    above_ranges number c.self.inside.reverse.objects c.self.inside.objects.rows c.self.invariant.1.known newest.above_rows

pub invariant_of-self : goal.invariant_of-self
invariant_of-self c =
    let rows = c.self.inside.settled.rows in
    let objects = c.self.inside.objects in
    let ranges = c.self.inside.reverse.objects in
    let number = c.args.number in
    let by_then : TableState = record objects { rows = map passed objects.rows } in
    let newest = subst (λ (maps : MapsState). IsNewest maps.objects number) (sym c.self.view_is) c.requires.newest in
    let spare = c.add_empty.ensures.spare in
    let room = c.self.invariant.2 in
    rw (c.acknowledge_checkpoint.ensures, c.add_empty.ensures.objects) (
      kept_more rows by_then (acknowledged number objects) (new_row number 0 0) (kept_passed rows objects c.self.invariant.0)
          refl (omega (arith, newest.above_checkpoint))
          (All-map (λ (row : ObjectRow). row.number < number) passed objects.rows newest.above_rows) refl,
      reverse_more rows by_then (acknowledged number objects) ranges (new_row number 0 0) []
          (reverse_passed rows objects ranges c.self.invariant.1) refl,
      omega (arith, spare, room),
    )

pub returns-clause-counted : goal.returns-clause-counted
returns-clause-counted c = (invariant_of-self c).0.counted
