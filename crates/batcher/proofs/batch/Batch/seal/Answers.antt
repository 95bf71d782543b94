use Rattle.std.proofs.Common.{◌<◌, ◌-◌, min, Some, length, sym, ap, subst, ◌∙◌, arith}
use Rattle.std.specs.VecDeque.{deque_capacity}
use Rattle.extent_map.specs.Extents.{IsShortest, AllFit}
use Rattle.batcher.specs.Places.{batch_place_number, place_on}
use Rattle.batcher.specs.State.{BatchState}
use Rattle.batcher.specs.Sealing.{IsExpectedOf, IsSealed}
use Rattle.batcher.proofs.Sealed.{may_be_sealed, is_sealed}
use Rattle.batcher.proofs.batch.Batch.seal.Goals as goal

pub write_object-requires : goal.write_object-requires
write_object-requires c =
    let b = c.self.inside in
    let is = sym (c.deref.ensures.value ∙ c.in_ok-extents.ensures.rows) in
    may_be_sealed b.geometry b.first b.entries.items b.sectors b.plan c.self.invariant
    (subst (λ s. 0 < length s.entries) (sym c.self.view_is) c.requires.some)
    c.deref.result.now (sym is) (subst (IsShortest place_on) is c.in_ok-extents.ensures.shortest) c.args.expected.now
    (subst (AllFit batch_place_number) is c.in_ok-extents.ensures.fits)
    (c.requires.expected.sectors ∙ ap (λ s. s.geometry.sectors) (sym c.self.view_is))
    (c.requires.expected.end_before ∙ ap (λ s. Some s.first) (sym c.self.view_is))

pub returns : goal.returns
returns c =
    let b = c.self.inside in
    let is = sym (c.deref.ensures.value ∙ c.in_ok-extents.ensures.rows) in
    let batch : BatchState =
    record {
      geometry = b.geometry;
      first = b.first;
      entries = b.entries.items;
      reserved = min b.plan.changes.spare (deque_capacity b.entries - length b.entries.items);
    } in
    subst (λ s. IsSealed s c.args.expected.now
    (record {
      object = c.in_ok-written.written.object;
      rows = c.in_ok-written.written.rows;
      entries = b.plan.entries;
      rest = record { after = b.plan.entries; plan = c.in_ok-plan.plan };
    }))
    c.self.view_is
    (is_sealed batch b.sectors b.plan c.self.invariant (subst (λ s. 0 < length s.entries) (sym c.self.view_is) c.requires.some)
    c.deref.result.now (sym is) (subst (IsShortest place_on) is c.in_ok-extents.ensures.shortest) c.args.expected.now
    (subst (AllFit batch_place_number) is c.in_ok-extents.ensures.fits)
    (subst (λ s. IsExpectedOf s c.args.expected.now) (sym c.self.view_is)
    (record { sectors = c.requires.expected.sectors; end_before = c.requires.expected.end_before }))
    c.in_ok-written.written c.in_ok-written.ensures c.keep_widths.ensures.uuid c.keep_widths.ensures.number c.in_ok-plan.plan
    c.in_ok-plan.ensures.plan
    (omega (arith, c.in_ok-plan.ensures.spare, c.reserved-spare.ensures, ap (λ s. s.reserved) c.self.view_is)))
