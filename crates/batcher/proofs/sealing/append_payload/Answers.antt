use Rattle.std.proofs.Common.{◌++◌, ◌+◌, ◌*◌, ◌≤◌, length, get_or, sym, refl, ap, ◌∙◌, subst}
use Rattle.std.specs.List.{sum_by}
use Rattle.extent_map.specs.declared.extent.Extent.{Extent}
use Rattle.batcher.specs.declared.place.BatchPlace.{BatchPlace}
use Rattle.batcher.specs.declared.place.BatchPlace.TheVariants.{Data}
use Rattle.batcher.specs.Rows.{extent_payload}
use Rattle.batcher.proofs.PieceLemmas.{bodies_at, payload_more, room_more}
use Rattle.batcher.proofs.sealing.append_payload.Goals as goal

none : Extent BatchPlace
none = record { lba = 0; sectors = 0; place = Data 0 0 }

pub piece-requires : goal.piece-requires
unfolding none
piece-requires c = bodies_at c.args.entries.now.items c.args.extents.now c.loop-extent.extent-index none c.requires.bodies
    c.loop-extent-test.true

pub append-requires : goal.append-requires
unfolding none
append-requires c =
    let index = c.loop-extent.extent-index in
    subst (λ bytes. length c.loop-extent.writer.bytes + length bytes ≤ c.loop-extent.writer.size) (sym c.piece.ensures)
    (room_more c.args.entries.now.items c.args.extents.now index (get_or c.args.extents.now index none) none
    c.loop-extent-test.true refl
    c.args.writer.now.bytes c.loop-extent.writer.bytes c.loop-extent.writer.size c.requires.bodies c.loop-extent.invariant.bytes
    (subst (λ size. length c.args.writer.now.bytes + 512 * sum_by extent_payload c.args.extents.now ≤ size)
    (sym c.loop-extent.invariant.size) c.requires.size))

pub loop-extent-preserved : goal.loop-extent-preserved
unfolding none
loop-extent-preserved c =
    let index = c.loop-extent.extent-index in
    record {
      bytes =
          ap (λ w. w.bytes) c.append.ensures
          ∙ ap (λ list. c.loop-extent.writer.bytes ++ list) c.piece.ensures
          ∙ payload_more c.args.entries.now.items c.args.extents.now index (get_or c.args.extents.now index none) none
          c.loop-extent-test.true refl
          c.args.writer.now.bytes c.loop-extent.writer.bytes c.loop-extent.invariant.bytes;
      size = ap (λ w. w.size) c.append.ensures ∙ c.loop-extent.invariant.size;
    }
