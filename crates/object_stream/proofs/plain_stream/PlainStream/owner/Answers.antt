use Rattle.std.proofs.Common.{◌+◌, ◌-◌, take, drop, ◌∙◌, ap, arith}
use Rattle.object_stream.specs.Stream.{after_object, after_objects, objects_to}
use Rattle.object_stream.specs.Plain.{stream_of}
use Rattle.object_stream.proofs.PlainLemmas.{after_some, owner_more}
use Rattle.object_stream.proofs.plain_stream.PlainStream.owner.Goals as goal

pub loop-object-init : goal.loop-object-init
loop-object-init c =
    let plain = c.args.self.now in
    let k = c.args.sector in
    let all = λ (objects : _). after_objects plain.number plain.end plain.entries.items (λ j. c.opening_owner-owner.result)
    objects k in
    record {
      counted = omega arith;
      listed = omega arith;
      remaining =
          ap all c.objects_to-object-items.ensures
          ∙ after_some plain.number plain.end plain.entries.items (λ j. c.opening_owner-owner.result) (stream_of plain).opening
          (objects_to (stream_of plain) c.args.number) k c.opening_owner-owner.ensures;
    }

pub loop-object-preserved : goal.loop-object-preserved
loop-object-preserved c =
    let plain = c.args.self.now in
    let loop = c.loop-object in
    let count = c.count_before-count.result in
    let after = λ (items : _). after_object (loop.at + 1) c.object-item.result.content
    (take (loop.start + count - loop.start) (drop loop.start items)) (λ j. loop.owner) c.args.sector in
    record {
      counted = omega arith;
      listed = omega arith;
      remaining =
          owner_more loop.at loop.end loop.start count loop.object-index c.args.sector plain.entries.items loop.owner
          c.owner_after-owner.result
          c.objects_to-object-items.result.now c.object-item.result c.loop-object-test.true c.object-item.is (omega arith)
          (c.owner_after-owner.ensures ∙ ap after c.deref.ensures.value)
          ∙ loop.invariant.remaining;
    }
