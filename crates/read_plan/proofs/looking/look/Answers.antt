use Rattle.std.proofs.Common.{◌≡◌, ◌*◌, ◌/◌, length, ◌∙◌, ap, arith}
use Rattle.std.specs.Prelude.{replicate}
use Rattle.std.proofs.lemmas.List.{length-replicate}
use Rattle.object_uploads.specs.State.{QueueState}
use Rattle.read_plan.specs.Rows.{AreRowsRead}
use Rattle.read_plan.proofs.PlanLemmas.{CanRead, can_read, are_readable, are_fetchable, lie_inside, is_plan}
use Rattle.read_plan.proofs.looking.look.Given as given
use Rattle.read_plan.proofs.looking.look.Goals.{After-deref, After-deref-3, After-next_seq}
use Rattle.read_plan.proofs.looking.look.Goals as goal

-- the rows of the range can be read
rows_can : (g : given.Over) (c : After-deref g)
    → CanRead c.args.lba c.args.sectors c.args.log.now c.args.objects.now.uploads.queue c.in_ok-rows.rows.items
rows_can g c =
    let looked = c.in_ok-rows.ensures in
    can_read c.args.lba c.args.sectors c.args.log.now c.args.objects.now.uploads.queue c.in_ok-rows.rows.items c.requires.log
    c.requires.objects
    looked.shortest (rw c.uploads.ensures at looked.places)

pub pieces_of-requires : goal.pieces_of-requires
pieces_of-requires g c =
    let queue : QueueState = c.args.objects.now.uploads.queue in
    rw c.deref.ensures.value
    (are_fetchable c.args.lba c.args.sectors c.args.log.now queue c.in_ok-rows.rows.items c.requires.range.inside (rows_can g c))

-- the bytes of the range are zeros before they are read
zeros : (g : given.Over) (c : After-deref-3 g) → c.in_ok-bytes.bytes.items ≡ replicate (512 * c.args.sectors) 0
zeros g c = c.in_ok-bytes.ensures.items_if_clones_equal (λ y is. is)

count : (g : given.Over) (c : After-deref-3 g) → length c.in_ok-bytes.bytes.items / 512 ≡ c.args.sectors
count g c =
    let len : length c.in_ok-bytes.bytes.items ≡ 512 * c.args.sectors = ap length (zeros g c)
    ∙ length-replicate (512 * c.args.sectors) 0 in
    omega (arith, len)

pub read_rows-requires : goal.read_rows-requires
read_rows-requires g c =
    let can = rows_can g (goal.at.read_rows-requires g c).After-deref in
    let readable = are_readable c.args.lba c.args.sectors c.args.log.now c.args.objects.now.uploads.queue
    c.in_ok-rows.rows.items can in
    rw c.deref-3.ensures.value (rw (count g c) readable)

-- what the log has was read over zeros
read : (g : given.Over) (c : After-next_seq g) → c.in_ok-bytes.bytes.items ≡ replicate (512 * c.args.sectors) 0
    → AreRowsRead c.args.log.now c.args.lba c.in_ok-rows.rows.items (replicate (512 * c.args.sectors) 0)
    c.in_ok-bytes-2.bytes.items
read g c zeros_are = rw c.deref-3.ensures.value at (rw zeros_are at c.in_ok-bytes-2.ensures.read)

pub pin_each-requires-clause-ascending : goal.pin_each-requires-clause-ascending
pin_each-requires-clause-ascending g c = rw c.deref-4.ensures.value c.in_ok-numbers.ensures.ascending

pub pin_each-requires-clause-pins : goal.pin_each-requires-clause-pins
pin_each-requires-clause-pins g c = rw c.uploads_mut.ensures.is c.requires.pins

pub invariant_of-result : goal.invariant_of-result
invariant_of-result g c =
    let before = goal.at.invariant_of-result g c in (
      lie_inside c.args.lba c.args.sectors c.args.log.now c.args.objects.now.uploads.queue c.in_ok-rows.rows.items
          c.in_ok-bytes-2.bytes.items c.in_ok-pieces.pieces.items
          (rows_can g before.After-deref) (read g before.After-next_seq (zeros g before.After-deref-3))
          (rw c.deref.ensures.value at c.in_ok-pieces.ensures.pieces),
      c.in_ok-numbers.ensures.ascending,
    )

pub returns-clause-plan : goal.returns-clause-plan
returns-clause-plan g c =
    let before = goal.at.returns-clause-plan g c in
    is_plan c.args.lba c.args.sectors c.args.objects.now c.args.log.now c.in_ok-rows.rows.items
    (record {
      history_length = c.next_seq.result;
      bytes = c.in_ok-bytes-2.bytes.items;
      pieces = c.in_ok-pieces.pieces.items;
      objects = c.in_ok-numbers.numbers.items;
    })
    (rows_can g before.After-deref) (rw c.batch.ensures at c.next_seq.ensures)
    (read g before.After-next_seq (zeros g before.After-deref-3)) (rw c.deref.ensures.value at c.in_ok-pieces.ensures.pieces)
    c.in_ok-numbers.ensures.ascending (rw c.deref-2.ensures.value at c.in_ok-numbers.ensures.same)

pub returns-clause-pinned : goal.returns-clause-pinned
returns-clause-pinned g c = rw (c.deref-4.ensures.value, c.uploads_mut.ensures.is) at c.pin_each.ensures
