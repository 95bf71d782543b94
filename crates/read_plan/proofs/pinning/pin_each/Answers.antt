use Rattle.std.proofs.Common.{◌+◌, ◌<◌, ◌^◌, get_or, refl, arith}
use Rattle.object_table.specs.Table.{row_of, pinned}
use Rattle.object_uploads.proofs.PinsOf.{few_pins}
use Rattle.read_plan.proofs.PinLemmas.{holds_later, changes_from, no_changes}
use Rattle.read_plan.proofs.pinning.pin_each.Goals as goal

pub loop-number-init : goal.loop-number-init
loop-number-init g c = record {
  few = λ k from inside. c.requires.pins (get_or c.args.numbers.now k 0);
  then_all = λ new all. all;
}

pub pin-requires : goal.pin-requires
pin-requires g c =
    few_pins (2 ^ 64)
    (row_of (get_or c.args.numbers.now c.loop-number.number-index 0) c.loop-number.uploads.queue.maps.objects.rows)
    (c.loop-number.invariant.few c.loop-number.number-index (omega arith) (omega arith))

pub loop-number-preserved : goal.loop-number-preserved
loop-number-preserved g c =
    let numbers = c.args.numbers.now in
    let index = c.loop-number.number-index in
    let before = c.loop-number.invariant in
    let e = c.pin.ensures in
    record {
      few = holds_later pinned numbers (λ pins. pins + 1 < 2 ^ 64) index c.loop-number.uploads c.pin.new.self (λ row. refl)
          c.requires.ascending e.pinned before.few;
      then_all = λ new rest. before.then_all new
          (changes_from pinned numbers index c.loop-number.uploads c.pin.new.self new (omega arith) e.pinned e.order_after rest);
    }

pub returns : goal.returns
returns g c =
    c.loop-number.invariant.then_all c.loop-number.uploads
    (no_changes pinned c.args.numbers.now c.loop-number.number-index c.loop-number.uploads (omega arith))
