use Rattle.std.proofs.Common.{◌<◌, get_or, refl, arith}
use Rattle.object_table.specs.Table.{row_of, unpinned}
use Rattle.object_uploads.proofs.PinsOf.{some_pins}
use Rattle.read_plan.proofs.PinLemmas.{holds_later, changes_from, no_changes}
use Rattle.read_plan.proofs.pinning.unpin_each.Goals as goal

pub loop-number-init : goal.loop-number-init
loop-number-init g c = record { some = λ k from inside. c.requires.pinned k 0 inside; then_all = λ new all. all }

pub unpin-requires : goal.unpin-requires
unpin-requires g c =
    some_pins (row_of (get_or c.args.numbers.now c.loop-number.number-index 0) c.loop-number.uploads.queue.maps.objects.rows)
    (c.loop-number.invariant.some c.loop-number.number-index (omega arith) (omega arith))

pub loop-number-preserved : goal.loop-number-preserved
loop-number-preserved g c =
    let numbers = c.args.numbers.now in
    let index = c.loop-number.number-index in
    let before = c.loop-number.invariant in
    let e = c.unpin.ensures in
    record {
      some = holds_later unpinned numbers (λ pins. 0 < pins) index c.loop-number.uploads c.unpin.new.self (λ row. refl)
          c.requires.ascending e.unpinned before.some;
      then_all = λ new rest. before.then_all new
          (changes_from unpinned numbers index c.loop-number.uploads c.unpin.new.self new (omega arith) e.unpinned
          e.order_after rest);
    }

pub returns : goal.returns
returns g c =
    c.loop-number.invariant.then_all c.loop-number.uploads
    (no_changes unpinned c.args.numbers.now c.loop-number.number-index c.loop-number.uploads (omega arith))
