use Rattle.std.proofs.Common.{◌≡◌, ◌==◌, get_or, Some, None, sym, ◌∙◌}
use Rattle.std.specs.List.{position}
use Rattle.plain_volume.proofs.PinLists.{not_pinned, pinned_more, without_more}
use Rattle.plain_volume.proofs.pins.without_pins.Goals as goal

pub returns-in_default : goal.returns-in_default
returns-in_default c =
    let number = get_or c.args.numbers.now c.loop-number.number-index 0 in
    let absent : position (λ pin. pin == number) c.loop-number.left.items ≡ None = cc in
    sym c.loop-number.invariant.pinned ∙ not_pinned c.args.numbers.now c.loop-number.left.items c.loop-number.number-index
    c.loop-number-test.true absent

pub loop-number-preserved : goal.loop-number-preserved
loop-number-preserved c =
    let number = get_or c.args.numbers.now c.loop-number.number-index 0 in
    let at : position (λ pin. pin == number) c.loop-number.left.items ≡ Some c.in-Some.place = cc in
    record {
      pinned =
          pinned_more c.args.numbers.now c.loop-number.left.items c.remove.new.self.items c.loop-number.number-index
          c.in-Some.place
          c.loop-number-test.true at c.remove.ensures.items
          ∙ c.loop-number.invariant.pinned;
      others =
          without_more c.args.numbers.now c.loop-number.left.items c.remove.new.self.items c.loop-number.number-index
          c.in-Some.place
          c.loop-number-test.true at c.remove.ensures.items
          ∙ c.loop-number.invariant.others;
    }
