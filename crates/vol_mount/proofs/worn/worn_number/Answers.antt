use Rattle.std.proofs.Common.{arith}
use Rattle.vol_mount.proofs.WornLemmas.{none_low, one_more_low, all_low, first_great}
use Rattle.vol_mount.proofs.worn.worn_number.Goals as goal

pub loop-number-init : goal.loop-number-init
loop-number-init c = none_low c.args.numbers.now

pub loop-number-preserved : goal.loop-number-preserved
loop-number-preserved c =
    one_more_low c.loop-number.number-index c.args.numbers.now c.loop-number.invariant c.if-number-ge-WORN.false
    c.loop-number-test.true

pub returns-then-number-ge-WORN-clause-some : goal.returns-then-number-ge-WORN-clause-some
returns-then-number-ge-WORN-clause-some c =
    first_great c.args.numbers.now c.loop-number.number-index c.loop-number.invariant c.loop-number-test.true
    c.if-number-ge-WORN.true

pub returns-clause-none : goal.returns-clause-none
returns-clause-none c = all_low c.loop-number.number-index c.args.numbers.now c.loop-number.invariant (omega arith)
