use Rattle.std.proofs.Common.{◌≡◌, ◌+◌, true, ◌∙◌, arith, rules}
use Rattle.object_stream.specs.Plain.{numbers_of}
use Rattle.plain_volume.proofs.LandedNumbers.{landed_more}
use Rattle.plain_volume.proofs.landed.landed_after.Goals as goal

pub loop-preserved : goal.loop-preserved
loop-preserved c =
    let has : numbers_of c.args.landed.now (c.loop.last + 1) ≡ true = search rules in
    record {
      at = omega (arith, c.loop.invariant.at);
      rest = landed_more (numbers_of c.args.landed.now) c.loop.last c.args.count c.loop.counter (omega arith) has
          ∙ c.loop.invariant.rest;
    }
