use Rattle.volume_maps.proofs.LossLemmas.{lose_fits, lost_more, same_more, lost_none, lost_all, after_loss-spare}
use Rattle.volume_maps.proofs.TableLemmas.{same_table}
use Rattle.std.proofs.Common.{◌+◌, ◌-◌, refl, ◌∙◌, arith}
use Rattle.volume_maps.proofs.settled.lose_sectors.Goals as goal

pub loop-row-init : goal.loop-row-init
loop-row-init c = record {
  range = refl;
  low = omega arith;
  high = omega arith;
  lost = lost_none c.args.settled.now.rows c.args.lba c.args.objects.now c.requires.kept;
  same = same_table c.args.objects.now;
  object_spare = refl;
}

pub lose_row-requires : goal.lose_row-requires
lose_row-requires c =
    let l = c.loop-row in
    lose_fits c.args.settled.now.rows c.args.lba l.from (c.args.lba + c.args.sectors - l.from) c.in-Some.row l.invariant.low
    c.in-Some.ensures.row c.args.objects.now l.objects c.requires.kept l.invariant.same l.invariant.lost

pub loop-row-preserved : goal.loop-row-preserved
loop-row-preserved c =
    let l = c.loop-row in
    let lba = c.args.lba in
    let rest = lba + c.args.sectors - l.from in
    let rows = c.args.settled.now.rows in
    let row = c.in-Some.row in
    let starts = c.in-Some.ensures.row in
    rw c.lose_row.ensures (record {
      range = refl;
      low = omega (arith, starts.from, l.invariant.low);
      high = omega (arith, starts.to, l.invariant.high);
      lost = lost_more rows lba l.from rest row l.invariant.low starts c.args.objects.now l.objects c.requires.kept
          l.invariant.same l.invariant.lost;
      same = same_more rows lba l.from rest row l.invariant.low starts c.args.objects.now l.objects c.requires.kept
          l.invariant.same l.invariant.lost;
      object_spare = after_loss-spare row l.objects ∙ l.invariant.object_spare;
    })

pub returns-clause-lost : goal.returns-clause-lost
returns-clause-lost c =
    let l = c.loop-row in
    lost_all c.args.settled.now.rows c.args.lba l.from c.args.sectors l.objects l.invariant.low l.invariant.high
    (c.in_default.ensures.none.0 refl)
    l.invariant.lost
