use Rattle.std.proofs.Common.{◌≡◌}
use Rattle.nbd_wire.proofs.ReadingLemmas.{IsPartRead}
use Rattle.nbd_wire.proofs.reading.drop_pieces.Given as goal

abbrev pub invariant-loop-left : goal.invariant-loop-left
invariant-loop-left g l = record {
  part : IsPartRead l.size l.left (g.K.Source.remaining l.fn.link) (g.K.Source.remaining l.link);
  other : g.K.Source.written l.link ≡ g.K.Source.written l.fn.link;
  none_failed : g.K.Source.faults l.link ≡ g.K.Source.faults l.fn.link;
}

abbrev pub decreases-loop-left : goal.decreases-loop-left
decreases-loop-left g l = l.left
