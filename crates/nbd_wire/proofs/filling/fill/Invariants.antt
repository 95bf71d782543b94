use Rattle.std.proofs.Common.{◌≡◌, ◌≤◌, ◌-◌, length, take}
use Rattle.std.specs.Io.KnownBytes.{Consumes}
use Rattle.nbd_wire.proofs.filling.fill.Given as goal

abbrev pub invariant-loop-filled : goal.invariant-loop-filled
invariant-loop-filled g l = record {
  read : Consumes (g.K.Source.remaining l.fn.link) (g.K.Source.remaining l.link) (take l.filled l.buf);
  within : l.filled ≤ length l.buf;
  other : g.K.Source.written l.link ≡ g.K.Source.written l.fn.link;
  none_failed : g.K.Source.faults l.link ≡ g.K.Source.faults l.fn.link;
}

abbrev pub decreases-loop-filled : goal.decreases-loop-filled
decreases-loop-filled g l = length l.buf - l.filled
