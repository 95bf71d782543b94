use Rattle.std.proofs.Common.{◌-◌, ◌≤◌}
use Rattle.lsvd_device.specs.RawFile.{Alters}
use Rattle.lsvd_device.specs.Held.{HasLooseZeros}
use Rattle.lsvd_device.proofs.file.add_zeros.Given as goal

abbrev pub invariant-loop-at : goal.invariant-loop-at
invariant-loop-at g l = record {
  inside : l.at ≤ l.len;
  zeros : Alters (λ _ new. HasLooseZeros l.at new) (g.F.RawFile.state l.fn.file) (g.F.RawFile.state l.file);
}

abbrev pub decreases-loop-at : goal.decreases-loop-at
decreases-loop-at g l = l.len - l.at
