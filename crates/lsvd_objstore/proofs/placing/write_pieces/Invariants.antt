use Rattle.std.proofs.Common.{◌≡◌, ◌-◌, ◌≤◌, length, take}
use Rattle.lsvd_files.specs.Calls.{Changes}
use Rattle.lsvd_objstore.specs.Placing.{Writes}
use Rattle.lsvd_objstore.proofs.placing.write_pieces.Given as goal

abbrev pub invariant-loop-at : goal.invariant-loop-at
invariant-loop-at g l = record {
  same : g.D.Directory.number l.file ≡ g.D.Directory.number l.fn.file;
  inside : l.at ≤ length l.bytes;
  wrote : Changes (Writes (g.D.Directory.number l.fn.file) (take l.at l.bytes)) (g.D.Directory.state l.fn.directory)
      (g.D.Directory.state l.directory);
}

abbrev pub decreases-loop-at : goal.decreases-loop-at
decreases-loop-at g l = length l.bytes - l.at
