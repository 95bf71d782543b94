use Rattle.lsvd_files.specs.Calls.{Changes}
use Rattle.lsvd_objstore.specs.Placing.{Sweeps}
use Rattle.lsvd_objstore.proofs.object_files.clear_listed.Given as goal

abbrev pub invariant-loop-file : goal.invariant-loop-file
invariant-loop-file g l = Changes Sweeps (g.D.Directory.state l.fn.directory) (g.D.Directory.state l.directory)
