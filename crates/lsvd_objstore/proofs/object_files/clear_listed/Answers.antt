use Rattle.lsvd_files.proofs.Chained.{changes_not, changes_then}
use Rattle.lsvd_objstore.specs.Placing.{Sweeps}
use Rattle.lsvd_objstore.proofs.Cleared.{sweeps_same, sweeps_twice}
use Rattle.lsvd_objstore.proofs.object_files.clear_listed.Goals as goal

pub loop-file-init : goal.loop-file-init
loop-file-init g c = changes_not Sweeps sweeps_same (g.D.Directory.state c.args.directory.now)

pub returns-in_err-clear_if_left : goal.returns-in_err-clear_if_left
returns-in_err-clear_if_left g c =
    changes_then Sweeps Sweeps Sweeps sweeps_twice (g.D.Directory.state c.args.directory.now)
    (g.D.Directory.state c.loop-file.directory) (g.D.Directory.state c.clear_if_left.new.directory) c.loop-file.invariant
    c.clear_if_left.ensures

pub loop-file-preserved : goal.loop-file-preserved
loop-file-preserved g c =
    changes_then Sweeps Sweeps Sweeps sweeps_twice (g.D.Directory.state c.args.directory.now)
    (g.D.Directory.state c.loop-file.directory) (g.D.Directory.state c.clear_if_left.new.directory) c.loop-file.invariant
    c.clear_if_left.ensures
