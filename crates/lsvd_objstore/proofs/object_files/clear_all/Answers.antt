use Rattle.std.proofs.Common.{◌≡◌}
use Rattle.lsvd_files.specs.Directory.{DirectoryState}
use Rattle.lsvd_files.specs.Calls.{IsLeft, ByPath, AreNames}
use Rattle.lsvd_files.proofs.Chained.{changes_then, changes_weaker}
use Rattle.lsvd_objstore.specs.Placing.{Sweeps}
use Rattle.lsvd_objstore.proofs.Cleared.{sweeps_left, sweeps_twice}
use Rattle.lsvd_objstore.proofs.Settling.{asked_left}
use Rattle.lsvd_objstore.proofs.object_files.clear_all.Goals as goal

pub returns-in_err-files : goal.returns-in_err-files
returns-in_err-files g c =
    changes_weaker IsLeft Sweeps sweeps_left (g.D.Directory.state c.args.directory.now) (g.D.Directory.state c.names.new.self)
    c.in_err-files.ensures.err

pub returns : goal.returns
returns g c =
    let AreListed = λ (old : DirectoryState). AreNames old c.in_ok-files.files in
    changes_then (λ old new. ByPath ((new ≡ old) × AreListed old) old new) Sweeps Sweeps
    (λ a b d h k. sweeps_twice a b d (sweeps_left a b (asked_left AreListed a b h)) k)
    (g.D.Directory.state c.args.directory.now) (g.D.Directory.state c.names.new.self)
    (g.D.Directory.state c.clear_listed.new.directory) c.in_ok-files.ensures.ok c.clear_listed.ensures
