use Rattle.std.specs.Prelude.{is_some}
use Rattle.lsvd_objstore.specs.Placing.{Sweeps}
use Rattle.lsvd_objstore.proofs.Settling.{known_after, cleared_from}
use Rattle.lsvd_objstore.proofs.object_files.ObjectFiles.clear.Goals as goal

pub invariant_of-self : goal.invariant_of-self
invariant_of-self g c =
    known_after (is_some c.self.inside.sync_error) c.self.inside.is_unsynced Sweeps (λ a b h. h)
    (g.D.Directory.state c.self.inside.directory) (g.D.Directory.state c.clear_all.new.directory) c.clear_all.ensures
    c.self.invariant

pub returns-in_err-clear_all : goal.returns-in_err-clear_all
returns-in_err-clear_all g c =
    cleared_from (g.D.Directory.state c.self.inside.directory) c.args.self.now
    (g.D.Directory.state c.clear_all.new.directory) c.self.view_is c.clear_all.ensures

pub invariant_of-self-2 : goal.invariant_of-self-2
invariant_of-self-2 g c =
    known_after (is_some c.self.inside.sync_error) c.self.inside.is_unsynced Sweeps (λ a b h. h)
    (g.D.Directory.state c.self.inside.directory) (g.D.Directory.state c.clear_all.new.directory) c.clear_all.ensures
    c.self.invariant

pub returns : goal.returns
returns g c =
    cleared_from (g.D.Directory.state c.self.inside.directory) c.args.self.now
    (g.D.Directory.state c.clear_all.new.directory) c.self.view_is c.clear_all.ensures
