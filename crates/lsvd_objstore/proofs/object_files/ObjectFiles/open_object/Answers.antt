use Rattle.std.specs.Prelude.{is_some}
use Rattle.lsvd_files.specs.Calls.{IsLeft}
use Rattle.lsvd_objstore.proofs.Cleared.{sweeps_left}
use Rattle.lsvd_objstore.proofs.Settling.{known_after}
use Rattle.lsvd_objstore.proofs.object_files.ObjectFiles.open_object.Goals as goal

pub invariant_of-self : goal.invariant_of-self
invariant_of-self g c =
    known_after (is_some c.self.inside.sync_error) c.self.inside.is_unsynced IsLeft sweeps_left
    (g.D.Directory.state c.self.inside.directory) (g.D.Directory.state c.open_file.new.directory) c.open_file.ensures
    c.self.invariant

pub invariant_of-self-2 : goal.invariant_of-self-2
invariant_of-self-2 g c =
    known_after (is_some c.self.inside.sync_error) c.self.inside.is_unsynced IsLeft sweeps_left
    (g.D.Directory.state c.self.inside.directory) (g.D.Directory.state c.open_file.new.directory) c.open_file.ensures
    c.self.invariant
