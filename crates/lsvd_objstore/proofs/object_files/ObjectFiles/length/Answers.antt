use Rattle.std.proofs.Common.{◌≡◌}
use Rattle.std.specs.Prelude.{is_some}
use Rattle.lsvd_files.specs.Directory.{DirectoryState}
use Rattle.lsvd_files.specs.Calls.{IsLeft, ByPath, length_under}
use Rattle.lsvd_objstore.proofs.Cleared.{sweeps_left}
use Rattle.lsvd_objstore.proofs.Settling.{known_after, asked_left}
use Rattle.lsvd_objstore.proofs.object_files.ObjectFiles.length.Goals as goal

pub invariant_of-self : goal.invariant_of-self
invariant_of-self g c =
    known_after (is_some c.self.inside.sync_error) c.self.inside.is_unsynced IsLeft sweeps_left
    (g.D.Directory.state c.self.inside.directory) (g.D.Directory.state c.length.new.self) c.in_err-found.ensures.err
    c.self.invariant

pub invariant_of-self-in_err-stands : goal.invariant_of-self-in_err-stands
invariant_of-self-in_err-stands g c =
    let IsFound = λ (old : DirectoryState). c.in_ok-found.found ≡ length_under old c.as_str.result.now in
    known_after (is_some c.self.inside.sync_error) c.self.inside.is_unsynced IsLeft sweeps_left
    (g.D.Directory.state c.length.new.self) (g.D.Directory.state c.stands.new.directory) c.in_err-stands.ensures.err
    (known_after (is_some c.self.inside.sync_error) c.self.inside.is_unsynced
    (λ old new. ByPath ((new ≡ old) × IsFound old) old new) (λ a b h. sweeps_left a b (asked_left IsFound a b h))
    (g.D.Directory.state c.self.inside.directory) (g.D.Directory.state c.length.new.self) c.in_ok-found.ensures.ok
    c.self.invariant)
