use Rattle.std.proofs.Common.{◌≡◌, Bool, false}
use Rattle.std.specs.Prelude.{IsTrue, IfSome, slice_get}
use Rattle.lsvd_files.specs.Directory.{FileState, DirectoryState}
use Rattle.lsvd_objstore.proofs.Placed.{not_locked}
use Rattle.lsvd_objstore.proofs.placing.try_to_lock.Goals as goal

pub returns : goal.returns
returns g c =
    not_locked c.lock.result
    (λ (is_locked : Bool) (old : DirectoryState). IsTrue is_locked
    → IfSome (slice_get old.files (g.D.Directory.number c.args.file.now)) (λ (file : FileState). file.locked ≡ false))
    (g.D.Directory.state c.args.directory.now) (g.D.Directory.state c.lock.new.self) c.lock.ensures.ok c.lock.ensures.err
