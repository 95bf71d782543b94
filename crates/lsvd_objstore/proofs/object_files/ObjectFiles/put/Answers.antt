use Rattle.lsvd_files.proofs.Chained.{at_error, changes_not}
use Rattle.lsvd_objstore.specs.Directory.{MayPutObject}
use Rattle.lsvd_objstore.proofs.Placed.{put_not_begun}
use Rattle.lsvd_objstore.proofs.object_files.ObjectFiles.put.Goals as goal

pub returns-in_err-spelled-clause-err : goal.returns-in_err-spelled-clause-err
returns-in_err-spelled-clause-err g c =
    at_error c.from_residual.result (changes_not (MayPutObject c.args.name.now c.args.bytes.now)
    (put_not_begun c.args.name.now c.args.bytes.now c.requires) c.args.self.now)

pub returns-in_err-temporary-clause-err : goal.returns-in_err-temporary-clause-err
returns-in_err-temporary-clause-err g c =
    at_error c.from_residual-in_err-temporary.result (changes_not (MayPutObject c.args.name.now c.args.bytes.now)
    (put_not_begun c.args.name.now c.args.bytes.now c.requires) c.args.self.now)
