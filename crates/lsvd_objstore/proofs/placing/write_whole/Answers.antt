use Rattle.std.proofs.Common.{◌≡◌}
use Rattle.lsvd_files.specs.Calls.{with_file}
use Rattle.lsvd_files.specs.Written.{filled}
use Rattle.lsvd_files.proofs.Chained.{at_error, changes_then}
use Rattle.lsvd_objstore.specs.Placing.{Scratches, Touches, MakesAnew, MakesWhole}
use Rattle.lsvd_objstore.proofs.Placed.{makes_whole, makes_part}
use Rattle.lsvd_objstore.proofs.placing.write_whole.Goals as goal

pub returns-in_err-file-clause-err : goal.returns-in_err-file-clause-err
returns-in_err-file-clause-err g c =
    at_error c.from_residual.result c.in_err-file.ensures.err

pub returns-in-Ok-clause-ok : goal.returns-in-Ok-clause-ok
returns-in-Ok-clause-ok g c =
    let number = g.D.Directory.number c.in_ok-file.file in
    let after = g.D.Directory.number c.fill.new.file in
    changes_then (MakesAnew c.args.temporary.now number) (λ old new. new ≡ with_file number (filled c.args.bytes.now) old)
    (MakesWhole c.args.temporary.now c.args.bytes.now after)
    (λ a b d. makes_whole c.args.temporary.now c.args.bytes.now number after a b d c.in-Ok.ensures.same)
    (g.D.Directory.state c.args.directory.now) (g.D.Directory.state c.make_anew.new.directory)
    (g.D.Directory.state c.fill.new.directory) c.in_ok-file.ensures.ok c.in-Ok.ensures.ok

pub returns-in-Err-clause-err : goal.returns-in-Err-clause-err
returns-in-Err-clause-err g c =
    let number = g.D.Directory.number c.in_ok-file.file in
    changes_then (MakesAnew c.args.temporary.now number) (Touches number) (Scratches c.args.temporary.now)
    (makes_part c.args.temporary.now number) (g.D.Directory.state c.args.directory.now)
    (g.D.Directory.state c.make_anew.new.directory) (g.D.Directory.state c.fill.new.directory) c.in_ok-file.ensures.ok
    c.in-Err.ensures.err
