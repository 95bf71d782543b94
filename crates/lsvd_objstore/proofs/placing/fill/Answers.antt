use Rattle.std.proofs.Common.{◌≡◌}
use Rattle.std.proofs.lemmas.Result.{on_ok_weaker, on_err_weaker}
use Rattle.lsvd_files.specs.Calls.{with_file, synced_file, doubted_file}
use Rattle.lsvd_files.specs.Written.{filled}
use Rattle.lsvd_files.proofs.Chained.{at_error, changes_then, changes_after}
use Rattle.lsvd_objstore.specs.Placing.{Writes, Touches}
use Rattle.lsvd_objstore.proofs.Placed.{fills, touches_more}
use Rattle.lsvd_objstore.proofs.placing.fill.Goals as goal

pub returns-in_err-write_pieces-clause-err : goal.returns-in_err-write_pieces-clause-err
returns-in_err-write_pieces-clause-err g c =
    at_error c.from_residual.result (changes_after (Touches (g.D.Directory.number c.args.file.now))
    (g.D.Directory.state c.args.directory.now) (g.D.Directory.state c.try_to_lock.new.directory)
    (g.D.Directory.state c.write_pieces.new.directory) c.try_to_lock.ensures c.in_err-write_pieces.ensures.err)

pub returns-clause-ok : goal.returns-clause-ok
returns-clause-ok g c =
    let number = g.D.Directory.number c.args.file.now in
    let other = g.D.Directory.number c.write_pieces.new.file in
    on_ok_weaker c.sync_file.result
    (changes_then (Writes number c.args.bytes.now) (λ old new. new ≡ with_file other synced_file old)
    (λ old new. new ≡ with_file number (filled c.args.bytes.now) old)
    (λ a b d. fills number other c.args.bytes.now a b d c.in_ok-write_pieces.ensures.same)
    (g.D.Directory.state c.args.directory.now) (g.D.Directory.state c.write_pieces.new.directory)
    (g.D.Directory.state c.sync_file.new.self)
    (changes_after (Writes number c.args.bytes.now) (g.D.Directory.state c.args.directory.now)
    (g.D.Directory.state c.try_to_lock.new.directory) (g.D.Directory.state c.write_pieces.new.directory)
    c.try_to_lock.ensures c.in_ok-write_pieces.ensures.ok)) c.sync_file.ensures.ok

pub returns-clause-err : goal.returns-clause-err
returns-clause-err g c =
    let number = g.D.Directory.number c.args.file.now in
    let other = g.D.Directory.number c.write_pieces.new.file in
    on_err_weaker c.sync_file.result
    (changes_then (Writes number c.args.bytes.now) (λ old new. new ≡ with_file other doubted_file old) (Touches number)
    (λ a b d. touches_more number other c.args.bytes.now doubted_file a b d c.in_ok-write_pieces.ensures.same)
    (g.D.Directory.state c.args.directory.now) (g.D.Directory.state c.write_pieces.new.directory)
    (g.D.Directory.state c.sync_file.new.self)
    (changes_after (Writes number c.args.bytes.now) (g.D.Directory.state c.args.directory.now)
    (g.D.Directory.state c.try_to_lock.new.directory) (g.D.Directory.state c.write_pieces.new.directory)
    c.try_to_lock.ensures c.in_ok-write_pieces.ensures.ok)) c.sync_file.ensures.err
