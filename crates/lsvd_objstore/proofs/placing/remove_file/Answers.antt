use Rattle.std.specs.Prelude.{is_some, true}
use Rattle.std.proofs.lemmas.Result.{on_ok_weaker, on_err_weaker}
use Rattle.lsvd_files.specs.Calls.{ByPath, Removes, MayRemove}
use Rattle.lsvd_files.proofs.Chained.{at_error}
use Rattle.lsvd_objstore.proofs.Placed.{trusted_after, trusted_stands}
use Rattle.lsvd_objstore.proofs.Removing.{remove_done, not_removed, remove_not_synced, remove_not_standing}
use Rattle.lsvd_objstore.proofs.Removing.{removes_doubted, may_remove_doubted}
use Rattle.lsvd_objstore.proofs.placing.remove_file.Goals as goal

pub returns-in_err-remove-clause-trusted : goal.returns-in_err-remove-clause-trusted
returns-in_err-remove-clause-trusted g c =
    trusted_after (is_some c.args.failed.now) (MayRemove c.args.name.now) (may_remove_doubted c.args.name.now)
    (g.D.Directory.state c.args.directory.now) (g.D.Directory.state c.remove.new.self) c.in_err-remove.ensures.err
    c.requires.trusted

pub returns-in_err-remove-clause-err : goal.returns-in_err-remove-clause-err
returns-in_err-remove-clause-err g c =
    let x = g.D.Directory.state c.args.directory.now in
    let y = g.D.Directory.state c.remove.new.self in
    at_error c.from_residual.result (not_removed c.args.name.now true x y y y c.in_err-remove.ensures.err)

pub sync_unless-requires : goal.sync_unless-requires
sync_unless-requires g c = record {
  trusted = trusted_after (is_some c.args.failed.now)
      (λ old new. ByPath (Removes c.args.name.now c.in_ok-remove.field-0 old new) old new)
      (removes_doubted c.args.name.now c.in_ok-remove.field-0) (g.D.Directory.state c.args.directory.now)
      (g.D.Directory.state c.remove.new.self) c.in_ok-remove.ensures.ok c.requires.trusted;
}

pub returns-in_err-sync_unless-clause-err : goal.returns-in_err-sync_unless-clause-err
returns-in_err-sync_unless-clause-err g c =
    let x = g.D.Directory.state c.args.directory.now in
    let y = g.D.Directory.state c.remove.new.self in
    let z = g.D.Directory.state c.sync_unless.new.directory in
    at_error c.from_residual-in_err-sync_unless.result (remove_not_synced c.args.name.now c.in_ok-remove.field-0 x y z z
    c.in_ok-remove.ensures.ok c.in_err-sync_unless.ensures.err)

pub returns-clause-trusted : goal.returns-clause-trusted
returns-clause-trusted g c =
    trusted_stands c.stands.result (is_some c.sync_unless.new.failed) (g.D.Directory.state c.sync_unless.new.directory)
    (g.D.Directory.state c.stands.new.directory) c.stands.ensures.ok c.stands.ensures.err c.in_ok-sync_unless.ensures.trusted

pub returns-clause-ok : goal.returns-clause-ok
returns-clause-ok g c =
    on_ok_weaker c.stands.result
    (remove_done c.args.name.now c.in_ok-remove.field-0 (g.D.Directory.state c.args.directory.now)
    (g.D.Directory.state c.remove.new.self) (g.D.Directory.state c.sync_unless.new.directory)
    (g.D.Directory.state c.stands.new.directory) c.in_ok-remove.ensures.ok c.in_ok-sync_unless.ensures.ok) c.stands.ensures.ok

pub returns-clause-err : goal.returns-clause-err
returns-clause-err g c =
    on_err_weaker c.stands.result
    (remove_not_standing c.args.name.now c.in_ok-remove.field-0 (g.D.Directory.state c.args.directory.now)
    (g.D.Directory.state c.remove.new.self) (g.D.Directory.state c.sync_unless.new.directory)
    (g.D.Directory.state c.stands.new.directory) c.in_ok-remove.ensures.ok c.in_ok-sync_unless.ensures.ok) c.stands.ensures.err
