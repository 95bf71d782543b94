use Rattle.std.proofs.Common.{rules, ◌≡◌, false, inl, inr, refl}
use Rattle.std.specs.Prelude.{is_some}
use Rattle.std.proofs.lemmas.Result.{on_ok_weaker, on_err_weaker}
use Rattle.lsvd_files.specs.Calls.{after_failed_sync}
use Rattle.lsvd_files.proofs.Chained.{changes_not, changes_weaker}
use Rattle.lsvd_objstore.proofs.Placed.{MaySync, syncs, trusted_by}
use Rattle.lsvd_objstore.proofs.placing.sync_unless.Goals as goal

pub returns-in-Some-clause-err : goal.returns-in-Some-clause-err
returns-in-Some-clause-err g c = changes_not MaySync (λ a. inl refl) (g.D.Directory.state c.args.directory.now)

pub returns-clause-trusted : goal.returns-clause-trusted
returns-clause-trusted g c =
    let none : is_some c.args.failed.now ≡ false = search rules in
    trusted_by c.sync-outcome.result c.err.result (g.D.Directory.state c.args.directory.now)
    (g.D.Directory.state c.sync-outcome.new.self) c.err.ensures.value (rw none at c.requires.trusted) c.sync-outcome.ensures.ok

pub returns-clause-ok : goal.returns-clause-ok
returns-clause-ok g c =
    let none : is_some c.args.failed.now ≡ false = search rules in
    on_ok_weaker c.sync-outcome.result
    (syncs (g.D.Directory.state c.args.directory.now) (g.D.Directory.state c.sync-outcome.new.self)
    (rw none at c.requires.trusted))
    c.sync-outcome.ensures.ok

pub returns-clause-err : goal.returns-clause-err
returns-clause-err g c =
    on_err_weaker c.sync-outcome.result
    (changes_weaker (λ old new. new ≡ after_failed_sync old) MaySync (λ a b e. inr e)
    (g.D.Directory.state c.args.directory.now) (g.D.Directory.state c.sync-outcome.new.self)) c.sync-outcome.ensures.err
