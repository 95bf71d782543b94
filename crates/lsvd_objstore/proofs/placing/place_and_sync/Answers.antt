use Rattle.std.specs.Prelude.{is_some}
use Rattle.std.proofs.Common.{ap}
use Rattle.std.proofs.lemmas.Result.{on_ok_weaker, on_err_weaker}
use Rattle.lsvd_files.specs.Directory.{DirectoryState}
use Rattle.lsvd_files.specs.Calls.{IsLeft}
use Rattle.lsvd_files.proofs.Chained.{at_error}
use Rattle.lsvd_objstore.specs.Placing.{MayPlace}
use Rattle.lsvd_objstore.proofs.Placed.{put_done, not_placed, not_synced, not_standing, trusted_after, left_doubted, Stands}
use Rattle.lsvd_objstore.proofs.Placed.{placed_doubted, trusted_placed}
use Rattle.lsvd_objstore.proofs.placing.place_and_sync.Goals as goal

pub returns-in_err-place-clause-trusted : goal.returns-in_err-place-clause-trusted
returns-in_err-place-clause-trusted g c =
    let put = placed_doubted c.args.temporary.now c.args.name.now c.args.bytes.now c.requires.apart in
    trusted_after (is_some c.args.failed.now) (MayPlace c.args.temporary.now c.args.name.now c.args.bytes.now) put
    (g.D.Directory.state c.args.directory.now) (g.D.Directory.state c.place.new.directory) c.in_err-place.ensures.err
    c.requires.trusted

pub returns-in_err-place-clause-err : goal.returns-in_err-place-clause-err
returns-in_err-place-clause-err g c =
    let x = g.D.Directory.state c.args.directory.now in
    let y = g.D.Directory.state c.place.new.directory in
    at_error c.from_residual.result
    (not_placed c.args.temporary.now c.args.name.now c.args.bytes.now c.requires.apart x y y y c.in_err-place.ensures.err)

pub returns-in_err-stands-clause-trusted : goal.returns-in_err-stands-clause-trusted
returns-in_err-stands-clause-trusted g c =
    trusted_after (is_some c.args.failed.now) IsLeft left_doubted (g.D.Directory.state c.place.new.directory)
    (g.D.Directory.state c.stands.new.directory) c.in_err-stands.ensures.err
    (trusted_placed (is_some c.args.failed.now) c.args.temporary.now c.args.name.now c.args.bytes.now c.requires.apart
    (g.D.Directory.state c.args.directory.now) (g.D.Directory.state c.place.new.directory) c.in_ok-place.ensures.ok
    c.requires.trusted)

pub returns-in_err-stands-clause-err : goal.returns-in_err-stands-clause-err
returns-in_err-stands-clause-err g c =
    let z = g.D.Directory.state c.stands.new.directory in
    at_error c.from_residual-in_err-stands.result
    (not_standing c.args.temporary.now c.args.name.now c.args.bytes.now c.requires.apart
    (g.D.Directory.state c.args.directory.now) (g.D.Directory.state c.place.new.directory) z z c.in_ok-place.ensures.ok
    c.in_err-stands.ensures.err)

pub sync_unless-requires : goal.sync_unless-requires
sync_unless-requires g c = record {
  trusted = trusted_after (is_some c.args.failed.now) Stands (λ a b h. ap (λ (it : DirectoryState). it.doubted) h.0)
      (g.D.Directory.state c.place.new.directory) (g.D.Directory.state c.stands.new.directory) c.in_ok-stands.ensures.ok
      (trusted_placed (is_some c.args.failed.now) c.args.temporary.now c.args.name.now c.args.bytes.now c.requires.apart
      (g.D.Directory.state c.args.directory.now) (g.D.Directory.state c.place.new.directory) c.in_ok-place.ensures.ok
      c.requires.trusted);
}

pub returns-clause-ok : goal.returns-clause-ok
returns-clause-ok g c =
    on_ok_weaker c.sync_unless.result
    (put_done c.args.temporary.now c.args.name.now c.args.bytes.now c.requires.apart
    (g.D.Directory.state c.args.directory.now) (g.D.Directory.state c.place.new.directory)
    (g.D.Directory.state c.stands.new.directory) (g.D.Directory.state c.sync_unless.new.directory)
    c.in_ok-place.ensures.ok c.in_ok-stands.ensures.ok) c.sync_unless.ensures.ok

pub returns-clause-err : goal.returns-clause-err
returns-clause-err g c =
    on_err_weaker c.sync_unless.result
    (not_synced c.args.temporary.now c.args.name.now c.args.bytes.now c.requires.apart
    (g.D.Directory.state c.args.directory.now) (g.D.Directory.state c.place.new.directory)
    (g.D.Directory.state c.stands.new.directory) (g.D.Directory.state c.sync_unless.new.directory)
    c.in_ok-place.ensures.ok c.in_ok-stands.ensures.ok) c.sync_unless.ensures.err
