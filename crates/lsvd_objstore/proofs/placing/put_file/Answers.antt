use Rattle.std.specs.Prelude.{is_some}
use Rattle.lsvd_objstore.specs.Placing.{Scratches}
use Rattle.lsvd_objstore.proofs.Placed.{cleaned_put, trusted_after}
use Rattle.lsvd_objstore.proofs.placing.put_file.Goals as goal

pub returns-in-Err-clause-trusted : goal.returns-in-Err-clause-trusted
returns-in-Err-clause-trusted g c =
    trusted_after (is_some c.place_and_sync.new.failed) (Scratches c.args.temporary.now) (λ a b h. h.doubted)
    (g.D.Directory.state c.place_and_sync.new.directory) (g.D.Directory.state c.forget.new.directory) c.forget.ensures
    c.in-Err.ensures.trusted

pub returns-in-Err-clause-err : goal.returns-in-Err-clause-err
returns-in-Err-clause-err g c =
    let z = g.D.Directory.state c.forget.new.directory in
    cleaned_put c.args.temporary.now c.args.name.now c.args.bytes.now c.requires.apart
    (g.D.Directory.state c.args.directory.now) (g.D.Directory.state c.place_and_sync.new.directory) z z
    c.in-Err.ensures.err c.forget.ensures
