use Rattle.lsvd_objstore.proofs.Placed.{forgotten}
use Rattle.lsvd_objstore.proofs.placing.forget.Goals as goal

pub returns : goal.returns
returns g c =
    forgotten c.remove.result c.args.temporary.now (g.D.Directory.state c.args.directory.now)
    (g.D.Directory.state c.remove.new.self) c.remove.ensures.ok c.remove.ensures.err
