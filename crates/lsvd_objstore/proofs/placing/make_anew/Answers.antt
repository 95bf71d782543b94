use Rattle.std.proofs.lemmas.Result.{IfOk-weaker, on_err_weaker}
use Rattle.lsvd_files.specs.Calls.{Changes, Makes, MayMake}
use Rattle.lsvd_files.proofs.Chained.{changes_three, changes_weaker}
use Rattle.lsvd_objstore.specs.Placing.{Scratches, MakesAnew}
use Rattle.lsvd_objstore.proofs.Placed.{makes_not, makes_at_once, makes_again, makes_not_again}
use Rattle.lsvd_objstore.proofs.placing.make_anew.Goals as goal

pub returns-in-Ok-clause-ok : goal.returns-in-Ok-clause-ok
returns-in-Ok-clause-ok g c =
    let file = g.D.Directory.number c.in-Ok.file in
    changes_weaker (Makes c.args.temporary.now file) (MakesAnew c.args.temporary.now file)
    (makes_at_once c.args.temporary.now file) (g.D.Directory.state c.args.directory.now)
    (g.D.Directory.state c.make.new.self) c.in-Ok.ensures.ok

pub returns-in-Err-clause-ok : goal.returns-in-Err-clause-ok
returns-in-Err-clause-ok g c =
    let name = c.args.temporary.now in
    let x = g.D.Directory.state c.args.directory.now in
    let w = g.D.Directory.state c.make-in-Err.new.self in
    IfOk-weaker c.make-in-Err.result
    (λ file. Changes (Makes name (g.D.Directory.number file)) (g.D.Directory.state c.forget.new.directory) w)
    (λ file. Changes (MakesAnew name (g.D.Directory.number file)) x w)
    (λ file. changes_three (MayMake name) (Scratches name) (Makes name (g.D.Directory.number file))
    (MakesAnew name (g.D.Directory.number file)) (makes_again name (g.D.Directory.number file)) x
    (g.D.Directory.state c.make.new.self) (g.D.Directory.state c.forget.new.directory) w c.in-Err.ensures.err
    c.forget.ensures) c.make-in-Err.ensures.ok

pub returns-in-Err-clause-err : goal.returns-in-Err-clause-err
returns-in-Err-clause-err g c =
    let name = c.args.temporary.now in
    on_err_weaker c.make-in-Err.result
    (changes_three (MayMake name) (Scratches name) (MayMake name) (Scratches name) (makes_not_again name)
    (g.D.Directory.state c.args.directory.now) (g.D.Directory.state c.make.new.self)
    (g.D.Directory.state c.forget.new.directory) (g.D.Directory.state c.make-in-Err.new.self) c.in-Err.ensures.err
    c.forget.ensures) c.make-in-Err.ensures.err

pub returns-in-Err-2-clause-err : goal.returns-in-Err-2-clause-err
returns-in-Err-2-clause-err g c =
    let name = c.args.temporary.now in
    changes_weaker (MayMake name) (Scratches name) (makes_not name) (g.D.Directory.state c.args.directory.now)
    (g.D.Directory.state c.make.new.self) c.in-Err.ensures.err
