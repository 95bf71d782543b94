use Rattle.std.proofs.Common.{inr}
use Rattle.std.proofs.lemmas.Result.{on_ok_weaker, on_err_weaker}
use Rattle.lsvd_files.specs.Calls.{ByPath, Renames, MayRename}
use Rattle.lsvd_files.proofs.Chained.{at_error, changes_then, changes_weaker}
use Rattle.lsvd_objstore.specs.Placing.{Scratches, MakesWhole, Places, MayPlace}
use Rattle.lsvd_objstore.proofs.Placed.{places, places_not}
use Rattle.lsvd_objstore.proofs.placing.place.Goals as goal

pub returns-in_err-file-clause-err : goal.returns-in_err-file-clause-err
returns-in_err-file-clause-err g c =
    at_error c.from_residual.result (changes_weaker (Scratches c.args.temporary.now)
    (MayPlace c.args.temporary.now c.args.name.now c.args.bytes.now) (λ a b h. inr h)
    (g.D.Directory.state c.args.directory.now) (g.D.Directory.state c.write_whole.new.directory)
    c.in_err-file.ensures.err)

pub returns-clause-ok : goal.returns-clause-ok
returns-clause-ok g c =
    let number = g.D.Directory.number c.in_ok-file.file in
    on_ok_weaker c.rename-renamed.result
    (changes_then (MakesWhole c.args.temporary.now c.args.bytes.now number)
    (λ old new. ByPath (Renames c.args.temporary.now c.args.name.now old new) old new)
    (Places c.args.temporary.now c.args.name.now c.args.bytes.now)
    (places c.args.temporary.now c.args.name.now c.args.bytes.now c.requires.apart number)
    (g.D.Directory.state c.args.directory.now) (g.D.Directory.state c.write_whole.new.directory)
    (g.D.Directory.state c.rename-renamed.new.self) c.in_ok-file.ensures.ok) c.rename-renamed.ensures.ok

pub returns-clause-err : goal.returns-clause-err
returns-clause-err g c =
    let number = g.D.Directory.number c.in_ok-file.file in
    on_err_weaker c.rename-renamed.result
    (changes_then (MakesWhole c.args.temporary.now c.args.bytes.now number)
    (MayRename c.args.temporary.now c.args.name.now) (MayPlace c.args.temporary.now c.args.name.now c.args.bytes.now)
    (places_not c.args.temporary.now c.args.name.now c.args.bytes.now c.requires.apart number)
    (g.D.Directory.state c.args.directory.now) (g.D.Directory.state c.write_whole.new.directory)
    (g.D.Directory.state c.rename-renamed.new.self) c.in_ok-file.ensures.ok) c.rename-renamed.ensures.err
