use Rattle.std.proofs.Common.{ap}
use Rattle.std.specs.Option.{is_some}
use Rattle.lsvd_files.specs.Calls.{IsLeft, ByPath, Removes, MayRemove}
use Rattle.lsvd_files.proofs.Chained.{changes_then, changes_weaker}
use Rattle.lsvd_objstore.specs.Placing.{IsAsked, Sweeps}
use Rattle.lsvd_objstore.proofs.Cleared.{sweeps_left, sweeps_by_path, sweeps_or_not}
use Rattle.lsvd_objstore.proofs.object_files.clear_if_left.Goals as goal

pub returns-in_err-opened : goal.returns-in_err-opened
returns-in_err-opened g c =
    changes_weaker IsLeft Sweeps sweeps_left (g.D.Directory.state c.args.directory.now)
    (g.D.Directory.state c.open_unlocked.new.directory) c.in_err-opened.ensures.err

pub returns-in_default-2 : goal.returns-in_default-2
returns-in_default-2 g c =
    changes_weaker (IsAsked c.args.file.now (is_some c.in_ok-opened.field-0)) Sweeps (λ a b h. sweeps_left a b h.0)
    (g.D.Directory.state c.args.directory.now) (g.D.Directory.state c.open_unlocked.new.directory)
    c.in_ok-opened.ensures.ok

pub returns-in_err-removed : goal.returns-in_err-removed
returns-in_err-removed g c =
    let file = c.args.file.now in
    let is_unlocked = is_some c.in_ok-opened.field-0 in
    changes_then (IsAsked file is_unlocked) (MayRemove file) Sweeps
    (sweeps_or_not c.in-Some.field-0 file c.in-Some.ensures is_unlocked (ap is_some c.in-Some-2.is))
    (g.D.Directory.state c.args.directory.now) (g.D.Directory.state c.open_unlocked.new.directory)
    (g.D.Directory.state c.remove-removed.new.self) c.in_ok-opened.ensures.ok c.in_err-removed.ensures.err

pub returns : goal.returns
returns g c =
    let file = c.args.file.now in
    let is_unlocked = is_some c.in_ok-opened.field-0 in
    let is_removed = c.in_ok-removed.field-0 in
    changes_then (IsAsked file is_unlocked) (λ old new. ByPath (Removes file is_removed old new) old new) Sweeps
    (sweeps_by_path c.in-Some.field-0 file c.in-Some.ensures is_unlocked is_removed (ap is_some c.in-Some-2.is))
    (g.D.Directory.state c.args.directory.now) (g.D.Directory.state c.open_unlocked.new.directory)
    (g.D.Directory.state c.remove-removed.new.self) c.in_ok-opened.ensures.ok c.in_ok-removed.ensures.ok
