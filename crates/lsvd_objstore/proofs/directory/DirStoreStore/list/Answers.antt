use Rattle.std.proofs.Common.{ap, List}
use Rattle.std.specs.Prelude.{IfSome, option_map}
use Rattle.std.proofs.lemmas.Result.{IfOk-weaker}
use Rattle.lsvd_names.specs.declared.name.ObjName.{ObjName}
use Rattle.lsvd_files.specs.Calls.{Changes}
use Rattle.lsvd_files.specs.Kept.{Stays}
use Rattle.lsvd_objstore.specs.Objects.{Lists}
use Rattle.lsvd_objstore.specs.Directory.{Shelf, IsSettled, objects_of}
use Rattle.lsvd_objstore.proofs.Shelved.{as_judged, stays_both, only_counts, lists_before}
use Rattle.lsvd_objstore.proofs.directory.DirStoreStore.list.Goals as goal

pub returns-clause-listed : goal.returns-clause-listed
returns-clause-listed g c =
    let x = c.self.inside.files in
    let y = c.names-outcome.new.self in
    let uuid = c.args.uuid in
    let old = c.args.self.now.directory in
    IfOk-weaker c.judge.result
    (λ (names : List ObjName). Changes (λ before after. Stays before after × IsSettled after
    × Lists uuid (objects_of after) names) x y)
    (λ (names : List ObjName). IfSome (option_map objects_of old) (λ objects. Lists uuid objects names))
    (λ names. lists_before uuid names x y old (ap (λ (it : Shelf). it.directory) c.self.view_is))
    (as_judged c.judge.result c.names-outcome.result (λ (names : List ObjName). Changes (λ before after. Stays before after
    × IsSettled after × Lists uuid (objects_of after) names) x y) c.judge.ensures.value c.names-outcome.ensures.ok)

pub returns-clause-unchanged : goal.returns-clause-unchanged
returns-clause-unchanged g c =
    let x = c.self.inside.files in
    let y = c.names-outcome.new.self in
    only_counts c.args.self.now c.judge.new.self x y (ap (λ (it : Shelf). it.directory) c.self.view_is)
    (ap (λ (it : Shelf). it.directory) c.judge.ensures.unchanged) Stays (λ a b h. h)
    (stays_both c.names-outcome.result (λ (names : List ObjName) after. Lists c.args.uuid (objects_of after) names) x y
    c.names-outcome.ensures.ok c.names-outcome.ensures.err)
