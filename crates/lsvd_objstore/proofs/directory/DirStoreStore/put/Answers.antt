use Rattle.std.proofs.Common.{ap, subst, ℕ, List}
use Rattle.lsvd_files.specs.Calls.{Changes}
use Rattle.lsvd_objstore.specs.Objects.{IsPut, MayBePut}
use Rattle.lsvd_objstore.specs.Directory.{Shelf, PutsObject, MayPutObject}
use Rattle.lsvd_objstore.proofs.Shelved.{at_value, at_failure, between, becomes_put, becomes_may_be_put}
use Rattle.lsvd_objstore.proofs.directory.DirStoreStore.put.Goals as goal

pub returns-in_err-judge-clause-failed : goal.returns-in_err-judge-clause-failed
returns-in_err-judge-clause-failed g c = λ _.
    let x = c.self.inside.files in
    let y = c.put-outcome.new.self in
    let name = c.args.name.now in
    let put = at_failure c.put-outcome.result c.in_err-judge.ensures.value c.put-outcome.ensures.err in
    between c.args.self.now c.judge.new.self x y (ap (λ (it : Shelf). it.directory) c.self.view_is)
    (ap (λ (it : Shelf). it.directory) c.judge.ensures.unchanged) (MayBePut name c.args.bytes.now)
    (becomes_may_be_put name c.args.bytes.now c.requires x y
    (subst (λ (it : List ℕ). Changes (MayPutObject name it) x y) c.as_bytes.ensures put))

pub returns-clause-put : goal.returns-clause-put
returns-clause-put g c =
    let x = c.self.inside.files in
    let y = c.put-outcome.new.self in
    let name = c.args.name.now in
    let bytes = c.as_bytes.result.now in
    let put = at_value c.put-outcome.result c.in_ok-judge.field-0 (λ _. Changes (PutsObject name bytes) x y)
    c.in_ok-judge.ensures.value c.put-outcome.ensures.ok in
    between c.args.self.now c.judge.new.self x y (ap (λ (it : Shelf). it.directory) c.self.view_is)
    (ap (λ (it : Shelf). it.directory) c.judge.ensures.unchanged) (IsPut name c.args.bytes.now)
    (becomes_put name c.args.bytes.now c.requires x y
    (subst (λ (it : List ℕ). Changes (PutsObject name it) x y) c.as_bytes.ensures put))
