use Rattle.std.proofs.Common.{sym, subst}
use Rattle.std.proofs.lemmas.Result.{err_from_is_err_and}
use Rattle.std.specs.Prelude.{IfSome}
use Rattle.super_recovery.specs.Ancestors.{IsNearestMissing}
use Rattle.vol_recover.specs.Describing.{IsTheVolume}
use Rattle.vol_recover.proofs.DescribeLemmas.{refuses_none, has_no_ancestors, is_the_volume}
use Rattle.vol_recover.proofs.Results.{counted_objects}
use Rattle.vol_recover.proofs.describing.describe.Goals as goal

pub returns-in_err-found-clause-no_refusal : goal.returns-in_err-found-clause-no_refusal
returns-in_err-found-clause-no_refusal g c = λ tells.
    let p = err_from_is_err_and c.from_residual.result c.from_residual.ensures.1 in
    rw (p.1, p.2)
    (refuses_none c.args.uuid c.args.log (g.S.Store.state c.args.store.now).objects c.in_err-found.field-0.0
    (c.in_err-found.ensures.refused tells))

pub returns-in-Some-clause-no_refusal : goal.returns-in-Some-clause-no_refusal
returns-in-Some-clause-no_refusal g c = λ tells geometry chain epoch log_is has.
    let old = g.S.Store.state c.args.store.now in
    let middle = g.S.Store.state c.find_volume.new.store in
    let found = c.in_ok-found.found in
    let ancestor = c.in-Some.ancestor in
    let missing =
    subst (λ m. IfSome middle.objects (λ o. IfSome m (IsNearestMissing found.volume.chain o))) c.in-Some.is
    c.in_ok-ancestor.ensures.found in
    absurd
    (has_no_ancestors c.args.uuid ancestor c.args.log old.objects found (c.in_ok-found.ensures.found tells)
    (subst (λ objects. IfSome objects (λ o. IsNearestMissing found.volume.chain o ancestor))
    (counted_objects old middle c.in_ok-found.ensures.unchanged) missing) geometry chain epoch log_is has)

pub returns-clause-same : goal.returns-clause-same
returns-clause-same g c = λ tells.
    let objects = (g.S.Store.state c.args.store.now).objects in
    let found = c.in_ok-found.found in
    subst (λ geometry. IsTheVolume c.args.uuid c.args.log objects geometry found.volume.chain found.epoch)
    (sym c.geometry.ensures)
    (is_the_volume c.args.uuid c.args.log objects found (c.in_ok-found.ensures.found tells))
