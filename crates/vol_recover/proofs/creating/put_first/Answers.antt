use Rattle.std.proofs.Common.{◌≡◌, subst}
use Rattle.lsvd_names.specs.Names.{numbered_name}
use Rattle.lsvd_objstore.specs.Objects.{IsPut, MayBePut}
use Rattle.lsvd_objstore.specs.Store.{Becomes}
use Rattle.lsvd_objstore.specs.declared.error.StoreError.TheVariants as store_errors
use Rattle.super_recovery.specs.Put.{MayBecome}
use Rattle.object_recovery.proofs.FindLemmas.{error_of}
use Rattle.vol_recover.specs.Creating.{PutsFirst}
use Rattle.vol_recover.proofs.CreateLemmas.{puts_first, after_error}
use Rattle.vol_recover.proofs.Results.{on_error}
use Rattle.vol_recover.proofs.creating.put_first.Goals as goal

pub returns-in_err-put-clause-err : goal.returns-in_err-put-clause-err
returns-in_err-put-clause-err g c =
    let old = g.S.Store.state c.args.store.now in
    let new = g.S.Store.state c.put.new.self in
    let name : c.first_name.result ≡ numbered_name c.args.uuid 1 = c.first_name.ensures.is in
    let error = c.in_err-put.field-0.0 in
    let e = c.in_err-put.ensures in
    on_error (Becomes (MayBecome (PutsFirst c.args.uuid c.args.geometry.now)) old.objects new.objects)
    c.from_residual-in_err-put.result
    (after_error c.args.uuid c.args.geometry.now c.in_ok-object.object error old new c.in_ok-object.ensures
    (λ same. subst (λ n. Becomes (MayBePut n c.in_ok-object.object) old.objects new.objects) name
    (e.failed (error_of error store_errors.Failed same)))
    (λ same. e.unchanged (error_of error store_errors.OutOfMemory same)))

pub returns-clause-ok : goal.returns-clause-ok
returns-clause-ok g c =
    let old = (g.S.Store.state c.args.store.now).objects in
    let new = (g.S.Store.state c.put.new.self).objects in
    let name : c.first_name.result ≡ numbered_name c.args.uuid 1 = c.first_name.ensures.is in
    puts_first c.args.uuid c.args.geometry.now c.in_ok-object.object old new c.in_ok-object.ensures
    (subst (λ n. Becomes (IsPut n c.in_ok-object.object) old new) name c.in_ok-put.ensures.put)
