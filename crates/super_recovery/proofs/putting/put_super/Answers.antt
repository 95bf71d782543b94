use Rattle.lsvd_objstore.specs.declared.error.StoreError.TheVariants as store
use Rattle.super_recovery.proofs.PutLemmas.{store_failed, puts_super, may_put_super}
use Rattle.super_recovery.proofs.Results.{error_of}
use Rattle.super_recovery.proofs.putting.put_super.Goals as goal

pub returns-in_err-put-clause-failed : goal.returns-in_err-put-clause-failed
returns-in_err-put-clause-failed g c = λ fault.
    let old = (g.S.Store.state c.args.store.now).objects in
    let new = (g.S.Store.state c.put.new.self).objects in
    let error = c.in_err-put.field-0.0 in
    let failed = store_failed c.from_residual-in_err-put.result error c.from_residual-in_err-put.ensures.1 fault in
    may_put_super c.args.volume.now c.super_of.result c.in_ok-bytes.bytes c.in_ok-bytes.ensures c.super_of.ensures.is old new
    (c.in_err-put.ensures.failed (error_of error store.Failed failed))

pub returns-clause-ok : goal.returns-clause-ok
returns-clause-ok g c =
    let old = (g.S.Store.state c.args.store.now).objects in
    let new = (g.S.Store.state c.put.new.self).objects in
    puts_super c.args.volume.now c.super_of.result c.in_ok-bytes.bytes c.in_ok-bytes.ensures c.super_of.ensures.is old new
    c.in_ok-put.ensures.put
