use Rattle.std.proofs.Common.{inl, sym, subst}
use Rattle.std.specs.Prelude.{◌⊎◌, List}
use Rattle.clone_chain.specs.declared.ancestor.Ancestor.{Ancestor}
use Rattle.lsvd_base.specs.declared.geometry.Geometry.{Geometry}
use Rattle.lsvd_fault.specs.Faults.{Counts}
use Rattle.lsvd_objstore.specs.Store.{StoreState}
use Rattle.object_recovery.proofs.FindLemmas.{same_store}
use Rattle.vol_mount.specs.Refusals.{IsUnfitting, IsWhyNotStored, is_store_fault_of}
use Rattle.vol_recover.proofs.AdmitLemmas.{is_admitted, is_not_admitted}
use Rattle.vol_recover.proofs.Results.{counted_objects, counted_then}
use Rattle.vol_recover.proofs.admitting.admit_log.Goals as goal

-- ---- no volume is described

pub returns-in-Err-clause-why : goal.returns-in-Err-clause-why
returns-in-Err-clause-why g c = λ tells. inl (c.in-Err.ensures.why tells)

-- ---- the log does not fit the one that is described

pub returns-then-not-is_within_limits-clause-why : goal.returns-then-not-is_within_limits-clause-why
returns-then-not-is_within_limits-clause-why g c = λ tells.
    let old = g.S.Store.state c.args.store.now in
    let middle = g.S.Store.state c.describe.new.store in
    let geometry : Geometry = c.in-Ok.described.geometry in
    let chain : List Ancestor = c.in-Ok.described.chain in
    let error = c.refuse_log.result in
    is_not_admitted c.args.uuid c.args.log old.objects middle.objects geometry chain c.in-Ok.described.epoch error
    c.in-Ok.ensures.log (c.in-Ok.ensures.told tells) (sym c.if-not-is_within_limits.ensures)
    (counted_objects old middle c.in-Ok.ensures.unchanged)
    (subst (λ u. IsUnfitting u geometry chain middle.objects error ⊎ IsWhyNotStored u geometry chain middle.objects error)
    c.in-Ok.ensures.uuid (c.refuse_log.ensures.why tells))

pub returns-then-not-is_within_limits-clause-unchanged : goal.returns-then-not-is_within_limits-clause-unchanged
returns-then-not-is_within_limits-clause-unchanged g c =
    counted_then (g.S.Store.state c.args.store.now) (g.S.Store.state c.describe.new.store)
    (g.S.Store.state c.refuse_log.new.store) c.in-Ok.ensures.unchanged c.refuse_log.ensures.unchanged

pub returns-then-not-is_within_limits-clause-faults : goal.returns-then-not-is_within_limits-clause-faults
returns-then-not-is_within_limits-clause-faults g c =
    let old = g.S.Store.state c.args.store.now in
    let middle = g.S.Store.state c.describe.new.store in
    let new = g.S.Store.state c.refuse_log.new.store in
    subst (λ (s : StoreState). Counts (is_store_fault_of c.refuse_log.result) s.faults new.faults)
    (same_store old middle c.in-Ok.ensures.unchanged c.in-Ok.ensures.faults) c.refuse_log.ensures.faults

-- ---- it fits

pub returns-clause-admitted : goal.returns-clause-admitted
returns-clause-admitted g c = λ tells.
    is_admitted c.args.uuid c.args.log (g.S.Store.state c.args.store.now).objects c.in-Ok.described.geometry
    c.in-Ok.described.chain c.in-Ok.described.epoch c.in-Ok.ensures.log (c.in-Ok.ensures.told tells)
    (sym c.if-not-is_within_limits.ensures)
