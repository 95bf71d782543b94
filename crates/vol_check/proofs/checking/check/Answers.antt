use Rattle.std.proofs.Common.{◌≡◌, List, length, sym, subst}
use Rattle.std.specs.Prelude.{IfSome}
use Rattle.lsvd_base.specs.declared.geometry.Geometry.{Geometry}
use Rattle.lsvd_names.specs.declared.name.ObjName.{ObjName}
use Rattle.lsvd_objstore.specs.Objects.{Lists}
use Rattle.lsvd_objstore.specs.Store.{StoreState}
use Rattle.super_format.specs.declared.super_object.Super.{Super}
use Rattle.super_format.specs.Super.{geometry_with}
use Rattle.stopped_volume.specs.Ancestors.{uuid_in_chain}
use Rattle.stopped_volume.specs.Super.{HasSuper}
use Rattle.super_recovery.specs.declared.finding.FoundVolume.{FoundVolume}
use Rattle.super_recovery.specs.Found.{IsFound}
use Rattle.super_recovery.proofs.Results.{passed_on, same_store, told_so}
use Rattle.object_recovery.specs.Checkpoints.{expected_of}
use Rattle.vol_check.specs.Errors.{of_recovery}
use Rattle.vol_check.specs.declared.report.CheckReport.{CheckReport}
use Rattle.vol_check.specs.Report.{IsCheckRefused, IsReportOf, IsWhyNotChecked, volume_said}
use Rattle.vol_check.proofs.WholeLemmas.{told_objects, told_whole}
use Rattle.vol_check.proofs.checking.check.Goals as goal

pub returns-in_err-report-clause-refused : goal.returns-in_err-report-clause-refused
returns-in_err-report-clause-refused g c = λ tells.
    let told = (g.S.Store.state c.args.store.now).objects in
    let uuid = c.args.uuid in
    let it : FoundVolume = c.in_ok-volume.field-0 in
    let found = c.in_ok-volume.ensures in
    let said : Super = it.volume in
    let names : List ObjName = c.as_slice.result.now in
    let listed : names ≡ it.names = c.as_slice.ensures in
    let sizes : c.geometry-geometry.result ≡ geometry_with said 0 = c.geometry-geometry.ensures in
    let same = same_store (g.S.Store.state c.args.store.now) (g.S.Store.state c.find_volume.new.store) found.unchanged
    found.faults in
    let error = c.in_err-report.field-0.0 in
    passed_on (λ e. IfSome told (λ objects. IsCheckRefused uuid objects e)) c.from_residual-in_err-report.result
    (of_recovery error) c.from_residual-in_err-report.ensures.1
    (told_objects told uuid said names error
    (told_so (λ objects. IsFound uuid objects it) (λ objects. HasSuper uuid said objects) told (λ objects is. is.says)
    (found.found tells))
    (subst (λ list. IfSome told (λ objects. Lists uuid objects list)) (sym listed) found.listed)
    (subst (λ (s : StoreState). IfSome s.objects (λ objects. Lists uuid objects names
    → IsWhyNotChecked (expected_of uuid (geometry_with said 0) (length said.chain)) objects error)) same
    (subst (λ (sizes : Geometry). IfSome (g.S.Store.state c.find_volume.new.store).objects (λ objects. Lists uuid objects names
    → IsWhyNotChecked (expected_of uuid sizes (length said.chain)) objects error)) sizes
    (c.in_err-report.ensures.refused tells))))

pub returns-clause-report : goal.returns-clause-report
returns-clause-report g c = λ tells.
    let told = (g.S.Store.state c.args.store.now).objects in
    let uuid = c.args.uuid in
    let it : FoundVolume = c.in_ok-volume.field-0 in
    let found = c.in_ok-volume.ensures in
    let said : Super = it.volume in
    let names : List ObjName = c.as_slice.result.now in
    let listed : names ≡ it.names = c.as_slice.ensures in
    let sizes : c.geometry-geometry.result ≡ geometry_with said 0 = c.geometry-geometry.ensures in
    let same = same_store (g.S.Store.state c.args.store.now) (g.S.Store.state c.find_volume.new.store) found.unchanged
    found.faults in
    let report : CheckReport = c.in_ok-report.report in
    told_whole told uuid said names report
    (told_so (λ objects. IsFound uuid objects it) (λ objects. HasSuper uuid said objects) told (λ objects is. is.says)
    (found.found tells))
    (subst (λ list. IfSome told (λ objects. Lists uuid objects list)) (sym listed) found.listed)
    (subst (λ (s : StoreState). IfSome s.objects (λ objects. Lists uuid objects names
    → IsReportOf (volume_said uuid said) (uuid_in_chain uuid said.chain) objects report)) same
    (subst (λ (sizes : Geometry). IfSome (g.S.Store.state c.find_volume.new.store).objects (λ objects. Lists uuid objects names
    → IsReportOf (expected_of uuid sizes (length said.chain)) (uuid_in_chain uuid said.chain) objects report)) sizes
    (c.in_ok-report.ensures.report tells)))
