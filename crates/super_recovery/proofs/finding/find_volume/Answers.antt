use Rattle.std.proofs.Common.{◌∙◌, sym, subst}
use Rattle.std.specs.Prelude.{IfSome}
use Rattle.lsvd_objstore.specs.Objects.{Lists}
use Rattle.stopped_volume.specs.Super.{HasNewestEpoch}
use Rattle.super_recovery.specs.Found.{IsWhyNoEpoch, IsVolumeRefused}
use Rattle.super_recovery.specs.Holds.{AreHolds, IsWhyNoHolds}
use Rattle.super_recovery.proofs.Results.{same_objects, passed_on, listed_so}
use Rattle.super_recovery.proofs.FindLemmas.{told_found, told_refused, told_why, told_held}
use Rattle.super_recovery.proofs.finding.find_volume.Goals as goal

pub returns-in_err-volume-clause-refused : goal.returns-in_err-volume-clause-refused
returns-in_err-volume-clause-refused g c = λ tells.
    let told = (g.S.Store.state c.args.store.now).objects in
    let error = c.in_err-volume.field-0.0 in
    passed_on (λ e. IfSome told (λ objects. IsVolumeRefused c.args.uuid objects e)) c.from_residual.result error
    c.from_residual.ensures.1
    (told_refused told c.args.uuid error (c.in_err-volume.ensures.why tells))

pub returns-in_err-epoch-clause-refused : goal.returns-in_err-epoch-clause-refused
returns-in_err-epoch-clause-refused g c = λ tells.
    let told = (g.S.Store.state c.args.store.now).objects in
    let same = same_objects (g.S.Store.state c.args.store.now) (g.S.Store.state c.find_super.new.store)
    c.in_ok-volume.ensures.unchanged in
    let error = c.in_err-epoch.field-0.0 in
    passed_on (λ e. IfSome told (λ objects. IsVolumeRefused c.args.uuid objects e)) c.from_residual-in_err-epoch.result error
    c.from_residual-in_err-epoch.ensures.1
    (told_why told c.args.uuid c.in_ok-volume.volume error (c.in_ok-volume.ensures.says tells)
    (subst (λ held. IfSome held (λ objects. IsWhyNoEpoch c.args.uuid objects error)) same (c.in_err-epoch.ensures.why tells)))

pub returns-in_err-holds-clause-refused : goal.returns-in_err-holds-clause-refused
returns-in_err-holds-clause-refused g c = λ tells.
    let told = (g.S.Store.state c.args.store.now).objects in
    let uuid = c.args.uuid in
    let names = c.as_slice.result.now in
    let first = same_objects (g.S.Store.state c.args.store.now) (g.S.Store.state c.find_super.new.store)
    c.in_ok-volume.ensures.unchanged in
    let second = same_objects (g.S.Store.state c.find_super.new.store) (g.S.Store.state c.newest_epoch.new.store)
    c.in_ok-epoch.ensures.unchanged in
    let error = c.in_err-holds.field-0.0 in
    passed_on (λ e. IfSome told (λ objects. IsVolumeRefused uuid objects e)) c.from_residual-in_err-holds.result error
    c.from_residual-in_err-holds.ensures.1
    (told_held told uuid c.in_ok-volume.volume c.in_ok-epoch.epoch error (c.in_ok-volume.ensures.says tells)
    (subst (λ held. IfSome held (HasNewestEpoch uuid c.in_ok-epoch.epoch)) first (c.in_ok-epoch.ensures.newest tells))
    (listed_so told (λ objects. Lists uuid objects names) (λ objects. IsWhyNoHolds uuid objects error)
    (subst (λ list. IfSome told (λ objects. Lists uuid objects list)) (sym c.as_slice.ensures)
    (subst (λ held. IfSome held (λ objects. Lists uuid objects c.in_ok-epoch.names)) first c.in_ok-epoch.ensures.listed))
    (subst (λ held. IfSome held (λ objects. Lists uuid objects names → IsWhyNoHolds uuid objects error)) (second ∙ first)
    (c.in_err-holds.ensures.why tells))))

pub returns-clause-found : goal.returns-clause-found
returns-clause-found g c = λ tells.
    let told = (g.S.Store.state c.args.store.now).objects in
    let uuid = c.args.uuid in
    let names = c.as_slice.result.now in
    let holds = c.in_ok-holds.holds in
    let first = same_objects (g.S.Store.state c.args.store.now) (g.S.Store.state c.find_super.new.store)
    c.in_ok-volume.ensures.unchanged in
    let second = same_objects (g.S.Store.state c.find_super.new.store) (g.S.Store.state c.newest_epoch.new.store)
    c.in_ok-epoch.ensures.unchanged in
    told_found told uuid
    (record { volume = c.in_ok-volume.volume; epoch = c.in_ok-epoch.epoch; holds = holds; names = c.in_ok-epoch.names })
    (c.in_ok-volume.ensures.says tells)
    (subst (λ held. IfSome held (HasNewestEpoch uuid c.in_ok-epoch.epoch)) first (c.in_ok-epoch.ensures.newest tells))
    (listed_so told (λ objects. Lists uuid objects names) (AreHolds uuid holds.items)
    (subst (λ list. IfSome told (λ objects. Lists uuid objects list)) (sym c.as_slice.ensures)
    (subst (λ held. IfSome held (λ objects. Lists uuid objects c.in_ok-epoch.names)) first c.in_ok-epoch.ensures.listed))
    (subst (λ held. IfSome held (λ objects. Lists uuid objects names → AreHolds uuid holds.items objects)) (second ∙ first)
    (c.in_ok-holds.ensures.holds tells)))
