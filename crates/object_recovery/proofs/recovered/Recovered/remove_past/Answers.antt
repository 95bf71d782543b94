use Rattle.std.proofs.Common.{◌≡◌, ℕ, List, length, subst, sym, ap, ◌∙◌}
use Rattle.lsvd_names.specs.declared.name.ObjName.{ObjName}
use Rattle.lsvd_objstore.specs.Objects.{AreNamesOf}
use Rattle.lsvd_objstore.specs.Store.{Becomes}
use Rattle.object_uploads.specs.State.{UploadsState}
use Rattle.object_recovery.specs.State.{RecoveredState}
use Rattle.object_recovery.specs.Removal.{Removes, IsListedPast, RemovesFirst}
use Rattle.object_recovery.specs.Recovery.{RemovesAllPast}
use Rattle.object_recovery.proofs.FindLemmas.{ok_so}
use Rattle.object_recovery.proofs.RemovalLemmas.{some_removed, all_removed}
use Rattle.object_recovery.proofs.recovered.Recovered.remove_past.Goals as goal

pub remove_past-requires : goal.remove_past-requires
remove_past-requires g c =
    let is = c.as_slice.ensures ∙ ap (λ (r : RecoveredState). r.names) c.self.view_is in
    let are = subst (AreNamesOf c.args.self.now.log.uploads.uuid) (sym is) c.requires.of_volume in
    λ name listed. (are.each name listed).0

pub returns-clause-removed : goal.returns-clause-removed
returns-clause-removed g c =
    let found = c.args.self.now in
    let uuid = found.log.uploads.uuid in
    let number = found.log.uploads.window.last in
    let old = (g.S.Store.state c.args.store.now).objects in
    let new = (g.S.Store.state c.remove_past.new.store).objects in
    let number_is : c.last.result ≡ number = c.last.ensures
    ∙ (ap (λ (u : UploadsState). u.window.last) c.uploads.ensures
    ∙ ap (λ (r : RecoveredState). r.log.uploads.window.last) c.self.view_is) in
    let names_is : c.as_slice.result.now ≡ found.names = c.as_slice.ensures
    ∙ ap (λ (r : RecoveredState). r.names) c.self.view_is in
    let First : List ObjName → ℕ → Type 0 = λ names n. Becomes (RemovesFirst names n (length names)) old new in
    ok_so (First c.as_slice.result.now c.last.result) (Becomes (RemovesAllPast uuid number) old new) c.remove_past.result
    (λ first. all_removed uuid found.names number old new c.requires.of_volume c.requires.listed
    (subst (First found.names) number_is (subst (λ names. First names c.last.result) names_is first)))
    c.remove_past.ensures.all

pub returns-clause-some : goal.returns-clause-some
returns-clause-some g c =
    let found = c.args.self.now in
    let old = (g.S.Store.state c.args.store.now).objects in
    let new = (g.S.Store.state c.remove_past.new.store).objects in
    let number_is : c.last.result ≡ found.log.uploads.window.last =
    c.last.ensures
    ∙ (ap (λ (u : UploadsState). u.window.last) c.uploads.ensures
    ∙ ap (λ (r : RecoveredState). r.log.uploads.window.last) c.self.view_is) in
    let names_is : c.as_slice.result.now ≡ found.names = c.as_slice.ensures
    ∙ ap (λ (r : RecoveredState). r.names) c.self.view_is in
    let Some_of : List ObjName → ℕ → Type 0 = λ names n. Becomes (Removes (IsListedPast names n)) old new in
    some_removed found.log.uploads.uuid found.names found.log.uploads.window.last old new c.requires.of_volume
    (subst (Some_of found.names) number_is (subst (λ names. Some_of names c.last.result) names_is c.remove_past.ensures.some))
