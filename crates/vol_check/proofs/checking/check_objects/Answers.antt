use Rattle.std.proofs.Common.{◌≡◌, ℕ, ◌<◌, ◌≤◌, Option, Some, None, List, length, refl, sym, ◌∙◌, subst}
use Rattle.std.specs.Prelude.{◌↔◌, IfSome}
use Rattle.std.specs.BTreeSet.{BTreeSet}
use Rattle.std.specs.List.{Contains}
use Rattle.clone_chain.specs.declared.ancestor.Ancestor.{Ancestor}
use Rattle.lsvd_base.specs.declared.geometry.Geometry.{Geometry}
use Rattle.lsvd_names.specs.declared.name.ObjName.{ObjName}
use Rattle.lsvd_objstore.specs.Objects.{Objects, Lists}
use Rattle.lsvd_objstore.specs.Store.{StoreState}
use Rattle.object_format.specs.declared.expected.Expected.{Expected}
use Rattle.super_recovery.proofs.Results.{error_of, passed_on, same_store}
use Rattle.stopped_volume.specs.Ancestors.{uuid_in_chain}
use Rattle.object_recovery.specs.declared.error.RecoverError.{RecoverError}
use Rattle.object_recovery.specs.declared.judging.Reached.{Reached}
use Rattle.object_recovery.specs.Checkpoints.{expected_of, ReadCheckpoint}
use Rattle.vol_check.specs.declared.report.CheckReport.{CheckReport}
use Rattle.vol_check.specs.declared.report.ObjectOfLevel.{ObjectOfLevel}
use Rattle.vol_check.specs.Report.{HasCheckpointHeader, IsReportOf, IsWhyNotChecked, own_object}
use Rattle.vol_check.specs.Steps.{Has, IsAway, IsFilterOf, IsNoneOf, IsPartOf, JudgesTo, RefusesNamed, RefusesPast}
use Rattle.vol_check.specs.Steps.{object_numbers}
use Rattle.vol_check.proofs.CheckLemmas.{moved, moved_names, moved_rows, told_begun, told_held, told_past, told_report}
use Rattle.vol_check.proofs.CheckLemmas.{told_unbegun}
use Rattle.vol_check.proofs.checking.check_objects.Goals as goal

-- why a volume with so many ancestors is refused, where they are so many
counted : (told : Option Objects) (uuid : List ℕ) (geometry : Geometry) (names : List ObjName) (error : RecoverError)
    (ancestors count : ℕ) → ancestors ≡ count
    → IfSome told (λ objects. Lists uuid objects names → IsWhyNotChecked (expected_of uuid geometry ancestors) objects error)
    → IfSome told (λ objects. Lists uuid objects names → IsWhyNotChecked (expected_of uuid geometry count) objects error)
counted told uuid geometry names error ancestors count same so =
    subst (λ (n : ℕ). IfSome told (λ objects. Lists uuid objects names
    → IsWhyNotChecked (expected_of uuid geometry n) objects error)) same so

counted_report : (told : Option Objects) (uuid : List ℕ) (geometry : Geometry) (names : List ObjName) (chain : List Ancestor)
    (report : CheckReport) (ancestors count : ℕ) → ancestors ≡ count
    → IfSome told (λ objects. Lists uuid objects names
    → IsReportOf (expected_of uuid geometry ancestors) (uuid_in_chain uuid chain) objects report)
    → IfSome told (λ objects. Lists uuid objects names
    → IsReportOf (expected_of uuid geometry count) (uuid_in_chain uuid chain) objects report)
counted_report told uuid geometry names chain report ancestors count same so =
    subst (λ (n : ℕ). IfSome told (λ objects. Lists uuid objects names
    → IsReportOf (expected_of uuid geometry n) (uuid_in_chain uuid chain) objects report)) same so

-- where the judging of objects begins
abbrev reached_at : ReadCheckpoint → Reached
reached_at base = record { number = base.number; end = Some base.end; refused = None }

pub newest_checkpoint-requires : goal.newest_checkpoint-requires
newest_checkpoint-requires g c = λ name has. (c.requires.names.each name has).0

pub returns-in_err-base-clause-refused : goal.returns-in_err-base-clause-refused
returns-in_err-base-clause-refused g c = λ tells.
    let told = (g.S.Store.state c.args.store.now).objects in
    let uuid = c.args.uuid in
    let geometry = c.args.geometry.now in
    let ancestors = c.count-ancestors.result in
    let count = c.count-ancestors.ensures.count in
    let names = c.args.names.now in
    let volume : Expected = expected_of uuid geometry ancestors in
    let error = c.in_err-base.field-0.0 in
    let failed = c.in_err-base.ensures in
    passed_on (λ e. IfSome told (λ objects. Lists uuid objects names
    → IsWhyNotChecked (expected_of uuid geometry (length c.args.chain.now)) objects e)) c.from_residual.result
    error c.from_residual.ensures.1
    (counted told uuid geometry names error ancestors (length c.args.chain.now) count
    (told_unbegun told uuid c.a_uuid_has_sixteen_bytes.ensures geometry ancestors names error failed.answer
    (λ is. failed.none tells (error_of error _ is))))

pub returns-in_err-last-clause-refused : goal.returns-in_err-last-clause-refused
returns-in_err-last-clause-refused g c = λ tells.
    let told = (g.S.Store.state c.args.store.now).objects in
    let uuid = c.args.uuid in
    let is_uuid = c.a_uuid_has_sixteen_bytes.ensures in
    let geometry = c.args.geometry.now in
    let ancestors = c.count-ancestors.result in
    let count = c.count-ancestors.ensures.count in
    let names = c.args.names.now in
    let volume : Expected = expected_of uuid geometry ancestors in
    let base : ReadCheckpoint = c.in_ok-base.base in
    let newest = c.in_ok-base.ensures in
    let begun = told_begun told uuid is_uuid geometry ancestors names base (newest.read uuid c.requires.names)
    (newest.newest tells) in
    let same = same_store (g.S.Store.state c.args.store.now) (g.S.Store.state c.newest_checkpoint.new.store) newest.unchanged
    newest.faults in
    let error = c.in_err-last.field-0.0 in
    passed_on (λ e. IfSome told (λ objects. Lists uuid objects names
    → IsWhyNotChecked (expected_of uuid geometry (length c.args.chain.now)) objects e))
    c.from_residual-in_err-last.result error c.from_residual-in_err-last.ensures.1
    (counted told uuid geometry names error ancestors (length c.args.chain.now) count
    (told_past told uuid is_uuid geometry ancestors names base begun error
    (moved (λ s v b. IfSome s.objects (λ objects. RefusesPast v objects names (reached_at b) error)) _ _ _ volume _ base same
    c.expected_alone-volume.ensures c.base.view_is (c.in_err-last.ensures.refused tells))))

pub named_objects-requires : goal.named_objects-requires
named_objects-requires g c =
    moved_rows c.expected_alone-volume.result (expected_of c.args.uuid c.args.geometry.now c.count-ancestors.result) _
    c.in_ok-base.base
    c.as_slice.result.now c.expected_alone-volume.ensures c.base.view_is c.as_slice.ensures.value
    (c.in_ok-base.ensures.read c.args.uuid c.requires.names)

pub returns-in_err-named-clause-refused : goal.returns-in_err-named-clause-refused
returns-in_err-named-clause-refused g c = λ tells.
    let told = (g.S.Store.state c.args.store.now).objects in
    let uuid = c.args.uuid in
    let is_uuid = c.a_uuid_has_sixteen_bytes.ensures in
    let geometry = c.args.geometry.now in
    let ancestors = c.count-ancestors.result in
    let count = c.count-ancestors.ensures.count in
    let names = c.args.names.now in
    let holds : List ℕ = c.args.holds.items in
    let volume : Expected = expected_of uuid geometry ancestors in
    let base : ReadCheckpoint = c.in_ok-base.base in
    let newest = c.in_ok-base.ensures in
    let begun = told_begun told uuid is_uuid geometry ancestors names base (newest.read uuid c.requires.names)
    (newest.newest tells) in
    let same = same_store (g.S.Store.state c.args.store.now) (g.S.Store.state c.newest_checkpoint.new.store) newest.unchanged
    newest.faults in
    let last = c.in_ok-last.last in
    let judged = c.in_ok-last.ensures in
    let same_then = same_store (g.S.Store.state c.newest_checkpoint.new.store) (g.S.Store.state c.last_number.new.store)
    judged.unchanged judged.faults ∙ same in
    let error = c.in_err-named.field-0.0 in
    passed_on (λ e. IfSome told (λ objects. Lists uuid objects names
    → IsWhyNotChecked (expected_of uuid geometry (length c.args.chain.now)) objects e))
    c.from_residual-in_err-named.result error c.from_residual-in_err-named.ensures.1
    (counted told uuid geometry names error ancestors (length c.args.chain.now) count
    (told_held told uuid is_uuid geometry ancestors names base begun holds c.requires.holds last error
    (moved (λ s v b. IfSome s.objects (λ objects. JudgesTo v objects names (reached_at b) last)) _ _ _ volume _ base same
    c.expected_alone-volume.ensures c.base.view_is (judged.judged tells))
    (moved (λ s v b. IfSome s.objects (λ objects. RefusesNamed v objects holds error)) _ _ _ volume _ base same_then
    c.expected_alone-volume.ensures c.base.view_is
    (subst (λ (list : List ℕ). IfSome (g.S.Store.state c.last_number.new.store).objects (λ objects.
    RefusesNamed c.expected_alone-volume.result objects list error)) c.as_slice-2.ensures.value
    (c.in_err-named.ensures.refused tells)))))

pub returns-clause-report : goal.returns-clause-report
returns-clause-report g c = λ tells.
    let told = (g.S.Store.state c.args.store.now).objects in
    let uuid = c.args.uuid in
    let is_uuid = c.a_uuid_has_sixteen_bytes.ensures in
    let geometry = c.args.geometry.now in
    let ancestors = c.count-ancestors.result in
    let count = c.count-ancestors.ensures.count in
    let names = c.args.names.now in
    let holds : List ℕ = c.args.holds.items in
    let volume : Expected = expected_of uuid geometry ancestors in
    let of = c.expected_alone-volume.ensures in
    let base : ReadCheckpoint = c.in_ok-base.base in
    let newest = c.in_ok-base.ensures in
    let begun = told_begun told uuid is_uuid geometry ancestors names base (newest.read uuid c.requires.names)
    (newest.newest tells) in
    let same = same_store (g.S.Store.state c.args.store.now) (g.S.Store.state c.newest_checkpoint.new.store) newest.unchanged
    newest.faults in
    let last = c.in_ok-last.last in
    let judged = c.in_ok-last.ensures in
    let same_then = same_store (g.S.Store.state c.newest_checkpoint.new.store) (g.S.Store.state c.last_number.new.store)
    judged.unchanged judged.faults ∙ same in
    let all = c.in_ok-named.ensures in
    let same_last = same_store (g.S.Store.state c.last_number.new.store) (g.S.Store.state c.named_objects.new.store)
    all.unchanged all.faults ∙ same_then in
    let named : BTreeSet ObjectOfLevel = c.in_ok-named.named in
    let same_read = same_store (g.S.Store.state c.named_objects.new.store) (g.S.Store.state c.checkpoints_among.new.store)
    c.in_ok-checkpoints.ensures.unchanged c.in_ok-checkpoints.ensures.faults ∙ same_last in
    let numbers : List ℕ = c.as_slice-numbers.result.now in
    counted_report told uuid geometry names c.args.chain.now _ ancestors (length c.args.chain.now) count
    (told_report told uuid is_uuid geometry ancestors names base _ named numbers begun refl c.requires.holds
    (subst (λ (list : List ℕ). (n : ℕ) → Contains list n ↔ Contains (object_numbers names) n)
    (sym c.as_slice-numbers.ensures.value) c.in_ok-numbers.ensures.same)
    (moved (λ s v b. IfSome s.objects (λ objects. JudgesTo v objects names (reached_at b) last)) _ _ _ volume _ base same of
    c.base.view_is (judged.judged tells))
    (moved_names _ _ _ volume _ base c.as_slice.result.now c.as_slice-2.result.now holds named same_then of c.base.view_is
    c.as_slice.ensures.value c.as_slice-2.ensures.value (all.named tells))
    (moved (λ s v b. IfSome s.objects (λ objects. IsFilterOf numbers
    (λ n. (n ≤ last) × HasCheckpointHeader v objects n) c.in_ok-checkpoints.checkpoints.items)) _ _ _ volume _ base same_last of
    c.base.view_is (c.in_ok-checkpoints.ensures.told tells))
    c.in_ok-numbers_past.ensures
    (subst (λ (b : ReadCheckpoint). IsFilterOf numbers (λ n. (n < b.number) × (Has named (own_object n) → ⊥))
    c.in_ok-unnamed_below.field-0.items) c.base.view_is c.in_ok-unnamed_below.ensures)
    c.args.chain.now
    (subst (λ (s : StoreState). IfSome s.objects (λ objects.
    IsPartOf (Has named) (IsAway (IsNoneOf numbers) objects c.args.chain.now) c.in_ok-missing.missing.items)) same_read
    c.in_ok-missing.ensures.told))
