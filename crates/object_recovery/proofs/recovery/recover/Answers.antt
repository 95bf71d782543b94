use Rattle.std.proofs.Common.{◌≡◌, ◌<◌, ◌^◌, List, Some, None, length, subst, sym, ap, ◌∙◌, arith}
use Rattle.std.proofs.lemmas.Bool.Decides.{nat_tests}
use Rattle.std.specs.Prelude.{IfSome}
use Rattle.lsvd_fault.specs.Faults.{Counts}
use Rattle.lsvd_names.specs.Spelling.{IsUuid}
use Rattle.lsvd_names.specs.declared.name.ObjName.{ObjName}
use Rattle.lsvd_objstore.specs.Objects.{AreNamesOf, Lists}
use Rattle.lsvd_objstore.specs.Store.{StoreState, OnlyCounts}
use Rattle.obj_log.specs.Changes.{expected_of_volume}
use Rattle.obj_log.specs.State.{ObjLogState}
use Rattle.stopped_volume.specs.Ancestors.{uuid_in_chain}
use Rattle.stopped_volume.specs.Store.{TellsBytes}
use Rattle.object_recovery.specs.declared.error.RecoverError.TheVariants as errors
use Rattle.object_recovery.specs.Adoption.{IsRecoveryBegun, ListedState}
use Rattle.object_recovery.specs.Checkpoints.{expected_of, ReadCheckpoint, IsReadCheckpoint}
use Rattle.object_recovery.specs.Faults.{is_store_fault}
use Rattle.object_recovery.specs.Holding.{MarksKept, IsHoldAmong, RefusesHolds}
use Rattle.object_recovery.specs.Recovering.{Recovers, RecoveredOf, RecoverOf}
use Rattle.object_recovery.specs.Recovery.{IsRecoveryRefused}
use Rattle.object_recovery.proofs.FindLemmas.{same_store, error_of, passed_as}
use Rattle.object_recovery.proofs.HeldLemmas.{told_refused_first, told_refused_there, told_base_missing}
use Rattle.object_recovery.proofs.HeldLemmas.{recovered_with_holds}
use Rattle.object_recovery.proofs.RefusalLemmas.{HasNoneAmong, IsNewestAmong, newest_refused, newest_begins}
use Rattle.object_recovery.proofs.OutcomeLemmas.{told_then}
use Rattle.object_recovery.proofs.recovery.recover.Given as given
use Rattle.object_recovery.proofs.recovery.recover.Goals.{In_ok-base, In_ok-listed, In_ok-log}
use Rattle.object_recovery.proofs.recovery.recover.Goals as goal

pub newest_checkpoint-requires : goal.newest_checkpoint-requires
newest_checkpoint-requires g c =
    let are = subst (AreNamesOf c.args.uuid) (sym c.as_slice.ensures) c.requires.names in
    λ name listed. (are.each name listed).0

-- ---- no checkpoint was found

pub returns-in_err-base : goal.returns-in_err-base
returns-in_err-base g c =
    let old = g.S.Store.state c.args.store.now in
    let new = g.S.Store.state c.newest_checkpoint.new.store in
    let uuid = c.args.uuid in
    let geometry = c.args.geometry in
    let chain = c.args.chain.now in
    let Tells : Type 0 = TellsBytes g.S.Receipt.Receipt.state in
    let is_uuid : IsUuid uuid = c.a_uuid_has_sixteen_bytes.ensures in
    let names = c.as_slice.result.now in
    let lists = subst (λ list. IfSome old.objects (λ objects. Lists uuid objects list)) (sym c.as_slice.ensures)
    c.requires.listed in
    let error = c.in_err-base.field-0.0 in
    let failed = c.in_err-base.ensures in
    passed_as (RecoverOf Tells uuid geometry chain old new) c.from_residual.result error c.from_residual.ensures.1
    (record {
      found = tt;
      refused = λ tells.
          told_refused_first old.objects (expected_of uuid geometry (length chain)) (uuid_in_chain uuid chain) error
          (newest_refused old.objects uuid geometry (length chain) (uuid_in_chain uuid chain) names error is_uuid lists
          failed.answer
          (λ is. subst (λ n. IfSome old.objects (HasNoneAmong geometry n names)) c.count.ensures.count
          (failed.none tells (error_of error errors.NoCheckpoint is))));
      unchanged = failed.unchanged;
      faults = failed.faults;
    })

-- ---- the newest checkpoint was found

begun : (g : given.Over) (c : In_ok-base g) → TellsBytes g.S.Receipt.Receipt.state → (names : List ObjName)
    → c.as_slice.result.now ≡ names
    → IfSome (g.S.Store.state c.args.store.now).objects
    (IsRecoveryBegun c.args.uuid c.args.geometry (length c.args.chain.now) c.in_ok-base.base names)
begun g c tells names named =
    let told = (g.S.Store.state c.args.store.now).objects in
    let uuid = c.args.uuid in
    let geometry = c.args.geometry in
    let chain = c.args.chain.now in
    let is_uuid : IsUuid uuid = c.a_uuid_has_sixteen_bytes.ensures in
    let lists = subst (λ list. IfSome told (λ objects. Lists uuid objects list)) (sym c.as_slice.ensures) c.requires.listed in
    newest_begins told uuid geometry (length chain) c.as_slice.result.now c.in_ok-base.base is_uuid lists
    (subst (λ n. IfSome told (IsNewestAmong geometry n c.as_slice.result.now c.in_ok-base.base)) c.count.ensures.count
    (c.in_ok-base.ensures.newest tells)) names named

-- the search for it changed nothing
same_before : (g : given.Over) (c : In_ok-base g)
    → g.S.Store.state c.newest_checkpoint.new.store ≡ g.S.Store.state c.args.store.now
same_before g c =
    same_store (g.S.Store.state c.args.store.now) (g.S.Store.state c.newest_checkpoint.new.store) c.in_ok-base.ensures.unchanged
    c.in_ok-base.ensures.faults

pub recover_list-requires-clause-read : goal.recover_list-requires-clause-read
recover_list-requires-clause-read g c =
    subst (λ n. IsReadCheckpoint (expected_of c.args.uuid c.args.geometry n) c.in_ok-base.base) c.count.ensures.count
    (c.in_ok-base.ensures.read c.args.uuid (subst (AreNamesOf c.args.uuid) (sym c.as_slice.ensures) c.requires.names))

pub recover_list-requires-clause-names : goal.recover_list-requires-clause-names
recover_list-requires-clause-names g c =
    subst (AreNamesOf c.args.uuid) (sym c.as_slice-2.ensures) c.requires.names

pub returns-in_err-listed : goal.returns-in_err-listed
returns-in_err-listed g c =
    let old = g.S.Store.state c.args.store.now in
    let new = g.S.Store.state c.recover_list.new.store in
    let uuid = c.args.uuid in
    let geometry = c.args.geometry in
    let chain = c.args.chain.now in
    let volume = expected_of uuid geometry (length chain) in
    let uuid_at = uuid_in_chain uuid chain in
    let Tells : Type 0 = TellsBytes g.S.Receipt.Receipt.state in
    let at = (goal.at.returns-in_err-listed g c).In_ok-base in
    let same = same_before g at in
    let names = c.as_slice-2.result.now in
    let base = c.in_ok-base.base in
    let error = c.in_err-listed.field-0.0 in
    let failed = c.in_err-listed.ensures in
    passed_as (RecoverOf Tells uuid geometry chain old new) c.from_residual-in_err-listed.result error
    c.from_residual-in_err-listed.ensures.1
    (record {
      found = tt;
      refused = λ tells.
          told_refused_first old.objects volume uuid_at error
          (told_then old.objects (IsRecoveryBegun uuid geometry (length chain) base names)
          (λ objects. IsRecoveryRefused volume uuid_at objects error)
          (begun g at tells names (c.as_slice.ensures ∙ sym c.as_slice-2.ensures))
          (subst (λ (s : StoreState). IfSome s.objects (λ objects.
          IsRecoveryBegun uuid geometry (length chain) base names objects → IsRecoveryRefused volume uuid_at objects error)) same
          (failed.refused tells)));
      unchanged = subst (λ (s : StoreState). OnlyCounts s new) same failed.unchanged;
      faults = subst (λ (s : StoreState). Counts (is_store_fault error) s.faults new.faults) same failed.faults;
    })

-- ---- the list was recovered

-- nor did the recovery of the list
same_after : (g : given.Over) (c : In_ok-listed g) → g.S.Store.state c.recover_list.new.store ≡ g.S.Store.state c.args.store.now
same_after g c =
    same_store (g.S.Store.state c.newest_checkpoint.new.store) (g.S.Store.state c.recover_list.new.store)
    c.in_ok-listed.ensures.unchanged c.in_ok-listed.ensures.faults
    ∙ same_before g (goal.at.In_ok-listed g c).In_ok-base

recovers_told : (g : given.Over) (c : In_ok-listed g) → TellsBytes g.S.Receipt.Receipt.state
    → IfSome (g.S.Store.state c.args.store.now).objects
    (λ objects. Recovers (expected_of c.args.uuid c.args.geometry (length c.args.chain.now))
    (uuid_in_chain c.args.uuid c.args.chain.now) c.in_ok-base.base.number objects c.in_ok-listed.listed.log
    c.in_ok-listed.listed.absent)
recovers_told g c tells =
    let at = (goal.at.In_ok-listed g c).In_ok-base in
    let from = begun g at tells c.as_slice-2.result.now (c.as_slice.ensures ∙ sym c.as_slice-2.ensures) in
    let same = same_before g at in
    let told = (g.S.Store.state c.args.store.now).objects in
    let uuid = c.args.uuid in
    let geometry = c.args.geometry in
    let chain = c.args.chain.now in
    let base = c.in_ok-base.base in
    let log = c.in_ok-listed.listed.log in
    let absent = c.in_ok-listed.listed.absent in
    let volume = expected_of uuid geometry (length chain) in
    let uuid_at = uuid_in_chain uuid chain in
    let names = c.as_slice-2.result.now in
    told_then told (IsRecoveryBegun uuid geometry (length chain) base names)
    (λ objects. Recovers volume uuid_at base.number objects log absent) from
    (subst (λ (s : StoreState). IfSome s.objects (λ objects. IsRecoveryBegun uuid geometry (length chain) base names objects
    → Recovers volume uuid_at base.number objects log absent)) same (c.in_ok-listed.ensures.recovers tells))

pub returns-in_err-log : goal.returns-in_err-log
returns-in_err-log g c =
    let old = g.S.Store.state c.args.store.now in
    let new = g.S.Store.state c.with_held.new.store in
    let uuid = c.args.uuid in
    let geometry = c.args.geometry in
    let chain = c.args.chain.now in
    let Tells : Type 0 = TellsBytes g.S.Receipt.Receipt.state in
    let at = (goal.at.returns-in_err-log g c).In_ok-listed in
    let same = same_after g at in
    let names = c.as_slice-3.result.now in
    let log = c.in_ok-listed.listed.log in
    let error = c.in_err-log.field-0.0 in
    let middle = g.S.Store.state c.recover_list.new.store in
    let failed = c.in_err-log.ensures in
    passed_as (RecoverOf Tells uuid geometry chain old new) c.from_residual-in_err-log.result error
    c.from_residual-in_err-log.ensures.1
    (record {
      found = tt;
      refused = λ tells.
          told_refused_there Tells uuid geometry chain old.objects names c.in_ok-base.base.number log
          c.in_ok-listed.listed.absent
          c.a_uuid_has_sixteen_bytes.ensures
          (subst (λ list. IfSome old.objects (λ objects. Lists uuid objects list)) (sym c.as_slice-3.ensures)
          c.requires.listed) c.in_ok-listed.ensures.list (recovers_told g at) error tells
          (subst (λ (s : StoreState). IfSome s.objects (λ objects. RefusesHolds (expected_of_volume log) objects names error))
          same
          (subst (λ (it : ListedState). IfSome middle.objects (λ objects.
          RefusesHolds (expected_of_volume it.log) objects names error)) c.listed.view_is (failed.refused tells)));
      unchanged = subst (λ (s : StoreState). OnlyCounts s new) same failed.unchanged;
      faults = subst (λ (s : StoreState). Counts (is_store_fault error) s.faults new.faults) same failed.faults;
    })

-- what holds keep was marked in it
marks_of : (g : given.Over) (c : In_ok-log g)
    → MarksKept (TellsBytes g.S.Receipt.Receipt.state) (expected_of_volume c.in_ok-listed.listed.log)
    (g.S.Store.state c.args.store.now).objects (IsHoldAmong c.in_ok-listed.listed.log.uploads.uuid c.as_slice-3.result.now)
    c.in_ok-listed.listed.log c.in_ok-log.log
marks_of g c =
    let Tells : Type 0 = TellsBytes g.S.Receipt.Receipt.state in
    let Marks : StoreState → ObjLogState → Type 0 = λ s begun. MarksKept Tells (expected_of_volume begun) s.objects
    (IsHoldAmong begun.uploads.uuid c.as_slice-3.result.now) begun c.in_ok-log.log in
    let middle = g.S.Store.state c.recover_list.new.store in
    subst (λ s. Marks s c.in_ok-listed.listed.log) (same_after g (goal.at.In_ok-log g c).In_ok-listed)
    (subst (λ (it : ListedState). Marks middle it.log) c.listed.view_is c.in_ok-log.ensures.marks)

pub returns-in-None : goal.returns-in-None
returns-in-None g c =
    let old = g.S.Store.state c.args.store.now in
    let new = g.S.Store.state c.with_held.new.store in
    let uuid = c.args.uuid in
    let geometry = c.args.geometry in
    let chain = c.args.chain.now in
    let Tells : Type 0 = TellsBytes g.S.Receipt.Receipt.state in
    let at = (goal.at.returns-in-None g c).In_ok-listed in
    let same = same_after g at in
    let names = c.args.names in
    let list = c.in_ok-listed.ensures in
    let log = c.in_ok-listed.listed.log in
    let done = c.in_ok-log.ensures in
    let number = sym (ap (λ (b : ReadCheckpoint). b.number) c.base.view_is) in
    let whole : c.in_ok-listed.listed.absent ≡ None = ap (λ (it : ListedState). it.absent) (sym c.listed.view_is)
    ∙ c.in-None.is in
    let marks = subst (λ all. MarksKept Tells (expected_of_volume log) old.objects (IsHoldAmong log.uploads.uuid all) log
    c.in_ok-log.log) c.as_slice-3.ensures
    (marks_of g (goal.at.returns-in-None g c).In_ok-log) in
    record {
      found =
          subst (λ n. RecoveredOf Tells uuid geometry chain old.objects
          (record { log = c.in_ok-log.log; checkpoint = n; names = names })) number
          (recovered_with_holds Tells uuid geometry chain old.objects names c.in_ok-base.base.number log
          c.in_ok-listed.listed.absent c.a_uuid_has_sixteen_bytes.ensures c.requires.listed list.list (recovers_told g at)
          c.in_ok-log.log list.table marks whole c.requires.names list.from list.order (list.places whole));
      refused = λ tells. tt;
      unchanged = subst (λ (s : StoreState). OnlyCounts s new) same done.unchanged;
      faults = done.faults ∙ ap (λ (s : StoreState). s.faults) same;
    }

-- ---- an ancestor lacks an object of its checkpoint

pub returns-in-Some : goal.returns-in-Some
returns-in-Some g c =
    let old = g.S.Store.state c.args.store.now in
    let new = g.S.Store.state c.with_held.new.store in
    let uuid = c.args.uuid in
    let geometry = c.args.geometry in
    let chain = c.args.chain.now in
    let Tells : Type 0 = TellsBytes g.S.Receipt.Receipt.state in
    let at = (goal.at.returns-in-Some g c).In_ok-listed in
    let same = same_after g at in
    let list = c.in_ok-listed.ensures in
    let log = c.in_ok-listed.listed.log in
    let absent = c.in_ok-listed.listed.absent in
    let lacks = c.in-Some.uuid in
    let is : absent ≡ Some lacks = ap (λ (it : ListedState). it.absent) (sym c.listed.view_is) ∙ c.in-Some.is in
    let wide : geometry.sectors < 2 ^ 64 = grind (arith, nat_tests, c.requires.limits) in
    let lists = subst (λ names. IfSome old.objects (λ objects. Lists uuid objects names)) (sym c.as_slice-3.ensures)
    c.requires.listed in
    let done = c.in_ok-log.ensures in
    record {
      found = tt;
      refused = λ tells.
          told_base_missing Tells uuid geometry chain old.objects c.as_slice-3.result.now c.in_ok-base.base.number log absent
          c.a_uuid_has_sixteen_bytes.ensures lists list.list (recovers_told g at) c.in_ok-log.log list.table
          (marks_of g (goal.at.returns-in-Some g c).In_ok-log) lacks is wide tells;
      unchanged = subst (λ (s : StoreState). OnlyCounts s new) same done.unchanged;
      faults = done.faults ∙ ap (λ (s : StoreState). s.faults) same;
    }
