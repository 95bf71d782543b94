use Rattle.std.proofs.Common.{◌<◌, ◌^◌, ◌∙◌, Some, None, length, sym, subst, ap, arith}
use Rattle.std.specs.Prelude.{IfSome, IsTrue, Ok, Err}
use Rattle.std.proofs.lemmas.Bool.Decides.{nat_tests}
use Rattle.lsvd_base.specs.Limits.{is_within_limits}
use Rattle.lsvd_fault.specs.Faults.{Counts}
use Rattle.lsvd_objstore.specs.Store.{StoreState, OnlyCounts}
use Rattle.stopped_volume.specs.Ancestors.{uuid_in_chain}
use Rattle.stopped_volume.specs.Store.{TellsBytes}
use Rattle.object_format.specs.declared.expected.Expected.{Expected}
use Rattle.object_recovery.specs.Adoption.{IsRecoveryBegun, RefusesBeside, RecoverListOf}
use Rattle.object_recovery.specs.Checkpoints.{expected_of, ReadCheckpoint}
use Rattle.object_recovery.specs.Faults.{is_store_fault}
use Rattle.object_recovery.proofs.FindLemmas.{same_store, passed_as}
use Rattle.object_recovery.proofs.ListLemmas.{own_list}
use Rattle.object_recovery.proofs.OutcomeLemmas.{BeginsAsStored, refusal_counts, told_beside, recovers_so, stops_so}
use Rattle.object_recovery.proofs.OutcomeLemmas.{told_failed}
use Rattle.object_recovery.proofs.recovery.recover_list.Goals as goal

-- ---- the list goes on

pub go_on-requires-clause-list : goal.go_on-requires-clause-list
go_on-requires-clause-list g c =
    let base = c.args.base in
    let begins = rw c.in-List.is at c.in_ok-log.ensures.begins in
    own_list c.args.uuid c.args.geometry (length c.args.chain.now) base.number base.end c.in-List.log begins.2.list

pub go_on-requires-clause-limits : goal.go_on-requires-clause-limits
go_on-requires-clause-limits g c =
    let begins = rw c.in-List.is at c.in_ok-log.ensures.begins in
    subst (λ sizes. IsTrue (is_within_limits sizes)) (sym begins.2.list.geometry_is) c.requires.limits

pub go_on-requires-clause-order : goal.go_on-requires-clause-order
go_on-requires-clause-order g c =
    let begins = rw c.in-List.is at c.in_ok-log.ensures.begins in
    begins.2.order

pub returns-in_ok-log-in-List : goal.returns-in_ok-log-in-List
returns-in_ok-log-in-List g c =
    let old = g.S.Store.state c.args.store.now in
    let middle = g.S.Store.state c.begin_list.new.store in
    let new = g.S.Store.state c.go_on.new.store in
    let uuid = c.args.uuid in
    let geometry = c.args.geometry in
    let chain = c.args.chain.now in
    let base = c.args.base in
    let names = c.args.names.now in
    let begun = c.in-List.log in
    let absent = c.in-List.absent in
    let log = c.in_ok-log-in-List.log in
    let Tells : Type 0 = TellsBytes g.S.Receipt.Receipt.state in
    let same = same_store old middle c.in_ok-log.ensures.unchanged c.in_ok-log.ensures.faults in
    let begins = rw c.in-List.is at c.in_ok-log.ensures.begins in
    let wide : geometry.sectors < 2 ^ 64 = grind (arith, nat_tests, c.requires.limits) in
    subst (λ (s : StoreState). RecoverListOf Tells uuid geometry chain base names s new
    (Ok (record { log = log; absent = absent }))) same
    (recovers_so uuid geometry chain base begins.0 names wide begins.1 begun absent begins.2 Tells middle new log
    (λ tells. subst (λ (s : StoreState). IfSome s.objects
    (BeginsAsStored uuid geometry chain base begins.0 names wide begins.1 begun absent)) (sym same) (begins.3 tells))
    c.in_ok-log-in-List.ensures)

pub returns-in_err-log-in-List : goal.returns-in_err-log-in-List
returns-in_err-log-in-List g c =
    let old = g.S.Store.state c.args.store.now in
    let middle = g.S.Store.state c.begin_list.new.store in
    let new = g.S.Store.state c.go_on.new.store in
    let uuid = c.args.uuid in
    let geometry = c.args.geometry in
    let chain = c.args.chain.now in
    let base = c.args.base in
    let names = c.args.names.now in
    let begun = c.in-List.log in
    let absent = c.in-List.absent in
    let error = c.in_err-log-in-List.field-0.0 in
    let Tells : Type 0 = TellsBytes g.S.Receipt.Receipt.state in
    let same = same_store old middle c.in_ok-log.ensures.unchanged c.in_ok-log.ensures.faults in
    let begins = rw c.in-List.is at c.in_ok-log.ensures.begins in
    let wide : geometry.sectors < 2 ^ 64 = grind (arith, nat_tests, c.requires.limits) in
    passed_as (RecoverListOf Tells uuid geometry chain base names old new)
    c.from_residual-in_err-log-in-List.result error c.from_residual-in_err-log-in-List.ensures.1
    (subst (λ (s : StoreState). RecoverListOf Tells uuid geometry chain base names s new (Err error)) same
    (stops_so uuid geometry chain base begins.0 names wide begins.1 begun absent begins.2 Tells middle new error
    (λ tells. subst (λ (s : StoreState). IfSome s.objects
    (BeginsAsStored uuid geometry chain base begins.0 names wide begins.1 begun absent)) (sym same) (begins.3 tells))
    c.in_err-log-in-List.ensures))

-- ---- an object is missing that the checkpoint maps

pub returns-in_ok-refuse_beside-in-Missing : goal.returns-in_ok-refuse_beside-in-Missing
returns-in_ok-refuse_beside-in-Missing g c =
    let old = g.S.Store.state c.args.store.now in
    let middle = g.S.Store.state c.begin_list.new.store in
    let new = g.S.Store.state c.refuse_beside.new.store in
    let uuid = c.args.uuid in
    let geometry = c.args.geometry in
    let chain = c.args.chain.now in
    let base = c.args.base in
    let names = c.args.names.now in
    let missing = c.in-Missing.number in
    let error = c.in_ok-refuse_beside-in-Missing.field-0 in
    let read = c.requires.read in
    let inside = c.base.inside in
    let held : ReadCheckpoint = record {
      number = inside.number;
      end = inside.end;
      bytes = inside.bytes.items;
      receipt = g.S.Receipt.Receipt.state inside.receipt;
    } in
    let Refuses : StoreState → Expected → ReadCheckpoint → Type 0 = λ s v b. IfSome s.objects (λ objects.
    RefusesBeside v objects (record { number = b.number; end = Some b.end; refused = None }) names missing error) in
    let same = same_store old middle c.in_ok-log.ensures.unchanged c.in_ok-log.ensures.faults in
    let begins = rw c.in-Missing.is at c.in_ok-log.ensures.begins in
    let done = c.in_ok-refuse_beside-in-Missing.ensures in
    let wide : geometry.sectors < 2 ^ 64 = grind (arith, nat_tests, c.requires.limits) in
    record {
      list = tt;
      from = tt;
      order = tt;
      places = tt;
      table = tt;
      recovers = λ tells. tt;
      refused = λ tells.
          told_beside uuid geometry chain base read.rows names wide read.is old.objects missing error (begins tells)
          (subst (Refuses old (expected_of uuid geometry (length chain))) c.base.view_is
          (subst (λ v. Refuses old v held)
          (c.expected_alone-volume.ensures ∙ ap (expected_of uuid geometry) c.count.ensures.count)
          (subst (λ s. Refuses s c.expected_alone-volume.result held) same (done.refused tells))));
      unchanged = subst (λ (s : StoreState). OnlyCounts s new) same done.unchanged;
      faults = refusal_counts error old.faults new.faults done.refusal (done.faults ∙ ap (λ (s : StoreState). s.faults) same);
    }

pub returns-in_err-refuse_beside-in-Missing : goal.returns-in_err-refuse_beside-in-Missing
returns-in_err-refuse_beside-in-Missing g c =
    let old = g.S.Store.state c.args.store.now in
    let middle = g.S.Store.state c.begin_list.new.store in
    let new = g.S.Store.state c.refuse_beside.new.store in
    let uuid = c.args.uuid in
    let geometry = c.args.geometry in
    let chain = c.args.chain.now in
    let base = c.args.base in
    let names = c.args.names.now in
    let Tells : Type 0 = TellsBytes g.S.Receipt.Receipt.state in
    let same = same_store old middle c.in_ok-log.ensures.unchanged c.in_ok-log.ensures.faults in
    let error = c.in_err-refuse_beside-in-Missing.field-0.0 in
    let failed = c.in_err-refuse_beside-in-Missing.ensures in
    passed_as (RecoverListOf Tells uuid geometry chain base names old new)
    c.from_residual-in_err-refuse_beside-in-Missing.result error c.from_residual-in_err-refuse_beside-in-Missing.ensures.1
    (record {
      list = tt;
      from = tt;
      order = tt;
      places = tt;
      table = tt;
      recovers = λ tells. tt;
      refused = λ tells.
          told_failed old.objects (expected_of uuid geometry (length chain)) (uuid_in_chain uuid chain)
          (IsRecoveryBegun uuid geometry (length chain) base names) error failed.answer;
      unchanged = subst (λ (s : StoreState). OnlyCounts s new) same failed.unchanged;
      faults = subst (λ (s : StoreState). Counts (is_store_fault error) s.faults new.faults) same failed.faults;
    })
