use Rattle.std.proofs.Common.{◌≡◌, ◌+◌, refl, sym, ◌∙◌, ap, subst, arith, rules}
use Rattle.std.specs.Prelude.{IfSome}
use Rattle.lsvd_names.specs.Names.{hold_name}
use Rattle.lsvd_names.specs.declared.name.NameKind.TheVariants.{Hold}
use Rattle.lsvd_objstore.specs.Store.{StoreState}
use Rattle.object_format.specs.declared.expected.Expected.{Expected}
use Rattle.obj_log.specs.Changes.{expected_of_volume}
use Rattle.obj_log.specs.State.{ObjLogState}
use Rattle.stopped_volume.specs.Store.{TellsBytes}
use Rattle.object_recovery.specs.Earlier.{IsAmongFirst}
use Rattle.object_recovery.specs.Holding.{MarksKept, RefusesOrFails, RefusesHolds}
use Rattle.object_recovery.proofs.FindLemmas.{same_store, passed_on}
use Rattle.object_recovery.proofs.HeldLemmas.{hold_at, next_held, next_other, all_held, refused_among}
use Rattle.object_recovery.proofs.HoldingLemmas.{none_kept}
use Rattle.object_recovery.proofs.holding.mark_held.Goals.{then-eq+in_ok-mark_kept, else-eq}
use Rattle.object_recovery.proofs.holding.mark_held.Goals as goal

pub loop-name-init : goal.loop-name-init
loop-name-init g c = record {
  same = refl;
  marks =
      none_kept (TellsBytes g.S.Receipt.Receipt.state) (expected_of_volume c.args.log.now)
      (g.S.Store.state c.args.store.now).objects
      (λ n. IsAmongFirst c.args.names.now 0 (hold_name c.args.log.now.uploads.uuid n)) c.args.log.now
      (λ n among. absurd (omega (arith, among.1)));
}

pub returns-in_err-mark_kept-clause-refused : goal.returns-in_err-mark_kept-clause-refused
returns-in_err-mark_kept-clause-refused g c = λ tells.
    let told = (g.S.Store.state c.args.store.now).objects in
    let volume : Expected = expected_of_volume c.args.log.now in
    let names = c.args.names.now in
    let name = c.name-item.result in
    let before = c.loop-name.invariant in
    let error = c.in_err-mark_kept.field-0.0 in
    let kind : name.kind ≡ Hold = search rules in
    let among = hold_at volume.uuid names c.loop-name.name-index name c.loop-name-test.true (sym c.name-item.is)
    c.requires.names kind in
    let refused = subst (λ (s : StoreState). IfSome s.objects (λ objects. RefusesOrFails volume objects name.number error))
    before.same
    (subst (λ v. IfSome (g.S.Store.state c.loop-name.store).objects (λ objects. RefusesOrFails v objects name.number error))
    c.expected_of_list-volume.ensures (c.in_err-mark_kept.ensures.refused tells)) in
    passed_on (λ e. IfSome told (λ objects. RefusesHolds volume objects names e)) c.from_residual.result error
    c.from_residual.ensures.1
    (refused_among names name.number volume told error among (before.marks.checkpoints tells) refused)

pub loop-name-preserved : goal.loop-name-preserved
loop-name-preserved g c =
    let Tells = TellsBytes g.S.Receipt.Receipt.state in
    let told = (g.S.Store.state c.args.store.now).objects in
    let old : ObjLogState = c.args.log.now in
    let volume : Expected = expected_of_volume old in
    let uuid = old.uploads.uuid in
    let names = c.args.names.now in
    let name = c.name-item.result in
    let index = c.loop-name.name-index in
    let inside = c.loop-name-test.true in
    let before = c.loop-name.invariant in
    let middle : ObjLogState = c.loop-name.log in
    let Marks : ObjLogState → Type 0 = λ log. MarksKept Tells volume told
    (λ n. IsAmongFirst names (index + 1) (hold_name uuid n)) old log in
    elim c.if-eq.branch [
      | then-eq+in_ok-mark_kept w ↦
          let new : ObjLogState = w.mark_kept.new.log in
          let done = w.in_ok-mark_kept.ensures in
          let kind : name.kind ≡ Hold = search rules in
          let same = same_store (g.S.Store.state c.loop-name.store) (g.S.Store.state w.mark_kept.new.store) done.unchanged
          done.faults ∙ before.same in
          let marks = subst (λ (s : StoreState). MarksKept Tells volume s.objects (λ checkpoint. checkpoint ≡ name.number)
          middle new) before.same
          (subst (λ v. MarksKept Tells v (g.S.Store.state c.loop-name.store).objects (λ checkpoint. checkpoint ≡ name.number)
          middle new) c.expected_of_list-volume.ensures done.marks) in
          record {
            same = ap g.S.Store.state w.store-is ∙ same;
            marks =
                subst Marks (sym w.log-is)
                (next_held uuid names index name inside (sym c.name-item.is) Tells volume told old middle new before.marks
                c.requires.names kind marks);
          }
      | else-eq w ↦
          let other : name.kind ≡ Hold → ⊥ = search rules in
          record {
            same = ap g.S.Store.state w.store-is ∙ before.same;
            marks =
                subst Marks (sym w.log-is)
                (next_other uuid names index name inside (sym c.name-item.is) Tells volume told old middle middle before.marks
                other);
          }
    ]

pub returns-clause-marks : goal.returns-clause-marks
returns-clause-marks g c =
    all_held c.args.log.now.uploads.uuid c.args.names.now c.loop-name.name-index (TellsBytes g.S.Receipt.Receipt.state)
    (expected_of_volume c.args.log.now) (g.S.Store.state c.args.store.now).objects c.args.log.now c.loop-name.log
    (omega arith) c.loop-name.invariant.marks
