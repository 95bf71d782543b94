use Rattle.std.proofs.Common.{◌≡◌, Some, sym, subst, refl}
use Rattle.std.specs.Prelude.{IfSome}
use Rattle.lsvd_objstore.specs.Objects.{found}
use Rattle.object_stream.specs.Replay.{object_name}
use Rattle.object_table.specs.Table.{held}
use Rattle.object_uploads.specs.Removal.{HasChangedRow}
use Rattle.obj_log.specs.State.{ObjLogState}
use Rattle.stopped_volume.specs.Store.{TellsBytes}
use Rattle.object_recovery.specs.Holding.{RefusesOrFails}
use Rattle.object_recovery.proofs.HoldingLemmas.{one_kept, bytes_refused}
use Rattle.object_recovery.proofs.holding.mark_kept.Goals as goal

pub returns-in-Ok-clause-marks : goal.returns-in-Ok-clause-marks
returns-in-Ok-clause-marks g c =
    let told = (g.S.Store.state c.args.store.now).objects in
    let old : ObjLogState = c.args.log.now in
    let middle : ObjLogState = record { batch = old.batch; uploads = c.hold.new.self } in
    let change = subst (λ u. HasChangedRow held c.args.number u c.hold.new.self) c.uploads_mut.ensures.is c.hold.ensures.held in
    one_kept c.args.volume.now c.args.number c.as_slice.result.now middle c.mark_rows.new.log c.in-Ok.ensures.marks
    (TellsBytes g.S.Receipt.Receipt.state) told old change c.hold.ensures.order_after refl
    (λ tells. subst (λ b. IfSome told (λ objects. found objects (object_name c.args.volume.now c.args.number) ≡ Some b))
    (sym c.as_slice.ensures.value) (c.in_ok-bytes.ensures.bytes tells))

pub returns-clause-refused : goal.returns-clause-refused
returns-clause-refused g c = λ tells.
    let told = (g.S.Store.state c.args.store.now).objects in
    subst (λ e. IfSome told (λ objects. RefusesOrFails c.args.volume.now objects c.args.number e)) (sym c.bad_object.ensures)
    (bytes_refused c.args.volume.now c.args.number c.as_slice.result.now c.in-Err.reason told c.in-Err.ensures.refused
    c.in-Err.ensures.none
    (subst (λ b. IfSome told (λ objects. found objects (object_name c.args.volume.now c.args.number) ≡ Some b))
    (sym c.as_slice.ensures.value) (c.in_ok-bytes.ensures.bytes tells)))
