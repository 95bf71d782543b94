use Rattle.std.proofs.Common.{◌≡◌, ◌+◌, ◌∙◌, refl, sym, ap, subst}
use Rattle.std.specs.Prelude.{IfOk}
use Rattle.std.specs.Global.{Vec}
use Rattle.std.proofs.lemmas.Result.{IfOk-weaker}
use Rattle.object_format.specs.declared.copy_row.CopyRow.{CopyRow}
use Rattle.object_format.specs.declared.rows.Rows.TheVariants.{Copy}
use Rattle.object_format.specs.Writing.{object_header_of}
use Rattle.object_stream.specs.Replay.{HasParts}
use Rattle.object_uploads.specs.declared.rows.SealedRows.TheVariants as sealed_rows
use Rattle.object_uploads.specs.Queue.{FitCopy, end_of_last}
use Rattle.object_uploads.specs.Changes.{IsSealedNext}
use Rattle.obj_log.specs.State.{ObjLogState}
use Rattle.obj_log.specs.Changes.{next_of, HasSealedCopy}
use Rattle.obj_log.proofs.FitLemmas.{copies_fit_volume}
use Rattle.obj_log.proofs.CopyLemmas.{same_copies, is_sealed_copy}
use Rattle.obj_log.proofs.obj_log.ObjLog.seal_copy.Goals as goal

pub copied_ranges-requires : goal.copied_ranges-requires
copied_ranges-requires g c =
    let own = c.self.inside.uploads.sectors in
    let log = c.args.self.now in
    let copied = c.args.copied.now in
    let sectors : own ≡ log.batch.geometry.sectors =
    ap (λ (o : ObjLogState). o.uploads.sectors) c.self.view_is ∙ c.requires.sectors in
    let fit = copies_fit_volume log.batch.geometry.sectors (log.uploads.window.last + 1) copied.rows c.requires.count
    c.rows.ensures.copied.plan.few c.requires.rows in
    subst (FitCopy own) (sym c.rows-2.ensures.rows) (subst (λ n. FitCopy n copied.rows) (sym sectors) fit)

pub seal_copy-requires-clause-fit : goal.seal_copy-requires-clause-fit
seal_copy-requires-clause-fit g c =
    let own = c.self.inside.uploads.sectors in
    let log = c.args.self.now in
    let copied = c.args.copied.now in
    let sectors : own ≡ log.batch.geometry.sectors =
    ap (λ (o : ObjLogState). o.uploads.sectors) c.self.view_is ∙ c.requires.sectors in
    let fit = copies_fit_volume log.batch.geometry.sectors (log.uploads.window.last + 1) copied.rows c.requires.count
    c.rows.ensures.copied.plan.few c.requires.rows in
    let same = same_copies c.in_ok-from_slice.field-0 c.into_copies.result c.into_copies.ensures in
    let are : c.into_copies.result.items ≡ copied.rows =
    ap (λ (rows : Vec CopyRow). rows.items) (sym same) ∙ (c.in_ok-from_slice.ensures.items ∙ c.rows.ensures.rows) in
    subst (FitCopy own) (sym are) (subst (λ n. FitCopy n copied.rows) (sym sectors) fit)

pub returns-clause-sealed : goal.returns-clause-sealed
returns-clause-sealed g c =
    let own = c.self.inside in
    let old : ObjLogState = record { batch = own.batch; uploads = own.uploads } in
    let new : ObjLogState = record { batch = own.batch; uploads = c.seal_copy.new.self } in
    let copied = c.args.copied.now in
    let rows = c.in_ok-from_slice.field-0 in
    let bytes = c.in_ok-object.object in
    let expected = c.next.result in
    let end = c.first_seq-end.result in
    let ends = end_of_last own.uploads.queue.end own.uploads.queue.sealed in
    let same = same_copies rows c.into_copies.result c.into_copies.ensures in
    let parts : HasParts expected bytes (object_header_of expected end end (Copy rows)) (Copy rows) copied.payload =
    subst (HasParts expected bytes (object_header_of expected end end (Copy rows)) (Copy rows)) c.payload.ensures.payload
    c.in_ok-object.ensures in
    subst (λ (o : ObjLogState). IfOk c.seal_copy.result (λ _. HasSealedCopy copied o new)) c.self.view_is
    (IfOk-weaker c.seal_copy.result _ (λ _. HasSealedCopy copied old new)
    (λ number sealed.
    is_sealed_copy old new copied expected end bytes rows (c.next.ensures ∙ ap next_of (sym c.self.view_is))
    c.first_seq-end.ensures (c.in_ok-from_slice.ensures.items ∙ c.rows.ensures.rows) parts
    (subst (λ (list : Vec CopyRow). IsSealedNext bytes (sealed_rows.Copy list) ends own.uploads c.seal_copy.new.self) (sym same)
    sealed) refl)
    c.seal_copy.ensures.sealed)
