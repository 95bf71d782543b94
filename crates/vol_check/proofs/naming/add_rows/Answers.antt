use Rattle.std.proofs.Common.{◌≡◌, ◌++◌, ◌∷◌, [], sym, subst, ap, ◌∙◌}
use Rattle.ckpt_format.specs.Checkpoint.{IsCheckpoint}
use Rattle.ckpt_format.specs.Reading.{CheckpointReading}
use Rattle.object_format.specs.declared.expected.Expected.{Expected}
use Rattle.object_recovery.proofs.RowLemmas.{last_stands_so}
use Rattle.stopped_volume.specs.Opening.{owned_by}
use Rattle.vol_check.specs.Steps.{GainsJust, MapsObject}
use Rattle.vol_check.proofs.RowLemmas.{no_rows, row_more}
use Rattle.vol_check.proofs.naming.add_rows.Goals as goal

pub loop-row-init : goal.loop-row-init
loop-row-init c =
    let named = c.args.named.now in
    let begun = c.in-Ok.ensures.begun in
    record {
      object = begun.object;
      expected = begun.expected;
      adds = subst (λ list. GainsJust (MapsObject (owned_by list)) named named) (sym begun.given) (no_rows named);
    }

pub loop-row-preserved : goal.loop-row-preserved
loop-row-preserved c =
    let before = c.loop-row.invariant in
    let gives = rw c.in-Ok-Some.field-0-is at c.in-Ok-Some.ensures.gives in
    let old = c.loop-row.rows in
    let row = c.in-Ok-Some.row in
    let given : c.next_row.new.self.given ≡ old.given ++ row ∷ [] = ap (λ (r : CheckpointReading). r.given) gives.after in
    let some = (last_stands_so old.expected old.given row gives.spelling).some in
    record {
      object = ap (λ (r : CheckpointReading). r.object) gives.after ∙ before.object;
      expected = ap (λ (r : CheckpointReading). r.expected) gives.after ∙ before.expected;
      adds =
          subst (λ list. GainsJust (MapsObject (owned_by list)) c.args.named.now c.add_place.new.named) (sym given)
          (row_more old.given row c.args.named.now c.loop-row.named c.add_place.new.named gives.spelling.shortest some before.adds
          c.in_ok-add_place-in-Ok-Some.ensures);
    }

pub returns-in-Ok-None-clause-adds : goal.returns-in-Ok-None-clause-adds
returns-in-Ok-None-clause-adds c =
    let before = c.loop-row.invariant in
    let old = c.loop-row.rows in
    let at_end = rw c.in-Ok-None.field-0-is at c.in-Ok-None.ensures.gives in (
      old.end_seq,
      old.given,
      subst (λ bytes. IsCheckpoint bytes c.args.expected.now old.end_seq old.given) before.object
          (subst (λ (e : Expected). IsCheckpoint old.object e old.end_seq old.given) before.expected at_end.is_checkpoint),
      before.adds,
    )
