use Rattle.std.proofs.Common.{◌≡◌, ℕ, ◌++◌, ◌∷◌, [], List, sym, subst, ap, ◌∙◌}
use Rattle.extent_map.specs.declared.extent.Extent.{Extent}
use Rattle.ckpt_format.specs.declared.place.StoredPlace.{StoredPlace}
use Rattle.ckpt_format.specs.Checkpoint.{IsCheckpoint}
use Rattle.ckpt_format.specs.Reading.{CheckpointReading, IsCheckpointRefusedAs}
use Rattle.object_recovery.specs.Holding.{MarksNamed}
use Rattle.object_recovery.proofs.HoldingLemmas.{none_named, named_more, rows_refused, on_error}
use Rattle.object_recovery.proofs.RowLemmas.{last_stands_so}
use Rattle.object_recovery.proofs.holding.mark_rows.Goals as goal

pub loop-row-init : goal.loop-row-init
loop-row-init g c =
    let begun = c.in_ok-rows.ensures.begun in
    record {
      object = begun.object;
      expected = begun.expected;
      named = subst (λ list. MarksNamed list c.args.log.now c.args.log.now) (sym begun.given) (none_named c.args.log.now);
    }

pub loop-row-preserved : goal.loop-row-preserved
loop-row-preserved g c =
    let before = c.loop-row.invariant in
    let gives = rw c.in-Some.is at c.in_ok-row.ensures.gives in
    let old = c.loop-row.rows in
    let row = c.in-Some.row in
    let given : c.next_row.new.self.given ≡ old.given ++ row ∷ [] = ap (λ (r : CheckpointReading). r.given) gives.after in
    let some = (last_stands_so old.expected old.given row gives.spelling).some in
    record {
      object = ap (λ (r : CheckpointReading). r.object) gives.after ∙ before.object;
      expected = ap (λ (r : CheckpointReading). r.expected) gives.after ∙ before.expected;
      named =
          subst (λ list. MarksNamed list c.args.log.now c.mark_place.new.log) (sym given)
          (named_more old.given row c.args.log.now c.loop-row.log c.mark_place.new.log gives.spelling.shortest some before.named
          c.mark_place.ensures);
    }

pub returns-in_err-row-clause-none : goal.returns-in_err-row-clause-none
returns-in_err-row-clause-none g c =
    let before = c.loop-row.invariant in
    let failed = c.in_err-row.ensures in
    let reason = c.in_err-row.field-0.0 in
    let refused = subst (λ b. IsCheckpointRefusedAs b c.args.expected.now reason) before.object
    (subst (λ e. IsCheckpointRefusedAs c.loop-row.rows.object e reason) before.expected failed.refused) in
    on_error ((end : ℕ) (rows : List (Extent StoredPlace)) → IsCheckpoint c.args.bytes.now c.args.expected.now end rows → ⊥)
    c.from_residual-in_err-row.result (rows_refused c.args.bytes.now c.args.expected.now reason failed.rows refused)
