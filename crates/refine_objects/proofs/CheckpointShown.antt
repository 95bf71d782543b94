-- A seal of a checkpoint is that of the plain volume.
use Rattle.std.proofs.Common.{◌≡◌, ℕ, ◌+◌, ◌-◌, ◌≤◌, true, false, cond, [], ◌∷◌, ◌++◌, length, take, refl}
use Rattle.std.proofs.Common.{sym, ◌∙◌, ap, subst, arith}
use Rattle.std.proofs.lemmas.Bool.Decides.{nat_tests}
use Rattle.std.proofs.lemmas.List.{take-append-le}
use Rattle.lsvd_base.specs.Image.{after}
use Rattle.upload_window.specs.declared.object.OpenObject.{OpenObject}
use Rattle.upload_window.specs.Window.{WindowState, entered}
use Rattle.object_stream.specs.declared.object.Content.TheVariants.{Checkpoint}
use Rattle.object_stream.specs.declared.object.StreamObject.{StreamObject}
use Rattle.object_stream.specs.Stream.{end_after, end_at, last_number}
use Rattle.object_uploads.specs.declared.rows.SealedRows.TheVariants as sealed_rows
use Rattle.object_uploads.specs.Queue.{end_of_last}
use Rattle.object_uploads.specs.Order.{IsUploads}
use Rattle.object_uploads.specs.Checkpoint.{HasSealedCheckpoint}
use Rattle.object_uploads.specs.Image.{HasImage, AreCopied}
use Rattle.object_uploads.proofs.ImageLemmas.{sealing_keeps_image}
use Rattle.batcher.specs.State.{BatchState}
use Rattle.obj_log.specs.State.{ObjLogState}
use Rattle.obj_log.proofs.StreamLemmas.{sealing_checkpoint_keeps_stream}
use Rattle.plain_disk.specs.declared.event.PlainReply.{PlainReply}
use Rattle.plain_disk.specs.declared.event.PlainReply.TheVariants.{Sealed, Busy}
use Rattle.plain_disk.specs.State.{PlainState, stream_in, frontier_of, frontier_end}
use Rattle.plain_disk.specs.Objects.{is_busy}
use Rattle.plain_disk.specs.Valid.{IsPlainVolume}
use Rattle.plain_disk.proofs.EndLemmas.{frontier_is_sealed}
use Rattle.refine_objects.specs.Shows.{settled_image, ShowsObjects}
use Rattle.refine_objects.specs.TableLaws.{ShowsBoth, SealedShowsSealCheckpoint, RefusedSealCheckpointShowsNone}
use Rattle.refine_objects.proofs.AlikeLemmas.{sealed_alike}
use Rattle.refine_objects.proofs.SealLemmas.{below_entered}
use Rattle.refine_objects.proofs.PayloadsOf.{payload_with_object}
use Rattle.refine_objects.proofs.TableLemmas.{same_table, row_is_sealed}

-- the plain volume with a checkpoint more, which a seal leaves
abbrev pub with_checkpoint : PlainState → PlainState
with_checkpoint plain = record plain {
  objects =
      plain.objects
      ++ record { content = Checkpoint; end = end_at (stream_in plain) (last_number (stream_in plain)) } ∷ [];
  window = entered (plain.window.last + 1) true plain.window;
}

-- it leaves the frontier's end, and the image up to there
pub checkpoint_end : (plain : PlainState) → IsPlainVolume plain → frontier_end (with_checkpoint plain) ≡ frontier_end plain
checkpoint_end plain valid =
    let object : StreamObject = record { content = Checkpoint; end = end_at (stream_in plain) (last_number (stream_in plain)) } in
    let opened : OpenObject = record {
      number = plain.window.last + 1;
      is_checkpoint = true;
      is_started = false;
      was_started = false;
    } in
    let objects = plain.objects ++ object ∷ [] in
    let count = frontier_of plain - plain.number in
    let below : frontier_of (with_checkpoint plain) ≡ frontier_of plain =
    below_entered plain.window.objects plain.window.last opened refl in
    let within : count ≤ length plain.objects = omega (arith, frontier_is_sealed plain valid) in
    ap (λ n. end_after plain.end (take (n - plain.number) objects)) below
    ∙ ap (end_after plain.end) (take-append-le count plain.objects (object ∷ []) within)

image_same : (plain : PlainState) → IsPlainVolume plain → settled_image (with_checkpoint plain) ≡ settled_image plain
image_same plain valid =
    ap (λ end. after plain.opening (take (end - plain.end) plain.entries)) (checkpoint_end plain valid)

module _ (data_at : ℕ → ℕ) (old new : ObjLogState) (plain : PlainState) (uploads : IsUploads old.uploads)
    (valid : IsPlainVolume plain) (shows : ShowsBoth data_at old plain)
    (sealed : HasSealedCheckpoint old.uploads new.uploads) (batch : new.batch ≡ old.batch) where
  objects_shown : ShowsObjects data_at new (with_checkpoint plain)
  objects_shown =
      let was = shows.objects in
      let queue = old.uploads.queue in
      let kept = sealing_keeps_image sealed.bytes sealed_rows.Checkpoint (end_of_last queue.end queue.sealed) old.uploads
      new.uploads refl sealed.sealed in
      record {
        geometry = ap (λ (b : BatchState). b.geometry) batch ∙ was.geometry;
        ancestors = sealed.sealed.ancestors ∙ was.ancestors;
        stream = sealing_checkpoint_keeps_stream data_at (stream_in plain) old new uploads was.stream sealed batch;
        window = sealed.sealed.window ∙ ap (λ (w : WindowState). entered (w.last + 1) true w) was.window;
        image = subst (λ image. HasImage image new.uploads.queue) (sym (image_same plain valid))
            (kept.image (settled_image plain) was.image);
        receipts = kept.receipts was.receipts;
        copied = λ tells alike.
            subst (λ image. AreCopied tells image new.uploads.queue) (sym (image_same plain valid))
            (kept.copies tells (settled_image plain) (was.copied tells
            (sealed_alike tells sealed.bytes _ _ old.uploads new.uploads sealed.sealed alike)));
      }

  both_shown : ShowsBoth data_at new (with_checkpoint plain)
  both_shown =
      let settled = sealed.sealed.settled in
      record {
        objects = objects_shown;
        table =
            same_table old.uploads.queue new.uploads.queue plain (with_checkpoint plain)
            (record {
              frontier = settled.frontier;
              rows = settled.places.objects;
              checkpoint = settled.places.checkpoint;
              removal = settled.removal;
            })
            (record {
              checkpoint = refl;
              removal = refl;
              removed = refl;
              pins = refl;
              plan = refl;
              held = refl;
              payloads = λ number row is.
                  payload_with_object plain
                  (record { content = Checkpoint; end = end_at (stream_in plain) (last_number (stream_in plain)) }) number valid
                  (row_is_sealed data_at old plain uploads valid shows.objects number row is);
            }) shows.table;
      }

pub sealed_shows_seal_checkpoint : SealedShowsSealCheckpoint
sealed_shows_seal_checkpoint data_at old new plain uploads valid shows sealed batch free =
    let window = shows.objects.window in
    let busy : is_busy plain ≡ false = grind (arith, nat_tests, window) in
    let shown = both_shown data_at old new plain uploads valid shows sealed batch in
    let reply : PlainReply = Sealed (plain.window.last + 1) in (
      subst (ShowsBoth data_at new) (sym (ap (λ b. cond b plain (with_checkpoint plain)) busy)) shown,
      ap (λ b. cond b Busy reply) busy ∙ ap (λ (w : WindowState). Sealed (w.last + 1)) (sym window),
    )

pub refused_seal_checkpoint_shows_none : RefusedSealCheckpointShowsNone
refused_seal_checkpoint_shows_none data_at objects plain shows full =
    let window = shows.window in
    let busy : is_busy plain ≡ true = grind (arith, nat_tests, window) in
    let reply : PlainReply = Sealed (plain.window.last + 1) in
    (ap (λ b. cond b Busy reply) busy, ap (λ b. cond b plain (with_checkpoint plain)) busy)
