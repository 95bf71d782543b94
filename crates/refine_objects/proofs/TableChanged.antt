-- A list shows the objects of a plain volume whatever that has of checkpoints, pins and removals, and while the table changes.
use Rattle.std.proofs.Common.{◌≡◌, ℕ, Bool, Option, List, ◌∙◌, ap}
use Rattle.object_stream.specs.declared.object.CopiedSector.{CopiedSector}
use Rattle.object_uploads.specs.Image.{TellAlike}
use Rattle.object_uploads.specs.ImageLaws.{KeepsImage}
use Rattle.object_uploads.specs.Removal.{IsSameButObjects}
use Rattle.batcher.specs.State.{BatchState}
use Rattle.obj_log.specs.State.{ObjLogState}
use Rattle.obj_log.proofs.StreamLemmas.{removals_keep_stream}
use Rattle.plain_disk.specs.State.{PlainState, PlainCheckpoint, stream_in}
use Rattle.refine_objects.specs.Shows.{settled_image, ShowsObjects}

-- it shows the same whatever the newest checkpoint, the plan of a copy, the pins and the removals are
pub with_others : (data_at : ℕ → ℕ) (objects : ObjLogState) (plain : PlainState) (checkpoint : PlainCheckpoint)
    (plan : Option (List CopiedSector)) (pins removed given_out : List ℕ) (removal : Option ℕ)
    → ShowsObjects data_at objects plain
    → ShowsObjects data_at objects (record plain {
      checkpoint = checkpoint;
      plan = plan;
      pins = pins;
      removed = removed;
      given_out = given_out;
      removal = removal;
    })
with_others data_at objects plain checkpoint plan pins removed given_out removal shows = record {
  geometry = shows.geometry;
  ancestors = shows.ancestors;
  stream = shows.stream;
  window = shows.window;
  image = shows.image;
  receipts = shows.receipts;
  copied = shows.copied;
}

-- A change of the table alone, which keeps the image, keeps what is shown, where receipts tell bytes as they did.
pub table_changed : (data_at : ℕ → ℕ) (old new : ObjLogState) (plain : PlainState) → IsSameButObjects old.uploads new.uploads
    → new.batch ≡ old.batch → KeepsImage old.uploads.queue new.uploads.queue
    → ((tells : Bool) → TellAlike tells new.uploads.queue → TellAlike tells old.uploads.queue) → ShowsObjects data_at old plain
    → ShowsObjects data_at new plain
table_changed data_at old new plain rest batch kept alike shows = record {
  geometry = ap (λ (b : BatchState). b.geometry) batch ∙ shows.geometry;
  ancestors = rest.ancestors ∙ shows.ancestors;
  stream = removals_keep_stream data_at (stream_in plain) old new shows.stream rest batch;
  window = rest.window ∙ shows.window;
  image = kept.image (settled_image plain) shows.image;
  receipts = kept.receipts shows.receipts;
  copied = λ tells told. kept.copies tells (settled_image plain) (shows.copied tells (alike tells told));
}
