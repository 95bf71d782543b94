-- The objects that a plan of a copy takes sectors from are marked, and nothing else changes.
use Rattle.std.proofs.Common.{◌≡◌, ℕ, Bool, List, [], ◌∷◌, ◌++◌, refl}
use Rattle.object_table.specs.Table.{TableState, with_changed, copied}
use Rattle.upload_window.specs.Window.{WindowState}
use Rattle.volume_maps.proofs.KeptLemmas.{count_of, kept_counts}
use Rattle.volume_maps.proofs.TableLemmas.{changed_unseen}
use Rattle.object_uploads.specs.State.{QueueState, UploadsState}
use Rattle.object_uploads.specs.Order.{AreKnown, IsUploads}
use Rattle.object_uploads.specs.Invariant.{IsKnown}
use Rattle.object_uploads.specs.Collection.{marked, marked_in}
use Rattle.object_uploads.specs.Laws.{MarksChangeObjectsAlone}
use Rattle.object_uploads.specs.ImageLaws.{KeepsImage, MarksKeepImage}
use Rattle.object_uploads.proofs.QueueSettled.{known_pinned}
use Rattle.object_uploads.proofs.UploadsKept.{whole, uploads_changed}
use Rattle.object_uploads.proofs.RemovalImage.{pins_keep_image}

-- those of one number more were marked
pub marked_more : (is_copied : Bool) (numbers : List ℕ) (number : ℕ) (queue : QueueState)
    → marked_in is_copied (numbers ++ number ∷ []) queue ≡ marked is_copied number (marked_in is_copied numbers queue)
marked_more is_copied [] number queue = refl
marked_more is_copied (first ∷ numbers) number queue = marked_more is_copied numbers number (marked is_copied first queue)

-- ---- what is known of the objects

known_marked : (is_copied : Bool) (number : ℕ) (queue : QueueState) → IsKnown queue → IsKnown (marked is_copied number queue)
known_marked is_copied number queue known =
    let rows = queue.maps.settled.rows in
    let table = queue.maps.objects in
    let next : TableState = with_changed (copied is_copied) number table in
    let kept = kept_counts rows table next (record {
      shortest = known.shortest;
      order = known.order;
      counted = known.counted;
    }) (changed_unseen count_of (copied is_copied) number table.rows (λ row. refl)) in
    known_pinned (copied is_copied) number queue (marked is_copied number queue) (λ row. refl) known refl refl refl refl
    kept.counted refl

without_names : (uuid : List ℕ) (queue : QueueState) → AreKnown uuid queue → IsKnown queue
without_names uuid queue known = record {
  order = known.order;
  from_one = known.from_one;
  within = known.within;
  checkpoint = known.checkpoint;
  receipts = known.receipts;
  follow = known.follow;
  removal = known.removal;
  unmapped = known.unmapped;
  counted = known.counted;
  shortest = known.shortest;
}

pub uploads_marked : (is_copied : Bool) (numbers : List ℕ) (uuid : List ℕ) (sectors ancestors : ℕ) (window : WindowState)
    (queue : QueueState)
    → IsUploads (whole uuid sectors ancestors queue window)
    → IsUploads (whole uuid sectors ancestors (marked_in is_copied numbers queue) window)
uploads_marked is_copied [] uuid sectors ancestors window queue are = are
uploads_marked is_copied (number ∷ numbers) uuid sectors ancestors window queue are =
    uploads_marked is_copied numbers uuid sectors ancestors window (marked is_copied number queue)
    (uploads_changed uuid sectors ancestors window queue (marked is_copied number queue) are (record {
      frontier = refl;
      end = refl;
      sealed = refl;
      inherited = refl;
      settled = refl;
      log = refl;
    }) (known_marked is_copied number queue (without_names uuid queue are.known)) are.known.named)

-- ---- the laws

pub marks_change_objects_alone : MarksChangeObjectsAlone
marks_change_objects_alone is_copied [] uploads = record {
  uuid = refl;
  sectors = refl;
  ancestors = refl;
  window = refl;
  frontier = refl;
  end = refl;
  sealed = refl;
  inherited = refl;
  settled = refl;
  log = refl;
}
marks_change_objects_alone is_copied (number ∷ numbers) uploads =
    let rest =
    marks_change_objects_alone is_copied numbers (record uploads { queue = marked is_copied number uploads.queue }) in
    record {
      uuid = rest.uuid;
      sectors = rest.sectors;
      ancestors = rest.ancestors;
      window = rest.window;
      frontier = rest.frontier;
      end = rest.end;
      sealed = rest.sealed;
      inherited = rest.inherited;
      settled = rest.settled;
      log = rest.log;
    }

-- one object was marked
mark_keeps_image : (is_copied : Bool) (number : ℕ) (uploads : UploadsState)
    → KeepsImage uploads.queue (marked is_copied number uploads.queue)
mark_keeps_image is_copied number uploads =
    pins_keep_image (copied is_copied) number uploads (record uploads { queue = marked is_copied number uploads.queue })
    (λ row. (refl, refl)) (record {
      rest = marks_change_objects_alone is_copied (number ∷ []) uploads;
      receipts = refl;
      removal = refl;
      objects = refl;
    })

pub marks_keep_image : MarksKeepImage
marks_keep_image is_copied [] uploads = record {
  image = λ image has. has;
  receipts = λ own. own;
  copies = λ tells image are. are;
}
marks_keep_image is_copied (number ∷ numbers) uploads =
    let first = mark_keeps_image is_copied number uploads in
    let rest = marks_keep_image is_copied numbers (record uploads { queue = marked is_copied number uploads.queue }) in
    record {
      image = λ image has. rest.image image (first.image image has);
      receipts = λ own. rest.receipts (first.receipts own);
      copies = λ tells image are. rest.copies tells image (first.copies tells image are);
    }
