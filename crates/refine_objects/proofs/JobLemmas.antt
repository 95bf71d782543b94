-- A put that begins, fails or is done is that of the plain volume.
use Rattle.std.proofs.Common.{◌≡◌, ℕ, ◌+◌, ◌-◌, ◌≤◌, ◌||◌, Bool, true, false, cond, Option, Some, List, [], ◌∷◌, length}
use Rattle.std.proofs.Common.{take, drop, refl}
use Rattle.std.proofs.Common.{sym, ◌∙◌, ap, subst, arith, take-add}
use Rattle.std.specs.List.{All}
use Rattle.std.proofs.lemmas.List.Elements.{All-weaker, All-take, All-drop}
use Rattle.lsvd_base.specs.declared.entry.Entry.{Entry}
use Rattle.lsvd_base.specs.Image.{after}
use Rattle.lsvd_base.specs.Laws.{EndsBy}
use Rattle.lsvd_base.specs.Range.{is_in_range}
use Rattle.lsvd_base.proofs.SectorLemmas.{applies_in_parts}
use Rattle.lsvd_objstore.specs.Store.{ReceiptState}
use Rattle.upload_window.specs.declared.object.OpenObject.{OpenObject}
use Rattle.upload_window.specs.Window.{WindowState, has_number, lowest_ready, is_started, with_started, below_lowest, below_open}
use Rattle.upload_window.specs.Window.{marked}
use Rattle.upload_window.specs.Window.{acknowledged}
use Rattle.object_stream.specs.Stream.{end_at}
use Rattle.object_stream.proofs.ValueLemmas.{length-after}
use Rattle.object_uploads.specs.Changes.{with_job, IsOut, IsPutDone}
use Rattle.object_uploads.specs.Order.{IsUploads}
use Rattle.object_uploads.specs.Image.{IsReceiptFor, HasImage, HasOwnReceipts, TellAlike, AreCopied}
use Rattle.object_uploads.specs.ImageLaws.{settled_entries}
use Rattle.batcher.specs.State.{BatchState}
use Rattle.obj_log.specs.State.{ObjLogState}
use Rattle.obj_log.specs.Stream.{IsOfStream}
use Rattle.obj_log.proofs.StreamLemmas.{jobs_keep_stream, done_keeps_stream}
use Rattle.obj_log.proofs.ImageLemmas.{jobs_keep_image, done_makes_image}
use Rattle.plain_disk.specs.Checkpoints.{checkpoint_after_done}
use Rattle.plain_disk.specs.State.{PlainState, PlainCheckpoint, stream_in, frontier_of, frontier_end}
use Rattle.plain_disk.specs.Objects.{window_after_take}
use Rattle.plain_disk.specs.Valid.{IsPlainVolume}
use Rattle.plain_disk.proofs.Overlaid.{EndsBy-in_range}
use Rattle.plain_disk.proofs.EndLemmas.{ends_from, ends_grow}
use Rattle.refine_objects.specs.Shows.{settled_image, TellsAsOne, ShowsObjects}
use Rattle.refine_objects.specs.Laws.{TakenShowsTake, FailedShowsFailed, DoneShowsDone}
use Rattle.refine_objects.proofs.AlikeLemmas.{job_alike, done_alike}
use Rattle.refine_objects.proofs.ShowLemmas.{shown_have_counts}
use Rattle.refine_objects.proofs.FrontierLemmas.{below_done}

-- ---- a put begins, or fails

below_either : (b : Bool) (first second : List OpenObject) (last below : ℕ) → below_lowest first last ≡ below
    → below_lowest second last ≡ below
    → below_lowest (cond b first second) last ≡ below
below_either true first second last below is other = is
below_either false first second last below is other = other

-- a mark leaves the frontier
pub below_marked : (number : ℕ) (started : Bool) (objects : List OpenObject) (last : ℕ)
    → below_lowest (with_started number started objects) last ≡ below_lowest objects last
below_marked number started [] last = refl
below_marked number started (object ∷ objects) last =
    let changed : OpenObject = record object { is_started = started; was_started = object.was_started || started } in
    below_either (has_number number object) (changed ∷ objects) (object ∷ with_started number started objects) last
    (object.number - 1) refl refl

-- the list with a put that began, or failed
abbrev with_job_of : (number : ℕ) (started : Bool) → ObjLogState → ObjLogState
with_job_of number started objects = record objects { uploads = with_job number started objects.uploads }

abbrev with_window : WindowState → PlainState → PlainState
with_window window plain = record plain { window = window }

job_shows : (data_at : ℕ → ℕ) (objects : ObjLogState) (plain : PlainState) (number : ℕ) (started : Bool)
    → ShowsObjects data_at objects plain
    → ShowsObjects data_at (with_job_of number started objects) (with_window (marked number started plain.window) plain)
job_shows data_at objects plain number started shows =
    let kept = jobs_keep_image number started objects in
    let now = with_window (marked number started plain.window) plain in
    let frontier : frontier_of now ≡ frontier_of plain = below_marked number started plain.window.objects plain.window.last in
    let same = ap (λ n. after plain.opening (take (end_at (stream_in plain) n - plain.end) plain.entries)) frontier in
    record {
      geometry = shows.geometry;
      ancestors = shows.ancestors;
      stream = jobs_keep_stream data_at (stream_in plain) objects number started shows.stream;
      window = ap (marked number started) shows.window;
      image =
          subst (λ image. HasImage image (with_job number started objects.uploads).queue) (sym same)
          (kept.image (settled_image plain) shows.image);
      receipts = kept.receipts shows.receipts;
      copied = λ tells alike.
          subst (λ image. AreCopied tells image (with_job number started objects.uploads).queue) (sym same)
          (kept.copies tells (settled_image plain)
          (shows.copied tells (job_alike tells started number objects.uploads alike)));
    }

pub taken_shows_take : TakenShowsTake
taken_shows_take data_at objects plain number shows lowest =
    let found : lowest_ready plain.window.objects ≡ Some number =
    ap (λ (w : WindowState). lowest_ready w.objects) (sym shows.window) ∙ lowest in
    let window : window_after_take (Some number) plain.window ≡ window_after_take (lowest_ready plain.window.objects)
    plain.window =
    ap (λ (lowest : Option ℕ). window_after_take lowest plain.window) (sym found) in
    subst (λ (w : WindowState). ShowsObjects data_at (with_job_of number true objects) (with_window w plain)) window
    (job_shows data_at objects plain number true shows)

-- the put of a number that the plain volume has under way
under_way : (data_at : ℕ → ℕ) (objects : ObjLogState) (plain : PlainState) (number : ℕ) → ShowsObjects data_at objects plain
    → is_started number objects.uploads.window.objects ≡ true → true ≡ is_started number plain.window.objects
under_way data_at objects plain number shows started = sym started
    ∙ ap (λ (w : WindowState). is_started number w.objects) shows.window

pub failed_shows_failed : FailedShowsFailed
failed_shows_failed data_at objects plain number shows started =
    let window = ap (λ b. cond b (marked number false plain.window) plain.window)
    (under_way data_at objects plain number shows started) in
    subst (λ (w : WindowState). ShowsObjects data_at (with_job_of number false objects) (with_window w plain)) window
    (job_shows data_at objects plain number false shows)

-- ---- a put is done

module _ (plain : PlainState) (valid : IsPlainVolume plain) where
  all_end : All (EndsBy plain.geometry.sectors) plain.entries
  all_end =
      let g = plain.geometry in
      All-weaker (λ entry. is_in_range g entry ≡ true) (EndsBy g.sectors) (EndsBy-in_range g) plain.entries valid.in_range

  pub settled_size : length (settled_image plain) ≡ plain.geometry.sectors
  settled_size =
      let some = All-take (EndsBy plain.geometry.sectors) (frontier_end plain - plain.end) plain.entries all_end in
      length-after plain.opening (take (frontier_end plain - plain.end) plain.entries)
      (subst (λ size. All (EndsBy size) (take (frontier_end plain - plain.end) plain.entries)) (sym valid.sectors) some)
      ∙ valid.sectors

module _ (data_at : ℕ → ℕ) (old new : ObjLogState) (plain : PlainState) (number : ℕ) (bytes : List ℕ) (receipt : ReceiptState)
    (uploads : IsUploads old.uploads) (valid : IsPlainVolume plain)
    (shows : ShowsObjects data_at old plain)
    (out : IsOut old.uploads number bytes) (tells : IsReceiptFor bytes receipt)
    (done : IsPutDone number receipt old.uploads new.uploads) (one : TellsAsOne new.uploads.queue)
    (batch : new.batch ≡ old.batch) where
  abbrev later : ℕ
  later = below_open (acknowledged number plain.window)

  -- the frontier then
  pub done_frontier : new.uploads.queue.frontier ≡ later
  done_frontier =
      sym (below_done old.uploads new.uploads number receipt uploads out.started done)
      ∙ (ap below_open done.window ∙ ap (λ w. below_open (acknowledged number w)) shows.window)

  stream_now : IsOfStream data_at (stream_in plain) new
  stream_now = done_keeps_stream data_at (stream_in plain) old new number receipt uploads shows.stream done batch

  abbrev later_end : ℕ
  later_end = end_at (stream_in plain) later

  end_now : new.uploads.queue.end ≡ later_end
  end_now = stream_now.objects.end ∙ ap (end_at (stream_in plain)) done_frontier

  -- the entries of the objects that are settled now come after those of the settled image
  abbrev first : ℕ
  first = frontier_end plain - plain.end

  abbrev part : List Entry
  part = take (later_end - frontier_end plain) (drop first plain.entries)

  part_is : settled_entries (stream_in plain) old.uploads.queue new.uploads.queue ≡ part
  part_is =
      let counts = shown_have_counts data_at old plain uploads valid shows in
      ap (λ n. take (new.uploads.queue.end - old.uploads.queue.end) (drop (end_at (stream_in plain) n - plain.end) plain.entries))
      counts.frontier
      ∙ (ap (λ end. take (new.uploads.queue.end - end) (drop first plain.entries)) counts.end
      ∙ ap (λ end. take (end - frontier_end plain) (drop first plain.entries)) end_now)

  image_is : after (settled_image plain) part ≡ after plain.opening (take (later_end - plain.end) plain.entries)
  image_is =
      let counts = shown_have_counts data_at old plain uploads valid shows in
      let grows : frontier_of plain ≤ later = omega (arith, counts.frontier, done.settled.frontier, done_frontier) in
      let from = ends_from plain (frontier_of plain) valid in
      let to = ends_grow (stream_in plain) (frontier_of plain) later valid.stream.ends grows in
      let sum : first + (later_end - frontier_end plain) ≡ later_end - plain.end = omega (arith, from, to) in
      sym (applies_in_parts plain.opening (take first plain.entries) part)
      ∙ (ap (after plain.opening) (sym (take-add first (later_end - frontier_end plain) plain.entries))
      ∙ ap (λ n. after plain.opening (take n plain.entries)) sum)

  part_ends : All (EndsBy (length (settled_image plain))) (settled_entries (stream_in plain) old.uploads.queue new.uploads.queue)
  part_ends =
      let sectors = plain.geometry.sectors in
      let rest = All-drop (EndsBy sectors) first plain.entries (all_end plain valid) in
      let ends : All (EndsBy sectors) part = All-take (EndsBy sectors) (later_end - frontier_end plain)
      (drop first plain.entries) rest in
      subst (λ size. All (EndsBy size) (settled_entries (stream_in plain) old.uploads.queue new.uploads.queue))
      (sym (settled_size plain valid))
      (subst (All (EndsBy sectors)) (sym part_is) ends)

  -- the copies past the old frontier, by what the receipts tell then
  were_copied : (told : Bool) → TellAlike told new.uploads.queue → AreCopied told (settled_image plain) old.uploads.queue
  were_copied told alike =
      shows.copied told (done_alike told number receipt old.uploads new.uploads uploads out.started done alike)

  made : (told : Bool) → TellAlike told new.uploads.queue
      → HasImage (after (settled_image plain) (settled_entries (stream_in plain) old.uploads.queue new.uploads.queue))
      new.uploads.queue
      × HasOwnReceipts new.uploads.queue
      × AreCopied told (after (settled_image plain) (settled_entries (stream_in plain) old.uploads.queue new.uploads.queue))
      new.uploads.queue
  made told alike =
      done_makes_image data_at (stream_in plain) old new number bytes receipt told (settled_image plain) uploads shows.stream
      done out tells shows.receipts alike part_ends shows.image (were_copied told alike)

  done_shown : ShowsObjects data_at new (with_window (acknowledged number plain.window) plain)
  done_shown =
      let first_made = made one.0 one.1 in
      let image = ap (after (settled_image plain)) part_is ∙ image_is in
      record {
        geometry = ap (λ (b : BatchState). b.geometry) batch ∙ shows.geometry;
        ancestors = done.ancestors ∙ shows.ancestors;
        stream = stream_now;
        window = done.window ∙ ap (acknowledged number) shows.window;
        image = subst (λ image. HasImage image new.uploads.queue) image first_made.0;
        receipts = first_made.1;
        copied = λ told alike. subst (λ image. AreCopied told image new.uploads.queue) image (made told alike).2;
      }

-- it shows the same whichever checkpoint is the newest
with_other_checkpoint : (data_at : ℕ → ℕ) (objects : ObjLogState) (plain : PlainState) (checkpoint : PlainCheckpoint)
    → ShowsObjects data_at objects plain → ShowsObjects data_at objects (record plain { checkpoint = checkpoint })
with_other_checkpoint data_at objects plain checkpoint shows = record {
  geometry = shows.geometry;
  ancestors = shows.ancestors;
  stream = shows.stream;
  window = shows.window;
  image = shows.image;
  receipts = shows.receipts;
  copied = shows.copied;
}

pub done_shows_done : DoneShowsDone
done_shows_done data_at old new plain number bytes receipt uploads valid shows out tells done one batch =
    let checkpoint = checkpoint_after_done (Some number) plain in
    let window = ap (λ b. cond b (acknowledged number plain.window) plain.window)
    (under_way data_at old plain number shows out.started) in
    subst (λ (w : WindowState). ShowsObjects data_at new (record plain { window = w; checkpoint = checkpoint })) window
    (with_other_checkpoint data_at new (with_window (acknowledged number plain.window) plain) checkpoint
    (done_shown data_at old new plain number bytes receipt uploads valid shows out tells done one batch))
