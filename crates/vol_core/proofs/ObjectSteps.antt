-- Each call of the list makes the step of the plain volume that was asked for.
use Rattle.std.proofs.Common.{◌≡◌, ℕ, ◌+◌, ◌<◌, ◌≤◌, inl, inr, Bool, true, false, cond, not, ◌&&◌, Option, Some, None, length}
use Rattle.std.proofs.Common.{refl, sym, ◌∙◌, ap, subst, arith}
use Rattle.std.proofs.Math.Path.{subst₂}
use Rattle.std.proofs.lemmas.Bool.Decides.{nat_tests}
use Rattle.lsvd_objstore.specs.Store.{ReceiptState}
use Rattle.upload_window.specs.Window.{WindowState, lowest_ready, is_started, below_open, marked, acknowledged}
use Rattle.object_uploads.specs.State.{JobState}
use Rattle.object_uploads.specs.Queue.{newest_checkpoint}
use Rattle.object_uploads.specs.Order.{IsUploads}
use Rattle.object_uploads.specs.Image.{IsReceiptFor}
use Rattle.batcher.specs.State.{BatchState}
use Rattle.obj_log.specs.State.{ObjLogState}
use Rattle.obj_log.specs.Changes.{IsSame}
use Rattle.plain_disk.specs.declared.event.PlainEvent.{PlainEvent}
use Rattle.plain_disk.specs.declared.event.PlainEvent.TheVariants as events
use Rattle.plain_disk.specs.declared.event.PlainReply.{PlainReply}
use Rattle.plain_disk.specs.declared.event.PlainReply.TheVariants as replies
use Rattle.plain_disk.specs.State.{PlainState, PlainCheckpoint, stream_in, history_length, frontier_of}
use Rattle.plain_disk.specs.Checkpoints.{sealed_checkpoint, checkpoint_after_done}
use Rattle.plain_disk.specs.Objects.{seal_reply, after_seal, has_unsealed, is_busy, reply_of_taken, window_after_take, after_take}
use Rattle.plain_disk.specs.Objects.{done_reply, window_after_done, after_done, window_after_failed, after_failed, status_reply}
use Rattle.plain_disk.specs.Step.{plain_reply, plain_after, is_refusal}
use Rattle.plain_disk.specs.Valid.{IsPlainVolume}
use Rattle.plain_disk.proofs.EndLemmas.{ends_grow}
use Rattle.plain_disk.proofs.EventLemmas.{seal_keeps, take_keeps, done_keeps, failed_keeps}
use Rattle.refine_objects.specs.Shows.{ShowsObjects, TellsAsOne}
use Rattle.refine_objects.specs.Table.{ShowsTable}
use Rattle.refine_objects.proofs.ShowLemmas.{shown_have_counts, room_shows_same}
use Rattle.refine_objects.proofs.SealLemmas.{with_sealed, sealed_end, sealed_shows_seal, refused_seal_shows_none}
use Rattle.refine_objects.proofs.TableLemmas.{room_shows_same_table, sealed_shows_table, taken_shows_table, failed_shows_table}
use Rattle.refine_objects.proofs.DoneTable.{done_shows_table}
use Rattle.refine_objects.proofs.NewestShown.{newest_is_shown}
use Rattle.refine_objects.proofs.JobLemmas.{below_marked, taken_shows_take, failed_shows_failed, done_frontier, done_shows_done}
use Rattle.refine_objects.specs.PlanLaws.{KeepsPlan}
use Rattle.refine_objects.proofs.PlanCalls.{room_keeps_plan, sealed_keeps_plan, jobs_keep_plan, done_keeps_plan}
use Rattle.vol_core.specs.declared.event.Event.{Event}
use Rattle.vol_core.specs.declared.event.Event.TheVariants.{Seal, TakeJob, JobDone, JobFailed, Status}
use Rattle.vol_core.specs.declared.reply.Reply.{Reply}
use Rattle.vol_core.specs.declared.reply.Reply.TheVariants as told
use Rattle.vol_core.specs.Volume.{VolumeState}
use Rattle.vol_core.specs.Shows.{Shows}
use Rattle.vol_core.specs.Events.{Asks, Tells}
use Rattle.vol_core.specs.Calls.{Seals, TakesLowestReady, Finishes, Returns}
use Rattle.vol_core.specs.Step.{IsStep, StepsAsPlain}
use Rattle.vol_core.proofs.StepLemmas.{CountsGrow, quiet_step, IsOfOtherObjects, with_objects, objects_shown}

-- ---- a seal that is not refused

-- where the batch has an entry, and fewer than 16 objects are on their way, the plain volume refuses no seal
seal_is_taken : (data_at : ℕ → ℕ) (objects : ObjLogState) (plain : PlainState) → ShowsObjects data_at objects plain
    → 0 < length objects.batch.entries → (length objects.uploads.window.objects ≡ 16 → ⊥) → is_refusal (seal_reply plain) ≡ false
seal_is_taken data_at objects plain shows some free =
    let reply : PlainReply = replies.Sealed (plain.window.last + 1) in
    let has : has_unsealed plain ≡ true = grind (arith, nat_tests, shows.stream.entries) in
    let busy : is_busy plain ≡ false = grind (arith, nat_tests, shows.window) in
    ap (λ b. is_refusal (cond b (cond (is_busy plain) replies.Busy reply) replies.Nothing)) has
    ∙ ap (λ b. is_refusal (cond b replies.Busy reply)) busy

-- ---- numbers

module _ (old : VolumeState) (objects : ObjLogState) where
  -- they grow where this window has at most one object more
  by_window : (window : WindowState) → objects.uploads.window ≡ window → window.last ≤ old.objects.uploads.window.last + 1
      → CountsGrow old (with_objects objects old)
  by_window window is within =
      let same = ap (λ (w : WindowState). w.last) is in
      record { entries = omega arith; objects = omega (arith, same, within); commits = omega arith }

  -- the same of the window of this list
  by_list : (list : ObjLogState) → objects ≡ list → list.uploads.window.last ≤ old.objects.uploads.window.last + 1
      → CountsGrow old (with_objects objects old)
  by_list list is within = by_window list.uploads.window (ap (λ (o : ObjLogState). o.uploads.window) is) within

module _ {R : Type 0} (old : VolumeState) (objects : ObjLogState) where
  pub taken_grow : (reply : Reply R) → TakesLowestReady reply old.objects objects → CountsGrow old (with_objects objects old)
  taken_grow (told.Taken job) taken = by_list old objects _ taken.2 (omega arith)
  taken_grow told.Nothing taken = by_list old objects old.objects taken.1 (omega arith)
  taken_grow reply taken = absurd taken

  pub returned_grow : (job : JobState) (reply : Reply R) → Returns job reply old.objects objects
      → CountsGrow old (with_objects objects old)
  returned_grow job told.Returned returned = by_list old objects _ returned.1 (omega arith)
  returned_grow job (told.NotReturned back) returned = by_list old objects old.objects returned.2 (omega arith)
  returned_grow job reply returned = absurd returned

  pub done_grow : (state : R → ReceiptState) (job : JobState) (receipt : R) (reply : Reply R)
      → Finishes state job receipt reply old.objects objects → CountsGrow old (with_objects objects old)
  done_grow state job receipt (told.Done frontier) done = by_window old objects _ done.1.window (omega arith)
  done_grow state job receipt (told.NotDone back given) done = by_list old objects old.objects done.3 (omega arith)
  done_grow state job receipt reply done = absurd done

  pub sealed_grow : (reply : Reply R) → Seals reply old.objects objects → CountsGrow old (with_objects objects old)
  sealed_grow (told.Sealed number) seals = by_window old objects _ seals.0.uploads.window (omega arith)
  sealed_grow told.Nothing seals = by_window old objects old.objects.uploads.window seals.0.uploads.window (omega arith)
  sealed_grow told.Busy seals = by_window old objects old.objects.uploads.window seals.0.uploads.window (omega arith)
  sealed_grow told.OutOfMemory seals = by_window old objects old.objects.uploads.window seals.0.uploads.window (omega arith)
  sealed_grow reply seals = absurd seals

-- ---- the counts are told

pub status_steps : {R : Type 0} (state : R → ReceiptState) (volume : VolumeState) (batch : BatchState)
    (writes sealed frontier newest : ℕ)
    → IsUploads volume.objects.uploads → batch ≡ volume.objects.batch
    → writes ≡ batch.first + length batch.entries → sealed ≡ volume.objects.uploads.window.last
    → frontier ≡ volume.objects.uploads.queue.frontier → newest ≡ newest_checkpoint volume.objects.uploads.queue
    → StepsAsPlain state Status (told.Told writes sealed frontier newest) volume volume
status_steps state volume batch writes sealed frontier newest uploads same writes_is sealed_is frontier_is newest_is plain shows =
    let counts = shown_have_counts shows.data_at volume.objects plain uploads shows.valid shows.objects in
    let next : history_length plain ≡ writes =
    sym (writes_is ∙ (ap (λ (b : BatchState). b.first + length b.entries) same ∙ counts.next)) in
    let last : plain.window.last ≡ sealed = sym (sealed_is ∙ ap (λ (w : WindowState). w.last) shows.objects.window) in
    let reached : frontier_of plain ≡ frontier = sym (frontier_is ∙ counts.frontier) in
    let newest_of : (sealed_checkpoint plain).number ≡ newest =
    sym (newest_is ∙ newest_is_shown shows.data_at volume.objects plain uploads shows.valid
    (record { objects = shows.objects; table = shows.table })) in
    let tells : status_reply plain ≡ replies.Told writes sealed frontier newest = cc in
    inl (quiet_step state Status (told.Told writes sealed frontier newest) plain volume volume events.Status shows refl
    tells shows
    refl refl)

-- ---- the window changes

window_changes : (plain : PlainState) (window : WindowState) (checkpoint : PlainCheckpoint) → IsPlainVolume plain
    → frontier_of plain ≤ below_open window
    → IsOfOtherObjects plain (record plain { window = window; checkpoint = checkpoint })
window_changes plain window checkpoint valid grows = record {
  cache = refl;
  end = refl;
  entries = refl;
  frontier = ends_grow (stream_in plain) (frontier_of plain) (below_open window) valid.stream.ends grows;
  plan = refl;
  geometry = refl;
}

holds_of_either : (P : WindowState → Type 0) (b : Bool) (window other : WindowState) → P window → P other
    → P (cond b window other)
holds_of_either P true window other is is_other = is
holds_of_either P false window other is is_other = is_other

take_leaves : (lowest : Option ℕ) (window : WindowState) → below_open window ≤ below_open (window_after_take lowest window)
take_leaves None window = omega arith
take_leaves (Some number) window = omega (arith, below_marked number true window.objects window.last)

failed_leaves : (number : ℕ) (window : WindowState) → below_open window ≤ below_open (window_after_failed (Some number) window)
failed_leaves number window =
    holds_of_either (λ w. below_open window ≤ below_open w) (is_started number window.objects) (marked number false window) window
    (omega (arith, below_marked number false window.objects window.last)) (omega arith)

done_leaves : (number : ℕ) (window : WindowState) → below_open window ≤ below_open (acknowledged number window)
    → below_open window ≤ below_open (window_after_done (Some number) window)
done_leaves number window grows =
    holds_of_either (λ w. below_open window ≤ below_open w) (is_started number window.objects) (acknowledged number window) window
    grows (omega arith)

-- a plain volume of which no object is ready stays as it is
none_taken : (lowest : Option ℕ) (plain : PlainState) → lowest ≡ None
    → record plain { window = window_after_take lowest plain.window } ≡ plain
none_taken lowest plain none = ap (λ (l : Option ℕ). record plain { window = window_after_take l plain.window }) none

-- where the plain volume seals, its objects change, and else nothing
seal_changes : (plain : PlainState) (seals : Bool) → IsPlainVolume plain
    → IsOfOtherObjects plain (cond seals (with_sealed plain) plain)
seal_changes plain true valid = record {
  cache = refl;
  end = refl;
  entries = refl;
  frontier = omega (arith, sealed_end plain valid);
  plan = refl;
  geometry = refl;
}
seal_changes plain false valid =
    record { cache = refl; end = refl; entries = refl; frontier = omega arith; plan = refl; geometry = refl }

-- ---- the objects change

module _ {R : Type 0} (state : R → ReceiptState) (old : VolumeState) (objects : ObjLogState) where
  -- the volume then
  abbrev changed : VolumeState
  changed = with_objects objects old

  pub unchanged : (event : Event R) (reply : Reply R) (plain : PlainState) (asked : PlainEvent) → Shows old plain
      → objects ≡ old.objects
      → plain_after asked plain ≡ plain → Asks state old event asked → Tells state old reply (plain_reply plain asked)
      → IsStep state event reply plain old changed
  unchanged event reply plain asked shows same stays asks tells =
      quiet_step state event reply plain old changed asked shows asks tells
      (subst₂ (λ (o : ObjLogState) (p : PlainState). Shows (with_objects o old) p) (sym same) (sym stays) shows) refl
      (ap (λ (p : PlainState). p.cache) stays)

  -- ---- a put begins

  pub taken_steps : (reply : Reply R) → TakesLowestReady reply old.objects objects → StepsAsPlain state TakeJob reply old changed
  taken_steps (told.Taken job) taken plain shows =
      let number = job.name.number in
      let lowest = lowest_ready plain.window.objects in
      let found : lowest ≡ Some number = ap (λ (w : WindowState). lowest_ready w.objects) (sym shows.objects.window) ∙ taken.0 in
      let shown =
      subst (λ o. ShowsObjects shows.data_at o (after_take plain)) (sym taken.2)
      (taken_shows_take shows.data_at old.objects plain number shows.objects taken.0) in
      let table =
      subst (λ (o : ObjLogState). ShowsTable o.uploads.queue (after_take plain)) (sym taken.2)
      (taken_shows_table old.objects.uploads plain number shows.table) in
      let leaves = window_changes plain (window_after_take lowest plain.window) plain.checkpoint shows.valid
      (take_leaves lowest plain.window) in
      let keeps =
      subst (λ (o : ObjLogState). KeepsPlan old.objects.uploads.queue o.uploads.queue) (sym taken.2)
      (jobs_keep_plan number true old.objects.uploads) in
      let now = objects_shown old objects plain (after_take plain) shows leaves (take_keeps plain shows.valid) shown table keeps
      in
      inl (quiet_step state TakeJob (told.Taken job) plain old changed events.TakeJob shows refl
      (ap reply_of_taken found, taken.1) now
      refl refl)
  taken_steps told.Nothing taken plain shows =
      let lowest = lowest_ready plain.window.objects in
      let none : lowest ≡ None = ap (λ (w : WindowState). lowest_ready w.objects) (sym shows.objects.window) ∙ taken.0 in
      inl (unchanged TakeJob told.Nothing plain events.TakeJob shows taken.1 (none_taken lowest plain none) refl
      (ap reply_of_taken none))
  taken_steps reply taken plain shows = absurd taken

  -- ---- a put fails

  -- a put that is out is under way in the plain volume
  out_is_under_way : (plain : PlainState) (number : ℕ) → Shows old plain
      → is_started number old.objects.uploads.window.objects ≡ true
      → is_started number plain.window.objects ≡ true
  out_is_under_way plain number shows started = ap (λ (w : WindowState). is_started number w.objects) (sym shows.objects.window)
      ∙ started

  pub returned_steps : (job : JobState) (reply : Reply R) → Returns job reply old.objects objects
      → StepsAsPlain state (JobFailed job) reply old changed
  returned_steps job told.Returned returned plain shows =
      let number = job.name.number in
      let out = returned.0 in
      let way = out_is_under_way plain number shows out.started in
      let shown =
      subst (λ o. ShowsObjects shows.data_at o (after_failed (Some number) plain)) (sym returned.1)
      (failed_shows_failed shows.data_at old.objects plain number shows.objects out.started) in
      let table =
      subst (λ (o : ObjLogState). ShowsTable o.uploads.queue (after_failed (Some number) plain)) (sym returned.1)
      (failed_shows_table old.objects.uploads plain number shows.table) in
      let leaves = window_changes plain (window_after_failed (Some number) plain.window) plain.checkpoint shows.valid
      (failed_leaves number plain.window) in
      let keeps =
      subst (λ (o : ObjLogState). KeepsPlan old.objects.uploads.queue o.uploads.queue) (sym returned.1)
      (jobs_keep_plan number false old.objects.uploads) in
      let now =
      objects_shown old objects plain (after_failed (Some number) plain) shows leaves
      (failed_keeps plain (Some number) shows.valid) shown table keeps in
      inl (quiet_step state (JobFailed job) told.Returned plain old changed (events.JobFailed (Some number)) shows
      (Some number, refl, (refl, out))
      (ap (λ b. cond b replies.Returned replies.Nothing) way) now refl refl)
  returned_steps job (told.NotReturned back) returned plain shows =
      inl (unchanged (JobFailed job) (told.NotReturned back) plain (events.JobFailed None) shows returned.2 refl
      (None, refl, returned.0) refl)
  returned_steps job reply returned plain shows = absurd returned

  -- ---- a put is done

  pub done_steps : (job : JobState) (receipt : R) (reply : Reply R)
      → IsUploads old.objects.uploads → IsUploads objects.uploads
      → IsReceiptFor job.bytes (state receipt) → TellsAsOne objects.uploads.queue
      → Finishes state job receipt reply old.objects objects
      → StepsAsPlain state (JobDone job receipt) reply old changed
  done_steps job receipt (told.Done frontier) uploads now_uploads own alike done plain shows =
      let number = job.name.number in
      let data_at = shows.data_at in
      let shown = shows.objects in
      let out = done.0.0 in
      let put = done.1 in
      let way = out_is_under_way plain number shows out.started in
      let counts = shown_have_counts data_at old.objects plain uploads shows.valid shown in
      let later = done_frontier data_at old.objects objects plain number job.bytes (state receipt) uploads shows.valid shown out
      own put alike done.2 in
      let grows = done_leaves number plain.window (omega (arith, counts.frontier, put.settled.frontier, later)) in
      let leaves =
      window_changes plain (window_after_done (Some number) plain.window) (checkpoint_after_done (Some number) plain) shows.valid
      grows in
      let now =
      objects_shown old objects plain (after_done (Some number) plain) shows leaves (done_keeps plain (Some number) shows.valid)
      (done_shows_done data_at old.objects objects plain number job.bytes (state receipt) uploads shows.valid shown out own
      put alike done.2)
      (done_shows_table data_at old.objects objects plain number job.bytes (state receipt) uploads now_uploads shows.valid
      (record { objects = shown; table = shows.table }) out put)
      (done_keeps_plan number (state receipt) old.objects.uploads objects.uploads put) in
      let tells : done_reply plain (Some number) ≡ replies.Done frontier =
      ap (λ b. cond b (replies.Done (below_open (cond b (acknowledged number plain.window) plain.window))) replies.Nothing) way
      ∙ ap replies.Done (sym (done.3 ∙ later)) in
      inl (quiet_step state (JobDone job receipt) (told.Done frontier) plain old changed (events.JobDone (Some number)) shows
      (Some number, refl, (refl, out, done.0.1)) tells now refl refl)
  done_steps job receipt (told.NotDone back given) uploads now_uploads own alike done plain shows =
      inl (unchanged (JobDone job receipt) (told.NotDone back given) plain (events.JobDone None) shows done.3 refl
      (None, refl, done.0) refl)
  done_steps job receipt reply uploads now_uploads own alike done plain shows = absurd done

  -- ---- a seal

  -- the list changed but for room
  room_shown : (plain : PlainState) → Shows old plain → IsSame old.objects objects → Shows changed plain
  room_shown plain shows same =
      objects_shown old objects plain plain shows (seal_changes plain false shows.valid) shows.valid
      (room_shows_same shows.data_at old.objects objects plain shows.objects same)
      (room_shows_same_table old.objects objects plain same shows.table) (room_keeps_plan old.objects objects same)

  refused : (reply : Reply R) (plain : PlainState) → Shows old plain → IsSame old.objects objects → after_seal plain ≡ plain
      → Tells state old reply (seal_reply plain) → IsStep state Seal reply plain old changed
  refused reply plain shows same stays tells =
      quiet_step state Seal reply plain old changed events.Seal shows refl tells
      (subst (Shows changed) (sym stays) (room_shown plain shows same))
      refl (ap (λ (p : PlainState). p.cache) stays)

  pub seal_steps : (reply : Reply R) → IsUploads old.objects.uploads
      → Seals reply old.objects objects
      → StepsAsPlain state Seal reply old changed
  seal_steps (told.Sealed number) uploads seals plain shows =
      let shown = sealed_shows_seal shows.data_at old.objects objects plain uploads shows.valid shows.objects seals.0
      seals.2 seals.3 in
      let leaves = seal_changes plain (has_unsealed plain && not (is_busy plain)) shows.valid in
      let now =
      objects_shown old objects plain (after_seal plain) shows leaves (seal_keeps plain shows.valid) shown.0
      (sealed_shows_table shows.data_at old.objects objects plain uploads shows.valid
      (record { objects = shows.objects; table = shows.table }) seals.0)
      (sealed_keeps_plan _ _ _ old.objects.uploads objects.uploads seals.0.uploads) in
      inl (quiet_step state Seal (told.Sealed number) plain old changed events.Seal shows refl (shown.1
      ∙ ap replies.Sealed (sym seals.1)) now
      refl leaves.cache)
  seal_steps told.Nothing uploads seals plain shows =
      let none = (refused_seal_shows_none shows.data_at old.objects plain shows.objects).0 seals.1 in
      inl (refused told.Nothing plain shows seals.0 none.1 none.0)
  seal_steps told.Busy uploads seals plain shows =
      let none = (refused_seal_shows_none shows.data_at old.objects plain shows.objects).1 seals.1 seals.2 in
      inl (refused told.Busy plain shows seals.0 none.1 none.0)
  seal_steps told.OutOfMemory uploads seals plain shows =
      inr (record {
        may = refl;
        lacks = refl;
        asked = events.Seal;
        asks = refl;
        taken = seal_is_taken shows.data_at old.objects plain shows.objects seals.1 seals.2;
        shows = room_shown plain shows seals.0;
        pending = λ pends. pends;
      })
  seal_steps reply uploads seals plain shows = absurd seals
