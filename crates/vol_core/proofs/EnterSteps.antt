-- A write or a zeroing of a volume is a step of the plain volume that it shows.
use Rattle.std.proofs.Common.{◌≡◌, ℕ, ◌+◌, ◌≤◌, ◌⊎◌, Bool, true, false, if◌then◌else◌, List, [], ◌∷◌, ◌++◌, length, refl, sym}
use Rattle.std.proofs.Common.{◌∙◌, ap, subst, inl, inr, arith, length-append}
use Rattle.std.specs.Prelude.{IsTrue, Option, Some, None, option_map, Result, Ok, Err}
use Rattle.std.proofs.Math.Path.{subst₂}
use Rattle.lsvd_base.specs.declared.geometry.Geometry.{Geometry}
use Rattle.lsvd_base.specs.declared.entry.Entry.{Entry}
use Rattle.lsvd_base.specs.declared.entry.Entry.TheVariants as entries
use Rattle.lsvd_base.specs.Limits.{is_within_limits}
use Rattle.lsvd_base.specs.Range.{is_in_range}
use Rattle.lsvd_device.specs.Calls.{Fuse, Budget}
use Rattle.lsvd_device.specs.Memory.{HasRoom}
use Rattle.lsvd_objstore.specs.Store.{ReceiptState}
use Rattle.batcher.specs.declared.full.Full.{Full}
use Rattle.batcher.specs.declared.full.Full.TheVariants as full
use Rattle.commit_body.specs.declared.body.CommitBody.{CommitBody}
use Rattle.cache_log.specs.declared.error.AppendError.{AppendError}
use Rattle.cache_log.specs.declared.error.AppendError.TheVariants as errors
use Rattle.cache_log.specs.Log.{LogState, next_seq}
use Rattle.cache_log.specs.Committed.{IsOnDisk}
use Rattle.upload_window.specs.Window.{WindowState}
use Rattle.object_uploads.specs.State.{QueueState, UploadsState}
use Rattle.object_uploads.specs.Order.{IsUploads}
use Rattle.object_uploads.specs.Changes.{IsNotSealed, HasSameSettled}
use Rattle.object_uploads.proofs.UploadsKept.{whole, uploads_same}
use Rattle.obj_log.specs.State.{ObjLogState}
use Rattle.obj_log.specs.Changes.{IsSame, IsAdded}
use Rattle.plain_disk.specs.declared.event.PlainEvent.{PlainEvent}
use Rattle.plain_disk.specs.declared.event.PlainEvent.TheVariants as events
use Rattle.plain_disk.specs.declared.event.PlainReply.{PlainReply}
use Rattle.plain_disk.specs.declared.event.PlainReply.TheVariants as replies
use Rattle.plain_disk.specs.Log.{PlainLog}
use Rattle.plain_disk.specs.Cache.{PlainCache}
use Rattle.plain_disk.specs.State.{PlainState, history_length, unsealed_entries}
use Rattle.plain_disk.specs.Entries.{reply_of_full, batch_refusal, batch_refusal_of, after_entering}
use Rattle.plain_disk.specs.Step.{plain_reply, is_refusal}
use Rattle.plain_disk.proofs.EndLemmas.{frontier_ends}
use Rattle.plain_disk.proofs.EventLemmas.{entering_keeps}
use Rattle.refine_log.specs.Shows.{ShowsLog}
use Rattle.refine_log.specs.Logged.{HasLoggedEntries}
use Rattle.refine_log.specs.Fuses.{fuse_in}
use Rattle.refine_objects.specs.Shows.{ShowsObjects}
use Rattle.refine_log.specs.Pending.{ShowsPending}
use Rattle.refine_objects.specs.Table.{ShowsTable}
use Rattle.refine_objects.specs.Laws.{HasCounts}
use Rattle.refine_objects.proofs.ShowLemmas.{shown_have_counts, shown_with_other_cache, shown_with_other_places, room_shows_same}
use Rattle.refine_objects.proofs.ShowLemmas.{added_shows_entry}
use Rattle.refine_objects.proofs.TableLemmas.{table_shown_with_other_cache, room_shows_same_table, added_shows_table}
use Rattle.refine_objects.specs.PlanLaws.{KeepsPlan}
use Rattle.refine_objects.proofs.PlanCalls.{others_keep_plan, room_keeps_plan, added_keeps_plan}
use Rattle.vol_core.specs.declared.reply.EntryRefusal.{EntryRefusal}
use Rattle.vol_core.specs.declared.reply.EntryRefusal.TheVariants as refusals
use Rattle.vol_core.specs.declared.reply.Reply.{Reply}
use Rattle.vol_core.specs.declared.reply.Reply.TheVariants as told
use Rattle.vol_core.specs.Volume.{VolumeState}
use Rattle.vol_core.specs.Shows.{Shows, max_number}
use Rattle.vol_core.specs.Events.{Asks, Tells}
use Rattle.vol_core.specs.Step.{passing, most_of_step, may_lack_memory, IsStep, IsNoStep, StepsAsPlain}
use Rattle.vol_core.specs.Calls.{IsReadyForStep, event_of, MayEnter, fullness_in, ComesToLog, IsRefusedEntry, EntersBoth, Enters}
use Rattle.vol_core.specs.Calls.{EntersLog}
use Rattle.vol_core.proofs.CommitLemmas.{shown_next}
use Rattle.vol_core.proofs.LoggedLemmas.{with_place, own_place, other_place, logged_alike, reaches_on_disk}
use Rattle.vol_core.proofs.PlainEntering.{EntersPlain, refused_cache, batch_refuses, entry_is_taken}
use Rattle.vol_core.proofs.AppendLemmas.{reply_to_append, entries_by, places_by, room_for_fewer}
use Rattle.vol_core.proofs.LogEntering.{most_for, EntersWith, enters_with}
use Rattle.vol_core.proofs.PendingSteps.{enter_pends}
use Rattle.vol_core.proofs.StepLemmas.{passing_keeps, CountsGrow, counts_stay}

-- the volume with other objects and another log
abbrev pub with_both : ObjLogState → LogState → VolumeState → VolumeState
with_both objects log volume = record volume { objects = objects; log = log }

-- ---- memory

-- a log for which memory was taken shows what it showed
module _ (log : LogState) (reserved : ℕ) where
  abbrev pub taken_for : LogState
  taken_for = record log { reserved = reserved }

  pub reserved_shows : (plain : PlainLog) → ShowsLog log plain → ShowsLog taken_for plain
  reserved_shows plain is = record {
    room = is.room;
    last = is.last;
    unfinished = is.unfinished;
    records = is.records;
    is_room = is.is_room;
    from = is.from;
    follow = is.follow;
    end = is.end;
    numbered = is.numbered;
    counted = is.counted;
    start = is.start;
    order = is.order;
    stands = is.stands;
  }

  pub reserved_pends : (cache : PlainCache) → ShowsPending log cache → ShowsPending taken_for cache
  reserved_pends cache pends = record { told = pends.told; pending = pends.pending; broken = pends.broken }

-- the uploads are those of every volume also where they have more room
room_in_order : (uuid : List ℕ) (sectors ancestors : ℕ) (queue : QueueState) (window : WindowState) (old : UploadsState)
    → uuid ≡ old.uuid → sectors ≡ old.sectors → ancestors ≡ old.ancestors → window ≡ old.window
    → queue.sealed ≡ old.queue.sealed → HasSameSettled old.queue queue
    → IsUploads old → IsUploads (whole uuid sectors ancestors queue window)
room_in_order uuid sectors ancestors queue window old same size count places sealed settled is =
    rw (same, size, count, places) (uploads_same old.uuid old.sectors old.ancestors old.window old.queue queue is
    settled.frontier sealed settled.receipts settled.removal settled.inherited settled.places)

roomier_uploads : (old new : UploadsState) → IsNotSealed old new → IsUploads old → IsUploads new
roomier_uploads old new same is =
    room_in_order new.uuid new.sectors new.ancestors new.queue new.window old same.uuid same.sectors same.ancestors same.window
    same.sealed same.settled is

-- ---- room for the calls

-- the record of an entry takes no more than is allowed for it
most_is_enough : (unfinished : Option CommitBody) (entry : Entry) (R : Type 0)
    → ((most_for unfinished entry).changes ≤ (most_of_step (event_of {R = R} entry)).changes)
    × ((most_for unfinished entry).bytes ≤ (most_of_step (event_of {R = R} entry)).bytes)
most_is_enough None (entries.Write lba body) R = (omega arith, omega arith)
most_is_enough (Some more) (entries.Write lba body) R = (omega arith, omega arith)
most_is_enough None (entries.Zero lba sectors) R = (omega arith, omega arith)
most_is_enough (Some more) (entries.Zero lba sectors) R = (omega arith, omega arith)

room_for_step : (unfinished : Option CommitBody) (entry : Entry) (R : Type 0) (budget : Option Budget)
    → HasRoom (most_of_step (event_of {R = R} entry)).changes (most_of_step (event_of {R = R} entry)).bytes budget
    → HasRoom (most_for unfinished entry).changes (most_for unfinished entry).bytes budget
room_for_step unfinished entry R budget room =
    let most = most_is_enough unfinished entry R in
    room_for_fewer (most_for unfinished entry).changes (most_for unfinished entry).bytes
    (most_of_step (event_of {R = R} entry)).changes (most_of_step (event_of {R = R} entry)).bytes budget most.0 most.1 room

-- ---- a step

-- The parts of a step: what the entry answers and leaves in the plain volume whose device has some fuse, and that the volume
-- shows what it leaves.
record HasStepParts {R : Type 0} (state : R → ReceiptState) (entry : Entry) (reply : Reply R) (old : VolumeState)
    (plain : PlainState)
    (objects : ObjLogState) (log : LogState) : Type 0 where
  left : Fuse
  answer : PlainReply
  plain_log : PlainLog
  spent : Fuse
  taken : List Entry
  data_at : ℕ → ℕ
  does : EntersPlain (passing left plain) entry answer plain_log spent taken
  tells : Tells state old reply answer
  has_objects : ShowsObjects data_at objects (record plain { entries = taken })
  has_table : ShowsTable objects.uploads.queue (record plain { entries = taken })
  keeps_plan : KeepsPlan old.objects.uploads.queue objects.uploads.queue
  has_log : ShowsLog log plain_log
  logged : HasLoggedEntries data_at log (record plain { entries = taken })
  told : HasRoom (most_of_step (event_of {R = R} entry)).changes (most_of_step (event_of {R = R} entry)).bytes
      old.log.commits.disk.budget
      → (left ≡ fuse_in old.log.commits.disk.budget) × (spent ≡ fuse_in log.commits.disk.budget)
  pending : HasRoom (most_of_step (event_of {R = R} entry)).changes (most_of_step (event_of {R = R} entry)).bytes
      old.log.commits.disk.budget
      → ShowsPending old.log plain.cache → ShowsPending log (after_entering entry (passing left plain)).cache

module _ {R : Type 0} (state : R → ReceiptState) (reply : Reply R) (old : VolumeState) (plain : PlainState)
    (shows : Shows old plain)
    (objects : ObjLogState) (log : LogState) where
  -- the plain volume after the entry
  abbrev plain_then : Entry → Fuse → PlainState
  plain_then entry left = passing (fuse_in log.commits.disk.budget) (after_entering entry (passing left plain))

  shown_then : (entry : Entry) (parts : HasStepParts state entry reply old plain objects log)
      → Shows (with_both objects log old) (plain_then entry parts.left)
  shown_then entry parts =
      let now : PlainState = plain_then entry parts.left in
      let logged : HasLoggedEntries parts.data_at log (record plain { entries = parts.taken; cache = now.cache }) =
      record {
        first = parts.logged.first;
        rows = parts.logged.rows;
        entries = parts.logged.entries;
        placed = parts.logged.placed;
      } in
      let entries = sym parts.does.entries_are in
      record {
        valid =
            passing_keeps (fuse_in log.commits.disk.budget) (after_entering entry (passing parts.left plain))
            (entering_keeps (passing parts.left plain) entry (passing_keeps parts.left plain shows.valid));
        data_at = parts.data_at;
        objects =
            subst (λ (l : List Entry). ShowsObjects parts.data_at objects (record plain { entries = l; cache = now.cache }))
            entries
            (shown_with_other_cache parts.data_at objects (record plain { entries = parts.taken }) now.cache plain.pins
            parts.has_objects);
        table =
            subst (λ (l : List Entry). ShowsTable objects.uploads.queue (record plain { entries = l; cache = now.cache }))
            entries
            (table_shown_with_other_cache objects.uploads.queue (record plain { entries = parts.taken }) now.cache
            parts.has_table);
        plan = parts.keeps_plan old.plan plain now refl refl shows.table shows.plan;
        log = subst (ShowsLog log) (sym parts.does.log_is) parts.has_log;
        logged = subst (λ (l : List Entry). HasLoggedEntries parts.data_at log (record plain { entries = l; cache = now.cache }))
            entries logged;
        fuse = refl;
      }

  step_by_parts : (entry : Entry) → HasStepParts state entry reply old plain objects log
      → IsStep state (event_of entry) reply plain old (with_both objects log old)
  step_by_parts (entries.Write lba body) parts = record {
    left = parts.left;
    asked = events.Write lba body;
    asks = refl;
    tells = subst (Tells state old reply) (sym parts.does.reply_is) parts.tells;
    shows = shown_then (entries.Write lba body) parts;
    told = λ room. (let own = parts.told room in (own.0, parts.does.left_is ∙ own.1));
    pending = parts.pending;
  }
  step_by_parts (entries.Zero lba sectors) parts = record {
    left = parts.left;
    asked = events.Zero lba sectors;
    asks = refl;
    tells = subst (Tells state old reply) (sym parts.does.reply_is) parts.tells;
    shows = shown_then (entries.Zero lba sectors) parts;
    told = λ room. (let own = parts.told room in (own.0, parts.does.left_is ∙ own.1));
    pending = parts.pending;
  }

-- ---- each answer

tells_full : {R : Type 0} (state : R → ReceiptState) (old : VolumeState) (entry : Entry) (full : Full)
    → Tells state old (told.NotEntered entry (refusals.Full full)) (reply_of_full full)
tells_full state old entry (full.Sectors sectors) = refl
tells_full state old entry (full.Entries count) = refl

-- the event of the plain volume that an entry asks for
abbrev asked_by : Entry → PlainEvent
asked_by (entries.Write lba body) = events.Write lba body
asked_by (entries.Zero lba sectors) = events.Zero lba sectors

asks_entry : {R : Type 0} (state : R → ReceiptState) (volume : VolumeState) (entry : Entry)
    → Asks state volume (event_of entry) (asked_by entry)
asks_entry state volume (entries.Write lba body) = refl
asks_entry state volume (entries.Zero lba sectors) = refl

asked_is_taken : (plain : PlainState) (entry : Entry) → batch_refusal plain entry ≡ None
    → is_refusal (plain_reply plain (asked_by entry)) ≡ false
asked_is_taken plain (entries.Write lba body) taken = entry_is_taken plain (entries.Write lba body) taken
asked_is_taken plain (entries.Zero lba sectors) taken = entry_is_taken plain (entries.Zero lba sectors) taken

may_lack : (R : Type 0) (entry : Entry) → may_lack_memory (event_of {R = R} entry) ≡ true
may_lack R (entries.Write lba body) = refl
may_lack R (entries.Zero lba sectors) = refl

module _ {R : Type 0} (state : R → ReceiptState) (entry : Entry) (old : VolumeState) (plain : PlainState)
    (shows : Shows old plain)
    (uploads : IsUploads old.objects.uploads) (disk : IsOnDisk old.log) where
  counts : HasCounts old.objects plain
  counts = shown_have_counts shows.data_at old.objects plain uploads shows.valid shows.objects

  -- why the batch refuses the entry
  refusal_is : batch_refusal plain entry ≡ batch_refusal_of old.objects.batch.geometry old.objects.batch.entries entry
  refusal_is =
      ap (λ (g : Geometry). batch_refusal_of g (unsealed_entries plain) entry) (sym shows.objects.geometry)
      ∙ ap (λ (l : List Entry). batch_refusal_of old.objects.batch.geometry l entry) (sym counts.entries)

  in_range_then : (in_range : Bool) → is_in_range old.objects.batch.geometry entry ≡ in_range
      → batch_refusal plain entry ≡ (if in_range then option_map reply_of_full (fullness_in old.objects) else Some replies.Range)
  in_range_then in_range is =
      refusal_is ∙ ap (λ b. if b then option_map reply_of_full (fullness_in old.objects) else Some replies.Range) is

  refused_parts : (reply : Reply R) (answer : PlainReply) → batch_refusal plain entry ≡ Some answer → Tells state old reply answer
      → HasStepParts state entry reply old plain old.objects old.log
  refused_parts reply answer is tells = record {
    left = plain.cache.left;
    answer = answer;
    plain_log = plain.cache.log;
    spent = plain.cache.left;
    taken = plain.entries;
    data_at = shows.data_at;
    does = batch_refuses (passing plain.cache.left plain) entry answer is;
    tells = tells;
    has_objects = shows.objects;
    has_table = shows.table;
    keeps_plan = others_keep_plan old.objects.uploads.queue;
    has_log = shows.log;
    logged = shows.logged;
    told = λ room. (shows.fuse, shows.fuse);
    pending = λ room pends. subst (ShowsPending old.log) (sym (refused_cache plain entry answer is)) pends;
  }

  refused_step : (reply : Reply R) (answer : PlainReply) (objects : ObjLogState) (log : LogState)
      → batch_refusal plain entry ≡ Some answer
      → Tells state old reply answer
      → objects ≡ old.objects → log ≡ old.log
      → IsStep state (event_of entry) reply plain old (with_both objects log old)
      × CountsGrow old (with_both objects log old)
  refused_step reply answer objects log is tells same_objects same_log =
      subst₂ (λ o l. IsStep state (event_of entry) reply plain old (with_both o l old) × CountsGrow old (with_both o l old))
      (sym same_objects) (sym same_log) (
        step_by_parts state reply old plain shows old.objects old.log entry (refused_parts reply answer is tells),
        counts_stay old old refl refl,
      )

  -- an entry that comes to the log
  module _ (result : Result ℕ AppendError) (ready : ObjLogState) (log : LogState)
      (comes : ComesToLog entry result old.objects ready old.log log) where
    came : EntersWith entry result shows.data_at (taken_for old.log comes.reserved) log plain
    came =
        let before : LogState = taken_for old.log comes.reserved in
        let next = shown_next old.log plain shows.log shows.valid in
        enters_with entry result shows.data_at before log plain
        (reserved_shows old.log comes.reserved plain.cache.log shows.log) shows.valid
        (logged_alike shows.data_at old.log before plain refl refl refl shows.logged)
        (in_range_then true comes.in_range ∙ ap (option_map reply_of_full) comes.not_full)
        (reaches_on_disk old.log plain (omega (arith, next, frontier_ends plain shows.valid)) disk)
        (subst (λ end. EntersLog entry end result before log) counts.end comes.log)

    -- as many writes are pending as on the plain volume's cache
    came_pending : HasRoom (most_of_step (event_of {R = R} entry)).changes (most_of_step (event_of {R = R} entry)).bytes
        old.log.commits.disk.budget
        → ShowsPending old.log plain.cache → ShowsPending log (after_entering entry (passing came.left plain)).cache
    came_pending room pends =
        let before : LogState = taken_for old.log comes.reserved in
        let enough = room_for_step old.log.commits.unfinished entry R old.log.commits.disk.budget room in
        subst (λ f. ShowsPending log (after_entering entry (passing f plain)).cache) (sym (came.told enough).0)
        (enter_pends entry shows.data_at before plain (reserved_shows old.log comes.reserved plain.cache.log shows.log)
        shows.valid
        (logged_alike shows.data_at old.log before plain refl refl refl shows.logged)
        (in_range_then true comes.in_range ∙ ap (option_map reply_of_full) comes.not_full)
        disk.commits enough (reserved_pends old.log comes.reserved plain.cache pends) result log
        (subst (λ end. EntersLog entry end result before log) counts.end comes.log))

    came_parts : (reply : Reply R) (objects : ObjLogState) → Tells state old reply (reply_to_append result (history_length plain))
        → ShowsObjects (places_by result shows.data_at (history_length plain)) objects
        (record plain { entries = entries_by result plain.entries entry })
        → ShowsTable objects.uploads.queue (record plain { entries = entries_by result plain.entries entry })
        → KeepsPlan old.objects.uploads.queue objects.uploads.queue
        → HasStepParts state entry reply old plain objects log
    came_parts reply objects tells shown table keeps = record {
      left = came.left;
      answer = reply_to_append result (history_length plain);
      plain_log = came.log;
      spent = came.spent;
      taken = entries_by result plain.entries entry;
      data_at = places_by result shows.data_at (history_length plain);
      does = came.does;
      tells = tells;
      has_objects = shown;
      has_table = table;
      keeps_plan = keeps;
      has_log = came.shows;
      logged = came.logged;
      told = λ room. came.told (room_for_step old.log.commits.unfinished entry R old.log.commits.disk.budget room);
      pending = came_pending;
    }

    ready_last : ready.uploads.window.last ≡ old.objects.uploads.window.last
    ready_last = ap (λ (w : WindowState). w.last) comes.same.uploads.window

    ready_shows : ShowsObjects shows.data_at ready plain
    ready_shows = room_shows_same shows.data_at old.objects ready plain shows.objects comes.same

    ready_table : ShowsTable ready.uploads.queue plain
    ready_table = room_shows_same_table old.objects ready plain comes.same shows.table

  -- it has no record
  came_step : (reply : Reply R) (error : AppendError) (objects : ObjLogState) (log : LogState)
      → ComesToLog entry (Err error) old.objects objects old.log log
      → Tells state old reply (reply_to_append (Err error) (history_length plain))
      → IsStep state (event_of entry) reply plain old (with_both objects log old)
      × CountsGrow old (with_both objects log old)
  came_step reply error objects log comes tells =
      let with = came (Err error) objects log comes in
      let last = ready_last (Err error) objects log comes in (
        step_by_parts state reply old plain shows objects log entry
            (came_parts (Err error) objects log comes reply objects tells (ready_shows (Err error) objects log comes)
            (ready_table (Err error) objects log comes) (room_keeps_plan old.objects objects comes.same)),
        record { entries = with.next; objects = omega (arith, last); commits = with.number },
      )

  -- it is entered
  added_shows : (at : ℕ) (ready objects : ObjLogState) → IsSame old.objects ready → ShowsObjects shows.data_at ready plain
      → IsAdded entry (at + 1) ready objects
      → ShowsObjects (with_place shows.data_at (history_length plain) (at + 1)) objects
      (record plain { entries = plain.entries ++ entry ∷ [] })
  added_shows at ready objects same shown added =
      let next : ℕ = history_length plain in
      let place : ℕ → ℕ = with_place shows.data_at next (at + 1) in
      added_shows_entry place ready objects plain entry (roomier_uploads old.objects.uploads ready.uploads same.uploads uploads)
      shows.valid
      (shown_with_other_places shows.data_at place ready plain
      (λ seq from below. other_place shows.data_at next (at + 1) seq (λ is. omega (arith, below, is))) shown)
      (subst (λ p. IsAdded entry p ready objects) (sym (own_place shows.data_at next (at + 1))) added)

  count_after : (at count : ℕ) (ready objects : ObjLogState) → IsSame old.objects ready → IsAdded entry (at + 1) ready objects
      → count ≡ objects.batch.first + length objects.batch.entries
      → history_length plain + 1 ≡ count
  count_after at count ready objects same added is =
      let first = added.first in
      let many = ap length added.entries in
      let more = length-append ready.batch.entries (entry ∷ []) in
      let was_first = same.first in
      let was_many = ap length same.entries in
      let next = counts.next in
      omega (arith, first, many, more, was_first, was_many, next, is)

  entered_keeps_plan : (at : ℕ) (ready objects : ObjLogState) → IsSame old.objects ready → IsAdded entry (at + 1) ready objects
      → KeepsPlan old.objects.uploads.queue objects.uploads.queue
  entered_keeps_plan at ready objects same added = λ out before later same_plan same_sizes table plan.
      added_keeps_plan ready objects entry (at + 1) added out before later same_plan same_sizes
      (room_shows_same_table old.objects ready before same table)
      (room_keeps_plan old.objects ready same out before before refl refl table plan)

  entered_step : (count : ℕ) (objects : ObjLogState) (log : LogState) → EntersBoth entry count old.objects objects old.log log
      → IsStep state (event_of entry) (told.Entered count) plain old (with_both objects log old)
      × CountsGrow old (with_both objects log old)
  entered_step count objects log both =
      let comes = both.comes in
      let with = came (Ok both.at) both.ready log comes in
      let added_last = ap (λ (w : WindowState). w.last) both.added.window in
      let last = ready_last (Ok both.at) both.ready log comes in
      let tells = ap replies.Entered (count_after both.at count both.ready objects comes.same both.added both.count_is) in
      let ready = ready_shows (Ok both.at) both.ready log comes in
      let shown = added_shows both.at both.ready objects comes.same ready both.added in
      let table =
      added_shows_table both.ready objects plain entry (both.at + 1) both.added shows.valid
      (ready_table (Ok both.at) both.ready log comes) in (
        step_by_parts state (told.Entered count) old plain shows objects log entry
            (came_parts (Ok both.at) both.ready log comes (told.Entered count) objects tells shown table
            (entered_keeps_plan both.at both.ready objects comes.same both.added)),
        record { entries = with.next; objects = omega (arith, added_last, last); commits = with.number },
      )

  -- memory ran out
  lacking_step : (back : Entry) (objects : ObjLogState) (log : LogState) → IsSame old.objects objects
      → log ≡ record old.log { reserved = log.reserved } → is_in_range old.objects.batch.geometry entry ≡ true
      → fullness_in old.objects ≡ None
      → IsNoStep state (event_of entry) (told.NotEntered back refusals.OutOfMemory) plain old (with_both objects log old)
      × CountsGrow old (with_both objects log old)
  lacking_step back objects log same is in_range not_full =
      let before : LogState = taken_for old.log log.reserved in
      let next = ap (λ (l : LogState). next_seq l) is in
      let last = ap (λ (w : WindowState). w.last) same.uploads.window in
      let number = ap (λ (l : LogState). l.commits.number) is in (
        record {
          may = may_lack R entry;
          lacks = refl;
          asked = asked_by entry;
          asks = asks_entry state old entry;
          taken = asked_is_taken plain entry (in_range_then true in_range ∙ ap (option_map reply_of_full) not_full);
          shows = record {
            valid = shows.valid;
            data_at = shows.data_at;
            objects = room_shows_same shows.data_at old.objects objects plain shows.objects same;
            table = room_shows_same_table old.objects objects plain same shows.table;
            plan = room_keeps_plan old.objects objects same old.plan plain plain refl refl shows.table shows.plan;
            log = subst (λ l. ShowsLog l plain.cache.log) (sym is) (reserved_shows old.log log.reserved plain.cache.log
                shows.log);
            logged = subst (λ l. HasLoggedEntries shows.data_at l plain) (sym is)
                (logged_alike shows.data_at old.log before plain refl refl refl shows.logged);
            fuse = shows.fuse ∙ sym (ap (λ (l : LogState). fuse_in l.commits.disk.budget) is);
          };
          pending = λ pends. subst (λ l. ShowsPending l plain.cache) (sym is)
              (reserved_pends old.log log.reserved plain.cache pends);
        },
        record { entries = omega (arith, next); objects = omega (arith, last); commits = omega (arith, number) },
      )

  -- ---- all of them

  abbrev Outcome : Reply R → ObjLogState → LogState → Type 0
  Outcome reply objects log =
      (IsStep state (event_of entry) reply plain old (with_both objects log old)
      ⊎ IsNoStep state (event_of entry) reply plain old (with_both objects log old))
      × CountsGrow old (with_both objects log old)

  refused_outcome : (back : Entry) (why : EntryRefusal) (objects : ObjLogState) (log : LogState)
      → IsRefusedEntry entry why old.objects objects old.log log
      → Outcome (told.NotEntered back why) objects log
  refused_outcome back refusals.Range objects log is =
      let step = refused_step (told.NotEntered back refusals.Range) replies.Range objects log (in_range_then false is.0) refl
      is.1 is.2 in
      (inl step.0, step.1)
  refused_outcome back (refusals.Full full) objects log is =
      let refusal = in_range_then true is.0 ∙ ap (option_map reply_of_full) is.1 in
      let step = refused_step (told.NotEntered back (refusals.Full full)) (reply_of_full full) objects log refusal
      (tells_full state old back full) is.2 is.3 in
      (inl step.0, step.1)
  refused_outcome back (refusals.NoRoom needed free) objects log is =
      let step = came_step (told.NotEntered back (refusals.NoRoom needed free)) (errors.NoRoom needed free) objects log is refl in
      (inl step.0, step.1)
  refused_outcome back refusals.Fault objects log is =
      let step = came_step (told.NotEntered back refusals.Fault) errors.DeviceFault objects log is refl in
      (inl step.0, step.1)
  refused_outcome back refusals.OutOfMemory objects log is =
      let step = lacking_step back objects log is.0 is.1 is.2 is.3 in
      (inr step.0, step.1)

  each_outcome : (reply : Reply R) (objects : ObjLogState) (log : LogState) → Enters entry reply old.objects objects old.log log
      → Outcome reply objects log
  each_outcome (told.Entered count) objects log enters =
      (let step = entered_step count objects log enters in (inl step.0, step.1))
  each_outcome (told.NotEntered back why) objects log enters = refused_outcome back why objects log enters.1
  each_outcome reply objects log enters = absurd enters

-- an entry of a volume is a step of each plain volume that it shows
pub enter_steps : {R : Type 0} (state : R → ReceiptState) (entry : Entry) (reply : Reply R) (old : VolumeState)
    (objects : ObjLogState)
    (log : LogState)
    → IsUploads old.objects.uploads → IsOnDisk old.log
    → Enters entry reply old.objects objects old.log log
    → StepsAsPlain state (event_of entry) reply old (with_both objects log old)
enter_steps state entry reply old objects log uploads disk enters plain shows =
    (each_outcome state entry old plain shows uploads disk reply objects log enters).0

pub enter_grow : {R : Type 0} (state : R → ReceiptState) (entry : Entry) (reply : Reply R) (old : VolumeState)
    (objects : ObjLogState)
    (log : LogState)
    (plain : PlainState)
    → IsUploads old.objects.uploads → IsOnDisk old.log
    → Enters entry reply old.objects objects old.log log
    → Shows old plain
    → CountsGrow old (with_both objects log old)
enter_grow state entry reply old objects log plain uploads disk enters shows =
    (each_outcome state entry old plain shows uploads disk reply objects log enters).1

-- ---- before it

pub may_enter : (volume : VolumeState) (plain : PlainState) (steps : ℕ) → Shows volume plain → steps ≤ max_number
    → IsReadyForStep (record { volume = volume; steps = steps })
    → IsUploads volume.objects.uploads
    → MayEnter volume.objects volume.log
may_enter volume plain steps shows most ready uploads =
    let counts = shown_have_counts shows.data_at volume.objects plain uploads shows.valid shows.objects in
    let next = shown_next volume.log plain shows.log shows.valid in
    let counted = ready.counted in
    let small = ready.small in
    let entries = small.entries in
    let commits = small.commits in
    let ends = frontier_ends plain shows.valid in
    let end = counts.end in
    let head = shows.log.is_room.head in
    let limit = shows.log.is_room.limit in
    record {
      limits = subst (λ (g : Geometry). IsTrue (is_within_limits g)) (sym shows.objects.geometry) shows.valid.limits;
      next = next ∙ sym counts.next;
      small = omega (arith, counted, entries, most);
      end = omega (arith, end, ends, next);
      number = omega (arith, counted, commits, most);
      head = omega (arith, head, limit);
    }
