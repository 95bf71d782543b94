-- A read is planned as the plain volume does whose device has some fuse.
use Rattle.std.proofs.Common.{◌≡◌, ℕ, inl, inr, Bool, true, false, if◌then◌else◌, List, ◌++◌, length, refl, sym, ◌∙◌, ap, subst}
use Rattle.std.proofs.Common.{arith}
use Rattle.std.specs.List.{All}
use Rattle.std.proofs.Math.Path.{subst₂}
use Rattle.lsvd_base.specs.Limits.{may_transfer}
use Rattle.lsvd_device.specs.Calls.{Fuse, passes, fuse_after}
use Rattle.lsvd_objstore.specs.Store.{ReceiptState}
use Rattle.commit_slot.specs.Commits.{IsAsBefore}
use Rattle.cache_log.specs.Log.{LogState, HasSameEntries}
use Rattle.cache_log.specs.Reads.{reads_cost}
use Rattle.upload_window.specs.Window.{WindowState}
use Rattle.object_uploads.specs.Order.{IsUploads}
use Rattle.object_uploads.specs.Removal.{PinsEach}
use Rattle.obj_log.specs.State.{ObjLogState}
use Rattle.refine_log.specs.Pending.{ShowsPending}
use Rattle.refine_log.proofs.Asked.{spent_after}
use Rattle.refine_log.proofs.PendingShown.{still_shows_pending}
use Rattle.plain_disk.specs.declared.event.PlainEvent.TheVariants as events
use Rattle.plain_disk.specs.declared.event.PlainReply.{PlainReply}
use Rattle.plain_disk.specs.declared.event.PlainReply.TheVariants as replies
use Rattle.plain_disk.specs.Cache.{PlainCache}
use Rattle.plain_disk.specs.State.{PlainState}
use Rattle.plain_disk.specs.Reads.{objects_read, look_calls, planned_read, look_reply, after_look}
use Rattle.plain_disk.specs.Step.{is_refusal}
use Rattle.plain_disk.specs.Valid.{IsPlainVolume}
use Rattle.refine_log.specs.Fuses.{fuse_in}
use Rattle.refine_log.proofs.Shown.{same_shows_same}
use Rattle.refine_log.specs.Logged.{HasLoggedEntries}
use Rattle.refine_objects.specs.TableLaws.{ShowsBoth}
use Rattle.refine_objects.specs.PlanLaws.{KeepsPlan}
use Rattle.refine_objects.proofs.PlanCalls.{others_keep_plan, pins_keep_plan}
use Rattle.refine_objects.proofs.ShowLemmas.{shown_have_counts, shown_with_other_cache}
use Rattle.refine_objects.proofs.TableLemmas.{table_shown_with_other_cache}
use Rattle.refine_objects.proofs.PinsShown.{pinned_each_show_pins}
use Rattle.read_plan.specs.Plan.{PlanState, TellsWhole}
use Rattle.read_plan.specs.Look.{IsReadPlan, reads_of, ReadsRange}
use Rattle.vol_core.specs.declared.event.Event.TheVariants.{Look}
use Rattle.vol_core.specs.declared.reply.Reply.{Reply}
use Rattle.vol_core.specs.declared.reply.Reply.TheVariants as told
use Rattle.vol_core.specs.Volume.{VolumeState}
use Rattle.vol_core.specs.Shows.{Shows}
use Rattle.vol_core.specs.Events.{Tells}
use Rattle.vol_core.specs.Step.{passing, IsStep, StepsAsPlain}
use Rattle.vol_core.proofs.StepLemmas.{CountsGrow, quiet_step}
use Rattle.vol_core.proofs.EnterSteps.{with_both}
use Rattle.vol_core.proofs.PendingSteps.{told_stays}
use Rattle.vol_core.proofs.LoggedLemmas.{logged_alike}
use Rattle.vol_core.proofs.ObjectsRead.{each_is_read, objects_are_read}
use Rattle.vol_core.proofs.PlanGives.{plan_gives_read}
use Rattle.vol_core.proofs.LookLemmas.{read_shown, may_read, read_ends, reads_are_calls, reads_have_fuse}

-- ---- what a look leaves

-- the plain volume with other pins, whose device passes other calls
abbrev plain_with : Fuse → (pins : List ℕ) → PlainState → PlainState
plain_with left pins plain = record plain { cache = record plain.cache { left = left }; pins = pins }

still_plain : (left : Fuse) (pins : List ℕ) (plain : PlainState) → IsPlainVolume plain
    → IsPlainVolume (plain_with left pins plain)
still_plain left pins plain is = record {
  limits = is.limits;
  sectors = is.sectors;
  owned = is.owned;
  payloads = is.payloads;
  in_range = is.in_range;
  stream = is.stream;
  window = is.window;
  last = is.last;
  opened = is.opened;
  begun = is.begun;
  checkpoint = is.checkpoint;
  held = is.held;
  log = is.log;
  size = is.size;
}

-- the plain volume whose pins and cache are others has the same entries past the frontier's end
logged_with : (data_at : ℕ → ℕ) (log : LogState) (plain : PlainState) (cache : PlainCache) (pins : List ℕ)
    → HasLoggedEntries data_at log plain
    → HasLoggedEntries data_at log (record plain { cache = cache; pins = pins })
logged_with data_at log plain cache pins is =
    record { first = is.first; rows = is.rows; entries = is.entries; placed = is.placed }

looked_shown : (old : VolumeState) (objects : ObjLogState) (log : LogState) (pins : List ℕ) (plain : PlainState)
    → (shows : Shows old plain) → HasSameEntries old.log log → IsAsBefore old.log.commits log.commits
    → ShowsBoth shows.data_at objects (record plain { pins = pins })
    → KeepsPlan old.objects.uploads.queue objects.uploads.queue
    → Shows (with_both objects log old) (plain_with (fuse_in log.commits.disk.budget) pins plain)
looked_shown old objects log pins plain shows same commits both keeps =
    let cache : PlainCache = record plain.cache { left = fuse_in log.commits.disk.budget } in
    let pinned : PlainState = record plain { pins = pins } in
    record {
      valid = still_plain (fuse_in log.commits.disk.budget) pins plain shows.valid;
      data_at = shows.data_at;
      objects = shown_with_other_cache shows.data_at objects pinned cache pins both.objects;
      table = table_shown_with_other_cache objects.uploads.queue pinned cache both.table;
      plan = keeps old.plan plain (plain_with (fuse_in log.commits.disk.budget) pins plain) refl refl shows.table shows.plan;
      log = same_shows_same old.log log plain.cache.log shows.log same commits;
      logged =
          logged_with shows.data_at log plain cache pins
          (logged_alike shows.data_at old.log log plain same.first same.rows same.entries shows.logged);
      fuse = refl;
    }

-- ---- the plain volume's look

-- its answer and its pins after it, where the device passes its calls, or not
abbrev read_reply : (are_made : Bool) (lba sectors : ℕ) → PlainState → PlainReply
read_reply are_made lba sectors plain =
    if are_made then replies.Planned (planned_read plain lba sectors) else replies.Fault

abbrev read_pins : (are_made : Bool) (lba sectors : ℕ) → PlainState → List ℕ
read_pins are_made lba sectors plain = if are_made then plain.pins ++ objects_read plain lba sectors else plain.pins

module _ (left : Fuse) (plain : PlainState) (lba sectors : ℕ) (may are_made : Bool)
    (may_is : may_transfer plain.geometry lba sectors ≡ may)
    (lets : passes left (look_calls plain lba sectors) ≡ are_made) where
  after_look_is : after_look lba sectors (passing left plain)
      ≡ (if may then plain_with (fuse_after left (look_calls plain lba sectors)) (read_pins are_made lba sectors plain) plain else
      passing left plain)
  after_look_is =
      let calls = look_calls plain lba sectors in
      let now : Bool → PlainState = λ made. plain_with (fuse_after left calls) (read_pins made lba sectors plain) plain in
      ap (λ b. if b then now (passes left calls) else passing left plain) may_is
      ∙ ap (λ made. if may then now made else passing left plain) lets

  look_reply_is : look_reply (passing left plain) lba sectors
      ≡ (if may then read_reply are_made lba sectors plain else replies.Range)
  look_reply_is =
      ap (λ b. if b then read_reply (passes left (look_calls plain lba sectors)) lba sectors plain else replies.Range) may_is
      ∙ ap (λ made. if may then read_reply made lba sectors plain else replies.Range) lets

-- a look of its sectors is not refused
look_is_taken : (plain : PlainState) (lba sectors : ℕ) → may_transfer plain.geometry lba sectors ≡ true
    → is_refusal (look_reply plain lba sectors) ≡ false
look_is_taken plain lba sectors may =
    let made = passes plain.cache.left (look_calls plain lba sectors) in
    ap is_refusal (look_reply_is plain.cache.left plain lba sectors true made may refl) ∙ by_case made plain lba sectors
  where
    by_case : (made : Bool) (plain : PlainState) (lba sectors : ℕ) → is_refusal (read_reply made lba sectors plain) ≡ false
    by_case false plain lba sectors = refl
    by_case true plain lba sectors = refl

-- ---- a look

module _ {R : Type 0} (state : R → ReceiptState) (old : VolumeState) (lba sectors : ℕ)
    (ordered : IsUploads old.objects.uploads)
    (may : may_transfer old.objects.batch.geometry lba sectors ≡ true)
    (plain : PlainState) (shows : Shows old plain) where
  -- reads that were made, or failed, are those of the plain volume with some fuse
  read_step : (reply : Reply R) (objects : ObjLogState) (log : LogState) (are_made : Bool)
      → ReadsRange lba sectors old.objects.uploads.queue.maps are_made old.log log
      → Tells state old reply (read_reply are_made lba sectors plain)
      → ShowsBoth shows.data_at objects (record plain { pins = read_pins are_made lba sectors plain })
      → KeepsPlan old.objects.uploads.queue objects.uploads.queue
      → IsStep state (Look lba sectors) reply plain old (with_both objects log old)
  read_step reply objects log are_made reads tells both keeps =
      let shown = read_shown old plain shows ordered lba sectors may in
      let inside = read_ends old plain shows ordered lba sectors may in
      let may_plain = may_read old plain shows ordered lba sectors may in
      let rows = reads.reads in
      let left = fuse_in log.commits.disk.budget in
      let same = reads_are_calls shows.data_at old.objects old.log plain shown lba sectors inside are_made log reads in
      let has = reads_have_fuse (reads_of reads.rows) are_made old.log.commits.disk.budget log.commits.disk.budget
      rows.calls.budget rows.some in
      let lets = ap (passes has.fuse) (sym same) ∙ has.lets in
      let after = after_look_is has.fuse plain lba sectors true are_made may_plain lets in
      record {
        left = has.fuse;
        asked = events.Look lba sectors;
        asks = refl;
        tells = subst (Tells state old reply) (sym (look_reply_is has.fuse plain lba sectors true are_made may_plain lets)) tells;
        shows =
            subst (λ p. Shows (with_both objects log old) (passing left p)) (sym after)
            (looked_shown old objects log (read_pins are_made lba sectors plain) plain shows rows.same rows.commits both
            keeps);
        told = λ room. (
          (has.told room).0,
          ap (λ (p : PlainState). p.cache.left) after ∙ (ap (fuse_after has.fuse) (sym same) ∙ (has.told room).1),
        );
        pending = λ room pends.
            let cache : PlainCache = record plain.cache { left = fuse_after has.fuse (look_calls plain lba sectors) } in
            subst (λ (p : PlainState). ShowsPending log p.cache) (sym after)
            (still_shows_pending old.log log plain.cache cache pends rows.commits rows.moments
            (told_stays (reads_cost (reads_of reads.rows)) are_made old.log.commits.disk.budget log.commits.disk.budget
            rows.calls.budget pends.told)
            (λ is. sym (has.told room).1 ∙ spent_after has.fuse (reads_of reads.rows) ((has.told room).0 ∙ is))
            refl);
      }

  own_both : ShowsBoth shows.data_at old.objects plain
  own_both = record { objects = shows.objects; table = shows.table }

  planned_step : (plan : PlanState) (objects : ObjLogState) (log : LogState)
      → IsReadPlan lba sectors old.objects old.log plan
      → All (λ piece. TellsWhole piece.receipt) plan.pieces
      → PinsEach plan.objects old.objects.uploads objects.uploads → objects.batch ≡ old.objects.batch
      → ReadsRange lba sectors old.objects.uploads.queue.maps true old.log log
      → IsStep state (Look lba sectors) (told.Planned plan) plain old (with_both objects log old)
  planned_step plan objects log is whole pinned batch reads =
      let shown = read_shown old plain shows ordered lba sectors may in
      let inside = read_ends old plain shows ordered lba sectors may in
      let numbers = objects_are_read shows.data_at old.objects old.log plain shown lba sectors inside plan.objects is.objects in
      let history_length = is.history_length
      ∙ (shown_have_counts shows.data_at old.objects plain ordered shows.valid shows.objects).next in
      let gives = plan_gives_read shows.data_at old.objects old.log plain shown lba sectors inside plan is whole in
      let each = each_is_read shows.data_at old.objects old.log plain shown lba sectors inside plan.objects is.objects in
      let both =
      pinned_each_show_pins shows.data_at old.objects objects plain plan.objects ordered shows.valid own_both each pinned batch in
      read_step (told.Planned plan) objects log true reads
      (planned_read plain lba sectors, refl, record { history_length = history_length; objects = numbers; gives = gives })
      (subst (λ list. ShowsBoth shows.data_at objects (record plain { pins = plain.pins ++ list })) numbers both)
      ((pins_keep_plan plan.objects old.objects.uploads objects.uploads).0 pinned)

pub planned_steps : {R : Type 0} (state : R → ReceiptState) (old : VolumeState) (lba sectors : ℕ) (plan : PlanState)
    (objects : ObjLogState) (log : LogState)
    → IsUploads old.objects.uploads → may_transfer old.objects.batch.geometry lba sectors ≡ true
    → IsReadPlan lba sectors old.objects old.log plan → All (λ piece. TellsWhole piece.receipt) plan.pieces
    → PinsEach plan.objects old.objects.uploads objects.uploads → objects.batch ≡ old.objects.batch
    → ReadsRange lba sectors old.objects.uploads.queue.maps true old.log log
    → StepsAsPlain state (Look lba sectors) (told.Planned plan) old (with_both objects log old)
planned_steps state old lba sectors plan objects log ordered may is whole pinned batch reads plain shows =
    inl (planned_step state old lba sectors ordered may plain shows plan objects log is whole pinned batch reads)

-- a read failed
pub fault_steps : {R : Type 0} (state : R → ReceiptState) (old : VolumeState) (lba sectors : ℕ) (objects : ObjLogState)
    (log : LogState)
    → IsUploads old.objects.uploads → may_transfer old.objects.batch.geometry lba sectors ≡ true
    → objects ≡ old.objects → ReadsRange lba sectors old.objects.uploads.queue.maps false old.log log
    → StepsAsPlain state (Look lba sectors) told.Fault old (with_both objects log old)
fault_steps state old lba sectors objects log ordered may same reads plain shows =
    inl
    (subst (λ o. IsStep state (Look lba sectors) told.Fault plain old (with_both o log old)) (sym same)
    (read_step state old lba sectors ordered may plain shows told.Fault old.objects log false reads refl
    (own_both state old lba sectors ordered may plain shows) (others_keep_plan old.objects.uploads.queue)))

-- memory ran out
pub memory_steps : {R : Type 0} (state : R → ReceiptState) (old : VolumeState) (lba sectors : ℕ) (objects : ObjLogState)
    (log : LogState)
    → may_transfer old.objects.batch.geometry lba sectors ≡ true → objects ≡ old.objects → log ≡ old.log
    → StepsAsPlain state (Look lba sectors) told.OutOfMemory old (with_both objects log old)
memory_steps state old lba sectors objects log may same_objects same_log plain shows =
    let may_plain = ap (λ g. may_transfer g lba sectors) (sym shows.objects.geometry) ∙ may in
    inr
    (record {
      may = refl;
      lacks = refl;
      asked = events.Look lba sectors;
      asks = refl;
      taken = look_is_taken plain lba sectors may_plain;
      shows = subst₂ (λ o l. Shows (with_both o l old) plain) (sym same_objects) (sym same_log) shows;
      pending = λ pends. subst (λ l. ShowsPending l plain.cache) (sym same_log) pends;
    })

-- the volume does not take a read of these sectors
pub range_steps : {R : Type 0} (state : R → ReceiptState) (old : VolumeState) (lba sectors : ℕ)
    → may_transfer old.objects.batch.geometry lba sectors ≡ false → StepsAsPlain state (Look lba sectors) told.Range old old
range_steps state old lba sectors may_not plain shows =
    let left = plain.cache.left in
    let not = ap (λ g. may_transfer g lba sectors) (sym shows.objects.geometry) ∙ may_not in
    let made = passes left (look_calls plain lba sectors) in
    inl
    (quiet_step state (Look lba sectors) told.Range plain old old (events.Look lba sectors) shows refl
    (look_reply_is left plain lba sectors false made not refl)
    (subst (Shows old) (sym (after_look_is left plain lba sectors false made not refl)) shows) refl
    (ap (λ (p : PlainState). p.cache) (after_look_is left plain lba sectors false made not refl)))

-- ---- the numbers after a look

-- reads of the log leave them
pub reads_grow : (old : VolumeState) (objects : ObjLogState) (log : LogState) (lba sectors : ℕ) (are_made : Bool)
    → objects.uploads.window ≡ old.objects.uploads.window
    → ReadsRange lba sectors old.objects.uploads.queue.maps are_made old.log log
    → CountsGrow old (with_both objects log old)
reads_grow old objects log lba sectors are_made window reads =
    let first = reads.reads.same.first in
    let rows = ap length reads.reads.same.rows in
    let number = reads.reads.commits.same_number in
    let last = ap (λ (w : WindowState). w.last) window in
    record { entries = omega (arith, first, rows); objects = omega (arith, last); commits = omega (arith, number) }
