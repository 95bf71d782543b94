-- A flush of a volume is that of the plain volume whose device passes as many calls.
use Rattle.std.proofs.Common.{◌≡◌, ℕ, ◌+◌, inl, Bool, true, false, cond, length, refl, sym, ◌∙◌, ap, subst, arith}
use Rattle.std.specs.Prelude.{Option, Some, None}
use Rattle.lsvd_device.specs.Calls.{Budget}
use Rattle.lsvd_device.specs.Memory.{HasRoom}
use Rattle.lsvd_objstore.specs.Store.{ReceiptState}
use Rattle.commit_body.specs.declared.body.CommitBody.{CommitBody}
use Rattle.commit_slot.specs.Commits.{commit_cost}
use Rattle.cache_log.specs.Log.{LogState}
use Rattle.cache_log.specs.Committed.{IsOnDisk}
use Rattle.batcher.specs.State.{BatchState}
use Rattle.object_uploads.specs.Order.{IsUploads}
use Rattle.plain_disk.specs.declared.event.PlainEvent.TheVariants as events
use Rattle.plain_disk.specs.declared.event.PlainReply.TheVariants as replies
use Rattle.plain_disk.specs.Cache.{passes_commit}
use Rattle.plain_disk.specs.State.{PlainState, history_length}
use Rattle.plain_disk.specs.Entries.{flush_reply, after_flush}
use Rattle.plain_disk.proofs.EventLemmas.{flush_keeps}
use Rattle.refine_log.specs.Fuses.{fuse_in}
use Rattle.refine_objects.proofs.ShowLemmas.{shown_have_counts, shown_with_other_cache}
use Rattle.refine_objects.proofs.TableLemmas.{table_shown_with_other_cache}
use Rattle.refine_log.specs.Pending.{ShowsPending}
use Rattle.refine_objects.proofs.PlanCalls.{others_keep_plan}
use Rattle.vol_core.specs.declared.event.Event.TheVariants.{Flush}
use Rattle.vol_core.specs.declared.reply.Reply.{Reply}
use Rattle.vol_core.specs.declared.reply.Reply.TheVariants as told
use Rattle.vol_core.specs.Volume.{VolumeState}
use Rattle.vol_core.specs.Shows.{Shows, IsVolume}
use Rattle.vol_core.specs.Events.{Tells}
use Rattle.vol_core.specs.Step.{passing, most_of_commit, IsStep, StepsAsPlain}
use Rattle.vol_core.specs.Calls.{IsReadyForStep, CommitsFrom}
use Rattle.vol_core.proofs.CommitLemmas.{CommitsWithFuse, commit_has_fuse}
use Rattle.vol_core.proofs.StepLemmas.{passing_keeps, CountsGrow, numbers_grow, steps_keep_volume}
use Rattle.vol_core.proofs.PendingSteps.{commit_pends}

-- the volume with another log
abbrev pub with_log : LogState → VolumeState → VolumeState
with_log log volume = record volume { log = log }

-- what a flush answers, whose commit was made or not
abbrev pub flush_told : {R : Type 0} → (is_made : Bool) → (count : ℕ) → Reply R
flush_told true count = told.Flushed count
flush_told false count = told.Fault

-- room for the most that a commit takes is room for each commit
room_for_commit : (unfinished : Option CommitBody) (budget : Option Budget)
    → HasRoom most_of_commit.changes most_of_commit.bytes budget
    → HasRoom (commit_cost unfinished).changes (commit_cost unfinished).bytes budget
room_for_commit unfinished None room = room
room_for_commit None (Some budget) room = (omega (arith, room.0), omega (arith, room.1))
room_for_commit (Some body) (Some budget) room = (omega (arith, room.0), omega (arith, room.1))

module _ (old : VolumeState) (log : LogState) (is_made : Bool) (plain : PlainState) (shows : Shows old plain)
    (uploads : IsUploads old.objects.uploads)
    (commits : CommitsFrom old.objects.uploads.queue.end is_made old.log log) where
  commit : CommitsWithFuse is_made shows.data_at old.log log plain
  commit =
      let counts = shown_have_counts shows.data_at old.objects plain uploads shows.valid shows.objects in
      commit_has_fuse is_made shows.data_at old.log log plain shows.log shows.valid shows.logged
      (subst (λ end. CommitsFrom end is_made old.log log) counts.end commits)

  -- the plain volume that the flush is asked of, and what it becomes
  abbrev asked : PlainState
  asked = passing commit.fuse plain

  abbrev flushed : PlainState
  flushed = passing (fuse_in log.commits.disk.budget) (after_flush asked)

  flushed_shown : Shows (with_log log old) flushed
  flushed_shown =
      let logged = commit.commits.logged in
      record {
        valid =
            passing_keeps (fuse_in log.commits.disk.budget) (after_flush asked)
            (flush_keeps asked (passing_keeps commit.fuse plain shows.valid));
        data_at = shows.data_at;
        objects = shown_with_other_cache shows.data_at old.objects plain flushed.cache plain.pins shows.objects;
        table = table_shown_with_other_cache old.objects.uploads.queue plain flushed.cache shows.table;
        plan = others_keep_plan old.objects.uploads.queue old.plan plain flushed refl refl shows.table shows.plan;
        log = commit.commits.log;
        logged = record { first = logged.first; rows = logged.rows; entries = logged.entries; placed = logged.placed };
        fuse = refl;
      }

  committed_grow : CountsGrow old (with_log log old)
  committed_grow = record {
    entries = omega (arith, commit.commits.next);
    objects = omega arith;
    commits = omega (arith, commit.commits.number);
  }

  -- the plain volume answers what the volume does
  reply_is : {R : Type 0} (state : R → ReceiptState) (made : Bool) (count : ℕ) → passes_commit asked.cache ≡ made
      → count ≡ history_length plain
      → Tells state old (flush_told made count) (flush_reply asked)
  reply_is state true count passes is =
      ap (λ b. cond b (replies.Flushed (history_length plain)) replies.Fault) passes ∙ ap replies.Flushed (sym is)
  reply_is state false count passes is = ap (λ b. cond b (replies.Flushed (history_length plain)) replies.Fault) passes

  -- the fuse that the commit took is the one that the device tells, where it has room
  fuse_told : HasRoom most_of_commit.changes most_of_commit.bytes old.log.commits.disk.budget
      → (commit.fuse ≡ fuse_in old.log.commits.disk.budget) × ((after_flush asked).cache.left ≡ fuse_in log.commits.disk.budget)
  fuse_told room =
      let told = commit.told (room_for_commit old.log.commits.unfinished old.log.commits.disk.budget room) in
      (told.0, commit.commits.left ∙ sym told.1)

  -- as many writes are pending as on the plain volume's cache
  flush_pending : IsOnDisk old.log → HasRoom most_of_commit.changes most_of_commit.bytes old.log.commits.disk.budget
      → ShowsPending old.log plain.cache → ShowsPending log (after_flush asked).cache
  flush_pending on_disk room pends =
      let counts = shown_have_counts shows.data_at old.objects plain uploads shows.valid shows.objects in
      let enough = room_for_commit old.log.commits.unfinished old.log.commits.disk.budget room in
      subst (λ f. ShowsPending log (after_flush (passing f plain)).cache) (sym (commit.told enough).0)
      (commit_pends is_made old.log log plain shows.log shows.valid on_disk.commits enough pends
      (subst (λ end. CommitsFrom end is_made old.log log) counts.end commits))

  flush_step : {R : Type 0} (state : R → ReceiptState) (count : ℕ) → IsOnDisk old.log
      → count ≡ old.objects.batch.first + length old.objects.batch.entries
      → IsStep state Flush (flush_told is_made count) plain old (with_log log old)
  flush_step state count on_disk is =
      let counts = shown_have_counts shows.data_at old.objects plain uploads shows.valid shows.objects in
      record {
        left = commit.fuse;
        asked = events.Flush;
        asks = refl;
        tells = reply_is state is_made count commit.commits.passed (is ∙ counts.next);
        shows = flushed_shown;
        told = fuse_told;
        pending = flush_pending on_disk;
      }

pub flush_steps : {R : Type 0} (state : R → ReceiptState) (old : VolumeState) (log : LogState) (batch : BatchState)
    (is_made : Bool) (end count : ℕ)
    → (reply : Reply R)
    → IsUploads old.objects.uploads → IsOnDisk old.log → end ≡ old.objects.uploads.queue.end
    → CommitsFrom end is_made old.log log → batch ≡ old.objects.batch → count ≡ batch.first + length batch.entries
    → reply ≡ flush_told is_made count
    → StepsAsPlain state Flush reply old (with_log log old)
flush_steps state old log batch is_made end count reply uploads on_disk end_is commits same count_is told plain shows =
    let from = subst (λ n. CommitsFrom n is_made old.log log) end_is commits in
    let counted = count_is ∙ ap (λ (b : BatchState). b.first + length b.entries) same in
    let step = flush_step old log is_made plain shows uploads from state count on_disk counted in
    inl (subst (λ r. IsStep state Flush r plain old (with_log log old)) (sym told) step)

pub flush_grow : (old : VolumeState) (log : LogState) (is_made : Bool) (end : ℕ) (plain : PlainState) → Shows old plain
    → IsUploads old.objects.uploads → end ≡ old.objects.uploads.queue.end
    → CommitsFrom end is_made old.log log
    → CountsGrow old (with_log log old)
flush_grow old log is_made end plain shows uploads end_is commits =
    committed_grow old log is_made plain shows uploads (subst (λ n. CommitsFrom n is_made old.log log) end_is commits)

-- each reply is one of these
pub flush_keeps_volume : {R : Type 0} (state : R → ReceiptState) (old : VolumeState) (log : LogState) (is_made : Bool)
    (end steps : ℕ)
    → IsUploads old.objects.uploads → IsOnDisk old.log → end ≡ old.objects.uploads.queue.end
    → CommitsFrom end is_made old.log log
    → IsReadyForStep (record { volume = old; steps = steps }) → IsVolume (record { volume = old; steps = steps })
    → IsVolume (record { volume = with_log log old; steps = steps })
flush_keeps_volume state old log is_made end steps uploads on_disk end_is commits ready is =
    let batch = old.objects.batch in
    let count = batch.first + length batch.entries in
    let step =
    flush_steps state old log batch is_made end count (flush_told is_made count) uploads on_disk end_is commits refl refl
    refl in
    let grow = flush_grow old log is_made end is.plain is.shows uploads end_is commits in
    steps_keep_volume state Flush (flush_told is_made count) old (with_log log old) steps is ready step
    (numbers_grow state Flush (flush_told is_made count) old (with_log log old) is.plain is.shows step grow)
