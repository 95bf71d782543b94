-- The plan of a copy, the seal of what was copied and the end of a plan make the step of the plain volume that was asked for.
use Rattle.std.proofs.Common.{◌≡◌, ℕ, ◌+◌, inl, inr, Bool, true, false, cond, not, ◌&&◌, Option, Some, None, List, []}
use Rattle.std.proofs.Common.{◌∷◌, length, refl, sym, ◌∙◌, ap, subst, arith}
use Rattle.std.specs.Prelude.{IsSome, is_some}
use Rattle.std.specs.List.{list_any}
use Rattle.std.proofs.Math.Path.{subst₂}
use Rattle.std.proofs.lemmas.Bool.Decides.{nat_tests}
use Rattle.lsvd_base.specs.declared.geometry.Geometry.{Geometry}
use Rattle.lsvd_fault.specs.Faults.{Counts}
use Rattle.lsvd_objstore.specs.Store.{ReceiptState}
use Rattle.upload_window.specs.Window.{WindowState, has_number}
use Rattle.gc_copier.specs.Plan.{PlanState, numbers_of}
use Rattle.gc_copier.specs.Copying.{CopiedState}
use Rattle.object_stream.specs.declared.object.CopiedSector.{CopiedSector}
use Rattle.object_uploads.specs.State.{UploadsState}
use Rattle.object_uploads.specs.Order.{IsUploads}
use Rattle.object_uploads.specs.Collection.{HasPlan, HasPlanned, with_copied_all}
use Rattle.batcher.specs.State.{BatchState}
use Rattle.obj_log.specs.State.{ObjLogState}
use Rattle.obj_log.specs.Changes.{IsSame}
use Rattle.plain_disk.specs.declared.event.PlainEvent.{PlainEvent}
use Rattle.plain_disk.specs.declared.event.PlainEvent.TheVariants as events
use Rattle.plain_disk.specs.declared.event.PlainReply.{PlainReply}
use Rattle.plain_disk.specs.declared.event.PlainReply.TheVariants as replies
use Rattle.plain_disk.specs.State.{PlainState}
use Rattle.plain_disk.specs.Objects.{is_busy}
use Rattle.plain_disk.specs.Collection.{planned_copy, reply_of_plan, plan_copy_reply, with_plan, after_plan_copy}
use Rattle.plain_disk.specs.Collection.{seal_copy_reply, after_sealed_copy, after_seal_copy, after_drop_plan}
use Rattle.plain_disk.specs.Step.{plain_reply, plain_after, is_refusal}
use Rattle.plain_disk.specs.Valid.{IsPlainVolume}
use Rattle.plain_disk.proofs.EventLemmas.{events_keep}
use Rattle.refine_objects.specs.TableLaws.{ShowsBoth}
use Rattle.refine_objects.specs.Plan.{ShowsPlan}
use Rattle.refine_objects.proofs.ShowLemmas.{room_shows_same}
use Rattle.refine_objects.proofs.TableLemmas.{room_shows_same_table}
use Rattle.refine_objects.proofs.MarkShown.{marked_frontier, marked_sealed}
use Rattle.refine_objects.proofs.PlanCalls.{room_keeps_plan}
use Rattle.refine_objects.proofs.PlanMade.{planned_shows_plan, none_shows_no_plan}
use Rattle.refine_objects.proofs.PlanVictims.{victims_show_plan}
use Rattle.refine_objects.proofs.PlanEnds.{copy_end, sealed_copy_shows_seal, refused_seal_copy_shows_none, ended_shows_dropped}
use Rattle.vol_core.specs.declared.event.Event.{Event}
use Rattle.vol_core.specs.declared.event.Event.TheVariants.{PlanCopy, SealCopy, DropPlan}
use Rattle.vol_core.specs.declared.reply.Reply.{Reply}
use Rattle.vol_core.specs.declared.reply.Reply.TheVariants as told
use Rattle.vol_core.specs.declared.reply.SealRefusal.{SealRefusal}
use Rattle.vol_core.specs.declared.reply.SealRefusal.TheVariants as seal_refusals
use Rattle.vol_core.specs.Volume.{VolumeState}
use Rattle.vol_core.specs.Shows.{Shows}
use Rattle.vol_core.specs.Events.{Asks, Tells, TellsCopy, IsPlanned}
use Rattle.vol_core.specs.Step.{StepOf, IsStep, tells_fault, HandsBack, HasItsBytes, ChangesPlan, IsOnItsWay, KeepsBytes}
use Rattle.vol_core.specs.Step.{StepsAsPlain}
use Rattle.vol_core.specs.Calls.{Plans, RefusesCopy, SealsCopy, Drops}
use Rattle.vol_core.proofs.StepLemmas.{CountsGrow, counts_stay, numbers_grow, quiet_step}
use Rattle.vol_core.proofs.StepLemmas.{KeepsEntries, with_planned, planned_shown}
use Rattle.vol_core.proofs.BytesLemmas.{same_bytes, sealed_bytes}
use Rattle.vol_core.proofs.StopSteps.{IsOfSameVolume, still, still_keeps}
use Rattle.vol_core.proofs.StepsOf.{same_list}

-- ---- the plain volume

-- a plan leaves its entries
plan_leaves : (out : Option (List CopiedSector)) (sectors : List CopiedSector) (plain : PlainState)
    → KeepsEntries plain (with_plan out sectors plain)
plan_leaves None [] plain = record { cache = refl; end = refl; entries = refl; frontier = omega arith }
plan_leaves None (first ∷ more) plain = record { cache = refl; end = refl; entries = refl; frontier = omega arith }
plan_leaves (Some plan) sectors plain = record { cache = refl; end = refl; entries = refl; frontier = omega arith }

-- so does the seal of a copy
copy_leaves : (is_sealed : Bool) (out : Option (List CopiedSector)) (plain : PlainState) → IsPlainVolume plain
    → KeepsEntries plain (after_sealed_copy is_sealed out plain)
copy_leaves is_sealed None plain valid = record { cache = refl; end = refl; entries = refl; frontier = omega arith }
copy_leaves true (Some plan) plain valid = record {
  cache = refl;
  end = refl;
  entries = refl;
  frontier = omega (arith, copy_end plan plain valid);
}
copy_leaves false (Some plan) plain valid = record { cache = refl; end = refl; entries = refl; frontier = omega arith }

-- what is out where these sectors are planned
plan_then : (out : Option (List CopiedSector)) (sectors : List CopiedSector) (plain : PlainState)
    → reply_of_plan out sectors ≡ replies.Copying sectors → (with_plan out sectors plain).plan ≡ Some sectors
plan_then None [] plain is = absurd cc
plan_then None (first ∷ more) plain is = refl
plan_then (Some plan) sectors plain is = absurd cc

-- where nothing is sealed, the volume stays
none_sealed : (out : Option (List CopiedSector)) (plain : PlainState) → after_sealed_copy false out plain ≡ plain
none_sealed None plain = refl
none_sealed (Some plan) plain = refl

not_planned : (is_out : Bool) (plain : PlainState)
    → cond (is_out && false) (cond (is_busy plain) replies.Busy (replies.Sealed (plain.window.last + 1))) replies.Nothing
    ≡ replies.Nothing
not_planned true plain = refl
not_planned false plain = refl

-- ---- the plan that is out

-- where one is out, the plain volume plans no other
busy_plan : (out : Option PlanState) (plain : PlainState) (volume : VolumeState) → IsSome out
    → ShowsPlan volume.objects.uploads.queue out plain
    → (plan_copy_reply plain ≡ replies.Busy) × (after_plan_copy plain ≡ plain)
busy_plan None plain volume some shows = absurd cc
busy_plan (Some plan) plain volume some (pairs, is, of) = (
  ap (λ out. reply_of_plan out (planned_copy plain)) is,
  ap (λ out. with_plan out (planned_copy plain) plain) is,
)

-- what was copied by the plan that is out shows that one is
record IsOutPlan (was : Option PlanState) : Type 0 where
  plan : PlanState
  is : was ≡ Some plan

out_of : (was : Option PlanState) (copied : CopiedState) → IsPlanned was copied → IsOutPlan was
out_of None copied planned = absurd planned
out_of (Some plan) copied planned = record { plan = plan; is = refl }

-- ---- the list

-- what a call tells, beside the step of the plain volume
record IsQuiet {R : Type 0} (event : Event R) (reply : Reply R) (old new : VolumeState) : Type 0 where
  same : IsOfSameVolume old.objects new.objects
  back : HandsBack event reply
  quiet : tells_fault reply ≡ false
  copying : ChangesPlan event reply old.plan new.plan
  counts : CountsGrow old new
  bytes : KeepsBytes old new

module _ {R : Type 0} (state : R → ReceiptState) (old : VolumeState) (objects : ObjLogState) (out : Option PlanState) where
  -- the volume then
  abbrev changed : VolumeState
  changed = with_planned objects out old

  -- the list is the same
  same_quiet : (event : Event R) (reply : Reply R) → objects ≡ old.objects → HandsBack event reply → tells_fault reply ≡ false
      → ChangesPlan event reply old.plan out → IsQuiet event reply old changed
  same_quiet event reply same back quiet copying = record {
    same = same_list old.objects objects same;
    back = back;
    quiet = quiet;
    copying = copying;
    counts = counts_stay old changed refl (ap (λ (o : ObjLogState). o.uploads.window) same);
    bytes =
        same_bytes old changed (ap (λ (o : ObjLogState). o.uploads.queue.sealed) same)
        (ap (λ (o : ObjLogState). o.uploads.queue.frontier) same);
  }

  -- objects are marked, or no longer
  marked_quiet : (event : Event R) (reply : Reply R) (is_copied : Bool) (numbers : List ℕ)
      → objects.uploads ≡ with_copied_all is_copied numbers old.objects.uploads → objects.batch ≡ old.objects.batch
      → HandsBack event reply → tells_fault reply ≡ false → ChangesPlan event reply old.plan out
      → IsQuiet event reply old changed
  marked_quiet event reply is_copied numbers marked batch back quiet copying =
      let queue = old.objects.uploads.queue in
      record {
        same = record {
          uuid = ap (λ (u : UploadsState). u.uuid) marked;
          ancestors = ap (λ (u : UploadsState). u.ancestors) marked;
          geometry = ap (λ (b : BatchState). b.geometry) batch;
        };
        back = back;
        quiet = quiet;
        copying = copying;
        counts = counts_stay old changed refl (ap (λ (u : UploadsState). u.window) marked);
        bytes =
            same_bytes old changed
            (ap (λ (u : UploadsState). u.queue.sealed) marked ∙ marked_sealed is_copied numbers queue)
            (ap (λ (u : UploadsState). u.queue.frontier) marked ∙ marked_frontier is_copied numbers queue);
      }

  -- ---- what it shows

  both_shown : (plain : PlainState) → (shows : Shows old plain) → ShowsBoth shows.data_at old.objects plain
  both_shown plain shows = record { objects = shows.objects; table = shows.table }

  same_shown : (plain : PlainState) → Shows old plain → objects ≡ old.objects → out ≡ old.plan → Shows changed plain
  same_shown plain shows same same_out =
      subst₂ (λ (o : ObjLogState) (p : Option PlanState). Shows (with_planned o p old) plain) (sym same) (sym same_out) shows

  unchanged : (event : Event R) (reply : Reply R) (plain : PlainState) (asked : PlainEvent) → Shows old plain
      → objects ≡ old.objects → out ≡ old.plan
      → plain_after asked plain ≡ plain → Asks state old event asked → Tells state old reply (plain_reply plain asked)
      → IsStep state event reply plain old changed
  unchanged event reply plain asked shows same same_out stays asks tells =
      quiet_step state event reply plain old changed asked shows asks tells
      (subst (Shows changed) (sym stays) (same_shown plain shows same same_out)) refl (ap (λ (p : PlainState). p.cache) stays)

  -- the plan of this list that is out, or none
  its_plan : (plain : PlainState) (was : Option PlanState) → Shows old plain → old.plan ≡ was
      → ShowsPlan old.objects.uploads.queue was plain
  its_plan plain was shows is = subst (λ p. ShowsPlan old.objects.uploads.queue p plain) is shows.plan

  -- ---- a copy is planned

  plan_quiet : (reply : Reply R) → Plans reply old.plan out old.objects objects → IsQuiet PlanCopy reply old changed
  plan_quiet (told.Copying plan) plans =
      marked_quiet PlanCopy (told.Copying plan) true (numbers_of plan.sources) plans.3 plans.4 tt refl plans.1
  plan_quiet told.Nothing plans = same_quiet PlanCopy told.Nothing plans.3 tt refl (plans.1 ∙ sym plans.0)
  plan_quiet told.Busy plans = same_quiet PlanCopy told.Busy plans.2 tt refl plans.1
  plan_quiet told.OutOfMemory plans = same_quiet PlanCopy told.OutOfMemory plans.3 tt refl (plans.1 ∙ sym plans.0)
  plan_quiet reply plans = absurd plans

  -- the plan takes just the sectors of the plain volume's
  tells_copy : (plan : PlanState) (sectors : List CopiedSector) (now : PlainState) → now.plan ≡ Some sectors
      → ShowsPlan objects.uploads.queue (Some plan) now → TellsCopy plan sectors
  tells_copy plan sectors now planned (pairs, is, of) =
      let some : Some pairs ≡ Some sectors = sym is ∙ planned in
      let same : pairs ≡ sectors = cc in
      subst (TellsCopy plan) same (record { takes = of.takes; count = of.count })

  plan_steps : (reply : Reply R) → IsUploads old.objects.uploads → Plans reply old.plan out old.objects objects
      → StepsAsPlain state PlanCopy reply old changed
  plan_steps (told.Copying plan) uploads plans plain shows =
      let has : HasPlan plain.geometry.batch plan old.objects.uploads =
      subst (λ (g : Geometry). HasPlan g.batch plan old.objects.uploads) shows.objects.geometry plans.2 in
      let shown = planned_shows_plan shows.data_at old.objects objects plain plan uploads shows.valid (both_shown plain shows)
      (its_plan plain None shows plans.0) has plans.3 plans.4 in
      let after : PlainState = after_plan_copy plain in
      let leaves = plan_leaves plain.plan (planned_copy plain) plain in
      let now =
      planned_shown old objects out plain after shows leaves (events_keep plain events.PlanCopy shows.valid) shown.0.objects
      shown.0.table (subst (λ p. ShowsPlan objects.uploads.queue p after) (sym plans.1) shown.1) in
      let planned = plan_then plain.plan (planned_copy plain) plain shown.2 in
      inl (quiet_step state PlanCopy (told.Copying plan) plain old changed events.PlanCopy shows refl
      (planned_copy plain, shown.2, tells_copy plan (planned_copy plain) after planned shown.1) now refl leaves.cache)
  plan_steps told.Nothing uploads plans plain shows =
      let has : HasPlanned plain.geometry.batch old.objects.uploads None =
      subst (λ (g : Geometry). HasPlanned g.batch old.objects.uploads None) shows.objects.geometry plans.2 in
      let none = none_shows_no_plan shows.data_at old.objects plain uploads shows.valid (both_shown plain shows)
      (its_plan plain None shows plans.0) has in
      inl (unchanged PlanCopy told.Nothing plain events.PlanCopy shows plans.3 (plans.1 ∙ sym plans.0) none.1 refl none.0)
  plan_steps told.Busy uploads plans plain shows =
      let none = busy_plan old.plan plain old plans.0 shows.plan in
      inl (unchanged PlanCopy told.Busy plain events.PlanCopy shows plans.2 plans.1 none.1 refl none.0)
  plan_steps told.OutOfMemory uploads plans plain shows =
      inr (record {
        may = refl;
        lacks = refl;
        asked = events.PlanCopy;
        asks = refl;
        taken = victims_show_plan shows.data_at old.objects plain uploads shows.valid (both_shown plain shows)
            (its_plan plain None shows plans.0) plans.2;
        shows = same_shown plain shows plans.3 (plans.1 ∙ sym plans.0);
        pending = λ pends. pends;
      })
  plan_steps reply uploads plans plain shows = absurd plans

  -- ---- what was copied is sealed

  refused_quiet : (copied back : CopiedState) (why : SealRefusal) → back ≡ copied
      → RefusesCopy why copied old.plan out old.objects objects
      → IsQuiet {R = R} (SealCopy copied) (told.NotSealed back why) old changed
  refused_quiet copied back seal_refusals.NotPlanned same refuses =
      same_quiet (SealCopy copied) (told.NotSealed back seal_refusals.NotPlanned) refuses.2 same refl refuses.1
  refused_quiet copied back seal_refusals.Busy same refuses =
      same_quiet (SealCopy copied) (told.NotSealed back seal_refusals.Busy) refuses.3 same refl refuses.2
  refused_quiet copied back seal_refusals.OutOfMemory same refuses =
      let room = refuses.3 in
      record {
        same = record { uuid = room.uploads.uuid; ancestors = room.uploads.ancestors; geometry = room.geometry };
        back = same;
        quiet = refl;
        copying = refuses.2;
        counts = counts_stay old changed refl room.uploads.window;
        bytes = same_bytes old changed room.uploads.sealed room.uploads.settled.frontier;
      }

  -- what is on its way then was so before the marks were taken away
  sealed_way : (sealed : ObjLogState) (numbers : List ℕ) (number : ℕ)
      → objects.uploads ≡ with_copied_all false numbers sealed.uploads → IsOnItsWay changed number
      → IsOnItsWay (with_planned sealed out old) number
  sealed_way sealed numbers number ended way =
      subst (λ (w : WindowState). list_any (has_number number) w.objects ≡ true) (ap (λ (u : UploadsState). u.window) ended) way

  seal_quiet : (copied : CopiedState) (reply : Reply R) → SealsCopy copied reply old.plan out old.objects objects
      → IsQuiet (SealCopy copied) reply old changed
  seal_quiet copied (told.Sealed number) seals =
      let sealed = seals.sealed in
      let next = seals.seals.uploads in
      let numbers = numbers_of seals.plan.sources in
      let last : objects.uploads.window.last ≡ old.objects.uploads.window.last + 1 =
      ap (λ (u : UploadsState). u.window.last) seals.ended ∙ ap (λ (w : WindowState). w.last) next.window in
      record {
        same = record {
          uuid = ap (λ (u : UploadsState). u.uuid) seals.ended ∙ next.uuid;
          ancestors = ap (λ (u : UploadsState). u.ancestors) seals.ended ∙ next.ancestors;
          geometry = ap (λ (b : BatchState). b.geometry) (seals.batch ∙ seals.seals.batch);
        };
        back = tt;
        quiet = refl;
        copying = seals.none_out;
        counts = record { entries = omega arith; objects = omega (arith, last); commits = omega arith };
        bytes = λ wanted bytes before has after.
            (let way = sealed_way sealed numbers wanted seals.ended after in
            same_bytes (with_planned sealed out old) changed
            (ap (λ (u : UploadsState). u.queue.sealed) seals.ended ∙ marked_sealed false numbers sealed.uploads.queue)
            (ap (λ (u : UploadsState). u.queue.frontier) seals.ended ∙ marked_frontier false numbers sealed.uploads.queue)
            wanted bytes way (sealed_bytes old sealed _ _ _ next wanted bytes before has way) after);
      }
  seal_quiet copied (told.NotSealed back why) seals = refused_quiet copied back why seals.0 seals.1
  seal_quiet copied reply seals = absurd seals

  -- where fewer than 16 objects are on their way, the plain volume seals what was copied by its plan
  copy_is_taken : (plain : PlainState) (plan : PlanState) → old.objects.uploads.window ≡ plain.window
      → ShowsPlan old.objects.uploads.queue (Some plan) plain → (length old.objects.uploads.window.objects ≡ 16 → ⊥)
      → is_refusal (seal_copy_reply plain true) ≡ false
  copy_is_taken plain plan window (pairs, is, of) free =
      let reply : PlainReply = replies.Sealed (plain.window.last + 1) in
      let busy : is_busy plain ≡ false = grind (arith, nat_tests, window) in
      ap (λ p. is_refusal (cond (is_some p && true) (cond (is_busy plain) replies.Busy reply) replies.Nothing)) is
      ∙ ap (λ b. is_refusal (cond b replies.Busy reply)) busy

  -- the list changed but for room
  room_shown : (plain : PlainState) → Shows old plain → IsSame old.objects objects → out ≡ old.plan → Shows changed plain
  room_shown plain shows same same_out =
      let entries : KeepsEntries plain plain = record { cache = refl; end = refl; entries = refl; frontier = omega arith } in
      planned_shown old objects out plain plain shows entries shows.valid
      (room_shows_same shows.data_at old.objects objects plain shows.objects same)
      (room_shows_same_table old.objects objects plain same shows.table)
      (subst (λ p. ShowsPlan objects.uploads.queue p plain) (sym same_out)
      (room_keeps_plan old.objects objects same old.plan plain plain refl refl shows.table shows.plan))

  refused_steps : (copied back : CopiedState) (why : SealRefusal) → RefusesCopy why copied old.plan out old.objects objects
      → StepsAsPlain state (SealCopy copied) (told.NotSealed back why) old changed
  refused_steps copied back seal_refusals.NotPlanned refuses plain shows =
      inl (unchanged (SealCopy copied) (told.NotSealed back seal_refusals.NotPlanned) plain (events.SealCopy false) shows
      refuses.2 refuses.1 (none_sealed plain.plan plain) (false, refl, refuses.0) (not_planned (is_some plain.plan) plain))
  refused_steps copied back seal_refusals.Busy refuses plain shows =
      let one = out_of old.plan copied refuses.0 in
      let none = refused_seal_copy_shows_none shows.data_at old.objects plain one.plan shows.objects
      (its_plan plain (Some one.plan) shows one.is) refuses.1 in
      inl (unchanged (SealCopy copied) (told.NotSealed back seal_refusals.Busy) plain (events.SealCopy true) shows
      refuses.3 refuses.2 none.1 (true, refl, refuses.0) none.0)
  refused_steps copied back seal_refusals.OutOfMemory refuses plain shows =
      let one = out_of old.plan copied refuses.0 in
      inr (record {
        may = refl;
        lacks = refl;
        asked = events.SealCopy true;
        asks = (true, refl, refuses.0);
        taken = copy_is_taken plain one.plan shows.objects.window (its_plan plain (Some one.plan) shows one.is) refuses.1;
        shows = room_shown plain shows refuses.3 refuses.2;
        pending = λ pends. pends;
      })

  copy_steps : (copied : CopiedState) (reply : Reply R) → IsUploads old.objects.uploads
      → SealsCopy copied reply old.plan out old.objects objects → StepsAsPlain state (SealCopy copied) reply old changed
  copy_steps copied (told.Sealed number) uploads seals plain shows =
      let shown = sealed_copy_shows_seal shows.data_at old.objects seals.sealed objects plain seals.plan copied uploads
      seals.order shows.valid (both_shown plain shows) (its_plan plain (Some seals.plan) shows seals.was_out) seals.of seals.seals
      seals.free seals.ended seals.batch in
      let after : PlainState = after_seal_copy true plain in
      let leaves = copy_leaves (true && not (is_busy plain)) plain.plan plain shows.valid in
      let now =
      planned_shown old objects out plain after shows leaves (events_keep plain (events.SealCopy true) shows.valid)
      shown.0.objects shown.0.table (subst (λ p. ShowsPlan objects.uploads.queue p after) (sym seals.none_out) shown.2) in
      let planned = subst (λ p. IsPlanned p copied) (sym seals.was_out) (seals.of.rows, seals.of.sources) in
      inl (quiet_step state (SealCopy copied) (told.Sealed number) plain old changed (events.SealCopy true) shows
      (true, refl, planned) (shown.1 ∙ ap replies.Sealed (sym seals.number_is)) now refl leaves.cache)
  copy_steps copied (told.NotSealed back why) uploads seals plain shows = refused_steps copied back why seals.1 plain shows
  copy_steps copied reply uploads seals plain shows = absurd seals

  -- ---- the plan is given up

  drop_quiet : (reply : Reply R) → Drops reply old.plan out old.objects objects → IsQuiet DropPlan reply old changed
  drop_quiet told.Dropped drops =
      marked_quiet DropPlan told.Dropped false (numbers_of drops.0.sources) drops.3 drops.4 tt refl drops.2
  drop_quiet told.Nothing drops = same_quiet DropPlan told.Nothing drops.2 tt refl (drops.1 ∙ sym drops.0)
  drop_quiet reply drops = absurd drops

  drop_steps : (reply : Reply R) → IsUploads old.objects.uploads → Drops reply old.plan out old.objects objects
      → StepsAsPlain state DropPlan reply old changed
  drop_steps told.Dropped uploads drops plain shows =
      let shown = ended_shows_dropped shows.data_at old.objects objects plain drops.0 uploads (both_shown plain shows)
      (its_plan plain (Some drops.0) shows drops.1) drops.3 drops.4 in
      let after : PlainState = after_drop_plan plain in
      let leaves : KeepsEntries plain after = record { cache = refl; end = refl; entries = refl; frontier = omega arith } in
      let now =
      planned_shown old objects out plain after shows leaves (events_keep plain events.DropPlan shows.valid) shown.0.objects
      shown.0.table (subst (λ p. ShowsPlan objects.uploads.queue p after) (sym drops.2) refl) in
      inl (quiet_step state DropPlan told.Dropped plain old changed events.DropPlan shows refl shown.1 now refl refl)
  drop_steps told.Nothing uploads drops plain shows =
      let none : plain.plan ≡ None = its_plan plain None shows drops.0 in
      let stays : after_drop_plan plain ≡ plain = ap (λ p. record plain { plan = p }) (sym none) in
      inl (unchanged DropPlan told.Nothing plain events.DropPlan shows drops.2 (drops.1 ∙ sym drops.0) stays refl
      (ap (λ p. cond (is_some p) replies.Dropped replies.Nothing) none))
  drop_steps reply uploads drops plain shows = absurd drops

  -- ---- the steps

  module _ (plain : PlainState) (shows : Shows old plain) (uploads : IsUploads old.objects.uploads) where
    step_of : (event : Event R) (reply : Reply R) → HasItsBytes event reply → IsQuiet event reply old changed
        → StepsAsPlain state event reply old changed → StepOf state event reply old changed
    step_of event reply plan quiet steps =
        let faults = old.log.commits.disk.faults in
        record {
          step = steps;
          back = quiet.back;
          plan = plan;
          copying = quiet.copying;
          sizes = record { geometry = quiet.same.geometry; uuid = quiet.same.uuid; ancestors = quiet.same.ancestors };
          numbers = numbers_grow state event reply old changed plain shows steps quiet.counts;
          stops = still_keeps event old changed quiet.same (still old.log);
          faults = subst (λ failed. Counts failed faults faults) (sym quiet.quiet) refl;
          bytes = quiet.bytes;
        }

    pub step_of_plan : (reply : Reply R) → Plans reply old.plan out old.objects objects
        → StepOf state PlanCopy reply old changed
    step_of_plan reply plans = step_of PlanCopy reply tt (plan_quiet reply plans) (plan_steps reply uploads plans)

    pub step_of_copy : (copied : CopiedState) (reply : Reply R) → SealsCopy copied reply old.plan out old.objects objects
        → StepOf state (SealCopy copied) reply old changed
    step_of_copy copied reply seals =
        step_of (SealCopy copied) reply tt (seal_quiet copied reply seals) (copy_steps copied reply uploads seals)

    pub step_of_drop : (reply : Reply R) → Drops reply old.plan out old.objects objects → StepOf state DropPlan reply old changed
    step_of_drop reply drops = step_of DropPlan reply tt (drop_quiet reply drops) (drop_steps reply uploads drops)
