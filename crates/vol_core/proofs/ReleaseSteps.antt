-- A plan is given back as the plain volume does.
use Rattle.std.proofs.Common.{◌≡◌, ℕ, ◌<◌, inl, cond, List, [], ◌∷◌, refl, sym, ◌∙◌, ap, subst, arith}
use Rattle.std.specs.List.{All}
use Rattle.std.specs.List.Sorted.{IsStrictlyIncreasing}
use Rattle.std.proofs.lemmas.Bool.{false_from_ne_true}
use Rattle.lsvd_objstore.specs.Store.{ReceiptState}
use Rattle.object_table.specs.declared.row.ObjectRow.{ObjectRow}
use Rattle.object_table.specs.Table.{row_of}
use Rattle.object_uploads.specs.State.{UploadsState}
use Rattle.object_uploads.specs.Queue.{pins_of}
use Rattle.object_uploads.specs.Order.{IsUploads}
use Rattle.object_uploads.specs.Removal.{IsSameButObjects, ChangesPinsEach, UnpinsEach}
use Rattle.obj_log.specs.State.{ObjLogState}
use Rattle.plain_disk.specs.declared.event.PlainEvent.TheVariants as events
use Rattle.plain_disk.specs.declared.event.PlainReply.TheVariants as replies
use Rattle.plain_disk.specs.State.{PlainState}
use Rattle.plain_disk.specs.Reads.{are_pinned, without_pins, after_plan_release}
use Rattle.plain_disk.specs.Valid.{IsPlainVolume}
use Rattle.plain_disk.proofs.EventLemmas.{release_keeps}
use Rattle.refine_objects.specs.TableLaws.{ShowsBoth}
use Rattle.refine_objects.specs.PlanLaws.{KeepsPlan}
use Rattle.refine_objects.proofs.PlanCalls.{pins_keep_plan}
use Rattle.refine_objects.proofs.PinsShown.{unpinned_each_show_unpins, pinned_are_shown}
use Rattle.read_plan.specs.Plan.{PlanState}
use Rattle.vol_core.specs.declared.event.Event.TheVariants.{Release}
use Rattle.vol_core.specs.declared.reply.Reply.TheVariants as told
use Rattle.vol_core.specs.Volume.{VolumeState}
use Rattle.vol_core.specs.Shows.{Shows}
use Rattle.vol_core.specs.Step.{StepsAsPlain}
use Rattle.vol_core.proofs.StepLemmas.{quiet_step, with_objects, objects_shown}

-- ---- other pins

pub same_uploads : (uploads : UploadsState) → IsSameButObjects uploads uploads
same_uploads uploads = record {
  uuid = refl;
  sectors = refl;
  ancestors = refl;
  window = refl;
  frontier = refl;
  end = refl;
  sealed = refl;
  inherited = refl;
  settled = refl;
  log = refl;
}

same_later : (old middle new : UploadsState) → IsSameButObjects old middle → IsSameButObjects middle new
    → IsSameButObjects old new
same_later old middle new first then = record {
  uuid = then.uuid ∙ first.uuid;
  sectors = then.sectors ∙ first.sectors;
  ancestors = then.ancestors ∙ first.ancestors;
  window = then.window ∙ first.window;
  frontier = then.frontier ∙ first.frontier;
  end = then.end ∙ first.end;
  sealed = then.sealed ∙ first.sealed;
  inherited = then.inherited ∙ first.inherited;
  settled = then.settled ∙ first.settled;
  log = then.log ∙ first.log;
}

-- where only pins change, the rest is as before
pub pins_leave : (change : ObjectRow → ObjectRow) (numbers : List ℕ) (old new : UploadsState)
    → ChangesPinsEach change numbers old new → IsSameButObjects old new
pins_leave change [] old new same = subst (IsSameButObjects old) (sym same) (same_uploads old)
pins_leave change (number ∷ numbers) old new each =
    same_later old each.0 new each.1.rest (pins_leave change numbers each.0 new each.3)

-- the volume shows the plain volume with other pins
pub pins_shown : (old : VolumeState) (objects : ObjLogState) (plain : PlainState) (pins : List ℕ)
    → (shows : Shows old plain) → IsPlainVolume (record plain { pins = pins })
    → ShowsBoth shows.data_at objects (record plain { pins = pins })
    → KeepsPlan old.objects.uploads.queue objects.uploads.queue
    → Shows (with_objects objects old) (record plain { pins = pins })
pins_shown old objects plain pins shows valid both keeps =
    objects_shown old objects plain (record plain { pins = pins }) shows
    (record { cache = refl; end = refl; entries = refl; frontier = omega arith; plan = refl; geometry = refl }) valid both.objects
    both.table
    keeps

-- ---- a plan is given back

-- each object of the plan was pinned
pub released_steps : {R : Type 0} (state : R → ReceiptState) (plan : PlanState) (old : VolumeState) (objects : ObjLogState)
    → IsUploads old.objects.uploads → IsStrictlyIncreasing plan.objects
    → All (λ number. 0 < pins_of (row_of number old.objects.uploads.queue.maps.objects.rows)) plan.objects
    → UnpinsEach plan.objects old.objects.uploads objects.uploads → objects.batch ≡ old.objects.batch
    → StepsAsPlain state (Release plan) told.Released old (with_objects objects old)
released_steps state plan old objects uploads ascend some out batch plain shows =
    let both : ShowsBoth shows.data_at old.objects plain = record { objects = shows.objects; table = shows.table } in
    let are = (pinned_are_shown old.objects.uploads.queue plain plan.objects shows.table ascend).0 some in
    let left = without_pins plan.objects plain.pins in
    let now : PlainState = record plain { pins = left } in
    let after : after_plan_release plan.objects plain ≡ now = ap (λ b. cond b now plain) are in
    let valid = subst IsPlainVolume after (release_keeps plain plan.objects shows.valid) in
    let shown = unpinned_each_show_unpins shows.data_at old.objects objects plain plan.objects uploads both out batch in
    let keeps = (pins_keep_plan plan.objects old.objects.uploads objects.uploads).1 out in
    inl
    (quiet_step state (Release plan) told.Released plain old (with_objects objects old) (events.Release plan.objects) shows refl
    (ap (λ b. cond b replies.Released replies.Nothing) are)
    (subst (Shows (with_objects objects old)) (sym after)
    (pins_shown old objects plain left shows valid shown keeps)) refl
    (ap (λ (p : PlainState). p.cache) after))

-- one was not
pub not_released_steps : {R : Type 0} (state : R → ReceiptState) (plan : PlanState) (old : VolumeState)
    → IsStrictlyIncreasing plan.objects
    → (All (λ number. 0 < pins_of (row_of number old.objects.uploads.queue.maps.objects.rows)) plan.objects → ⊥)
    → StepsAsPlain state (Release plan) (told.NotReleased plan) old old
not_released_steps state plan old ascend none plain shows =
    let means = pinned_are_shown old.objects.uploads.queue plain plan.objects shows.table ascend in
    let not = false_from_ne_true (are_pinned plan.objects plain.pins) (λ are. none (means.1 are)) in
    let now : PlainState = record plain { pins = without_pins plan.objects plain.pins } in
    let stays : after_plan_release plan.objects plain ≡ plain = ap (λ b. cond b now plain) not in
    inl
    (quiet_step state (Release plan) (told.NotReleased plan) plain old old (events.Release plan.objects) shows refl
    (ap (λ b. cond b replies.Released replies.Nothing) not) (subst (Shows old) (sym stays) shows) refl
    (ap (λ (p : PlainState). p.cache) stays))
