-- A seal of a checkpoint makes the step of the plain volume that was asked for.
use Rattle.std.proofs.Common.{◌≡◌, ℕ, ◌+◌, ◌≤◌, inl, inr, Bool, true, false, cond, length, refl, sym, ◌∙◌, ap, arith}
use Rattle.std.proofs.lemmas.Bool.Decides.{nat_tests}
use Rattle.lsvd_objstore.specs.Store.{ReceiptState}
use Rattle.upload_window.specs.Window.{WindowState}
use Rattle.object_uploads.specs.Order.{IsUploads}
use Rattle.batcher.specs.State.{BatchState}
use Rattle.obj_log.specs.State.{ObjLogState}
use Rattle.obj_log.specs.Changes.{IsSame}
use Rattle.plain_disk.specs.declared.event.PlainEvent.TheVariants as events
use Rattle.plain_disk.specs.declared.event.PlainReply.{PlainReply}
use Rattle.plain_disk.specs.declared.event.PlainReply.TheVariants as replies
use Rattle.plain_disk.specs.State.{PlainState}
use Rattle.plain_disk.specs.Objects.{is_busy, seal_checkpoint_reply, after_seal_checkpoint}
use Rattle.plain_disk.specs.Step.{is_refusal}
use Rattle.plain_disk.specs.Valid.{IsPlainVolume}
use Rattle.plain_disk.proofs.EventLemmas.{seal_checkpoint_keeps}
use Rattle.refine_objects.specs.Shows.{ShowsObjects}
use Rattle.refine_objects.proofs.ShowLemmas.{room_shows_same}
use Rattle.refine_objects.proofs.TableLemmas.{room_shows_same_table}
use Rattle.refine_objects.proofs.CheckpointShown.{with_checkpoint, checkpoint_end, sealed_shows_seal_checkpoint}
use Rattle.refine_objects.proofs.CheckpointShown.{refused_seal_checkpoint_shows_none}
use Rattle.refine_objects.proofs.PlanCalls.{room_keeps_plan, sealed_keeps_plan}
use Rattle.vol_core.specs.declared.event.Event.TheVariants.{SealCheckpoint}
use Rattle.vol_core.specs.declared.reply.Reply.{Reply}
use Rattle.vol_core.specs.declared.reply.Reply.TheVariants as told
use Rattle.vol_core.specs.Volume.{VolumeState}
use Rattle.vol_core.specs.Shows.{Shows}
use Rattle.vol_core.specs.Step.{StepOf, StepsAsPlain}
use Rattle.vol_core.specs.Calls.{SealsCheckpoint}
use Rattle.vol_core.proofs.StepLemmas.{CountsGrow, quiet_step, IsOfOtherObjects, with_objects, objects_shown}
use Rattle.vol_core.proofs.ObjectSteps.{unchanged}
use Rattle.vol_core.proofs.BytesLemmas.{checkpoint_keeps_bytes}
use Rattle.vol_core.proofs.StepsOf.{IsOfList, same_list, step_of_list}

-- ---- the plain volume

-- where fewer than 16 objects are on their way, the plain volume refuses no checkpoint
checkpoint_is_taken : (data_at : ℕ → ℕ) (objects : ObjLogState) (plain : PlainState) → ShowsObjects data_at objects plain
    → (length objects.uploads.window.objects ≡ 16 → ⊥) → is_refusal (seal_checkpoint_reply plain) ≡ false
checkpoint_is_taken data_at objects plain shows free =
    let window = shows.window in
    let reply : PlainReply = replies.Sealed (plain.window.last + 1) in
    let busy : is_busy plain ≡ false = grind (arith, nat_tests, window) in
    ap (λ b. is_refusal (cond b replies.Busy reply)) busy

-- where it seals one, its objects change, and else nothing
checkpoint_changes : (plain : PlainState) (is_full : Bool) → IsPlainVolume plain
    → IsOfOtherObjects plain (cond is_full plain (with_checkpoint plain))
checkpoint_changes plain true valid = record {
  cache = refl;
  end = refl;
  entries = refl;
  frontier = omega arith;
  plan = refl;
  geometry = refl;
}
checkpoint_changes plain false valid = record {
  cache = refl;
  end = refl;
  entries = refl;
  frontier = omega (arith, checkpoint_end plain valid);
  plan = refl;
  geometry = refl;
}

-- ---- the list

sealed_list : {R : Type 0} (reply : Reply R) (old new : ObjLogState) → SealsCheckpoint reply old new
    → IsOfList SealCheckpoint reply old new
sealed_list (told.Sealed number) old new seals = record {
  same = record {
    uuid = seals.0.sealed.uuid;
    ancestors = seals.0.sealed.ancestors;
    geometry = ap (λ (b : BatchState). b.geometry) seals.1;
  };
  back = tt;
  quiet = refl;
  stays = λ was. refl;
}
sealed_list told.Busy old new seals = record { same = same_list old new seals.0; back = tt; quiet = refl; stays = λ was. refl }
sealed_list told.OutOfMemory old new seals =
    record {
      same = record {
        uuid = seals.0.uploads.uuid;
        ancestors = seals.0.uploads.ancestors;
        geometry = seals.0.geometry;
      };
      back = tt;
      quiet = refl;
      stays = λ was.
          refl;
    }
sealed_list reply old new seals = absurd seals

module _ {R : Type 0} (state : R → ReceiptState) (old : VolumeState) (objects : ObjLogState) where
  -- the volume then
  abbrev changed : VolumeState
  changed = with_objects objects old

  by_window : (window : WindowState) → objects.uploads.window ≡ window → window.last ≤ old.objects.uploads.window.last + 1
      → CountsGrow old changed
  by_window window is within =
      let same = ap (λ (w : WindowState). w.last) is in
      record { entries = omega arith; objects = omega (arith, same, within); commits = omega arith }

  checkpoint_grows : (reply : Reply R) → SealsCheckpoint reply old.objects objects → CountsGrow old changed
  checkpoint_grows (told.Sealed number) seals = by_window _ seals.0.sealed.window (omega arith)
  checkpoint_grows told.Busy seals =
      by_window old.objects.uploads.window (ap (λ (o : ObjLogState). o.uploads.window) seals.0) (omega arith)
  checkpoint_grows told.OutOfMemory seals = by_window old.objects.uploads.window seals.0.uploads.window (omega arith)
  checkpoint_grows reply seals = absurd seals

  -- the list changed but for room
  room_shown : (plain : PlainState) → Shows old plain → IsSame old.objects objects → Shows changed plain
  room_shown plain shows same =
      objects_shown old objects plain plain shows (checkpoint_changes plain true shows.valid) shows.valid
      (room_shows_same shows.data_at old.objects objects plain shows.objects same)
      (room_shows_same_table old.objects objects plain same shows.table) (room_keeps_plan old.objects objects same)

  checkpoint_steps : (reply : Reply R) → IsUploads old.objects.uploads → SealsCheckpoint reply old.objects objects
      → StepsAsPlain state SealCheckpoint reply old changed
  checkpoint_steps (told.Sealed number) uploads seals plain shows =
      let shown = sealed_shows_seal_checkpoint shows.data_at old.objects objects plain uploads shows.valid
      (record { objects = shows.objects; table = shows.table }) seals.0 seals.1 seals.3 in
      let leaves = checkpoint_changes plain (is_busy plain) shows.valid in
      let now =
      objects_shown old objects plain (after_seal_checkpoint plain) shows leaves (seal_checkpoint_keeps plain shows.valid)
      shown.0.objects shown.0.table
      (sealed_keeps_plan _ _ _ old.objects.uploads objects.uploads seals.0.sealed) in
      inl (quiet_step state SealCheckpoint (told.Sealed number) plain old changed events.SealCheckpoint shows refl
      (shown.1 ∙ ap replies.Sealed (sym seals.2)) now refl leaves.cache)
  checkpoint_steps told.Busy uploads seals plain shows =
      let none = refused_seal_checkpoint_shows_none shows.data_at old.objects plain shows.objects seals.1 in
      inl (unchanged state old objects SealCheckpoint told.Busy plain events.SealCheckpoint shows seals.0 none.1 refl none.0)
  checkpoint_steps told.OutOfMemory uploads seals plain shows =
      inr (record {
        may = refl;
        lacks = refl;
        asked = events.SealCheckpoint;
        asks = refl;
        taken = checkpoint_is_taken shows.data_at old.objects plain shows.objects seals.1;
        shows = room_shown plain shows seals.0;
        pending = λ pends. pends;
      })
  checkpoint_steps reply uploads seals plain shows = absurd seals

  -- ---- the step

  pub step_of_checkpoint : (plain : PlainState) → Shows old plain → (reply : Reply R) → IsUploads old.objects.uploads
      → SealsCheckpoint reply old.objects objects → StepOf state SealCheckpoint reply old changed
  step_of_checkpoint plain shows reply uploads seals =
      step_of_list state old objects plain shows SealCheckpoint reply (sealed_list reply old.objects objects seals) tt
      (checkpoint_steps reply uploads seals) (checkpoint_grows reply seals) (checkpoint_keeps_bytes old objects reply seals)
