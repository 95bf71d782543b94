-- What the steps of a drain do once nothing is left to seal: the volume tells its counts, seals a checkpoint, and removes
-- objects.
use Rattle.std.proofs.Common.{arith, ◌≡◌, ℕ, ◌+◌, ◌≤◌, ◌==◌, ◌⊎◌, inl, inr, Bool, true, false, List, [], ◌∷◌, ◌++◌, length}
use Rattle.std.proofs.Common.{length-append, refl, sym, ◌∙◌, ap, subst}
use Rattle.std.specs.Prelude.{Option, Some, None, Result, Err, IfOk, if◌then◌else◌}
use Rattle.std.proofs.lemmas.Bool.{eq-eqb}
use Rattle.std.proofs.lemmas.Bool.Decides.{nat_tests}
use Rattle.lsvd_device.specs.Calls.{Fuse}
use Rattle.lsvd_names.specs.declared.name.ObjName.{ObjName}
use Rattle.lsvd_names.specs.Names.{numbered_name}
use Rattle.lsvd_objstore.specs.Store.{ReceiptState}
use Rattle.object_uploads.specs.Order.{IsUploads}
use Rattle.upload_window.specs.declared.object.OpenObject.{OpenObject}
use Rattle.upload_window.specs.Window.{WindowState}
use Rattle.plain_disk.specs.declared.event.PlainEvent.TheVariants as events
use Rattle.plain_disk.specs.declared.event.PlainReply.TheVariants as replies
use Rattle.plain_disk.specs.Checkpoints.{newest_landed}
use Rattle.plain_disk.specs.Objects.{is_busy, seal_checkpoint_reply, after_seal_checkpoint, status_reply}
use Rattle.plain_disk.specs.Removals.{to_remove, reply_of_removal, with_removal, is_out}
use Rattle.plain_disk.specs.State.{PlainState, unsealed_entries}
use Rattle.plain_disk.specs.Step.{plain_reply, plain_after}
use Rattle.refine_log.specs.Fuses.{fuse_in}
use Rattle.vol_core.specs.declared.event.Event.TheVariants as asks
use Rattle.vol_core.specs.declared.reply.Reply.{Reply}
use Rattle.vol_core.specs.declared.reply.Reply.TheVariants as told
use Rattle.vol_core.specs.Volume.{VolumeState, SteppedVolume}
use Rattle.vol_core.specs.Shows.{Shows}
use Rattle.vol_core.specs.View.{HasNoPins, objects_on_way, object_name_in, removal_out}
use Rattle.vol_core.specs.Events.{Tells, IsOfRemoval}
use Rattle.vol_core.specs.Step.{passing, IsStep, IsNoStep, lacks_memory, CountedStep}
use Rattle.volume_owner.specs.Owner.{IsIdle}
use Rattle.volume_owner.specs.Tally.{removed_if_told}
use Rattle.volume_owner.specs.Calls.{HasNoneToRemove, MakesSteps}
use Rattle.volume_owner.specs.Clearing.{HasAllPut, AwaitsCheckpoint, IsSealedUp}
use Rattle.volume_owner.specs.declared.error.OwnerError.{OwnerError}
use Rattle.volume_owner.specs.declared.error.OwnerError.TheVariants as errors
use Rattle.volume_owner.specs.Replies.{seal_in, tells_checkpoint, receipt_in}
use Rattle.volume_owner.proofs.PlainLemmas.{is_quiet}
use Rattle.volume_owner.proofs.WindowLemmas.{any_started, entered_none}
use Rattle.volume_owner.proofs.TellsLemmas.{tells_sealed, tells_removing, tells_removed, tells_told}
use Rattle.volume_owner.proofs.ReplyLemmas.{seal_cases, receipt_cases}
use Rattle.volume_owner.proofs.StepLemmas.{shown_idle, idle_shown, plans_shown, plans_plain, quiet_makes}
use Rattle.volume_owner.proofs.PutLemmas.{all_put_plain, all_put_shown, awaiting_shown, with_checkpoint, checkpoint_awaits}
use Rattle.volume_owner.proofs.PutLemmas.{same_to_remove}
use Rattle.volume_owner.proofs.HelpLemmas.{is_silent, silent_faults, sealed_lacks, nothing_lacks}

-- ---- a step that leaves the objects

-- what it leaves of a plain volume: no object is sealed, put, or acknowledged in it
pub record LeavesPut (plain : PlainState) (new : VolumeState) : Type 0 where
  pub after : PlainState
  pub shows : Shows new after
  pub unsealed : unsealed_entries after ≡ unsealed_entries plain
  pub window : after.window ≡ plain.window
  pub checkpoint : after.checkpoint ≡ plain.checkpoint
  pub pins : after.pins ≡ plain.pins

module _ (old new : VolumeState) (plain : PlainState) (shows : Shows old plain) (left : LeavesPut plain new) where
  -- what is all put stays so
  pub left_put : HasAllPut old → HasAllPut new
  left_put put =
      let was = all_put_plain old plain shows put in
      all_put_shown new left.after left.shows (record {
        unsealed = left.unsealed ∙ was.unsealed;
        on_way = ap (λ (w : WindowState). w.objects) left.window ∙ was.on_way;
        checkpoint =
            ap (λ c. c.number) left.checkpoint ∙ was.checkpoint ∙ ap (λ (w : WindowState). w.last) (sym left.window);
      })

  left_window : new.objects.uploads.window ≡ old.objects.uploads.window
  left_window = left.shows.objects.window ∙ left.window ∙ sym shows.objects.window

  -- no put is under way, and no plan is out, where none was
  pub left_puts : any_started (objects_on_way old) ≡ false → any_started (objects_on_way new) ≡ false
  left_puts none = ap (λ (w : WindowState). any_started w.objects) left_window ∙ none

  pub left_plans : HasNoPins old → HasNoPins new
  left_plans none = plans_shown new left.after left.shows (left.pins ∙ plans_plain old plain shows none)

  pub left_few : length (objects_on_way old) ≤ 16 → length (objects_on_way new) ≤ 16
  left_few few = subst (λ (w : WindowState). length w.objects ≤ 16) (sym left_window) few

  -- so the volume is idle, where no removal is out after it
  pub left_idle : IsIdle old → removal_out new ≡ None → IsIdle new
  left_idle idle none = record {
    puts = left_puts idle.puts;
    plans = left_plans idle.plans;
    none_out = none;
    few = left_few idle.few;
  }

-- ---- the counts are told

module _ {R : Type 0} (state : R → ReceiptState) (reply : Reply R) (old new : SteppedVolume)
    (of : CountedStep state asks.Status reply old new) (plain : PlainState) (shows : Shows old.volume plain) where
  -- what is told, and that nothing changes
  record IsCounted : Type 0 where
    left : LeavesPut plain new.volume
    removal : left.after.removal ≡ plain.removal
    fuse : Fuse
    tells : Tells state old.volume reply (status_reply (passing fuse plain))

  counted_by : IsStep state asks.Status reply plain old.volume new.volume
      ⊎ IsNoStep state asks.Status reply plain old.volume new.volume → IsCounted
  counted_by (inl s) =
      let ready : PlainState = passing s.left plain in
      let now : Fuse = fuse_in new.volume.log.commits.disk.budget in
      record {
        left = record {
          after = passing now ready;
          shows = subst (λ e. Shows new.volume (passing now (plain_after e ready))) s.asks s.shows;
          unsealed = refl;
          window = refl;
          checkpoint = refl;
          pins = refl;
        };
        removal = refl;
        fuse = s.left;
        tells = subst (λ e. Tells state old.volume reply (plain_reply ready e)) s.asks s.tells;
      }
  counted_by (inr n) = (let may = n.may in let bad : ⊥ = cc in absurd bad)

  counting : IsCounted
  counting = counted_by (of.step.step plain shows)

  pub status_makes : MakesSteps 1 [] old new
  status_makes = quiet_makes state asks.Status reply old new (λ asked is. ap is_quiet is) of

  pub status_faults : new.volume.log.commits.disk.faults ≡ old.volume.log.commits.disk.faults
  status_faults = silent_faults state asks.Status reply plain old new (λ asked is. ap is_silent is) shows of

  pub status_idle : IsIdle old.volume → IsIdle new.volume
  status_idle idle =
      let was = shown_idle old.volume plain shows idle in
      left_idle old.volume new.volume plain shows counting.left idle
      (counting.left.shows.table.removal ∙ counting.removal ∙ was.none_out)

  pub status_unsealed : old.volume.objects.batch.entries ≡ [] → new.volume.objects.batch.entries ≡ []
  status_unsealed none = counting.left.shows.objects.stream.entries ∙ counting.left.unsealed
      ∙ sym shows.objects.stream.entries ∙ none

  pub status_on_way : objects_on_way old.volume ≡ [] → objects_on_way new.volume ≡ []
  status_on_way none =
      ap (λ (w : WindowState). w.objects) (left_window old.volume new.volume plain shows counting.left) ∙ none

  -- where nothing is on its way, the newest object that was sealed is acknowledged, and so is the newest checkpoint
  pub status_put : old.volume.objects.batch.entries ≡ [] → objects_on_way old.volume ≡ [] → tells_checkpoint reply ≡ true
      → HasAllPut new.volume
  status_put unsealed none newest =
      let ready : PlainState = passing counting.fuse plain in
      let told_it = tells_told state old.volume reply _ _ _ _ counting.tells in
      let no_objects : plain.window.objects ≡ [] =
      ap (λ (w : WindowState). w.objects) (sym shows.objects.window) ∙ none in
      let last : ℕ = plain.window.last in
      let checkpoint : ℕ = (newest_landed (λ n. true) ready plain.checkpoint plain.window.objects).number in
      let own : checkpoint ≡ plain.checkpoint.number =
      ap (λ (objects : List OpenObject). (newest_landed (λ n. true) ready plain.checkpoint objects).number) no_objects in
      let equal : (last == checkpoint) ≡ true = sym (ap tells_checkpoint told_it) ∙ newest in
      let same : last ≡ checkpoint = grind (arith, nat_tests) in
      let put : HasAllPut old.volume = all_put_shown old.volume plain shows (record {
        unsealed = sym shows.objects.stream.entries ∙ unsealed;
        on_way = no_objects;
        checkpoint = sym own ∙ sym same;
      }) in
      left_put old.volume new.volume plain shows counting.left put

-- ---- a checkpoint is sealed

lacking_seal : {R : Type 0} (reply : Reply R) → lacks_memory reply ≡ true → seal_in reply ≡ Err errors.OutOfMemory
lacking_seal {R} reply lacks =
    elim (seal_cases reply) [
      | inl e ↦ absurd (sealed_lacks R e.0 (subst (λ r. lacks_memory r ≡ true) e.1 lacks))
      | inr o ↦ elim o [
        | inl is ↦ absurd (nothing_lacks R (subst (λ r. lacks_memory r ≡ true) is lacks))
        | inr is ↦ is
      ]
    ]

module _ {R : Type 0} (state : R → ReceiptState) (reply : Reply R) (old new : SteppedVolume)
    (of : CountedStep state asks.SealCheckpoint reply old new) (plain : PlainState) (shows : Shows old.volume plain) where
  pub checkpoint_makes : MakesSteps 1 [] old new
  checkpoint_makes = quiet_makes state asks.SealCheckpoint reply old new (λ asked is. ap is_quiet is) of

  pub checkpoint_faults : new.volume.log.commits.disk.faults ≡ old.volume.log.commits.disk.faults
  checkpoint_faults = silent_faults state asks.SealCheckpoint reply plain old new (λ asked is. ap is_silent is) shows of

  -- where nothing is on its way, one is sealed, or memory ran out
  record IsSealing : Type 0 where
    idle : IsIdle new.volume
    sealed : IfOk (seal_in reply) (λ has_sealed. IsSealedUp has_sealed new.volume)

  sealed_up : (number : ℕ) → reply ≡ told.Sealed number → AwaitsCheckpoint new.volume
      → IfOk (seal_in reply) (λ has_sealed. IsSealedUp has_sealed new.volume)
  sealed_up number is awaits =
      let Up : Result Bool OwnerError → Type 0 = λ r. IfOk r (λ has_sealed. IsSealedUp has_sealed new.volume) in
      subst Up (sym (ap seal_in is)) awaits

  sealing_by : IsIdle old.volume → unsealed_entries plain ≡ [] → plain.window.objects ≡ []
      → IsStep state asks.SealCheckpoint reply plain old.volume new.volume
      ⊎ IsNoStep state asks.SealCheckpoint reply plain old.volume new.volume → IsSealing
  sealing_by idle unsealed none (inl s) =
      let ready : PlainState = passing s.left plain in
      let now : Fuse = fuse_in new.volume.log.commits.disk.budget in
      let was = shown_idle old.volume plain shows idle in
      let empty = ap (λ (o : List OpenObject). length o) none in
      let free : is_busy plain ≡ false = ap (λ (o : List OpenObject). length o == 16) none in
      let shown : Shows new.volume (passing now (after_seal_checkpoint ready)) =
      subst (λ e. Shows new.volume (passing now (plain_after e ready))) s.asks s.shows in
      let shown_now : Shows new.volume (passing now (with_checkpoint ready)) =
      subst (λ (b : Bool). Shows new.volume (passing now (if b then ready else with_checkpoint ready))) free shown in
      let tells : Tells state old.volume reply (seal_checkpoint_reply ready) =
      subst (λ e. Tells state old.volume reply (plain_reply ready e)) s.asks s.tells in
      let tells_now : Tells state old.volume reply (replies.Sealed (plain.window.last + 1)) =
      subst (λ (b : Bool). Tells state old.volume reply
      (if b then replies.Busy else replies.Sealed (plain.window.last + 1))) free tells in
      let awaits = checkpoint_awaits ready unsealed none in
      let object : OpenObject =
      record { number = plain.window.last + 1; is_checkpoint = true; is_started = false; was_started = false } in
      let long = length-append plain.window.objects (object ∷ []) in
      record {
        idle = idle_shown new.volume (passing now (with_checkpoint ready)) shown_now (record {
          puts = entered_none plain.window.objects object (ap any_started none) refl;
          plans = was.plans;
          none_out = was.none_out;
          few = omega (arith, long, empty);
        });
        sealed = sealed_up (plain.window.last + 1) (tells_sealed state old.volume reply (plain.window.last + 1) tells_now)
            (awaiting_shown new.volume (passing now (with_checkpoint ready)) shown_now (record {
              unsealed = awaits.unsealed;
              object = awaits.object;
              on_way = awaits.on_way;
              is_checkpoint = awaits.is_checkpoint;
              number = awaits.number;
            }));
      }
  sealing_by idle unsealed none (inr n) =
      let was = shown_idle old.volume plain shows idle in
      let Up : Result Bool OwnerError → Type 0 = λ r. IfOk r (λ has_sealed. IsSealedUp has_sealed new.volume) in
      record {
        idle = idle_shown new.volume plain n.shows was;
        sealed = subst Up (sym (lacking_seal reply n.lacks)) tt;
      }

  pub checkpoint_sealed : IsIdle old.volume → old.volume.objects.batch.entries ≡ [] → objects_on_way old.volume ≡ []
      → IsIdle new.volume × IfOk (seal_in reply) (λ has_sealed. IsSealedUp has_sealed new.volume)
  checkpoint_sealed idle unsealed none =
      let sealing = sealing_by idle (sym shows.objects.stream.entries ∙ unsealed)
      (ap (λ (w : WindowState). w.objects) (sym shows.objects.window) ∙ none) (of.step.step plain shows) in
      (sealing.idle, sealing.sealed)

-- ---- a removal begins

-- the removal of the object of a number is out, and else the volume is idle
pub record IsRemoving (number : ℕ) (volume : VolumeState) : Type 0 where
  pub puts : any_started (objects_on_way volume) ≡ false
  pub plans : HasNoPins volume
  pub out : removal_out volume ≡ Some number
  pub few : length (objects_on_way volume) ≤ 16

-- a receipt that a reply hands out was given out for a removal
pub handed_receipt : {R : Type 0} (reply : Reply R) (receipt : R) → receipt_in reply ≡ Some receipt
    → reply ≡ told.Removing receipt
handed_receipt reply receipt is =
    elim (receipt_cases reply) [
      | inl e ↦
          let handed = ap receipt_in e.1 in
          let same : e.0 ≡ receipt = cc in
          e.1 ∙ ap told.Removing same
      | inr none ↦ (let bad : ⊥ = cc in absurd bad)
    ]

none_removable : {R : Type 0} (state : R → ReceiptState) (volume : VolumeState) (reply : Reply R) (lowest : Option ℕ)
    → Tells state volume reply (reply_of_removal None lowest) → receipt_in reply ≡ None → lowest ≡ None
none_removable state volume reply None tells none = refl
none_removable state volume reply (Some number) tells none =
    let removing = tells_removing state volume reply number tells in
    let handed = ap receipt_in removing.1 in
    let bad : ⊥ = cc in
    absurd bad

removed_number : {R : Type 0} (state : R → ReceiptState) (volume : VolumeState) (lowest : Option ℕ) (receipt : R)
    → Tells {R = R} state volume (told.Removing receipt) (reply_of_removal None lowest)
    → (lowest ≡ Some (state receipt).name.number) × ((state receipt).name ≡ object_name_in volume (state receipt).name.number)
removed_number state volume None receipt tells = (let is = tells.0 in let bad : ⊥ = cc in absurd bad)
removed_number state volume (Some number) receipt tells =
    (let is = tells.0 in let same : number ≡ (state receipt).name.number = cc in (ap Some same, tells.1))

module _ {R : Type 0} (state : R → ReceiptState) (reply : Reply R) (old new : SteppedVolume)
    (of : CountedStep state asks.TakeRemove reply old new) (plain : PlainState) (shows : Shows old.volume plain) where
  pub take_remove_makes : MakesSteps 1 [] old new
  take_remove_makes = quiet_makes state asks.TakeRemove reply old new (λ asked is. ap is_quiet is) of

  pub take_remove_faults : new.volume.log.commits.disk.faults ≡ old.volume.log.commits.disk.faults
  take_remove_faults = silent_faults state asks.TakeRemove reply plain old new (λ asked is. ap is_silent is) shows of

  -- what such a step leaves, where no removal was out
  record IsAfterTakeRemove : Type 0 where
    fuse : Fuse
    now : Fuse
    shown : Shows new.volume (passing now (with_removal None (to_remove plain) (passing fuse plain)))
    tells : Tells state old.volume reply (reply_of_removal None (to_remove plain))

  taking_remove : plain.removal ≡ None
      → IsStep state asks.TakeRemove reply plain old.volume new.volume
      ⊎ IsNoStep state asks.TakeRemove reply plain old.volume new.volume → IsAfterTakeRemove
  taking_remove none (inl s) =
      let ready : PlainState = passing s.left plain in
      let fuse_now : Fuse = fuse_in new.volume.log.commits.disk.budget in
      let shown : Shows new.volume (passing fuse_now (with_removal plain.removal (to_remove plain) ready)) =
      subst (λ e. Shows new.volume (passing fuse_now (plain_after e ready))) s.asks s.shows in
      let told_it : Tells state old.volume reply (reply_of_removal plain.removal (to_remove plain)) =
      subst (λ e. Tells state old.volume reply (plain_reply ready e)) s.asks s.tells in
      record {
        fuse = s.left;
        now = fuse_now;
        shown = subst (λ out. Shows new.volume (passing fuse_now (with_removal out (to_remove plain) ready))) none shown;
        tells = subst (λ out. Tells state old.volume reply (reply_of_removal out (to_remove plain))) none told_it;
      }
  taking_remove none (inr n) = (let may = n.may in let bad : ⊥ = cc in absurd bad)

  -- none may be removed
  pub none_to_remove : IsIdle old.volume → receipt_in reply ≡ None
      → (left : LeavesPut plain new.volume) × (left.after.removal ≡ None) × (to_remove left.after ≡ None)
  none_to_remove idle handed =
      let was = shown_idle old.volume plain shows idle in
      let after = taking_remove was.none_out (of.step.step plain shows) in
      let none : to_remove plain ≡ None = none_removable state old.volume reply (to_remove plain) after.tells handed in
      let shown : Shows new.volume (passing after.now (passing after.fuse plain)) =
      subst (λ lowest. Shows new.volume (passing after.now (with_removal None lowest (passing after.fuse plain)))) none
      after.shown in (
        record {
          after = passing after.now (passing after.fuse plain);
          shows = shown;
          unsealed = refl;
          window = refl;
          checkpoint = refl;
          pins = refl;
        },
        was.none_out,
        none,
      )

  -- one is to be removed
  pub taken_out : (receipt : R) → IsIdle old.volume → reply ≡ told.Removing receipt
      → IsRemoving (state receipt).name.number new.volume
      × ((state receipt).name ≡ object_name_in new.volume (state receipt).name.number) × LeavesPut plain new.volume
  taken_out receipt idle is =
      let n : ℕ = (state receipt).name.number in
      let was = shown_idle old.volume plain shows idle in
      let after = taking_remove was.none_out (of.step.step plain shows) in
      let number = removed_number state old.volume (to_remove plain) receipt
      (subst (λ r. Tells state old.volume r (reply_of_removal None (to_remove plain))) is after.tells) in
      let shown : Shows new.volume (passing after.now (with_removal None (Some n) (passing after.fuse plain))) =
      subst (λ lowest. Shows new.volume (passing after.now (with_removal None lowest (passing after.fuse plain)))) number.0
      after.shown in
      let left : LeavesPut plain new.volume = record {
        after = passing after.now (with_removal None (Some n) (passing after.fuse plain));
        shows = shown;
        unsealed = refl;
        window = refl;
        checkpoint = refl;
        pins = refl;
      } in (
        record {
          puts = left_puts old.volume new.volume plain shows left idle.puts;
          plans = left_plans old.volume new.volume plain shows left idle.plans;
          out = shown.table.removal;
          few = left_few old.volume new.volume plain shows left idle.few;
        },
        number.1 ∙ ap (λ u. numbered_name u n) (sym of.step.sizes.uuid),
        left,
      )

-- where one plain volume has none that may be removed, none has
pub none_shown : (volume : VolumeState) (plain : PlainState) → IsUploads volume.objects.uploads → Shows volume plain
    → to_remove plain ≡ None → HasNoneToRemove volume
none_shown volume plain is shows none other others = same_to_remove volume other plain is others shows ∙ none

-- ---- it is done, or failed

-- what no removal is out after
abbrev EndsRemoval : PlainState → VolumeState → Type 0
EndsRemoval plain new = (left : LeavesPut plain new) × (left.after.removal ≡ None)

-- then the volume is idle, and what is all put stays so
removal_ends : (number : ℕ) (old new : VolumeState) (plain : PlainState) → Shows old plain → IsRemoving number old
    → EndsRemoval plain new → IsIdle new × (HasAllPut old → HasAllPut new)
removal_ends number old new plain shows removing (left, none) = (
  record {
    puts = left_puts old new plain shows left removing.puts;
    plans = left_plans old new plain shows left removing.plans;
    none_out = left.shows.table.removal ∙ none;
    few = left_few old new plain shows left removing.few;
  },
  left_put old new plain shows left,
)

own_out : (number : ℕ) (out : Option ℕ) → out ≡ Some number → is_out number out ≡ true
own_out number out is = ap (is_out number) is ∙ eq-eqb number number refl

module _ {R : Type 0} (state : R → ReceiptState) (number : ℕ) (reply : Reply R) (old new : SteppedVolume)
    (of : CountedStep state (asks.RemoveDone number) reply old new) (plain : PlainState) (shows : Shows old.volume plain)
    (removing : IsRemoving number old.volume) where
  pub remove_done_makes : MakesSteps 1 [] old new
  remove_done_makes = quiet_makes state (asks.RemoveDone number) reply old new (λ asked is. ap is_quiet is) of

  pub remove_done_faults : new.volume.log.commits.disk.faults ≡ old.volume.log.commits.disk.faults
  remove_done_faults = silent_faults state (asks.RemoveDone number) reply plain old new (λ asked is. ap is_silent is) shows of

  told_by : IsStep state (asks.RemoveDone number) reply plain old.volume new.volume
      ⊎ IsNoStep state (asks.RemoveDone number) reply plain old.volume new.volume → reply ≡ told.Removed
  told_by (inl s) =
      let out : is_out number plain.removal ≡ true =
      own_out number plain.removal (sym shows.table.removal ∙ removing.out) in
      let tells : Tells state old.volume reply (if is_out number plain.removal then replies.Removed else replies.Nothing) =
      subst (λ e. Tells state old.volume reply (plain_reply (passing s.left plain) e)) s.asks s.tells in
      tells_removed state old.volume reply
      (subst (λ (b : Bool). Tells state old.volume reply (if b then replies.Removed else replies.Nothing)) out tells)
  told_by (inr n) = (let may = n.may in let bad : ⊥ = cc in absurd bad)

  pub remove_done_told : removed_if_told reply ≡ 1
  remove_done_told = ap removed_if_told (told_by (of.step.step plain shows))

  removing_done : IsStep state (asks.RemoveDone number) reply plain old.volume new.volume
      ⊎ IsNoStep state (asks.RemoveDone number) reply plain old.volume new.volume
      → EndsRemoval plain new.volume
  removing_done (inl s) =
      let ready : PlainState = passing s.left plain in
      let now : Fuse = fuse_in new.volume.log.commits.disk.budget in
      let out : is_out number plain.removal ≡ true =
      own_out number plain.removal (sym shows.table.removal ∙ removing.out) in
      let gone : PlainState = record ready { removed = plain.removed ++ number ∷ []; removal = None } in
      let shown : Shows new.volume (passing now (if is_out number plain.removal then gone else ready)) =
      subst (λ e. Shows new.volume (passing now (plain_after e ready))) s.asks s.shows in (
        record {
          after = passing now gone;
          shows = subst (λ (b : Bool). Shows new.volume (passing now (if b then gone else ready))) out shown;
          unsealed = refl;
          window = refl;
          checkpoint = refl;
          pins = refl;
        },
        refl,
      )
  removing_done (inr n) = (let may = n.may in let bad : ⊥ = cc in absurd bad)

  pub remove_done_leaves : IsIdle new.volume × (HasAllPut old.volume → HasAllPut new.volume)
  remove_done_leaves = removal_ends number old.volume new.volume plain shows removing (removing_done (of.step.step plain shows))

-- a receipt that names a volume's object of the removal that is out is of that removal
of_this : (volume : VolumeState) (receipt : ReceiptState) (number other : ℕ) → receipt.name ≡ object_name_in volume number
    → IsOfRemoval volume receipt other → other ≡ number
of_this volume receipt number other named (inl is) = ap (λ (n : ObjName). n.number) (sym is ∙ named)
of_this volume receipt number other named (inr none) = absurd (none.0 number named)

module _ {R : Type 0} (state : R → ReceiptState) (receipt : R) (number : ℕ) (reply : Reply R) (old new : SteppedVolume)
    (of : CountedStep state (asks.RemoveFailed receipt) reply old new) (plain : PlainState) (shows : Shows old.volume plain)
    (removing : IsRemoving number old.volume) (named : (state receipt).name ≡ object_name_in old.volume number) where
  pub remove_failed_makes : MakesSteps 1 [] old new
  remove_failed_makes = quiet_makes state (asks.RemoveFailed receipt) reply old new (λ asked is. ap is_quiet is.1) of

  pub remove_failed_faults : new.volume.log.commits.disk.faults ≡ old.volume.log.commits.disk.faults
  remove_failed_faults =
      silent_faults state (asks.RemoveFailed receipt) reply plain old new (λ asked is. ap is_silent is.1) shows of

  removing_failed : IsStep state (asks.RemoveFailed receipt) reply plain old.volume new.volume
      ⊎ IsNoStep state (asks.RemoveFailed receipt) reply plain old.volume new.volume
      → EndsRemoval plain new.volume
  removing_failed (inl s) =
      let ready : PlainState = passing s.left plain in
      let now : Fuse = fuse_in new.volume.log.commits.disk.budget in
      let same = of_this old.volume (state receipt) number s.asks.0 named s.asks.2 in
      let asked : s.asked ≡ events.RemoveFailed number = s.asks.1 ∙ ap events.RemoveFailed same in
      let out : is_out number plain.removal ≡ true =
      own_out number plain.removal (sym shows.table.removal ∙ removing.out) in
      let back : PlainState = record ready { removal = None } in
      let shown : Shows new.volume (passing now (if is_out number plain.removal then back else ready)) =
      subst (λ e. Shows new.volume (passing now (plain_after e ready))) asked s.shows in (
        record {
          after = passing now back;
          shows = subst (λ (b : Bool). Shows new.volume (passing now (if b then back else ready))) out shown;
          unsealed = refl;
          window = refl;
          checkpoint = refl;
          pins = refl;
        },
        refl,
      )
  removing_failed (inr n) = (let may = n.may in let bad : ⊥ = cc in absurd bad)

  pub remove_failed_leaves : IsIdle new.volume × (HasAllPut old.volume → HasAllPut new.volume)
  remove_failed_leaves =
      removal_ends number old.volume new.volume plain shows removing (removing_failed (of.step.step plain shows))
