-- Each removal, and what comes of it, makes the step of the plain volume that was asked for.
use Rattle.std.proofs.Common.{◌≡◌, ℕ, ◌+◌, ◌⊎◌, inl, inr, Bool, true, false, cond, Option, Some, None, List, ◌∷◌, [], ◌++◌}
use Rattle.std.proofs.Common.{refl, ap, arith}
use Rattle.std.specs.Str.{bytes_eq}
use Rattle.std.proofs.lemmas.Slice.Eq.{bytes_eq-Decides}
use Rattle.lsvd_names.specs.declared.name.NameKind.{NameKind}
use Rattle.lsvd_names.specs.declared.name.NameKind.TheVariants.{Super, Epoch, Object, Hold}
use Rattle.lsvd_names.specs.declared.name.ObjName.{ObjName}
use Rattle.lsvd_names.specs.Names.{numbered_name}
use Rattle.lsvd_objstore.specs.Store.{ReceiptState}
use Rattle.object_uploads.specs.Order.{IsUploads}
use Rattle.object_uploads.specs.Removal.{IsSameButObjects}
use Rattle.batcher.specs.State.{BatchState}
use Rattle.obj_log.specs.State.{ObjLogState}
use Rattle.plain_disk.specs.declared.event.PlainEvent.TheVariants as events
use Rattle.plain_disk.specs.State.{PlainState}
use Rattle.plain_disk.specs.Removals.{to_remove, with_removal, after_take_remove, is_out, after_remove_done, after_remove_failed}
use Rattle.plain_disk.proofs.EventLemmas.{take_remove_keeps, remove_done_keeps, remove_failed_keeps}
use Rattle.refine_objects.specs.Shows.{TellsAsOne}
use Rattle.refine_objects.specs.TableLaws.{ShowsBoth}
use Rattle.refine_objects.proofs.RemovalShown.{taken_shows_removal, none_taken_shows_none, finished_shows_removed}
use Rattle.refine_objects.proofs.RemovalShown.{taken_back_shows_given_back, not_out_shows_nothing}
use Rattle.refine_objects.proofs.PlanCalls.{removals_keep_plan}
use Rattle.vol_core.specs.declared.event.Event.TheVariants.{TakeRemove, RemoveDone, RemoveFailed}
use Rattle.vol_core.specs.declared.reply.Reply.{Reply}
use Rattle.vol_core.specs.declared.reply.Reply.TheVariants as told
use Rattle.vol_core.specs.Volume.{VolumeState}
use Rattle.vol_core.specs.Shows.{Shows}
use Rattle.vol_core.specs.Events.{IsOfRemoval}
use Rattle.vol_core.specs.Step.{StepOf, KeepsBytes, StepsAsPlain}
use Rattle.vol_core.specs.Calls.{TakesLowestRemovable, FinishesRemoving, IsOutBy, GivesBackRemoval}
use Rattle.vol_core.proofs.StepLemmas.{CountsGrow, counts_stay, quiet_step, IsOfOtherObjects, with_objects, objects_shown}
use Rattle.vol_core.proofs.ObjectSteps.{unchanged}
use Rattle.vol_core.proofs.BytesLemmas.{same_bytes}
use Rattle.vol_core.proofs.StopSteps.{IsOfSameVolume}
use Rattle.vol_core.proofs.StepsOf.{IsOfList, same_list, step_of_list}

-- ---- the plain volume

-- a removal changes none of its objects
removal_changes : (out lowest : Option ℕ) (plain : PlainState) → IsOfOtherObjects plain (with_removal out lowest plain)
removal_changes None None plain = record {
  cache = refl;
  end = refl;
  entries = refl;
  frontier = omega arith;
  plan = refl;
  geometry
      = refl;
}
removal_changes None (Some number) plain = record {
  cache = refl;
  end = refl;
  entries = refl;
  frontier = omega arith;
  plan = refl;
  geometry = refl;
}
removal_changes (Some other) lowest plain = record {
  cache = refl;
  end = refl;
  entries = refl;
  frontier = omega arith;
  plan
      = refl;
  geometry = refl;
}

-- nor does its end
ending_changes : (ends : Bool) (removed : List ℕ) (plain : PlainState)
    → IsOfOtherObjects plain (cond ends (record plain { removed = removed; removal = None }) plain)
ending_changes true removed plain = record {
  cache = refl;
  end = refl;
  entries = refl;
  frontier = omega arith;
  plan = refl;
  geometry = refl;
}
ending_changes false removed plain = record {
  cache = refl;
  end = refl;
  entries = refl;
  frontier = omega arith;
  plan = refl;
  geometry = refl;
}

-- ---- a receipt that comes back

-- whether a name is that of some object of a volume is decided
object_or_not : (uuid own : List ℕ) (kind : NameKind) (number : ℕ) (same : Bool) → bytes_eq uuid own ≡ same
    → (record { uuid = uuid; kind = kind; number = number } ≡ numbered_name own number)
    ⊎ ((other : ℕ) → record { uuid = uuid; kind = kind; number = number } ≡ numbered_name own other → ⊥)
object_or_not uuid own Object number true is =
    inl (ap (λ (u : List ℕ). numbered_name u number) ((bytes_eq-Decides uuid own).0 is))
object_or_not uuid own kind number false is =
    inr (λ other named.
    let whole : bytes_eq uuid own ≡ true = (bytes_eq-Decides uuid own).1 (ap (λ (n : ObjName). n.uuid) named) in
    absurd cc)
object_or_not uuid own Super number true is =
    inr (λ other named. let kind : Super ≡ Object = ap (λ (n : ObjName). n.kind) named in absurd cc)
object_or_not uuid own Epoch number true is =
    inr (λ other named. let kind : Epoch ≡ Object = ap (λ (n : ObjName). n.kind) named in absurd cc)
object_or_not uuid own Hold number true is =
    inr (λ other named. let kind : Hold ≡ Object = ap (λ (n : ObjName). n.kind) named in absurd cc)

-- a number whose removal is not out
abbrev past : Option ℕ → ℕ
past None = 0
past (Some number) = number + 1

not_past : (out : Option ℕ) → out ≡ Some (past out) → ⊥
not_past None is = absurd cc
not_past (Some number) is =
    let same : number ≡ past (Some number) = cc in
    absurd (omega (arith, same))

-- what a receipt asks for that is not of the removal that is out: of some number, whose removal is not out
record IsOfNone (volume : VolumeState) (receipt : ReceiptState) : Type 0 where
  number : ℕ
  asks : IsOfRemoval volume receipt number
  not_out : volume.objects.uploads.queue.removal ≡ Some number → ⊥

of_none : (volume : VolumeState) (receipt : ReceiptState) → (IsOutBy receipt volume.objects → ⊥) → IsOfNone volume receipt
of_none volume receipt refused =
    let own = volume.objects.uploads.uuid in
    let name = receipt.name in
    elim (object_or_not name.uuid own name.kind name.number (bytes_eq name.uuid own) refl) [
      | inl named ↦ record { number = name.number; asks = inl named; not_out = λ out. refused (out, named) }
      | inr none ↦
          (let out = volume.objects.uploads.queue.removal in
          record { number = past out; asks = inr (none, not_past out); not_out = not_past out })
    ]

-- ---- the list

-- all but the table of objects is as before
others_same : (old new : ObjLogState) → IsSameButObjects old.uploads new.uploads → new.batch ≡ old.batch → IsOfSameVolume old new
others_same old new rest batch = record {
  uuid = rest.uuid;
  ancestors = rest.ancestors;
  geometry = ap (λ (b : BatchState). b.geometry) batch;
}

module _ {R : Type 0} (state : R → ReceiptState) where
  taken_list : (reply : Reply R) (old new : ObjLogState) → TakesLowestRemovable state reply old new
      → IsOfList TakeRemove reply old new
  taken_list (told.Removing receipt) old new taken =
      record { same = others_same old new taken.taken.rest taken.batch; back = tt; quiet = refl; stays = λ was. refl }
  taken_list told.Nothing old new taken = record {
    same = same_list old new taken.1;
    back = tt;
    quiet = refl;
    stays = λ was. refl;
  }
  taken_list reply old new taken = absurd taken

  finished_list : (number : ℕ) (reply : Reply R) (old new : ObjLogState) → FinishesRemoving number reply old new
      → IsOfList (RemoveDone number) reply old new
  finished_list number told.Removed old new done =
      record { same = others_same old new done.1.rest done.2; back = tt; quiet = refl; stays = λ was. refl }
  finished_list number told.Nothing old new done = record {
    same = same_list old new done.1;
    back = tt;
    quiet = refl;
    stays
        = λ was. refl;
  }
  finished_list number reply old new done = absurd done

  given_list : (receipt : R) (reply : Reply R) (old new : ObjLogState) → GivesBackRemoval state receipt reply old new
      → IsOfList (RemoveFailed receipt) reply old new
  given_list receipt told.GivenBack old new given =
      record { same = others_same old new given.1.rest given.2; back = tt; quiet = refl; stays = λ was. refl }
  given_list receipt (told.NotGivenBack back) old new given =
      record { same = same_list old new given.2; back = given.1; quiet = refl; stays = λ was. refl }
  given_list receipt reply old new given = absurd given

module _ {R : Type 0} (state : R → ReceiptState) (old : VolumeState) (objects : ObjLogState) where
  -- the volume then
  abbrev changed : VolumeState
  changed = with_objects objects old

  -- ---- counts and bytes

  record IsQuiet : Type 0 where
    counts : CountsGrow old changed
    bytes : KeepsBytes old changed

  others_quiet : IsSameButObjects old.objects.uploads objects.uploads → IsQuiet
  others_quiet rest =
      record { counts = counts_stay old changed refl rest.window; bytes = same_bytes old changed rest.sealed rest.frontier }

  same_quiet : objects ≡ old.objects → IsQuiet
  same_quiet same = record {
    counts = counts_stay old changed refl (ap (λ (o : ObjLogState). o.uploads.window) same);
    bytes =
        same_bytes old changed (ap (λ (o : ObjLogState). o.uploads.queue.sealed) same)
        (ap (λ (o : ObjLogState). o.uploads.queue.frontier) same);
  }

  taken_quiet : (reply : Reply R) → TakesLowestRemovable state reply old.objects objects → IsQuiet
  taken_quiet (told.Removing receipt) taken = others_quiet taken.taken.rest
  taken_quiet told.Nothing taken = same_quiet taken.1
  taken_quiet reply taken = absurd taken

  finished_quiet : (number : ℕ) (reply : Reply R) → FinishesRemoving number reply old.objects objects → IsQuiet
  finished_quiet number told.Removed done = others_quiet done.1.rest
  finished_quiet number told.Nothing done = same_quiet done.1
  finished_quiet number reply done = absurd done

  given_quiet : (receipt : R) (reply : Reply R) → GivesBackRemoval state receipt reply old.objects objects → IsQuiet
  given_quiet receipt told.GivenBack given = others_quiet given.1.rest
  given_quiet receipt (told.NotGivenBack back) given = same_quiet given.2
  given_quiet receipt reply given = absurd given

  -- ---- a removal begins

  both_shown : (plain : PlainState) → (shows : Shows old plain) → ShowsBoth shows.data_at old.objects plain
  both_shown plain shows = record { objects = shows.objects; table = shows.table }

  taken_steps : (reply : Reply R) → IsUploads old.objects.uploads → IsUploads objects.uploads
      → TellsAsOne old.objects.uploads.queue → TakesLowestRemovable state reply old.objects objects
      → StepsAsPlain state TakeRemove reply old changed
  taken_steps (told.Removing receipt) uploads after alike taken plain shows =
      let number = (state receipt).name.number in
      let shown = taken_shows_removal shows.data_at old.objects objects plain number (state receipt) uploads after shows.valid
      (both_shown plain shows) taken.next taken.taken alike taken.batch in
      let leaves = removal_changes plain.removal (to_remove plain) plain in
      let now =
      objects_shown old objects plain (after_take_remove plain) shows leaves (take_remove_keeps plain shows.valid)
      shown.0.objects shown.0.table
      ((removals_keep_plan number old.objects.uploads objects.uploads uploads).0 (state receipt) taken.next taken.taken) in
      inl (quiet_step state TakeRemove (told.Removing receipt) plain old changed events.TakeRemove shows refl
      (shown.1, taken.named) now refl leaves.cache)
  taken_steps told.Nothing uploads after alike taken plain shows =
      let none = none_taken_shows_none shows.data_at old.objects plain uploads shows.valid (both_shown plain shows) taken.0 in
      inl (unchanged state old objects TakeRemove told.Nothing plain events.TakeRemove shows taken.1 none.1 refl none.0)
  taken_steps reply uploads after alike taken plain shows = absurd taken

  -- ---- it is done

  finished_steps : (number : ℕ) (reply : Reply R) → IsUploads old.objects.uploads → IsUploads objects.uploads
      → FinishesRemoving number reply old.objects objects → StepsAsPlain state (RemoveDone number) reply old changed
  finished_steps number told.Removed uploads after done plain shows =
      let shown = finished_shows_removed shows.data_at old.objects objects plain number uploads after (both_shown plain shows)
      done.0 done.1 done.2 in
      let leaves = ending_changes (is_out number plain.removal) (plain.removed ++ number ∷ []) plain in
      let now =
      objects_shown old objects plain (after_remove_done number plain) shows leaves (remove_done_keeps plain number shows.valid)
      shown.0.objects shown.0.table
      ((removals_keep_plan number old.objects.uploads objects.uploads uploads).1 done.0 done.1) in
      inl (quiet_step state (RemoveDone number) told.Removed plain old changed (events.RemoveDone number) shows refl shown.1 now
      refl leaves.cache)
  finished_steps number told.Nothing uploads after done plain shows =
      let none = not_out_shows_nothing old.objects.uploads.queue plain number shows.table done.0 in
      inl (unchanged state old objects (RemoveDone number) told.Nothing plain (events.RemoveDone number) shows done.1 none.1 refl
      none.0)
  finished_steps number reply uploads after done plain shows = absurd done

  -- ---- it failed

  given_steps : (receipt : R) (reply : Reply R) → IsUploads old.objects.uploads → IsUploads objects.uploads
      → GivesBackRemoval state receipt reply old.objects objects → StepsAsPlain state (RemoveFailed receipt) reply old changed
  given_steps receipt told.GivenBack uploads after given plain shows =
      let number = (state receipt).name.number in
      let shown = taken_back_shows_given_back shows.data_at old.objects objects plain number (state receipt) uploads after
      (both_shown plain shows) given.0.0 given.1 given.2 in
      let leaves = ending_changes (is_out number plain.removal) plain.removed plain in
      let now =
      objects_shown old objects plain (after_remove_failed number plain) shows leaves
      (remove_failed_keeps plain number shows.valid) shown.0.objects shown.0.table
      ((removals_keep_plan number old.objects.uploads objects.uploads uploads).2 (state receipt) given.0.0 given.1) in
      inl (quiet_step state (RemoveFailed receipt) told.GivenBack plain old changed (events.RemoveFailed number) shows
      (number, refl, inl given.0.1) shown.1 now refl leaves.cache)
  given_steps receipt (told.NotGivenBack back) uploads after given plain shows =
      let asked = of_none old (state receipt) given.0 in
      let none = not_out_shows_nothing old.objects.uploads.queue plain asked.number shows.table asked.not_out in
      inl (unchanged state old objects (RemoveFailed receipt) (told.NotGivenBack back) plain (events.RemoveFailed asked.number)
      shows given.2 none.3 (asked.number, refl, asked.asks) none.2)
  given_steps receipt reply uploads after given plain shows = absurd given

  -- ---- the steps

  module _ (plain : PlainState) (shows : Shows old plain) (uploads : IsUploads old.objects.uploads)
      (after : IsUploads objects.uploads) where
    pub step_of_removal : (reply : Reply R) → TellsAsOne old.objects.uploads.queue
        → TakesLowestRemovable state reply old.objects objects → StepOf state TakeRemove reply old changed
    step_of_removal reply alike taken =
        let quiet = taken_quiet reply taken in
        step_of_list state old objects plain shows TakeRemove reply (taken_list state reply old.objects objects taken) tt
        (taken_steps reply uploads after alike taken) quiet.counts quiet.bytes

    pub step_of_removed : (number : ℕ) (reply : Reply R) → FinishesRemoving number reply old.objects objects
        → StepOf state (RemoveDone number) reply old changed
    step_of_removed number reply done =
        let quiet = finished_quiet number reply done in
        step_of_list state old objects plain shows (RemoveDone number) reply
        (finished_list state number reply old.objects objects done) tt (finished_steps number reply uploads after done)
        quiet.counts quiet.bytes

    pub step_of_given_back : (receipt : R) (reply : Reply R) → GivesBackRemoval state receipt reply old.objects objects
        → StepOf state (RemoveFailed receipt) reply old changed
    step_of_given_back receipt reply given =
        let quiet = given_quiet receipt reply given in
        step_of_list state old objects plain shows (RemoveFailed receipt) reply
        (given_list state receipt reply old.objects objects given) tt (given_steps receipt reply uploads after given)
        quiet.counts quiet.bytes
