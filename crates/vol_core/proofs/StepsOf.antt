-- What the calls that an event makes leave of a volume is a step of the event.
use Rattle.std.proofs.Common.{◌≡◌, ◌<◌, false, Option, refl, sym, ap, subst}
use Rattle.std.specs.List.{All}
use Rattle.std.specs.List.Sorted.{IsStrictlyIncreasing}
use Rattle.std.proofs.Math.Path.{subst₂}
use Rattle.lsvd_base.specs.declared.entry.Entry.{Entry}
use Rattle.lsvd_base.specs.declared.entry.Entry.TheVariants as entries
use Rattle.lsvd_fault.specs.Faults.{Counts}
use Rattle.lsvd_objstore.specs.Store.{ReceiptState}
use Rattle.object_table.specs.Table.{unpinned}
use Rattle.object_uploads.specs.State.{JobState}
use Rattle.object_uploads.specs.Removal.{UnpinsEach}
use Rattle.batcher.specs.State.{BatchState}
use Rattle.object_uploads.specs.Order.{IsUploads}
use Rattle.object_uploads.specs.Image.{IsReceiptFor}
use Rattle.obj_log.specs.State.{ObjLogState}
use Rattle.plain_disk.specs.State.{PlainState}
use Rattle.refine_objects.specs.Shows.{TellsAsOne}
use Rattle.read_plan.specs.Plan.{PlanState}
use Rattle.gc_copier.specs.Plan as copies
use Rattle.vol_core.specs.declared.event.Event.{Event}
use Rattle.vol_core.specs.declared.event.Event.TheVariants.{Release, Seal, TakeJob, JobDone, JobFailed}
use Rattle.vol_core.specs.declared.reply.Reply.{Reply}
use Rattle.vol_core.specs.declared.reply.Reply.TheVariants as told
use Rattle.vol_core.specs.Volume.{VolumeState}
use Rattle.vol_core.specs.Shows.{Shows, pins_on}
use Rattle.vol_core.specs.Step.{StepOf, HandsBack, HasItsBytes, KeepsBytes, ChangesPlan, tells_fault, StepsAsPlain}
use Rattle.vol_core.specs.Calls.{event_of, Seals, TakesLowestReady, Finishes, Returns}
use Rattle.vol_core.proofs.StepLemmas.{CountsGrow, numbers_grow, counts_stay, with_objects}
use Rattle.vol_core.proofs.ObjectSteps.{seal_steps, taken_steps, done_steps, returned_steps}
use Rattle.vol_core.proofs.ObjectSteps.{sealed_grow, taken_grow, done_grow, returned_grow}
use Rattle.vol_core.proofs.BytesLemmas.{same_bytes, seal_keeps_bytes, taking_keeps_bytes, finishing_keeps_bytes}
use Rattle.vol_core.proofs.BytesLemmas.{returning_keeps_bytes}
use Rattle.vol_core.proofs.ReleaseSteps.{pins_leave, released_steps, not_released_steps}
use Rattle.vol_core.proofs.StopSteps.{IsOfSameVolume, objects_keep}

-- what a call of the list tells, beside the step of the plain volume
pub record IsOfList {R : Type 0} (event : Event R) (reply : Reply R) (old new : ObjLogState) : Type 0 where
  pub same : IsOfSameVolume old new
  pub back : HandsBack event reply
  pub quiet : tells_fault reply ≡ false
  pub stays : (was : Option copies.PlanState) → ChangesPlan event reply was was

-- an entry leaves the plan of a copy that is out
pub entry_stays : {R : Type 0} (entry : Entry) (reply : Reply R) (was : Option copies.PlanState)
    → ChangesPlan (event_of entry) reply was was
entry_stays (entries.Write lba body) reply was = refl
entry_stays (entries.Zero lba sectors) reply was = refl

-- ---- each call

pub same_list : (old new : ObjLogState) → new ≡ old → IsOfSameVolume old new
same_list old new is = subst (IsOfSameVolume old) (sym is) (record { uuid = refl; ancestors = refl; geometry = refl })

sealed_list : {R : Type 0} (reply : Reply R) (old new : ObjLogState) → Seals reply old new → IsOfList Seal reply old new
sealed_list (told.Sealed number) old new seals =
    record {
      same = record {
        uuid = seals.0.uploads.uuid;
        ancestors = seals.0.uploads.ancestors;
        geometry = seals.0.geometry;
      };
      back = tt;
      quiet = refl;
      stays = λ was.
          refl;
    }
sealed_list told.Nothing old new seals =
    record {
      same = record {
        uuid = seals.0.uploads.uuid;
        ancestors = seals.0.uploads.ancestors;
        geometry = seals.0.geometry;
      };
      back = tt;
      quiet = refl;
      stays = λ was.
          refl;
    }
sealed_list told.Busy old new seals =
    record {
      same = record {
        uuid = seals.0.uploads.uuid;
        ancestors = seals.0.uploads.ancestors;
        geometry = seals.0.geometry;
      };
      back = tt;
      quiet = refl;
      stays = λ was.
          refl;
    }
sealed_list told.OutOfMemory old new seals =
    record {
      same = record {
        uuid = seals.0.uploads.uuid;
        ancestors = seals.0.uploads.ancestors;
        geometry = seals.0.geometry;
      };
      back = tt;
      quiet = refl;
      stays = λ was.
          refl;
    }
sealed_list reply old new seals = absurd seals

taken_list : {R : Type 0} (reply : Reply R) (old new : ObjLogState) → TakesLowestReady reply old new
    → IsOfList TakeJob reply old new
taken_list (told.Taken job) old new taken = record {
  same = subst (IsOfSameVolume old) (sym taken.2) (record { uuid = refl; ancestors = refl; geometry = refl });
  back = tt;
  quiet = refl;
  stays = λ was. refl;
}
taken_list told.Nothing old new taken = record { same = same_list old new taken.1; back = tt; quiet = refl; stays = λ was. refl }
taken_list reply old new taken = absurd taken

done_list : {R : Type 0} (state : R → ReceiptState) (job : JobState) (receipt : R) (reply : Reply R) (old new : ObjLogState)
    → Finishes state job receipt reply old new
    → IsOfList (JobDone job receipt) reply old new
done_list state job receipt (told.Done frontier) old new done = record {
  same = record { uuid = done.1.uuid; ancestors = done.1.ancestors; geometry = ap (λ b. b.geometry) done.2 };
  back = tt;
  quiet = refl;
  stays = λ was. refl;
}
done_list state job receipt (told.NotDone back given) old new done =
    record { same = same_list old new done.3; back = (done.1, done.2); quiet = refl; stays = λ was. refl }
done_list state job receipt reply old new done = absurd done

returned_list : {R : Type 0} (job : JobState) (reply : Reply R) (old new : ObjLogState) → Returns job reply old new
    → IsOfList (JobFailed job) reply old new
returned_list job told.Returned old new returned = record {
  same = subst (IsOfSameVolume old) (sym returned.1) (record { uuid = refl; ancestors = refl; geometry = refl });
  back = tt;
  quiet = refl;
  stays = λ was. refl;
}
returned_list job (told.NotReturned back) old new returned =
    record { same = same_list old new returned.2; back = returned.1; quiet = refl; stays = λ was. refl }
returned_list job reply old new returned = absurd returned

-- ---- the volume with that list

-- it has this plain volume, among others
module _ {R : Type 0} (state : R → ReceiptState) (old : VolumeState) (objects : ObjLogState) (plain : PlainState)
    (shows : Shows old plain) where
  pub step_of_list : (event : Event R) (reply : Reply R) → IsOfList event reply old.objects objects → HasItsBytes event reply
      → StepsAsPlain state event reply old (with_objects objects old) → CountsGrow old (with_objects objects old)
      → KeepsBytes old (with_objects objects old) → StepOf state event reply old (with_objects objects old)
  step_of_list event reply list plan steps counts bytes =
      let new : VolumeState = with_objects objects old in
      let faults = old.log.commits.disk.faults in
      record {
        step = steps;
        back = list.back;
        plan = plan;
        copying = list.stays old.plan;
        sizes = record { geometry = list.same.geometry; uuid = list.same.uuid; ancestors = list.same.ancestors };
        numbers = numbers_grow state event reply old new plain shows steps counts;
        stops = objects_keep event old objects list.same;
        faults = subst (λ failed. Counts failed faults faults) (sym list.quiet) refl;
        bytes = bytes;
      }

  pub step_of_seal : (reply : Reply R) → IsUploads old.objects.uploads
      → Seals reply old.objects objects
      → StepOf state Seal reply old (with_objects objects old)
  step_of_seal reply uploads seals =
      step_of_list Seal reply (sealed_list reply old.objects objects seals) tt
      (seal_steps state old objects reply uploads seals) (sealed_grow old objects reply seals)
      (seal_keeps_bytes old objects reply seals)

  pub step_of_take : (reply : Reply R) → TakesLowestReady reply old.objects objects
      → StepOf state TakeJob reply old (with_objects objects old)
  step_of_take reply taken =
      step_of_list TakeJob reply (taken_list reply old.objects objects taken) tt (taken_steps state old objects reply taken)
      (taken_grow old objects reply taken) (taking_keeps_bytes old objects reply taken)

  pub step_of_done : (job : JobState) (receipt : R) (reply : Reply R)
      → IsUploads old.objects.uploads → IsUploads objects.uploads → IsReceiptFor job.bytes (state receipt)
      → TellsAsOne objects.uploads.queue
      → Finishes state job receipt reply old.objects objects
      → StepOf state (JobDone job receipt) reply old (with_objects objects old)
  step_of_done job receipt reply uploads now_uploads own alike done =
      step_of_list (JobDone job receipt) reply (done_list state job receipt reply old.objects objects done) tt
      (done_steps state old objects job receipt reply uploads now_uploads own alike done)
      (done_grow old objects state job receipt reply done)
      (finishing_keeps_bytes old objects state job receipt reply done uploads)

  pub step_of_return : (job : JobState) (reply : Reply R) → Returns job reply old.objects objects
      → StepOf state (JobFailed job) reply old (with_objects objects old)
  step_of_return job reply returned =
      step_of_list (JobFailed job) reply (returned_list job reply old.objects objects returned) tt
      (returned_steps state old objects job reply returned) (returned_grow old objects job reply returned)
      (returning_keeps_bytes old objects job reply returned)

  -- ---- a plan

  -- it is given back
  pub step_of_release : (given : PlanState) → IsUploads old.objects.uploads → IsStrictlyIncreasing given.objects
      → All (λ number. 0 < pins_on old number) given.objects
      → UnpinsEach given.objects old.objects.uploads objects.uploads → objects.batch ≡ old.objects.batch
      → StepOf state (Release given) told.Released old (with_objects objects old)
  step_of_release given uploads ascend some out batch =
      let left = pins_leave unpinned given.objects old.objects.uploads objects.uploads out in
      let new : VolumeState = with_objects objects old in
      let same : IsOfSameVolume old.objects objects = record {
        uuid = left.uuid;
        ancestors = left.ancestors;
        geometry = ap (λ (b : BatchState). b.geometry) batch;
      } in
      step_of_list (Release given) told.Released
      (record { same = same; back = tt; quiet = refl; stays = λ was. refl }) tt
      (released_steps state given old objects uploads ascend some out batch) (counts_stay old new refl left.window)
      (same_bytes old new left.sealed left.frontier)

-- ---- the volume as it was

-- nothing changes
pub step_of_same : {R : Type 0} (state : R → ReceiptState) (event : Event R) (reply : Reply R) (volume : VolumeState)
    (plain : PlainState)
    → Shows volume plain → StepsAsPlain state event reply volume volume → HandsBack event reply → HasItsBytes event reply
    → tells_fault reply ≡ false → ((was : Option copies.PlanState) → ChangesPlan event reply was was)
    → StepOf state event reply volume volume
step_of_same state event reply volume plain shows steps back plan quiet stays =
    step_of_list state volume volume.objects plain shows event reply
    (record { same = same_list volume.objects volume.objects refl; back = back; quiet = quiet; stays = stays }) plan steps
    (counts_stay volume volume refl refl) (same_bytes volume volume refl refl)

-- a plan comes back one of whose objects is not pinned
pub step_of_kept_plan : {R : Type 0} (state : R → ReceiptState) (old : VolumeState) (objects : ObjLogState) (plain : PlainState)
    → Shows old plain → (given back : PlanState) → IsStrictlyIncreasing given.objects
    → (All (λ number. 0 < pins_on old number) given.objects → ⊥)
    → back ≡ given → objects ≡ old.objects
    → StepOf state (Release given) (told.NotReleased back) old (with_objects objects old)
step_of_kept_plan state old objects plain shows given back ascend none same same_objects =
    subst₂ (λ b o. StepOf state (Release given) (told.NotReleased b) old (with_objects o old)) (sym same) (sym same_objects)
    (step_of_same state (Release given) (told.NotReleased given) old plain shows
    (not_released_steps state given old ascend none) refl tt refl (λ was. refl))
