-- Contract: plans of copies, their seals and their ends do to the list what they do to the plain volume, and each other call
-- keeps the plan that is out.
use Rattle.std.specs.Prelude.{◌≡◌, ℕ, ◌+◌, ◌≤◌, Bool, true, false, Option, Some, None, IfSome, List, [], length}
use Rattle.std.specs.List.{All}
use Rattle.gc_copier.specs.Plan.{PlanState, numbers_of}
use Rattle.gc_copier.specs.Copying.{CopiedState, IsCopyOf}
use Rattle.lsvd_base.specs.declared.entry.Entry.{Entry}
use Rattle.lsvd_objstore.specs.Store.{ReceiptState}
use Rattle.object_stream.specs.declared.object.CopiedSector.{CopiedSector}
use Rattle.object_table.specs.Table.{candidates}
use Rattle.volume_maps.specs.declared.place.ObjectPlace.{ObjectPlace}
use Rattle.volume_maps.specs.Maps.{settled_at}
use Rattle.object_uploads.specs.State.{QueueState, UploadsState}
use Rattle.object_uploads.specs.Order.{IsUploads}
use Rattle.object_uploads.specs.declared.rows.SealedRows.{SealedRows}
use Rattle.object_uploads.specs.Changes.{IsSealedNext, with_job, IsPutDone}
use Rattle.object_uploads.specs.Collection.{IsStoredSource, HasPlan, HasPlanned, ArePlacesInside, with_copied_all}
use Rattle.object_uploads.specs.Removal.{PinsEach, UnpinsEach, IsRemovedNext, TakesRemoval, FinishesRemoval, TakesBackRemoval}
use Rattle.obj_log.specs.State.{ObjLogState}
use Rattle.obj_log.specs.Changes.{IsSame, IsAdded, HasSealedCopy}
use Rattle.plain_disk.specs.declared.event.PlainReply.TheVariants.{Copying, Sealed, Dropped, Nothing, Busy}
use Rattle.plain_disk.specs.State.{PlainState}
use Rattle.plain_disk.specs.Collection.{planned_copy, plan_copy_reply, after_plan_copy, seal_copy_reply, after_seal_copy}
use Rattle.plain_disk.specs.Collection.{drop_plan_reply, after_drop_plan}
use Rattle.plain_disk.specs.Step.{is_refusal}
use Rattle.plain_disk.specs.Valid.{IsPlainVolume}
use Rattle.refine_objects.specs.Shows.{ShowsObjects}
use Rattle.refine_objects.specs.Table.{ShowsTable}
use Rattle.refine_objects.specs.TableLaws.{ShowsBoth}
use Rattle.refine_objects.specs.Plan.{ShowsPlan}

-- ---- a plan is made

-- the places of a list that shows a plain volume lie inside objects that are in the store
abbrev pub ShownPlacesAreInside : Type 0
ShownPlacesAreInside =
    (data_at : ℕ → ℕ) (list : ObjLogState) (plain : PlainState)
    → IsUploads list.uploads → IsPlainVolume plain → ShowsObjects data_at list plain → ArePlacesInside list.uploads.queue

-- a copy is planned and begun, and the plain volume plans the same
abbrev pub PlannedShowsPlan : Type 0
PlannedShowsPlan =
    (data_at : ℕ → ℕ) (old new : ObjLogState) (plain : PlainState) (plan : PlanState)
    → IsUploads old.uploads → IsPlainVolume plain → ShowsBoth data_at old plain → plain.plan ≡ None
    → HasPlan plain.geometry.batch plan old.uploads
    → new.uploads ≡ with_copied_all true (numbers_of plan.sources) old.uploads → new.batch ≡ old.batch
    → ShowsBoth data_at new (after_plan_copy plain) × ShowsPlan new.uploads.queue (Some plan) (after_plan_copy plain)
    × (plan_copy_reply plain ≡ Copying (planned_copy plain))

-- where no sector is to be copied, the plain volume plans nothing either
abbrev pub NoneShowsNoPlan : Type 0
NoneShowsNoPlan =
    (data_at : ℕ → ℕ) (list : ObjLogState) (plain : PlainState)
    → IsUploads list.uploads → IsPlainVolume plain → ShowsBoth data_at list plain → plain.plan ≡ None
    → HasPlanned plain.geometry.batch list.uploads None
    → (plan_copy_reply plain ≡ Nothing) × (after_plan_copy plain ≡ plain)

-- a volume with a candidate for a victim does not refuse to plan, whatever else its list may do
abbrev pub VictimsShowPlan : Type 0
VictimsShowPlan =
    (data_at : ℕ → ℕ) (list : ObjLogState) (plain : PlainState)
    → IsUploads list.uploads → IsPlainVolume plain → ShowsBoth data_at list plain → plain.plan ≡ None
    → (candidates list.uploads.queue.maps.objects.rows ≡ [] → ⊥) → is_refusal (plan_copy_reply plain) ≡ false

-- ---- it ends

-- What was copied by the plan that is out is sealed, and its objects are marked no longer: the plain volume seals the copy of the
-- same number.
abbrev pub SealedCopyShowsSeal : Type 0
SealedCopyShowsSeal =
    (data_at : ℕ → ℕ) (old sealed new : ObjLogState) (plain : PlainState) (plan : PlanState) (copied : CopiedState)
    → IsUploads old.uploads → IsUploads sealed.uploads → IsPlainVolume plain
    → ShowsBoth data_at old plain → ShowsPlan old.uploads.queue (Some plan) plain → IsCopyOf plan copied
    → HasSealedCopy copied old sealed → (length old.uploads.window.objects ≡ 16 → ⊥)
    → new.uploads ≡ with_copied_all false (numbers_of plan.sources) sealed.uploads → new.batch ≡ sealed.batch
    → ShowsBoth data_at new (after_seal_copy true plain)
    × (seal_copy_reply plain true ≡ Sealed (old.uploads.window.last + 1)) × ((after_seal_copy true plain).plan ≡ None)

-- where 16 objects are on their way to the store, the plain volume seals none either
abbrev pub RefusedSealCopyShowsNone : Type 0
RefusedSealCopyShowsNone =
    (data_at : ℕ → ℕ) (list : ObjLogState) (plain : PlainState) (plan : PlanState) → ShowsObjects data_at list plain
    → ShowsPlan list.uploads.queue (Some plan) plain → length list.uploads.window.objects ≡ 16
    → (seal_copy_reply plain true ≡ Busy) × (after_seal_copy true plain ≡ plain)

-- the plan that is out is given up
abbrev pub EndedShowsDropped : Type 0
EndedShowsDropped =
    (data_at : ℕ → ℕ) (old new : ObjLogState) (plain : PlainState) (plan : PlanState)
    → IsUploads old.uploads → ShowsBoth data_at old plain → ShowsPlan old.uploads.queue (Some plan) plain
    → new.uploads ≡ with_copied_all false (numbers_of plan.sources) old.uploads → new.batch ≡ old.batch
    → ShowsBoth data_at new (after_drop_plan plain) × (drop_plan_reply plain ≡ Dropped)

-- ---- it stays

-- The sources of a plan stay in the store, while the frontier goes on and the objects' map changes to objects past the old
-- frontier alone.
pub record KeepsSources (plan : PlanState) (old new : QueueState) : Type 0 where
  pub frontier : old.frontier ≤ new.frontier
  pub stored : All (IsStoredSource old) plan.sources → All (IsStoredSource new) plan.sources
  pub settled : (k : ℕ) → IfSome (settled_at new.maps k) (λ (place : ObjectPlace).
      place.number ≤ old.frontier → settled_at old.maps k ≡ Some place)

-- so a plan that is out stays that of the plain volume
abbrev pub KeptSourcesKeepPlan : Type 0
KeptSourcesKeepPlan =
    (old new : QueueState) (plan : Option PlanState) (plain after : PlainState)
    → IfSome plan (λ (p : PlanState). KeepsSources p old new) → after.plan ≡ plain.plan → after.geometry ≡ plain.geometry
    → IfSome plain.plan (All (λ (copied : CopiedSector). copied.source ≤ old.frontier))
    → ShowsPlan old plan plain → ShowsPlan new plan after

-- a call keeps the plan that is out, whatever else the plain volume becomes
abbrev pub KeepsPlan : (old new : QueueState) → Type 0
KeepsPlan old new =
    (plan : Option PlanState) (plain after : PlainState) → after.plan ≡ plain.plan → after.geometry ≡ plain.geometry
    → ShowsTable old plain → ShowsPlan old plan plain → ShowsPlan new plan after

-- so do those that leave the list as it is
abbrev pub OthersKeepPlan : Type 0
OthersKeepPlan = (queue : QueueState) → KeepsPlan queue queue

-- those that change nothing but room, that enter an entry, that seal an object, and that begin or fail a put
abbrev pub RoomKeepsPlan : Type 0
RoomKeepsPlan = (old new : ObjLogState) → IsSame old new → KeepsPlan old.uploads.queue new.uploads.queue

abbrev pub AddedKeepsPlan : Type 0
AddedKeepsPlan =
    (old new : ObjLogState) (entry : Entry) (data_at : ℕ) → IsAdded entry data_at old new
    → KeepsPlan old.uploads.queue new.uploads.queue

abbrev pub SealedKeepsPlan : Type 0
SealedKeepsPlan =
    (bytes : List ℕ) (rows : SealedRows) (end : ℕ) (old new : UploadsState) → IsSealedNext bytes rows end old new
    → KeepsPlan old.queue new.queue

abbrev pub JobsKeepPlan : Type 0
JobsKeepPlan =
    (number : ℕ) (started : Bool) (uploads : UploadsState) → KeepsPlan uploads.queue (with_job number started uploads).queue

-- those that are done with a put
abbrev pub DoneKeepsPlan : Type 0
DoneKeepsPlan =
    (number : ℕ) (receipt : ReceiptState) (old new : UploadsState) → IsPutDone number receipt old new
    → KeepsPlan old.queue new.queue

-- those that pin objects, and give pins back
abbrev pub PinsKeepPlan : Type 0
PinsKeepPlan =
    (numbers : List ℕ) (old new : UploadsState)
    → (PinsEach numbers old new → KeepsPlan old.queue new.queue) × (UnpinsEach numbers old new → KeepsPlan old.queue new.queue)

-- and those that remove an object, from which no plan takes sectors
abbrev pub RemovalsKeepPlan : Type 0
RemovalsKeepPlan =
    (number : ℕ) (old new : UploadsState) → IsUploads old
    → ((receipt : ReceiptState) → IsRemovedNext old.queue.removal old.queue.maps.objects (Some number)
    → TakesRemoval number receipt old new → KeepsPlan old.queue new.queue)
    × (old.queue.removal ≡ Some number → FinishesRemoval number old new → KeepsPlan old.queue new.queue)
    × ((receipt : ReceiptState) → old.queue.removal ≡ Some number → TakesBackRemoval number receipt old new
    → KeepsPlan old.queue new.queue)
