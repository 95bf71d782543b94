-- Which replies of a volume tell a reply of the plain volume.
use Rattle.std.proofs.Common.{◌≡◌, ℕ, true, false, List, refl, ap}
use Rattle.lsvd_objstore.specs.Store.{ReceiptState}
use Rattle.object_uploads.specs.State.{JobState}
use Rattle.gc_copier.specs.Plan as copies
use Rattle.object_stream.specs.declared.object.CopiedSector.{CopiedSector}
use Rattle.read_plan.specs.Plan.{PlanState}
use Rattle.batcher.specs.declared.full.Full.TheVariants as full
use Rattle.plain_disk.specs.declared.event.PlainReply.{PlainReply}
use Rattle.plain_disk.specs.declared.event.PlainReply.TheVariants as replies
use Rattle.plain_disk.specs.declared.event.PlannedRead.{PlannedRead}
use Rattle.vol_core.specs.declared.reply.EntryRefusal.{EntryRefusal}
use Rattle.vol_core.specs.declared.reply.EntryRefusal.TheVariants as refusals
use Rattle.vol_core.specs.declared.reply.Reply.{Reply}
use Rattle.vol_core.specs.declared.reply.Reply.TheVariants as told
use Rattle.vol_core.specs.declared.reply.SealRefusal.TheVariants as seal_refusals
use Rattle.vol_core.specs.Volume.{VolumeState}
use Rattle.vol_core.specs.Events.{Tells, TellsRefusal}
use Rattle.vol_core.specs.Step.{tells_fault}

-- that an entry was entered
tells_entered_refusal : (why : EntryRefusal) (count : ℕ) → TellsRefusal why (replies.Entered count) → ⊥
tells_entered_refusal refusals.Range count tells = cc
tells_entered_refusal (refusals.Full (full.Sectors sectors)) count tells = cc
tells_entered_refusal (refusals.Full (full.Entries entries)) count tells = cc
tells_entered_refusal (refusals.NoRoom needed left) count tells = cc
tells_entered_refusal refusals.Fault count tells = cc
tells_entered_refusal refusals.OutOfMemory count tells = tells

pub tells_entered : {R : Type 0} (state : R → ReceiptState) (volume : VolumeState) (reply : Reply R) (count : ℕ)
    → Tells state volume reply (replies.Entered count) → reply ≡ told.Entered count
tells_entered state volume (told.Entered n) count tells = (let same : n ≡ count = cc in ap told.Entered same)
tells_entered state volume (told.NotEntered entry why) count tells = absurd (tells_entered_refusal why count tells)
tells_entered state volume (told.Flushed n) count tells = let bad : ⊥ = cc in absurd bad
tells_entered state volume (told.Planned plan) count tells = let is = tells.1 in let bad : ⊥ = cc in absurd bad
tells_entered state volume told.Released count tells = let bad : ⊥ = cc in absurd bad
tells_entered state volume (told.NotReleased plan) count tells = let bad : ⊥ = cc in absurd bad
tells_entered state volume (told.Sealed n) count tells = let bad : ⊥ = cc in absurd bad
tells_entered state volume (told.Taken job) count tells = let is = tells.0 in let bad : ⊥ = cc in absurd bad
tells_entered state volume (told.Done n) count tells = let bad : ⊥ = cc in absurd bad
tells_entered state volume (told.NotDone job receipt) count tells = let bad : ⊥ = cc in absurd bad
tells_entered state volume told.Returned count tells = let bad : ⊥ = cc in absurd bad
tells_entered state volume (told.NotReturned job) count tells = let bad : ⊥ = cc in absurd bad
tells_entered state volume (told.Removing receipt) count tells = let is = tells.0 in let bad : ⊥ = cc in absurd bad
tells_entered state volume told.Removed count tells = let bad : ⊥ = cc in absurd bad
tells_entered state volume told.GivenBack count tells = let bad : ⊥ = cc in absurd bad
tells_entered state volume (told.NotGivenBack receipt) count tells = let bad : ⊥ = cc in absurd bad
tells_entered state volume (told.Copying plan) count tells = let is = tells.1 in let bad : ⊥ = cc in absurd bad
tells_entered state volume (told.NotSealed copied seal_refusals.NotPlanned) count tells = let bad : ⊥ = cc in absurd bad
tells_entered state volume (told.NotSealed copied seal_refusals.Busy) count tells = let bad : ⊥ = cc in absurd bad
tells_entered state volume (told.NotSealed copied seal_refusals.OutOfMemory) count tells = absurd tells
tells_entered state volume told.Dropped count tells = let bad : ⊥ = cc in absurd bad
tells_entered state volume (told.Told a b c d) count tells = let bad : ⊥ = cc in absurd bad
tells_entered state volume told.Range count tells = let bad : ⊥ = cc in absurd bad
tells_entered state volume told.Nothing count tells = let bad : ⊥ = cc in absurd bad
tells_entered state volume told.Busy count tells = let bad : ⊥ = cc in absurd bad
tells_entered state volume told.Fault count tells = let bad : ⊥ = cc in absurd bad
tells_entered state volume told.OutOfMemory count tells = absurd tells

-- that a copy was planned
tells_copying_refusal : (why : EntryRefusal) (sectors : List CopiedSector) → TellsRefusal why (replies.Copying sectors) → ⊥
tells_copying_refusal refusals.Range sectors tells = cc
tells_copying_refusal (refusals.Full (full.Sectors room)) sectors tells = cc
tells_copying_refusal (refusals.Full (full.Entries entries)) sectors tells = cc
tells_copying_refusal (refusals.NoRoom needed left) sectors tells = cc
tells_copying_refusal refusals.Fault sectors tells = cc
tells_copying_refusal refusals.OutOfMemory sectors tells = tells

pub tells_copying : {R : Type 0} (state : R → ReceiptState) (volume : VolumeState) (reply : Reply R) (sectors : List CopiedSector)
    → Tells state volume reply (replies.Copying sectors) → (plan : copies.PlanState) × (reply ≡ told.Copying plan)
tells_copying state volume (told.Entered n) sectors tells = let bad : ⊥ = cc in absurd bad
tells_copying state volume (told.NotEntered entry why) sectors tells = absurd (tells_copying_refusal why sectors tells)
tells_copying state volume (told.Flushed n) sectors tells = let bad : ⊥ = cc in absurd bad
tells_copying state volume (told.Planned plan) sectors tells = let is = tells.1 in let bad : ⊥ = cc in absurd bad
tells_copying state volume told.Released sectors tells = let bad : ⊥ = cc in absurd bad
tells_copying state volume (told.NotReleased plan) sectors tells = let bad : ⊥ = cc in absurd bad
tells_copying state volume (told.Sealed n) sectors tells = let bad : ⊥ = cc in absurd bad
tells_copying state volume (told.Taken job) sectors tells = let is = tells.0 in let bad : ⊥ = cc in absurd bad
tells_copying state volume (told.Done n) sectors tells = let bad : ⊥ = cc in absurd bad
tells_copying state volume (told.NotDone job receipt) sectors tells = let bad : ⊥ = cc in absurd bad
tells_copying state volume told.Returned sectors tells = let bad : ⊥ = cc in absurd bad
tells_copying state volume (told.NotReturned job) sectors tells = let bad : ⊥ = cc in absurd bad
tells_copying state volume (told.Removing receipt) sectors tells = let is = tells.0 in let bad : ⊥ = cc in absurd bad
tells_copying state volume told.Removed sectors tells = let bad : ⊥ = cc in absurd bad
tells_copying state volume told.GivenBack sectors tells = let bad : ⊥ = cc in absurd bad
tells_copying state volume (told.NotGivenBack receipt) sectors tells = let bad : ⊥ = cc in absurd bad
tells_copying state volume (told.Copying plan) sectors tells = (plan, refl)
tells_copying state volume (told.NotSealed copied seal_refusals.NotPlanned) sectors tells = let bad : ⊥ = cc in absurd bad
tells_copying state volume (told.NotSealed copied seal_refusals.Busy) sectors tells = let bad : ⊥ = cc in absurd bad
tells_copying state volume (told.NotSealed copied seal_refusals.OutOfMemory) sectors tells = absurd tells
tells_copying state volume told.Dropped sectors tells = let bad : ⊥ = cc in absurd bad
tells_copying state volume (told.Told a b c d) sectors tells = let bad : ⊥ = cc in absurd bad
tells_copying state volume told.Range sectors tells = let bad : ⊥ = cc in absurd bad
tells_copying state volume told.Nothing sectors tells = let bad : ⊥ = cc in absurd bad
tells_copying state volume told.Busy sectors tells = let bad : ⊥ = cc in absurd bad
tells_copying state volume told.Fault sectors tells = let bad : ⊥ = cc in absurd bad
tells_copying state volume told.OutOfMemory sectors tells = absurd tells

-- that an object was removed
tells_removed_refusal : (why : EntryRefusal) → TellsRefusal why replies.Removed → ⊥
tells_removed_refusal refusals.Range tells = cc
tells_removed_refusal (refusals.Full (full.Sectors sectors)) tells = cc
tells_removed_refusal (refusals.Full (full.Entries entries)) tells = cc
tells_removed_refusal (refusals.NoRoom needed left) tells = cc
tells_removed_refusal refusals.Fault tells = cc
tells_removed_refusal refusals.OutOfMemory tells = tells

pub tells_removed : {R : Type 0} (state : R → ReceiptState) (volume : VolumeState) (reply : Reply R)
    → Tells state volume reply replies.Removed → reply ≡ told.Removed
tells_removed state volume (told.NotEntered entry why) tells = absurd (tells_removed_refusal why tells)
tells_removed state volume (told.Planned plan) tells = let is = tells.1 in let bad : ⊥ = cc in absurd bad
tells_removed state volume (told.Taken job) tells = let is = tells.0 in let bad : ⊥ = cc in absurd bad
tells_removed state volume (told.Removing receipt) tells = let is = tells.0 in let bad : ⊥ = cc in absurd bad
tells_removed state volume told.Removed tells = refl
tells_removed state volume (told.Copying plan) tells = let is = tells.1 in let bad : ⊥ = cc in absurd bad
tells_removed state volume (told.NotSealed copied seal_refusals.NotPlanned) tells = let bad : ⊥ = cc in absurd bad
tells_removed state volume (told.NotSealed copied seal_refusals.Busy) tells = let bad : ⊥ = cc in absurd bad
tells_removed state volume (told.NotSealed copied seal_refusals.OutOfMemory) tells = absurd tells
tells_removed state volume told.OutOfMemory tells = absurd tells
tells_removed state volume reply tells = let bad : ⊥ = cc in absurd bad

-- that all is durable
tells_flushed_refusal : (why : EntryRefusal) (count : ℕ) → TellsRefusal why (replies.Flushed count) → ⊥
tells_flushed_refusal refusals.Range count tells = cc
tells_flushed_refusal (refusals.Full (full.Sectors sectors)) count tells = cc
tells_flushed_refusal (refusals.Full (full.Entries entries)) count tells = cc
tells_flushed_refusal (refusals.NoRoom needed left) count tells = cc
tells_flushed_refusal refusals.Fault count tells = cc
tells_flushed_refusal refusals.OutOfMemory count tells = tells

pub tells_flushed : {R : Type 0} (state : R → ReceiptState) (volume : VolumeState) (reply : Reply R) (count : ℕ)
    → Tells state volume reply (replies.Flushed count) → reply ≡ told.Flushed count
tells_flushed state volume (told.Entered n) count tells = let bad : ⊥ = cc in absurd bad
tells_flushed state volume (told.NotEntered entry why) count tells = absurd (tells_flushed_refusal why count tells)
tells_flushed state volume (told.Flushed n) count tells = (let same : n ≡ count = cc in ap told.Flushed same)
tells_flushed state volume (told.Planned plan) count tells = let is = tells.1 in let bad : ⊥ = cc in absurd bad
tells_flushed state volume told.Released count tells = let bad : ⊥ = cc in absurd bad
tells_flushed state volume (told.NotReleased plan) count tells = let bad : ⊥ = cc in absurd bad
tells_flushed state volume (told.Sealed n) count tells = let bad : ⊥ = cc in absurd bad
tells_flushed state volume (told.Taken job) count tells = let is = tells.0 in let bad : ⊥ = cc in absurd bad
tells_flushed state volume (told.Done n) count tells = let bad : ⊥ = cc in absurd bad
tells_flushed state volume (told.NotDone job receipt) count tells = let bad : ⊥ = cc in absurd bad
tells_flushed state volume told.Returned count tells = let bad : ⊥ = cc in absurd bad
tells_flushed state volume (told.NotReturned job) count tells = let bad : ⊥ = cc in absurd bad
tells_flushed state volume (told.Removing receipt) count tells = let is = tells.0 in let bad : ⊥ = cc in absurd bad
tells_flushed state volume told.Removed count tells = let bad : ⊥ = cc in absurd bad
tells_flushed state volume told.GivenBack count tells = let bad : ⊥ = cc in absurd bad
tells_flushed state volume (told.NotGivenBack receipt) count tells = let bad : ⊥ = cc in absurd bad
tells_flushed state volume (told.Copying plan) count tells = let is = tells.1 in let bad : ⊥ = cc in absurd bad
tells_flushed state volume (told.NotSealed copied seal_refusals.NotPlanned) count tells = let bad : ⊥ = cc in absurd bad
tells_flushed state volume (told.NotSealed copied seal_refusals.Busy) count tells = let bad : ⊥ = cc in absurd bad
tells_flushed state volume (told.NotSealed copied seal_refusals.OutOfMemory) count tells = absurd tells
tells_flushed state volume told.Dropped count tells = let bad : ⊥ = cc in absurd bad
tells_flushed state volume (told.Told a b c d) count tells = let bad : ⊥ = cc in absurd bad
tells_flushed state volume told.Range count tells = let bad : ⊥ = cc in absurd bad
tells_flushed state volume told.Nothing count tells = let bad : ⊥ = cc in absurd bad
tells_flushed state volume told.Busy count tells = let bad : ⊥ = cc in absurd bad
tells_flushed state volume told.Fault count tells = let bad : ⊥ = cc in absurd bad
tells_flushed state volume told.OutOfMemory count tells = absurd tells

-- that a put began
tells_taken_refusal : (why : EntryRefusal) (number : ℕ) → TellsRefusal why (replies.Taken number) → ⊥
tells_taken_refusal refusals.Range number tells = cc
tells_taken_refusal (refusals.Full (full.Sectors sectors)) number tells = cc
tells_taken_refusal (refusals.Full (full.Entries entries)) number tells = cc
tells_taken_refusal (refusals.NoRoom needed left) number tells = cc
tells_taken_refusal refusals.Fault number tells = cc
tells_taken_refusal refusals.OutOfMemory number tells = tells

pub tells_taken : {R : Type 0} (state : R → ReceiptState) (volume : VolumeState) (reply : Reply R) (number : ℕ)
    → Tells state volume reply (replies.Taken number) → (job : JobState) × (reply ≡ told.Taken job)
tells_taken state volume (told.Entered n) number tells = let bad : ⊥ = cc in absurd bad
tells_taken state volume (told.NotEntered entry why) number tells = absurd (tells_taken_refusal why number tells)
tells_taken state volume (told.Flushed n) number tells = let bad : ⊥ = cc in absurd bad
tells_taken state volume (told.Planned plan) number tells = let is = tells.1 in let bad : ⊥ = cc in absurd bad
tells_taken state volume told.Released number tells = let bad : ⊥ = cc in absurd bad
tells_taken state volume (told.NotReleased plan) number tells = let bad : ⊥ = cc in absurd bad
tells_taken state volume (told.Sealed n) number tells = let bad : ⊥ = cc in absurd bad
tells_taken state volume (told.Taken job) number tells = (job, refl)
tells_taken state volume (told.Done n) number tells = let bad : ⊥ = cc in absurd bad
tells_taken state volume (told.NotDone job receipt) number tells = let bad : ⊥ = cc in absurd bad
tells_taken state volume told.Returned number tells = let bad : ⊥ = cc in absurd bad
tells_taken state volume (told.NotReturned job) number tells = let bad : ⊥ = cc in absurd bad
tells_taken state volume (told.Removing receipt) number tells = let is = tells.0 in let bad : ⊥ = cc in absurd bad
tells_taken state volume told.Removed number tells = let bad : ⊥ = cc in absurd bad
tells_taken state volume told.GivenBack number tells = let bad : ⊥ = cc in absurd bad
tells_taken state volume (told.NotGivenBack receipt) number tells = let bad : ⊥ = cc in absurd bad
tells_taken state volume (told.Copying plan) number tells = let is = tells.1 in let bad : ⊥ = cc in absurd bad
tells_taken state volume (told.NotSealed copied seal_refusals.NotPlanned) number tells = let bad : ⊥ = cc in absurd bad
tells_taken state volume (told.NotSealed copied seal_refusals.Busy) number tells = let bad : ⊥ = cc in absurd bad
tells_taken state volume (told.NotSealed copied seal_refusals.OutOfMemory) number tells = absurd tells
tells_taken state volume told.Dropped number tells = let bad : ⊥ = cc in absurd bad
tells_taken state volume (told.Told a b c d) number tells = let bad : ⊥ = cc in absurd bad
tells_taken state volume told.Range number tells = let bad : ⊥ = cc in absurd bad
tells_taken state volume told.Nothing number tells = let bad : ⊥ = cc in absurd bad
tells_taken state volume told.Busy number tells = let bad : ⊥ = cc in absurd bad
tells_taken state volume told.Fault number tells = let bad : ⊥ = cc in absurd bad
tells_taken state volume told.OutOfMemory number tells = absurd tells

-- that an object was sealed
tells_sealed_refusal : (why : EntryRefusal) (number : ℕ) → TellsRefusal why (replies.Sealed number) → ⊥
tells_sealed_refusal refusals.Range number tells = cc
tells_sealed_refusal (refusals.Full (full.Sectors sectors)) number tells = cc
tells_sealed_refusal (refusals.Full (full.Entries entries)) number tells = cc
tells_sealed_refusal (refusals.NoRoom needed left) number tells = cc
tells_sealed_refusal refusals.Fault number tells = cc
tells_sealed_refusal refusals.OutOfMemory number tells = tells

pub tells_sealed : {R : Type 0} (state : R → ReceiptState) (volume : VolumeState) (reply : Reply R) (number : ℕ)
    → Tells state volume reply (replies.Sealed number) → reply ≡ told.Sealed number
tells_sealed state volume (told.Entered n) number tells = let bad : ⊥ = cc in absurd bad
tells_sealed state volume (told.NotEntered entry why) number tells = absurd (tells_sealed_refusal why number tells)
tells_sealed state volume (told.Flushed n) number tells = let bad : ⊥ = cc in absurd bad
tells_sealed state volume (told.Planned plan) number tells = let is = tells.1 in let bad : ⊥ = cc in absurd bad
tells_sealed state volume told.Released number tells = let bad : ⊥ = cc in absurd bad
tells_sealed state volume (told.NotReleased plan) number tells = let bad : ⊥ = cc in absurd bad
tells_sealed state volume (told.Sealed n) number tells = (let same : n ≡ number = cc in ap told.Sealed same)
tells_sealed state volume (told.Taken job) number tells = let is = tells.0 in let bad : ⊥ = cc in absurd bad
tells_sealed state volume (told.Done n) number tells = let bad : ⊥ = cc in absurd bad
tells_sealed state volume (told.NotDone job receipt) number tells = let bad : ⊥ = cc in absurd bad
tells_sealed state volume told.Returned number tells = let bad : ⊥ = cc in absurd bad
tells_sealed state volume (told.NotReturned job) number tells = let bad : ⊥ = cc in absurd bad
tells_sealed state volume (told.Removing receipt) number tells = let is = tells.0 in let bad : ⊥ = cc in absurd bad
tells_sealed state volume told.Removed number tells = let bad : ⊥ = cc in absurd bad
tells_sealed state volume told.GivenBack number tells = let bad : ⊥ = cc in absurd bad
tells_sealed state volume (told.NotGivenBack receipt) number tells = let bad : ⊥ = cc in absurd bad
tells_sealed state volume (told.Copying plan) number tells = let is = tells.1 in let bad : ⊥ = cc in absurd bad
tells_sealed state volume (told.NotSealed copied seal_refusals.NotPlanned) number tells = let bad : ⊥ = cc in absurd bad
tells_sealed state volume (told.NotSealed copied seal_refusals.Busy) number tells = let bad : ⊥ = cc in absurd bad
tells_sealed state volume (told.NotSealed copied seal_refusals.OutOfMemory) number tells = absurd tells
tells_sealed state volume told.Dropped number tells = let bad : ⊥ = cc in absurd bad
tells_sealed state volume (told.Told a b c d) number tells = let bad : ⊥ = cc in absurd bad
tells_sealed state volume told.Range number tells = let bad : ⊥ = cc in absurd bad
tells_sealed state volume told.Nothing number tells = let bad : ⊥ = cc in absurd bad
tells_sealed state volume told.Busy number tells = let bad : ⊥ = cc in absurd bad
tells_sealed state volume told.Fault number tells = let bad : ⊥ = cc in absurd bad
tells_sealed state volume told.OutOfMemory number tells = absurd tells

-- that a read was planned
tells_planned_refusal : (why : EntryRefusal) (read : PlannedRead) → TellsRefusal why (replies.Planned read) → ⊥
tells_planned_refusal refusals.Range read tells = cc
tells_planned_refusal (refusals.Full (full.Sectors sectors)) read tells = cc
tells_planned_refusal (refusals.Full (full.Entries entries)) read tells = cc
tells_planned_refusal (refusals.NoRoom needed left) read tells = cc
tells_planned_refusal refusals.Fault read tells = cc
tells_planned_refusal refusals.OutOfMemory read tells = tells

pub tells_planned : {R : Type 0} (state : R → ReceiptState) (volume : VolumeState) (reply : Reply R) (read : PlannedRead)
    → Tells state volume reply (replies.Planned read) → (plan : PlanState) × (reply ≡ told.Planned plan)
tells_planned state volume (told.Entered n) read tells = let bad : ⊥ = cc in absurd bad
tells_planned state volume (told.NotEntered entry why) read tells = absurd (tells_planned_refusal why read tells)
tells_planned state volume (told.Flushed n) read tells = let bad : ⊥ = cc in absurd bad
tells_planned state volume (told.Planned plan) read tells = (plan, refl)
tells_planned state volume told.Released read tells = let bad : ⊥ = cc in absurd bad
tells_planned state volume (told.NotReleased plan) read tells = let bad : ⊥ = cc in absurd bad
tells_planned state volume (told.Sealed n) read tells = let bad : ⊥ = cc in absurd bad
tells_planned state volume (told.Taken job) read tells = let is = tells.0 in let bad : ⊥ = cc in absurd bad
tells_planned state volume (told.Done n) read tells = let bad : ⊥ = cc in absurd bad
tells_planned state volume (told.NotDone job receipt) read tells = let bad : ⊥ = cc in absurd bad
tells_planned state volume told.Returned read tells = let bad : ⊥ = cc in absurd bad
tells_planned state volume (told.NotReturned job) read tells = let bad : ⊥ = cc in absurd bad
tells_planned state volume (told.Removing receipt) read tells = let is = tells.0 in let bad : ⊥ = cc in absurd bad
tells_planned state volume told.Removed read tells = let bad : ⊥ = cc in absurd bad
tells_planned state volume told.GivenBack read tells = let bad : ⊥ = cc in absurd bad
tells_planned state volume (told.NotGivenBack receipt) read tells = let bad : ⊥ = cc in absurd bad
tells_planned state volume (told.Copying plan) read tells = let is = tells.1 in let bad : ⊥ = cc in absurd bad
tells_planned state volume (told.NotSealed copied seal_refusals.NotPlanned) read tells = let bad : ⊥ = cc in absurd bad
tells_planned state volume (told.NotSealed copied seal_refusals.Busy) read tells = let bad : ⊥ = cc in absurd bad
tells_planned state volume (told.NotSealed copied seal_refusals.OutOfMemory) read tells = absurd tells
tells_planned state volume told.Dropped read tells = let bad : ⊥ = cc in absurd bad
tells_planned state volume (told.Told a b c d) read tells = let bad : ⊥ = cc in absurd bad
tells_planned state volume told.Range read tells = let bad : ⊥ = cc in absurd bad
tells_planned state volume told.Nothing read tells = let bad : ⊥ = cc in absurd bad
tells_planned state volume told.Busy read tells = let bad : ⊥ = cc in absurd bad
tells_planned state volume told.Fault read tells = let bad : ⊥ = cc in absurd bad
tells_planned state volume told.OutOfMemory read tells = absurd tells

-- that the removal of an object began
tells_removing_refusal : (why : EntryRefusal) (number : ℕ) → TellsRefusal why (replies.Removing number) → ⊥
tells_removing_refusal refusals.Range number tells = cc
tells_removing_refusal (refusals.Full (full.Sectors sectors)) number tells = cc
tells_removing_refusal (refusals.Full (full.Entries entries)) number tells = cc
tells_removing_refusal (refusals.NoRoom needed left) number tells = cc
tells_removing_refusal refusals.Fault number tells = cc
tells_removing_refusal refusals.OutOfMemory number tells = tells

pub tells_removing : {R : Type 0} (state : R → ReceiptState) (volume : VolumeState) (reply : Reply R) (number : ℕ)
    → Tells state volume reply (replies.Removing number) → (receipt : R) × (reply ≡ told.Removing receipt)
tells_removing state volume (told.Entered n) number tells = let bad : ⊥ = cc in absurd bad
tells_removing state volume (told.NotEntered entry why) number tells = absurd (tells_removing_refusal why number tells)
tells_removing state volume (told.Flushed n) number tells = let bad : ⊥ = cc in absurd bad
tells_removing state volume (told.Planned plan) number tells = let is = tells.1 in let bad : ⊥ = cc in absurd bad
tells_removing state volume told.Released number tells = let bad : ⊥ = cc in absurd bad
tells_removing state volume (told.NotReleased plan) number tells = let bad : ⊥ = cc in absurd bad
tells_removing state volume (told.Sealed n) number tells = let bad : ⊥ = cc in absurd bad
tells_removing state volume (told.Taken job) number tells = let is = tells.0 in let bad : ⊥ = cc in absurd bad
tells_removing state volume (told.Done n) number tells = let bad : ⊥ = cc in absurd bad
tells_removing state volume (told.NotDone job receipt) number tells = let bad : ⊥ = cc in absurd bad
tells_removing state volume told.Returned number tells = let bad : ⊥ = cc in absurd bad
tells_removing state volume (told.NotReturned job) number tells = let bad : ⊥ = cc in absurd bad
tells_removing state volume (told.Removing receipt) number tells = (receipt, refl)
tells_removing state volume told.Removed number tells = let bad : ⊥ = cc in absurd bad
tells_removing state volume told.GivenBack number tells = let bad : ⊥ = cc in absurd bad
tells_removing state volume (told.NotGivenBack receipt) number tells = let bad : ⊥ = cc in absurd bad
tells_removing state volume (told.Copying plan) number tells = let is = tells.1 in let bad : ⊥ = cc in absurd bad
tells_removing state volume (told.NotSealed copied seal_refusals.NotPlanned) number tells = let bad : ⊥ = cc in absurd bad
tells_removing state volume (told.NotSealed copied seal_refusals.Busy) number tells = let bad : ⊥ = cc in absurd bad
tells_removing state volume (told.NotSealed copied seal_refusals.OutOfMemory) number tells = absurd tells
tells_removing state volume told.Dropped number tells = let bad : ⊥ = cc in absurd bad
tells_removing state volume (told.Told a b c d) number tells = let bad : ⊥ = cc in absurd bad
tells_removing state volume told.Range number tells = let bad : ⊥ = cc in absurd bad
tells_removing state volume told.Nothing number tells = let bad : ⊥ = cc in absurd bad
tells_removing state volume told.Busy number tells = let bad : ⊥ = cc in absurd bad
tells_removing state volume told.Fault number tells = let bad : ⊥ = cc in absurd bad
tells_removing state volume told.OutOfMemory number tells = absurd tells

-- the counts
tells_told_refusal : (why : EntryRefusal) (writes sealed frontier checkpoint : ℕ)
    → TellsRefusal why (replies.Told writes sealed frontier checkpoint) → ⊥
tells_told_refusal refusals.Range w s f k tells = cc
tells_told_refusal (refusals.Full (full.Sectors sectors)) w s f k tells = cc
tells_told_refusal (refusals.Full (full.Entries entries)) w s f k tells = cc
tells_told_refusal (refusals.NoRoom needed left) w s f k tells = cc
tells_told_refusal refusals.Fault w s f k tells = cc
tells_told_refusal refusals.OutOfMemory w s f k tells = tells

pub tells_told : {R : Type 0} (state : R → ReceiptState) (volume : VolumeState) (reply : Reply R)
    (writes sealed frontier checkpoint : ℕ)
    → Tells state volume reply (replies.Told writes sealed frontier checkpoint)
    → reply ≡ told.Told writes sealed frontier checkpoint
tells_told state volume (told.Entered n) w s f k tells = let bad : ⊥ = cc in absurd bad
tells_told state volume (told.NotEntered entry why) w s f k tells = absurd (tells_told_refusal why w s f k tells)
tells_told state volume (told.Flushed n) w s f k tells = let bad : ⊥ = cc in absurd bad
tells_told state volume (told.Planned plan) w s f k tells = let is = tells.1 in let bad : ⊥ = cc in absurd bad
tells_told state volume told.Released w s f k tells = let bad : ⊥ = cc in absurd bad
tells_told state volume (told.NotReleased plan) w s f k tells = let bad : ⊥ = cc in absurd bad
tells_told state volume (told.Sealed n) w s f k tells = let bad : ⊥ = cc in absurd bad
tells_told state volume (told.Taken job) w s f k tells = let is = tells.0 in let bad : ⊥ = cc in absurd bad
tells_told state volume (told.Done n) w s f k tells = let bad : ⊥ = cc in absurd bad
tells_told state volume (told.NotDone job receipt) w s f k tells = let bad : ⊥ = cc in absurd bad
tells_told state volume told.Returned w s f k tells = let bad : ⊥ = cc in absurd bad
tells_told state volume (told.NotReturned job) w s f k tells = let bad : ⊥ = cc in absurd bad
tells_told state volume (told.Removing receipt) w s f k tells = let is = tells.0 in let bad : ⊥ = cc in absurd bad
tells_told state volume told.Removed w s f k tells = let bad : ⊥ = cc in absurd bad
tells_told state volume told.GivenBack w s f k tells = let bad : ⊥ = cc in absurd bad
tells_told state volume (told.NotGivenBack receipt) w s f k tells = let bad : ⊥ = cc in absurd bad
tells_told state volume (told.Copying plan) w s f k tells = let is = tells.1 in let bad : ⊥ = cc in absurd bad
tells_told state volume (told.NotSealed copied seal_refusals.NotPlanned) w s f k tells = let bad : ⊥ = cc in absurd bad
tells_told state volume (told.NotSealed copied seal_refusals.Busy) w s f k tells = let bad : ⊥ = cc in absurd bad
tells_told state volume (told.NotSealed copied seal_refusals.OutOfMemory) w s f k tells = absurd tells
tells_told state volume told.Dropped w s f k tells = let bad : ⊥ = cc in absurd bad
tells_told state volume (told.Told a b c d) w s f k tells = cc
tells_told state volume told.Range w s f k tells = let bad : ⊥ = cc in absurd bad
tells_told state volume told.Nothing w s f k tells = let bad : ⊥ = cc in absurd bad
tells_told state volume told.Busy w s f k tells = let bad : ⊥ = cc in absurd bad
tells_told state volume told.Fault w s f k tells = let bad : ⊥ = cc in absurd bad
tells_told state volume told.OutOfMemory w s f k tells = absurd tells

-- that a call of the device failed
pub tells_failed : {R : Type 0} (state : R → ReceiptState) (volume : VolumeState) (reply : Reply R)
    → Tells state volume reply replies.Fault → tells_fault reply ≡ true
tells_failed state volume (told.Entered n) tells = let bad : ⊥ = cc in absurd bad
tells_failed state volume (told.NotEntered entry refusals.Range) tells = let bad : ⊥ = cc in absurd bad
tells_failed state volume (told.NotEntered entry (refusals.Full (full.Sectors sectors))) tells = let bad : ⊥ = cc in absurd bad
tells_failed state volume (told.NotEntered entry (refusals.Full (full.Entries entries))) tells = let bad : ⊥ = cc in absurd bad
tells_failed state volume (told.NotEntered entry (refusals.NoRoom needed left)) tells = let bad : ⊥ = cc in absurd bad
tells_failed state volume (told.NotEntered entry refusals.Fault) tells = refl
tells_failed state volume (told.NotEntered entry refusals.OutOfMemory) tells = absurd tells
tells_failed state volume (told.Flushed n) tells = let bad : ⊥ = cc in absurd bad
tells_failed state volume (told.Planned plan) tells = let is = tells.1 in let bad : ⊥ = cc in absurd bad
tells_failed state volume told.Released tells = let bad : ⊥ = cc in absurd bad
tells_failed state volume (told.NotReleased plan) tells = let bad : ⊥ = cc in absurd bad
tells_failed state volume (told.Sealed n) tells = let bad : ⊥ = cc in absurd bad
tells_failed state volume (told.Taken job) tells = let is = tells.0 in let bad : ⊥ = cc in absurd bad
tells_failed state volume (told.Done n) tells = let bad : ⊥ = cc in absurd bad
tells_failed state volume (told.NotDone job receipt) tells = let bad : ⊥ = cc in absurd bad
tells_failed state volume told.Returned tells = let bad : ⊥ = cc in absurd bad
tells_failed state volume (told.NotReturned job) tells = let bad : ⊥ = cc in absurd bad
tells_failed state volume (told.Removing receipt) tells = let is = tells.0 in let bad : ⊥ = cc in absurd bad
tells_failed state volume told.Removed tells = let bad : ⊥ = cc in absurd bad
tells_failed state volume told.GivenBack tells = let bad : ⊥ = cc in absurd bad
tells_failed state volume (told.NotGivenBack receipt) tells = let bad : ⊥ = cc in absurd bad
tells_failed state volume (told.Copying plan) tells = let is = tells.1 in let bad : ⊥ = cc in absurd bad
tells_failed state volume (told.NotSealed copied seal_refusals.NotPlanned) tells = let bad : ⊥ = cc in absurd bad
tells_failed state volume (told.NotSealed copied seal_refusals.Busy) tells = let bad : ⊥ = cc in absurd bad
tells_failed state volume (told.NotSealed copied seal_refusals.OutOfMemory) tells = absurd tells
tells_failed state volume told.Dropped tells = let bad : ⊥ = cc in absurd bad
tells_failed state volume (told.Told a b c d) tells = let bad : ⊥ = cc in absurd bad
tells_failed state volume told.Range tells = let bad : ⊥ = cc in absurd bad
tells_failed state volume told.Nothing tells = let bad : ⊥ = cc in absurd bad
tells_failed state volume told.Busy tells = let bad : ⊥ = cc in absurd bad
tells_failed state volume told.Fault tells = refl
tells_failed state volume told.OutOfMemory tells = absurd tells

-- a reply that tells another one than a fault tells none
pub tells_no_fault : {R : Type 0} (state : R → ReceiptState) (volume : VolumeState) (reply : Reply R) (plain : PlainReply)
    → Tells state volume reply plain → (plain ≡ replies.Fault → ⊥) → tells_fault reply ≡ false
tells_no_fault state volume (told.Entered n) plain tells other = refl
tells_no_fault state volume (told.NotEntered entry refusals.Range) plain tells other = refl
tells_no_fault state volume (told.NotEntered entry (refusals.Full why)) plain tells other = refl
tells_no_fault state volume (told.NotEntered entry (refusals.NoRoom needed left)) plain tells other = refl
tells_no_fault state volume (told.NotEntered entry refusals.Fault) plain tells other = absurd (other tells)
tells_no_fault state volume (told.NotEntered entry refusals.OutOfMemory) plain tells other = refl
tells_no_fault state volume (told.Flushed n) plain tells other = refl
tells_no_fault state volume (told.Planned plan) plain tells other = refl
tells_no_fault state volume told.Released plain tells other = refl
tells_no_fault state volume (told.NotReleased plan) plain tells other = refl
tells_no_fault state volume (told.Sealed n) plain tells other = refl
tells_no_fault state volume (told.Taken job) plain tells other = refl
tells_no_fault state volume (told.Done n) plain tells other = refl
tells_no_fault state volume (told.NotDone job receipt) plain tells other = refl
tells_no_fault state volume told.Returned plain tells other = refl
tells_no_fault state volume (told.NotReturned job) plain tells other = refl
tells_no_fault state volume (told.Removing receipt) plain tells other = refl
tells_no_fault state volume told.Removed plain tells other = refl
tells_no_fault state volume told.GivenBack plain tells other = refl
tells_no_fault state volume (told.NotGivenBack receipt) plain tells other = refl
tells_no_fault state volume (told.Copying copying) plain tells other = refl
tells_no_fault state volume (told.NotSealed copied why) plain tells other = refl
tells_no_fault state volume told.Dropped plain tells other = refl
tells_no_fault state volume (told.Told a b c d) plain tells other = refl
tells_no_fault state volume told.Range plain tells other = refl
tells_no_fault state volume told.Nothing plain tells other = refl
tells_no_fault state volume told.Busy plain tells other = refl
tells_no_fault state volume told.Fault plain tells other = absurd (other tells)
tells_no_fault state volume told.OutOfMemory plain tells other = refl
