-- What is answered to a reply of a volume says what the plain volume replies.
use Rattle.std.proofs.Common.{◌≡◌, ℕ, List, sym, subst, length}
use Rattle.std.specs.Prelude.{Bool, true, false, not, ◌&&◌, if◌then◌else◌, Option, Some, None, is_some, IfSome, unwrap_or}
use Rattle.std.specs.Prelude.{option_map}
use Rattle.std.specs.List.{sum_by}
use Rattle.lsvd_base.specs.declared.entry.Entry.{Entry}
use Rattle.lsvd_base.specs.declared.entry.Entry.TheVariants as entries
use Rattle.lsvd_base.specs.Range.{is_in_range}
use Rattle.batcher.specs.Batch.{data_sectors, fullness}
use Rattle.batcher.specs.declared.full.Full.{Full}
use Rattle.batcher.specs.declared.full.Full.TheVariants as full
use Rattle.lsvd_objstore.specs.Memory.{Kept, told_receipt}
use Rattle.plain_disk.specs.declared.event.PlainEvent.{PlainEvent}
use Rattle.plain_disk.specs.declared.event.PlainEvent.TheVariants as events
use Rattle.plain_disk.specs.declared.event.PlainReply.{PlainReply}
use Rattle.plain_disk.specs.declared.event.PlainReply.TheVariants as replies
use Rattle.plain_disk.specs.Cache.{PlainCache, passes_commit, passes_entry}
use Rattle.plain_disk.specs.State.{PlainState, unsealed_entries}
use Rattle.plain_disk.specs.Entries.{reply_of_full, batch_refusal, has_room_for, cache_for, commits_are_made, room_reply}
use Rattle.plain_disk.specs.Entries.{enter_reply}
use Rattle.plain_disk.specs.Objects.{is_busy, has_unsealed, is_under_way}
use Rattle.plain_disk.specs.Step.{plain_reply}
use Rattle.vol_core.specs.declared.event.Event.{Event}
use Rattle.vol_core.specs.declared.event.Event.TheVariants.{Write, Zero, Flush, Look, Release, Seal, TakeJob, JobDone, JobFailed}
use Rattle.vol_core.specs.declared.event.Event.TheVariants.{SealCheckpoint, TakeRemove, RemoveDone}
use Rattle.vol_core.specs.declared.event.Event.TheVariants.{RemoveFailed, PlanCopy, SealCopy}
use Rattle.vol_core.specs.declared.event.Event.TheVariants.{DropPlan, Status}
use Rattle.vol_core.specs.declared.reply.EntryRefusal.{EntryRefusal}
use Rattle.vol_core.specs.declared.reply.EntryRefusal.TheVariants as refusals
use Rattle.vol_core.specs.declared.reply.Reply.{Reply}
use Rattle.vol_core.specs.declared.reply.Reply.TheVariants as told
use Rattle.vol_core.specs.Volume.{VolumeState}
use Rattle.vol_core.specs.declared.reply.SealRefusal.{SealRefusal}
use Rattle.vol_core.specs.declared.reply.SealRefusal.TheVariants as seal_refusals
use Rattle.gc_copier.specs.Copying.{CopiedState}
use Rattle.vol_core.specs.Events.{Asks, Tells, TellsRefusal, TellsSealRefusal}
use Rattle.vol_core.specs.Step.{HasItsReceipt, lacks_memory}
use Rattle.replay_rig.specs.declared.answer.Answer.{Answer}
use Rattle.replay_rig.specs.Answers.{SaysReply, SaysRefusal, SaysSealRefusal, SaysCounts}
use Rattle.replay_rig.specs.Steps.{is_counted}

-- ---- replies with counts

-- a reply that hands nothing out but counts, and tells of no plan that came back, nor of a put that failed, nor of a removal
abbrev pub IsCountReply : PlainReply → Type 0
IsCountReply (replies.Entered count) = Unit {0}
IsCountReply (replies.Flushed count) = Unit {0}
IsCountReply (replies.Planned read) = ⊥
IsCountReply replies.Released = ⊥
IsCountReply (replies.Sealed number) = Unit {0}
IsCountReply (replies.Taken number) = ⊥
IsCountReply (replies.Done frontier) = Unit {0}
IsCountReply replies.Returned = ⊥
IsCountReply (replies.Removing number) = ⊥
IsCountReply replies.Removed = ⊥
IsCountReply replies.GivenBack = ⊥
IsCountReply (replies.Copying sectors) = ⊥
IsCountReply replies.Dropped = Unit {0}
IsCountReply (replies.Told writes sealed frontier checkpoint) = Unit {0}
IsCountReply (replies.BatchFull sectors) = Unit {0}
IsCountReply (replies.EntriesFull count) = Unit {0}
IsCountReply (replies.NoRoom lacking left) = Unit {0}
IsCountReply replies.Range = Unit {0}
IsCountReply replies.Nothing = Unit {0}
IsCountReply replies.Busy = Unit {0}
IsCountReply replies.Fault = Unit {0}

either_counts : (b : Bool) (x y : PlainReply) → IsCountReply x → IsCountReply y → IsCountReply (if b then x else y)
either_counts true x y is other = is
either_counts false x y is other = other

unwrapped_counts : (found : Option PlainReply) (instead : PlainReply) → IfSome found IsCountReply → IsCountReply instead
    → IsCountReply (unwrap_or found instead)
unwrapped_counts None instead is other = other
unwrapped_counts (Some reply) instead is other = is

full_counts : (found : Option Full) → IfSome (option_map reply_of_full found) IsCountReply
full_counts None = tt
full_counts (Some (full.Sectors sectors)) = tt
full_counts (Some (full.Entries count)) = tt

refusal_counts : (b : Bool) (found : Option Full) → IfSome (if b then option_map reply_of_full found else Some replies.Range)
    IsCountReply
refusal_counts true found = full_counts found
refusal_counts false found = tt

room_counts : (plain : PlainState) (ready : PlainCache) (entry : Entry) → IsCountReply (room_reply plain ready entry)
room_counts plain ready entry =
    either_counts (not (commits_are_made plain entry)) _ _ tt
    (either_counts (not (has_room_for ready entry)) _ _ tt (either_counts (passes_entry ready entry) _ _ tt tt))

entry_counts : (plain : PlainState) (entry : Entry) → IsCountReply (enter_reply plain entry)
entry_counts plain entry =
    let unsealed : List Entry = unsealed_entries plain in
    unwrapped_counts (batch_refusal plain entry) (room_reply plain (cache_for plain entry) entry)
    (refusal_counts (is_in_range plain.geometry entry) (fullness plain.geometry.batch (sum_by data_sectors unsealed)
    (length unsealed)))
    (room_counts plain (cache_for plain entry) entry)

pub done_counts : (plain : PlainState) (job : Option ℕ) → IsCountReply (plain_reply plain (events.JobDone job))
done_counts plain job = either_counts (is_under_way job plain.window) _ _ tt tt

pub copy_counts : (plain : PlainState) (is_planned : Bool) → IsCountReply (plain_reply plain (events.SealCopy is_planned))
copy_counts plain is_planned =
    either_counts (is_some plain.plan && is_planned) _ _ (either_counts (is_busy plain) _ _ tt tt) tt

pub drop_counts : (plain : PlainState) → IsCountReply (plain_reply plain events.DropPlan)
drop_counts plain = either_counts (is_some plain.plan) _ _ tt tt

-- ---- what is said

says_refusal : (why : EntryRefusal) (reply : PlainReply) (answer : Answer) → TellsRefusal why reply → SaysRefusal why answer
    → SaysReply reply answer
says_refusal refusals.Range reply answer tells says = subst (λ r. SaysReply r answer) (sym tells) says
says_refusal (refusals.Full (full.Sectors sectors)) reply answer tells says = subst (λ r. SaysReply r answer) (sym tells) says
says_refusal (refusals.Full (full.Entries count)) reply answer tells says = subst (λ r. SaysReply r answer) (sym tells) says
says_refusal (refusals.NoRoom lacking left) reply answer tells says = subst (λ r. SaysReply r answer) (sym tells) says
says_refusal refusals.Fault reply answer tells says = subst (λ r. SaysReply r answer) (sym tells) says
says_refusal refusals.OutOfMemory reply answer tells says = absurd tells

-- so is why what was copied was not sealed
says_unsealed : (why : SealRefusal) (reply : PlainReply) (answer : Answer) → TellsSealRefusal why reply
    → SaysSealRefusal why answer → SaysReply reply answer
says_unsealed seal_refusals.NotPlanned reply answer tells says = subst (λ r. SaysReply r answer) (sym tells) says
says_unsealed seal_refusals.Busy reply answer tells says = subst (λ r. SaysReply r answer) (sym tells) says
says_unsealed seal_refusals.OutOfMemory reply answer tells says = absurd tells

pub says_reply : (volume : VolumeState) (reply : Reply Kept) (plain : PlainReply) (answer : Answer)
    → Tells told_receipt volume reply plain → IsCountReply plain → SaysCounts reply answer → SaysReply plain answer
says_reply volume (told.Entered count) plain answer tells counts says = subst (λ r. SaysReply r answer) (sym tells) says
says_reply volume (told.NotEntered entry why) plain answer tells counts says = says_refusal why plain answer tells says
says_reply volume (told.Flushed count) plain answer tells counts says = subst (λ r. SaysReply r answer) (sym tells) says
says_reply volume (told.Planned plan) plain answer tells counts says = absurd (subst IsCountReply tells.1 counts)
says_reply volume told.Released plain answer tells counts says = absurd (subst IsCountReply tells counts)
says_reply volume (told.NotReleased plan) plain answer tells counts says = subst (λ r. SaysReply r answer) (sym tells) says
says_reply volume (told.Sealed number) plain answer tells counts says = subst (λ r. SaysReply r answer) (sym tells) says
says_reply volume (told.Taken job) plain answer tells counts says = absurd (subst IsCountReply tells.0 counts)
says_reply volume (told.Done frontier) plain answer tells counts says = subst (λ r. SaysReply r answer) (sym tells) says
says_reply volume (told.NotDone job receipt) plain answer tells counts says = subst (λ r. SaysReply r answer) (sym tells) says
says_reply volume told.Returned plain answer tells counts says = absurd (subst IsCountReply tells counts)
says_reply volume (told.NotReturned job) plain answer tells counts says = subst (λ r. SaysReply r answer) (sym tells) says
says_reply volume (told.Removing receipt) plain answer tells counts says = absurd (subst IsCountReply tells.0 counts)
says_reply volume told.Removed plain answer tells counts says = absurd (subst IsCountReply tells counts)
says_reply volume told.GivenBack plain answer tells counts says = absurd (subst IsCountReply tells counts)
says_reply volume (told.NotGivenBack receipt) plain answer tells counts says = subst (λ r. SaysReply r answer) (sym tells) says
says_reply volume (told.Copying plan) plain answer tells counts says = absurd (subst IsCountReply tells.1 counts)
says_reply volume (told.NotSealed copied why) plain answer tells counts says = says_unsealed why plain answer tells says
says_reply volume told.Dropped plain answer tells counts says = subst (λ r. SaysReply r answer) (sym tells) says
says_reply volume (told.Told writes sealed frontier checkpoint) plain answer tells counts says =
    subst (λ r. SaysReply r answer) (sym tells) says
says_reply volume told.Range plain answer tells counts says = subst (λ r. SaysReply r answer) (sym tells) says
says_reply volume told.Nothing plain answer tells counts says = subst (λ r. SaysReply r answer) (sym tells) says
says_reply volume told.Busy plain answer tells counts says = subst (λ r. SaysReply r answer) (sym tells) says
says_reply volume told.Fault plain answer tells counts says = subst (λ r. SaysReply r answer) (sym tells) says
says_reply volume told.OutOfMemory plain answer tells counts says = absurd tells

-- nothing is answered where memory lacks
lacks_by : (why : EntryRefusal) (entry : Entry) (answer : Answer) → lacks_memory {R = Kept} (told.NotEntered entry why) ≡ true
    → SaysRefusal why answer → ⊥
lacks_by refusals.Range entry answer lacks says = cc
lacks_by (refusals.Full why) entry answer lacks says = cc
lacks_by (refusals.NoRoom lacking left) entry answer lacks says = cc
lacks_by refusals.Fault entry answer lacks says = cc
lacks_by refusals.OutOfMemory entry answer lacks says = says

lacks_unsealed : (why : SealRefusal) (copied : CopiedState) (answer : Answer)
    → lacks_memory {R = Kept} (told.NotSealed copied why) ≡ true → SaysSealRefusal why answer → ⊥
lacks_unsealed seal_refusals.NotPlanned copied answer lacks says = cc
lacks_unsealed seal_refusals.Busy copied answer lacks says = cc
lacks_unsealed seal_refusals.OutOfMemory copied answer lacks says = says

pub lacks_unsaid : (reply : Reply Kept) (answer : Answer) → lacks_memory reply ≡ true → SaysCounts reply answer → ⊥
lacks_unsaid (told.NotEntered entry why) answer lacks says = lacks_by why entry answer lacks says
lacks_unsaid (told.NotSealed copied why) answer lacks says = lacks_unsealed why copied answer lacks says
lacks_unsaid told.OutOfMemory answer lacks says = says
lacks_unsaid reply answer lacks says = cc

-- ---- events that hand out counts

-- what such an event asks for depends on no volume, and is answered by counts
pub counted_asks : (event : Event Kept) (asked : PlainEvent) (volume other : VolumeState) → is_counted event ≡ true
    → Asks told_receipt volume event asked → Asks told_receipt other event asked
counted_asks (Write lba body) asked volume other is asks = asks
counted_asks (Zero lba sectors) asked volume other is asks = asks
counted_asks Flush asked volume other is asks = asks
counted_asks Seal asked volume other is asks = asks
counted_asks SealCheckpoint asked volume other is asks = asks
counted_asks Status asked volume other is asks = asks
counted_asks (Look lba sectors) asked volume other is asks = cc
counted_asks (Release plan) asked volume other is asks = cc
counted_asks TakeJob asked volume other is asks = cc
counted_asks (JobDone job receipt) asked volume other is asks = cc
counted_asks (JobFailed job) asked volume other is asks = cc
counted_asks TakeRemove asked volume other is asks = cc
counted_asks (RemoveDone number) asked volume other is asks = cc
counted_asks (RemoveFailed receipt) asked volume other is asks = cc
counted_asks PlanCopy asked volume other is asks = cc
counted_asks (SealCopy copied) asked volume other is asks = cc
counted_asks DropPlan asked volume other is asks = cc

pub counted_reply : (event : Event Kept) (asked : PlainEvent) (volume : VolumeState) (plain : PlainState)
    → is_counted event ≡ true
    → Asks told_receipt volume event asked → IsCountReply (plain_reply plain asked)
counted_reply (Write lba body) asked volume plain is asks =
    subst (λ e. IsCountReply (plain_reply plain e)) (sym asks) (entry_counts plain (entries.Write lba body))
counted_reply (Zero lba sectors) asked volume plain is asks =
    subst (λ e. IsCountReply (plain_reply plain e)) (sym asks) (entry_counts plain (entries.Zero lba sectors))
counted_reply Flush asked volume plain is asks =
    subst (λ e. IsCountReply (plain_reply plain e)) (sym asks) (either_counts (passes_commit plain.cache) _ _ tt tt)
counted_reply Seal asked volume plain is asks =
    subst (λ e. IsCountReply (plain_reply plain e)) (sym asks)
    (either_counts (has_unsealed plain) _ _ (either_counts (is_busy plain) _ _ tt tt) tt)
counted_reply SealCheckpoint asked volume plain is asks =
    subst (λ e. IsCountReply (plain_reply plain e)) (sym asks) (either_counts (is_busy plain) _ _ tt tt)
counted_reply Status asked volume plain is asks = subst (λ e. IsCountReply (plain_reply plain e)) (sym asks) tt
counted_reply (Look lba sectors) asked volume plain is asks = cc
counted_reply (Release plan) asked volume plain is asks = cc
counted_reply TakeJob asked volume plain is asks = cc
counted_reply (JobDone job receipt) asked volume plain is asks = cc
counted_reply (JobFailed job) asked volume plain is asks = cc
counted_reply TakeRemove asked volume plain is asks = cc
counted_reply (RemoveDone number) asked volume plain is asks = cc
counted_reply (RemoveFailed receipt) asked volume plain is asks = cc
counted_reply PlanCopy asked volume plain is asks = cc
counted_reply (SealCopy copied) asked volume plain is asks = cc
counted_reply DropPlan asked volume plain is asks = cc

pub counted_receipt : (event : Event Kept) → is_counted event ≡ true → HasItsReceipt told_receipt event
counted_receipt (Write lba body) is = tt
counted_receipt (Zero lba sectors) is = tt
counted_receipt Flush is = tt
counted_receipt (Look lba sectors) is = tt
counted_receipt (Release plan) is = tt
counted_receipt Seal is = tt
counted_receipt TakeJob is = tt
counted_receipt (JobDone job receipt) is = cc
counted_receipt (JobFailed job) is = tt
counted_receipt SealCheckpoint is = tt
counted_receipt TakeRemove is = tt
counted_receipt (RemoveDone number) is = tt
counted_receipt (RemoveFailed receipt) is = tt
counted_receipt PlanCopy is = tt
counted_receipt (SealCopy copied) is = tt
counted_receipt DropPlan is = tt
counted_receipt Status is = tt
