-- Contract: which answer says a reply of the plain volume, and for this crate's own clauses, which says a reply of the volume.
use Rattle.std.specs.Prelude.{◌≡◌, ℕ, length}
use Rattle.std.specs.Global.{Vec}
use Rattle.plain_disk.specs.declared.event.PlainReply.{PlainReply}
use Rattle.plain_disk.specs.declared.event.PlainReply.TheVariants as replies
use Rattle.batcher.specs.declared.full.Full.TheVariants as full
use Rattle.vol_core.specs.declared.reply.EntryRefusal.{EntryRefusal}
use Rattle.vol_core.specs.declared.reply.EntryRefusal.TheVariants as refusals
use Rattle.vol_core.specs.declared.reply.SealRefusal.{SealRefusal}
use Rattle.vol_core.specs.declared.reply.SealRefusal.TheVariants as seal_refusals
use Rattle.vol_core.specs.declared.reply.Reply.{Reply}
use Rattle.vol_core.specs.declared.reply.Reply.TheVariants as told
use Rattle.replay_rig.specs.declared.answer.Answer.{Answer}
use Rattle.replay_rig.specs.declared.answer.Answer.TheVariants.{Entries, Sectors, Sealed, Put, Done, Gone, Copied}
use Rattle.replay_rig.specs.declared.answer.Answer.TheVariants.{Dropped, Counts, BatchFull, EntriesFull, NoRoom, Range, Nothing}
use Rattle.replay_rig.specs.declared.answer.Answer.TheVariants.{Busy, Fault}

-- the answer that says a reply of the plain volume; those to a plan that is given back, to a put that fails, and to a removal
-- that is done or fails are no answers
abbrev pub SaysReply : PlainReply → Answer → Type 0
SaysReply (replies.Entered count) answer = answer ≡ Entries count
SaysReply (replies.Flushed count) answer = answer ≡ Entries count
SaysReply (replies.Planned read) answer = (held : Vec ℕ) × (answer ≡ Sectors held) × (held.items ≡ read.data)
SaysReply replies.Released answer = ⊥
SaysReply (replies.Sealed number) answer = answer ≡ Sealed number
SaysReply (replies.Taken number) answer = answer ≡ Put number
SaysReply (replies.Done frontier) answer = answer ≡ Done frontier
SaysReply replies.Returned answer = ⊥
SaysReply (replies.Removing number) answer = answer ≡ Gone number
SaysReply replies.Removed answer = ⊥
SaysReply replies.GivenBack answer = ⊥
SaysReply (replies.Copying sectors) answer = answer ≡ Copied (length sectors)
SaysReply replies.Dropped answer = answer ≡ Dropped
SaysReply (replies.Told writes sealed frontier checkpoint) answer = answer ≡ Counts writes sealed frontier
SaysReply (replies.BatchFull sectors) answer = answer ≡ BatchFull sectors
SaysReply (replies.EntriesFull count) answer = answer ≡ EntriesFull count
SaysReply (replies.NoRoom lacking left) answer = answer ≡ NoRoom lacking left
SaysReply replies.Range answer = answer ≡ Range
SaysReply replies.Nothing answer = answer ≡ Nothing
SaysReply replies.Busy answer = answer ≡ Busy
SaysReply replies.Fault answer = answer ≡ Fault

-- ---- replies of the volume

-- the answer that says why an entry was not entered; want of memory is no answer
abbrev pub SaysRefusal : EntryRefusal → Answer → Type 0
SaysRefusal refusals.Range answer = answer ≡ Range
SaysRefusal (refusals.Full (full.Sectors sectors)) answer = answer ≡ BatchFull sectors
SaysRefusal (refusals.Full (full.Entries count)) answer = answer ≡ EntriesFull count
SaysRefusal (refusals.NoRoom lacking left) answer = answer ≡ NoRoom lacking left
SaysRefusal refusals.Fault answer = answer ≡ Fault
SaysRefusal refusals.OutOfMemory answer = ⊥

-- so it is with what was copied and not sealed
abbrev pub SaysSealRefusal : SealRefusal → Answer → Type 0
SaysSealRefusal seal_refusals.NotPlanned answer = answer ≡ Nothing
SaysSealRefusal seal_refusals.Busy answer = answer ≡ Busy
SaysSealRefusal seal_refusals.OutOfMemory answer = ⊥

-- The answer that says a reply of the volume which hands out no more than counts. Nothing is said of the others but that they are
-- no want of memory.
abbrev pub SaysCounts : {R : Type 0} → Reply R → Answer → Type 0
SaysCounts (told.Entered count) answer = answer ≡ Entries count
SaysCounts (told.NotEntered entry why) answer = SaysRefusal why answer
SaysCounts (told.Flushed count) answer = answer ≡ Entries count
SaysCounts (told.Planned plan) answer = Unit {0}
SaysCounts told.Released answer = Unit {0}
SaysCounts (told.NotReleased plan) answer = answer ≡ Nothing
SaysCounts (told.Sealed number) answer = answer ≡ Sealed number
SaysCounts (told.Taken job) answer = Unit {0}
SaysCounts (told.Done frontier) answer = answer ≡ Done frontier
SaysCounts (told.NotDone job receipt) answer = answer ≡ Nothing
SaysCounts told.Returned answer = Unit {0}
SaysCounts (told.NotReturned job) answer = answer ≡ Nothing
SaysCounts (told.Removing receipt) answer = Unit {0}
SaysCounts told.Removed answer = Unit {0}
SaysCounts told.GivenBack answer = Unit {0}
SaysCounts (told.NotGivenBack receipt) answer = answer ≡ Nothing
SaysCounts (told.Copying plan) answer = Unit {0}
SaysCounts (told.NotSealed copied why) answer = SaysSealRefusal why answer
SaysCounts told.Dropped answer = answer ≡ Dropped
SaysCounts (told.Told writes sealed frontier checkpoint) answer = answer ≡ Counts writes sealed frontier
SaysCounts told.Range answer = answer ≡ Range
SaysCounts told.Nothing answer = answer ≡ Nothing
SaysCounts told.Busy answer = answer ≡ Busy
SaysCounts told.Fault answer = answer ≡ Fault
SaysCounts told.OutOfMemory answer = ⊥
