-- Which replies the events of a line have, and that each of them has a text.
use Rattle.std.proofs.Common.{ℕ, List, [], ◌∷◌, ◌++◌, refl}
use Rattle.std.specs.Prelude.{Bool, true, false, not, ◌&&◌, if◌then◌else◌, Option, Some, None, is_some, IfSome, unwrap_or}
use Rattle.std.specs.Prelude.{option_map, codes, decimal, length}
use Rattle.std.specs.List.{sum_by}
use Rattle.lsvd_base.specs.declared.entry.Entry.{Entry}
use Rattle.lsvd_base.specs.declared.entry.Entry.TheVariants as entries
use Rattle.lsvd_base.specs.Limits.{may_transfer}
use Rattle.lsvd_base.specs.Range.{is_in_range}
use Rattle.batcher.specs.Batch.{data_sectors, fullness}
use Rattle.batcher.specs.declared.full.Full.{Full}
use Rattle.batcher.specs.declared.full.Full.TheVariants as full
use Rattle.object_stream.specs.declared.object.CopiedSector.{CopiedSector}
use Rattle.upload_window.specs.Window.{lowest_ready}
use Rattle.plain_disk.specs.declared.event.PlainEvent.{PlainEvent}
use Rattle.plain_disk.specs.declared.event.PlainEvent.TheVariants as events
use Rattle.plain_disk.specs.declared.event.PlainReply.{PlainReply}
use Rattle.plain_disk.specs.declared.event.PlainReply.TheVariants.{Entered, Flushed, Planned, Released, Sealed, Taken, Done}
use Rattle.plain_disk.specs.declared.event.PlainReply.TheVariants.{Returned, Removing, Removed, GivenBack, Told, BatchFull}
use Rattle.plain_disk.specs.declared.event.PlainReply.TheVariants.{EntriesFull, NoRoom, Range, Nothing, Busy, Fault, Copying}
use Rattle.plain_disk.specs.declared.event.PlainReply.TheVariants.{Dropped}
use Rattle.plain_disk.specs.Cache.{PlainCache, passes_commit, passes_entry}
use Rattle.plain_disk.specs.State.{PlainState, unsealed_entries}
use Rattle.plain_disk.specs.Entries.{reply_of_full, batch_refusal, has_room_for, cache_for, commits_are_made, room_reply}
use Rattle.plain_disk.specs.Entries.{enter_reply}
use Rattle.plain_disk.specs.Reads.{passes_look}
use Rattle.plain_disk.specs.Objects.{is_busy, has_unsealed, reply_of_taken, is_under_way}
use Rattle.plain_disk.specs.Removals.{reply_of_removal, to_remove}
use Rattle.plain_disk.specs.Collection.{planned_copy, reply_of_plan}
use Rattle.plain_disk.specs.Step.{plain_reply}
use Rattle.replay_script.proofs.Runs.{some_run_text}
use Rattle.transcript.specs.Answers.{TellsReply}

-- a reply that a line may be answered with: not those to a plan that is given back, to a put that failed, and to a removal that
-- ends
abbrev pub IsLineReply : PlainReply → Type 0
IsLineReply (Entered count) = Unit {0}
IsLineReply (Flushed count) = Unit {0}
IsLineReply (Planned read) = Unit {0}
IsLineReply Released = ⊥
IsLineReply (Sealed number) = Unit {0}
IsLineReply (Taken number) = Unit {0}
IsLineReply (Done frontier) = Unit {0}
IsLineReply Returned = ⊥
IsLineReply (Removing number) = Unit {0}
IsLineReply Removed = ⊥
IsLineReply GivenBack = ⊥
IsLineReply (Copying sectors) = Unit {0}
IsLineReply Dropped = Unit {0}
IsLineReply (Told writes sealed frontier checkpoint) = Unit {0}
IsLineReply (BatchFull sectors) = Unit {0}
IsLineReply (EntriesFull count) = Unit {0}
IsLineReply (NoRoom lacking left) = Unit {0}
IsLineReply Range = Unit {0}
IsLineReply Nothing = Unit {0}
IsLineReply Busy = Unit {0}
IsLineReply Fault = Unit {0}

-- each such reply has a text
pub some_telling : (reply : PlainReply) → IsLineReply reply → (text : List ℕ) × TellsReply reply text
some_telling (Entered count) is = (codes "ok " ++ decimal count, refl)
some_telling (Flushed count) is = (codes "ok " ++ decimal count, refl)
some_telling (Planned read) is = some_run_text read.data
some_telling Released is = absurd is
some_telling (Sealed number) is = (codes "sealed " ++ decimal number, refl)
some_telling (Taken number) is = (codes "put " ++ decimal number, refl)
some_telling (Done frontier) is = (codes "done " ++ decimal frontier, refl)
some_telling Returned is = absurd is
some_telling (Removing number) is = (codes "gone " ++ decimal number, refl)
some_telling Removed is = absurd is
some_telling GivenBack is = absurd is
some_telling (Copying sectors) is = (codes "copied " ++ decimal (length sectors), refl)
some_telling Dropped is = (codes "dropped", refl)
some_telling (Told writes sealed frontier checkpoint) is =
    (codes "info " ++ decimal writes ++ codes " " ++ decimal sealed ++ codes " " ++ decimal frontier, refl)
some_telling (BatchFull sectors) is = (codes "again batch " ++ decimal sectors, refl)
some_telling (EntriesFull count) is = (codes "again entries " ++ decimal count, refl)
some_telling (NoRoom lacking left) is = (codes "again room " ++ decimal lacking ++ codes " " ++ decimal left, refl)
some_telling Range is = (codes "range", refl)
some_telling Nothing is = (codes "none", refl)
some_telling Busy is = (codes "busy", refl)
some_telling Fault is = (codes "fault", refl)

-- ---- the replies of each event

-- one of two
either : (b : Bool) (x y : PlainReply) → IsLineReply x → IsLineReply y → IsLineReply (if b then x else y)
either true x y is other = is
either false x y is other = other

-- one that may be, or another
unwrapped : (found : Option PlainReply) (instead : PlainReply) → IfSome found IsLineReply → IsLineReply instead
    → IsLineReply (unwrap_or found instead)
unwrapped None instead is other = other
unwrapped (Some reply) instead is other = is

of_full : (found : Option Full) → IfSome (option_map reply_of_full found) IsLineReply
of_full None = tt
of_full (Some (full.Sectors sectors)) = tt
of_full (Some (full.Entries count)) = tt

of_refusal : (b : Bool) (found : Option Full) → IfSome (if b then option_map reply_of_full found else Some Range) IsLineReply
of_refusal true found = of_full found
of_refusal false found = tt

of_room : (plain : PlainState) (ready : PlainCache) (entry : Entry) → IsLineReply (room_reply plain ready entry)
of_room plain ready entry =
    let written = either (passes_entry ready entry) _ _ tt tt in
    either (not (commits_are_made plain entry)) _ _ tt (either (not (has_room_for ready entry)) _ _ tt written)

of_entry : (plain : PlainState) (entry : Entry) → IsLineReply (enter_reply plain entry)
of_entry plain entry =
    let unsealed : List Entry = unsealed_entries plain in
    let full = fullness plain.geometry.batch (sum_by data_sectors unsealed) (length unsealed) in
    unwrapped (batch_refusal plain entry) (room_reply plain (cache_for plain entry) entry)
    (of_refusal (is_in_range plain.geometry entry) full) (of_room plain (cache_for plain entry) entry)

of_taken : (lowest : Option ℕ) → IsLineReply (reply_of_taken lowest)
of_taken None = tt
of_taken (Some number) = tt

of_removal : (out lowest : Option ℕ) → IsLineReply (reply_of_removal out lowest)
of_removal None None = tt
of_removal None (Some number) = tt
of_removal (Some other) lowest = tt

of_plan : (out : Option (List CopiedSector)) (sectors : List CopiedSector) → IsLineReply (reply_of_plan out sectors)
of_plan (Some plan) sectors = tt
of_plan None [] = tt
of_plan None (first ∷ more) = tt

-- a line is answered by the reply to its event, unless that gives a plan back, ends a removal, or tells of a put that failed
abbrev pub IsLineEvent : PlainEvent → Type 0
IsLineEvent (events.Write lba body) = Unit {0}
IsLineEvent (events.Zero lba sectors) = Unit {0}
IsLineEvent events.Flush = Unit {0}
IsLineEvent (events.Look lba sectors) = Unit {0}
IsLineEvent (events.Release objects) = ⊥
IsLineEvent events.Seal = Unit {0}
IsLineEvent events.TakeJob = Unit {0}
IsLineEvent (events.JobDone job) = Unit {0}
IsLineEvent (events.JobFailed job) = ⊥
IsLineEvent events.SealCheckpoint = Unit {0}
IsLineEvent events.TakeRemove = Unit {0}
IsLineEvent (events.RemoveDone number) = ⊥
IsLineEvent (events.RemoveFailed number) = ⊥
IsLineEvent events.PlanCopy = Unit {0}
IsLineEvent (events.SealCopy is_planned) = Unit {0}
IsLineEvent events.DropPlan = Unit {0}
IsLineEvent events.Status = Unit {0}

-- the other events have such replies
pub line_reply : (plain : PlainState) (event : PlainEvent) → IsLineEvent event → IsLineReply (plain_reply plain event)
line_reply plain (events.Write lba body) is = of_entry plain (entries.Write lba body)
line_reply plain (events.Zero lba sectors) is = of_entry plain (entries.Zero lba sectors)
line_reply plain events.Flush is = either (passes_commit plain.cache) _ _ tt tt
line_reply plain (events.Look lba sectors) is =
    either (may_transfer plain.geometry lba sectors) _ _ (either (passes_look plain lba sectors) _ _ tt tt) tt
line_reply plain (events.Release objects) is = absurd is
line_reply plain events.Seal is = either (has_unsealed plain) _ _ (either (is_busy plain) _ _ tt tt) tt
line_reply plain events.TakeJob is = of_taken (lowest_ready plain.window.objects)
line_reply plain (events.JobDone job) is = either (is_under_way job plain.window) _ _ tt tt
line_reply plain (events.JobFailed job) is = absurd is
line_reply plain events.SealCheckpoint is = either (is_busy plain) _ _ tt tt
line_reply plain events.TakeRemove is = of_removal plain.removal (to_remove plain)
line_reply plain (events.RemoveDone number) is = absurd is
line_reply plain (events.RemoveFailed number) is = absurd is
line_reply plain events.PlanCopy is = of_plan plain.plan (planned_copy plain)
line_reply plain (events.SealCopy is_planned) is =
    either (is_some plain.plan && is_planned) _ _ (either (is_busy plain) _ _ tt tt) tt
line_reply plain events.DropPlan is = either (is_some plain.plan) _ _ tt tt
line_reply plain events.Status is = tt
