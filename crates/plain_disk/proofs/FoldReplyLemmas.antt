-- A plain volume that opens after a later object answers as before.
use Rattle.std.proofs.Common.{ℕ, ◌+◌, ◌≡◌, Bool, true, cond, not, ◌&&◌, ◌||◌, nat_lt, eqb, Option, Some, unwrap_or, option_map}
use Rattle.std.proofs.Common.{◌*◌, List, ◌∷◌, map, take, get_or}
use Rattle.std.proofs.Common.{length, refl, ◌∙◌, ap}
use Rattle.std.specs.List.{sum_by, filter, list_any, range_with_len, flat_map}
use Rattle.lsvd_base.specs.declared.geometry.Geometry.{Geometry}
use Rattle.lsvd_base.specs.declared.entry.Entry.{Entry}
use Rattle.lsvd_base.specs.declared.entry.Entry.TheVariants as entries
use Rattle.lsvd_base.specs.Image.{Image}
use Rattle.lsvd_base.specs.Limits.{may_transfer}
use Rattle.lsvd_base.specs.Range.{is_in_range}
use Rattle.lsvd_device.specs.Calls.{passes}
use Rattle.batcher.specs.Batch.{data_sectors, fullness}
use Rattle.log_room.specs.Room.{need, free, record_sectors}
use Rattle.object_stream.specs.declared.object.CopiedSector.{CopiedSector}
use Rattle.object_stream.specs.Stream.{Owners, owners, is_own}
use Rattle.plain_disk.specs.declared.event.PlainEvent.{PlainEvent}
use Rattle.plain_disk.specs.declared.event.PlainEvent.TheVariants.{Write, Zero, Flush, Look, Release, Seal, TakeJob, JobDone}
use Rattle.plain_disk.specs.declared.event.PlainEvent.TheVariants.{JobFailed, SealCheckpoint, TakeRemove}
use Rattle.plain_disk.specs.declared.event.PlainEvent.TheVariants.{RemoveDone, RemoveFailed, PlanCopy, SealCopy, DropPlan}
use Rattle.plain_disk.specs.declared.event.PlainEvent.TheVariants.{Status}
use Rattle.plain_disk.specs.declared.event.PlainReply.{PlainReply}
use Rattle.plain_disk.specs.declared.event.PlainReply.TheVariants as replies
use Rattle.plain_disk.specs.declared.event.PlannedRead.{PlannedRead}
use Rattle.plain_disk.specs.Sectors.{sectors_at}
use Rattle.plain_disk.specs.Writers.{covers_sector, read_calls}
use Rattle.plain_disk.specs.Log.{room_in}
use Rattle.plain_disk.specs.Cache.{PlainCache, passes_entry, cache_after_commit, passes_commit}
use Rattle.plain_disk.specs.Checkpoints.{sealed_checkpoint}
use Rattle.plain_disk.specs.State.{PlainState, PlainCheckpoint, stream_in, history_length, image_now, frontier_of, frontier_end}
use Rattle.plain_disk.specs.State.{logged_entries}
use Rattle.plain_disk.specs.State.{unsealed_entries, payloads_in, folded_to}
use Rattle.plain_disk.specs.Objects.{is_busy}
use Rattle.plain_disk.specs.Removals.{has}
use Rattle.plain_disk.specs.Entries.{reply_of_full, has_room_for, enter_reply}
use Rattle.plain_disk.specs.Reads.{objects_read, look_reply}
use Rattle.object_stream.specs.Planned.{copied_from}
use Rattle.plain_disk.specs.Collection.{in_order, planned_copy, reply_of_plan}
use Rattle.plain_disk.specs.Step.{plain_reply}
use Rattle.plain_disk.specs.Valid.{FoldingChangesNoReply}
use Rattle.plain_disk.proofs.FoldLemmas.{MayFold, owners_of_fold, frontier_end_of_fold, count_of_fold, logged_of_fold}
use Rattle.plain_disk.proofs.FoldLemmas.{unsealed_of_fold, image_of_fold, payloads_of_fold}
use Rattle.plain_disk.proofs.CheckpointLemmas.{landed_of_fold}

-- a value by three others that are the same
pub by_three : {A B C D : Type 0} (f : A → B → C → D) (a x : A) (b y : B) (c z : C) → a ≡ x → b ≡ y → c ≡ z → f a b c ≡ f x y z
by_three f a x b y c z first second third = ap (λ v. f v b c) first ∙ ap (λ v. f x v c) second ∙ ap (λ v. f x y v) third

-- and by four
pub by_four : {A B C D E : Type 0} (f : A → B → C → D → E) (a x : A) (b y : B) (c z : C) (d w : D) → a ≡ x → b ≡ y → c ≡ z
    → d ≡ w → f a b c d ≡ f x y z w
by_four f a x b y c z d w first second third fourth =
    by_three (λ u v t. f u v t d) a x b y c z first second third ∙ ap (λ v. f x y z v) fourth

-- ---- an entry, by the cache, the unsealed entries, the frontier's end and the count

abbrev pub refusal_by : Geometry → List Entry → Entry → Option PlainReply
refusal_by g unsealed entry =
    cond (is_in_range g entry) (option_map reply_of_full (fullness g.batch (sum_by data_sectors unsealed) (length unsealed)))
    (Some replies.Range)

abbrev pub commits_by : PlainCache → ℕ → Entry → Bool
commits_by cache end entry = not (has_room_for cache entry) && nat_lt cache.log.last.tail.seq end

abbrev pub cache_by : PlainCache → ℕ → Entry → PlainCache
cache_by cache end entry = cond (commits_by cache end entry) (cache_after_commit end cache) cache

abbrev pub made_by : PlainCache → ℕ → Entry → Bool
made_by cache end entry = not (commits_by cache end entry) || passes_commit cache

abbrev room_reply_by : Bool → PlainCache → ℕ → Entry → PlainReply
room_reply_by made ready count entry =
    cond (not made) replies.Fault
    (cond (not (has_room_for ready entry)) (replies.NoRoom (need (room_in ready.log) (record_sectors entry))
    (free (room_in ready.log)))
    (cond (passes_entry ready entry) (replies.Entered (count + 1)) replies.Fault))

abbrev enter_by : Geometry → PlainCache → Entry → List Entry → ℕ → ℕ → PlainReply
enter_by g cache entry unsealed end count =
    unwrap_or (refusal_by g unsealed entry) (room_reply_by (made_by cache end entry) (cache_by cache end entry) count entry)

enter_of_fold : (state : PlainState) (number : ℕ) (entry : Entry) → MayFold state number
    → enter_reply (folded_to number state) entry ≡ enter_reply state entry
enter_of_fold state number entry h =
    by_three (enter_by state.geometry state.cache entry)
    (unsealed_entries (folded_to number state)) (unsealed_entries state)
    (frontier_end (folded_to number state)) (frontier_end state)
    (history_length (folded_to number state)) (history_length state)
    (unsealed_of_fold state number h) (frontier_end_of_fold state number h) (count_of_fold state number h)

-- ---- a read, by the owners, the entries in the log and the image

abbrev objects_by : (frontier lba sectors : ℕ) → Owners → List Entry → List ℕ
objects_by frontier lba sectors owned logged =
    filter (λ number. list_any (λ k. is_own number (owned k) && not (list_any (λ entry. covers_sector entry k) logged))
    (range_with_len lba sectors)) (range_with_len 1 frontier)

pub objects_of_fold : (state : PlainState) (number lba sectors : ℕ) → MayFold state number
    → objects_read (folded_to number state) lba sectors ≡ objects_read state lba sectors
objects_of_fold state number lba sectors h =
    ap (λ o. objects_by (frontier_of state) lba sectors o (logged_entries (folded_to number state)))
    (owners_of_fold state number h (frontier_of state) h.to)
    ∙ ap (λ l. objects_by (frontier_of state) lba sectors (owners (stream_in state) (frontier_of state)) l)
    (logged_of_fold state number h)

abbrev planned_by : (lba sectors : ℕ) → (count : ℕ) → Image → List ℕ → PlannedRead
planned_by lba sectors count image objects = record {
  history_length = count;
  «data» = sectors_at lba sectors image;
  objects = objects;
}

abbrev look_by : PlainState → (lba sectors : ℕ) → (calls count : ℕ) → Image → List ℕ → PlainReply
look_by state lba sectors calls count image objects =
    cond (may_transfer state.geometry lba sectors)
    (cond (passes state.cache.left calls) (replies.Planned (planned_by lba sectors count image objects)) replies.Fault)
    replies.Range

look_of_fold : (state : PlainState) (number lba sectors : ℕ) → MayFold state number
    → look_reply (folded_to number state) lba sectors ≡ look_reply state lba sectors
look_of_fold state number lba sectors h =
    let folded = folded_to number state in
    let calls = read_calls (logged_entries folded) lba sectors in
    ap (λ l. look_by state lba sectors (read_calls l lba sectors) (history_length folded) (image_now folded)
    (objects_read folded lba sectors))
    (logged_of_fold state number h)
    ∙ by_three (look_by state lba sectors (read_calls (logged_entries state) lba sectors))
    (history_length folded) (history_length state) (image_now folded) (image_now state)
    (objects_read folded lba sectors) (objects_read state lba sectors)
    (count_of_fold state number h) (image_of_fold state number h) (objects_of_fold state number lba sectors h)

-- ---- a plan of a copy, by the owners and the payloads

abbrev live_by : (sectors : ℕ) → Owners → (number : ℕ) → List ℕ
live_by sectors owned number = filter (λ k. is_own number (owned k)) (range_with_len 0 sectors)

abbrev count_by : (sectors : ℕ) → Owners → (number : ℕ) → ℕ
count_by sectors owned number = length (live_by sectors owned number)

abbrev payload_in : List ℕ → (number : ℕ) → ℕ
payload_in payloads number = get_or (0 ∷ payloads) number 0

abbrev is_victim_by : (sectors : ℕ) → Owners → (payloads held : List ℕ) → (number : ℕ) → Bool
is_victim_by sectors owned payloads held number =
    nat_lt 0 (count_by sectors owned number) && nat_lt (count_by sectors owned number * 100) (70 * payload_in payloads number)
    && not (has held number)

abbrev before_by : (sectors : ℕ) → Owners → List ℕ → (number other : ℕ) → Bool
before_by sectors owned payloads number other =
    nat_lt (count_by sectors owned number * payload_in payloads other) (count_by sectors owned other * payload_in payloads number)
    || (eqb (count_by sectors owned number * payload_in payloads other)
    (count_by sectors owned other * payload_in payloads number) && nat_lt number other)

abbrev copy_by : (batch sectors frontier : ℕ) → (held : List ℕ) → Owners → (payloads : List ℕ) → List CopiedSector
copy_by batch sectors frontier held owned payloads =
    take batch (flat_map (λ number. map (copied_from number) (live_by sectors owned number))
    (in_order (before_by sectors owned payloads) (filter (is_victim_by sectors owned payloads held) (range_with_len 1 frontier))))

pub planned_of_fold : (state : PlainState) (number : ℕ) → MayFold state number
    → planned_copy (folded_to number state) ≡ planned_copy state
planned_of_fold state number h =
    let at = copy_by state.geometry.batch state.geometry.sectors (frontier_of state) state.held in
    ap (λ (owned : Owners). at owned (payloads_in (folded_to number state)))
    (owners_of_fold state number h (frontier_of state) h.to)
    ∙ ap (λ (payloads : List ℕ). at (owners (stream_in state) (frontier_of state)) payloads) (payloads_of_fold state number h)

-- ---- each event

reply_of_fold : (state : PlainState) (number : ℕ) (event : PlainEvent) → MayFold state number
    → plain_reply (folded_to number state) event ≡ plain_reply state event
reply_of_fold state number (Write lba body) h = enter_of_fold state number (entries.Write lba body) h
reply_of_fold state number (Zero lba sectors) h = enter_of_fold state number (entries.Zero lba sectors) h
reply_of_fold state number Flush h = ap (λ n. cond (passes_commit state.cache) (replies.Flushed n) replies.Fault)
    (count_of_fold state number h)
reply_of_fold state number (Look lba sectors) h = look_of_fold state number lba sectors h
reply_of_fold state number (Release numbers) h = refl
reply_of_fold state number Seal h =
    ap (λ (unsealed : List Entry). cond (not (eqb (length unsealed) 0))
    (cond (is_busy state) replies.Busy (replies.Sealed (state.window.last + 1))) replies.Nothing)
    (unsealed_of_fold state number h)
reply_of_fold state number TakeJob h = refl
reply_of_fold state number (JobDone job) h = refl
reply_of_fold state number (JobFailed job) h = refl
reply_of_fold state number SealCheckpoint h = refl
reply_of_fold state number TakeRemove h = refl
reply_of_fold state number (RemoveDone removed) h = refl
reply_of_fold state number (RemoveFailed removed) h = refl
reply_of_fold state number PlanCopy h = ap (reply_of_plan state.plan) (planned_of_fold state number h)
reply_of_fold state number (SealCopy is_planned) h = refl
reply_of_fold state number DropPlan h = refl
reply_of_fold state number Status h =
    ap (λ (c : PlainCheckpoint). replies.Told (history_length (folded_to number state)) state.window.last (frontier_of state)
    c.number) (landed_of_fold state number (λ n. true) h)
    ∙ ap (λ n. replies.Told n state.window.last (frontier_of state) (sealed_checkpoint state).number)
    (count_of_fold state number h)

pub folding_changes_no_reply : FoldingChangesNoReply
folding_changes_no_reply state number event h from to =
    reply_of_fold state number event (record { valid = h; from = from; to = to })
