-- What events leave of a plain volume: where it opens, whether its device is told to stop, and how its numbers grow.
use Rattle.std.proofs.Common.{◌≡◌, ℕ, ◌+◌, ◌≤◌, Bool, true, false, cond, not, ◌&&◌, List, [], ◌∷◌, ◌++◌, length, refl, sym, ◌∙◌}
use Rattle.std.proofs.Common.{ap, subst, arith, length-append}
use Rattle.std.specs.Prelude.{Option, Some, None, is_some}
use Rattle.clone_chain.specs.declared.ancestor.Ancestor.{Ancestor}
use Rattle.lsvd_base.specs.declared.geometry.Geometry.{Geometry}
use Rattle.lsvd_base.specs.declared.entry.Entry.{Entry}
use Rattle.lsvd_base.specs.declared.entry.Entry.TheVariants as entries
use Rattle.lsvd_base.specs.Limits.{may_transfer}
use Rattle.lsvd_device.specs.Calls.{Fuse, fuse_after}
use Rattle.lsvd_objstore.specs.Objects.{Objects}
use Rattle.object_stream.specs.declared.object.Content.TheVariants.{Data, Checkpoint}
use Rattle.object_stream.specs.declared.object.CopiedSector.{CopiedSector}
use Rattle.object_stream.specs.declared.object.StreamObject.{StreamObject}
use Rattle.object_stream.specs.Stream.{end_at, last_number}
use Rattle.upload_window.specs.Window.{WindowState, lowest_ready, entered, is_started, acknowledged, marked}
use Rattle.plain_disk.specs.declared.event.PlainEvent.{PlainEvent}
use Rattle.plain_disk.specs.declared.event.PlainEvent.TheVariants.{Write, Zero, Flush, Look, Release, Seal, TakeJob, JobDone}
use Rattle.plain_disk.specs.declared.event.PlainEvent.TheVariants.{JobFailed, SealCheckpoint, TakeRemove}
use Rattle.plain_disk.specs.declared.event.PlainEvent.TheVariants.{RemoveDone, RemoveFailed, PlanCopy, SealCopy, DropPlan, Status}
use Rattle.plain_disk.specs.Cache.{PlainCache, writes_of, after_writes, after_reads, passes_entry, cache_after_entry}
use Rattle.plain_disk.specs.Cache.{commit_calls_after, cache_after_commit}
use Rattle.plain_disk.specs.Collection.{planned_copy, with_plan, after_sealed_copy}
use Rattle.plain_disk.specs.Log.{with_record}
use Rattle.plain_disk.specs.Entries.{batch_refusal, commits_for_room, cache_for, comes_to_log, cache_after, after_entering}
use Rattle.plain_disk.specs.Objects.{has_unsealed, is_busy, end_of_next, window_after_take, window_after_done}
use Rattle.plain_disk.specs.Objects.{window_after_failed}
use Rattle.plain_disk.specs.Reads.{look_calls, passes_look, objects_read, are_pinned, without_pins}
use Rattle.plain_disk.specs.Checkpoints.{checkpoint_after_done}
use Rattle.plain_disk.specs.Removals.{to_remove, with_removal, is_out}
use Rattle.plain_disk.specs.State.{PlainState, PlainCheckpoint, stream_in, frontier_end}
use Rattle.plain_disk.specs.Step.{plain_after}
use Rattle.plain_disk.proofs.CommitLemmas.{either}
use Rattle.refine_log.proofs.PlainCommits.{plain_commit_takes_calls}
use Rattle.object_recovery.specs.Checkpoints.{expected_of}
use Rattle.refine_store.specs.Puts.{Inherits}
use Rattle.stopped_volume.specs.Super.{HasVolume}
use Rattle.replay_rig.specs.Rig.{script_uuid, expected_of_plain, RemovesAtOnce}

-- ---- fuses

-- a cache was told to stop as another one was
abbrev IsToldAs : PlainCache → PlainCache → Type 0
IsToldAs old new = is_some new.left ≡ is_some old.left

still_told : (fuse : Fuse) (calls : ℕ) → is_some (fuse_after fuse calls) ≡ is_some fuse
still_told None calls = refl
still_told (Some left) calls = refl

commit_told : (seq : ℕ) (cache : PlainCache) → IsToldAs cache (cache_after_commit seq cache)
commit_told seq cache = ap is_some (plain_commit_takes_calls seq cache)
    ∙ still_told cache.left (commit_calls_after cache.log.unfinished)

entry_told : (entry : Entry) (cache : PlainCache) → IsToldAs cache (cache_after_entry entry cache)
entry_told entry cache =
    let written : PlainCache = after_writes (writes_of cache.log entry) cache in
    let told = still_told cache.left (length (writes_of cache.log entry)) in
    either (IsToldAs cache) (passes_entry cache entry) (record written { log = with_record cache.log entry }) written told told

ready_told : (plain : PlainState) (entry : Entry) → IsToldAs plain.cache (cache_for plain entry)
ready_told plain entry =
    either (IsToldAs plain.cache) (commits_for_room plain entry) (cache_after_commit (frontier_end plain) plain.cache) plain.cache
    (commit_told (frontier_end plain) plain.cache) refl

entering_told : (plain : PlainState) (entry : Entry) → IsToldAs plain.cache (cache_after plain entry)
entering_told plain entry =
    let ready : PlainCache = cache_for plain entry in
    either (IsToldAs plain.cache) (is_some (batch_refusal plain entry)) plain.cache
    (cond (comes_to_log plain entry) (cache_after_entry entry ready) ready) refl
    (either (IsToldAs plain.cache) (comes_to_log plain entry) (cache_after_entry entry ready) ready
    (entry_told entry ready ∙ ready_told plain entry) (ready_told plain entry))

-- ---- sizes

-- a volume opens where another one does and with the same of its ancestors, has an entry and an object more at most, its device
-- was told to stop as that one's was, and holds keep the same objects
pub record GrowsByOne (old new : PlainState) : Type 0 where
  pub geometry : new.geometry ≡ old.geometry
  pub chain : new.chain ≡ old.chain
  pub inherits : (objects : Objects) → Inherits script_uuid old objects → Inherits script_uuid new objects
  pub end : new.end ≡ old.end
  pub entries : length new.entries ≤ length old.entries + 1
  pub last : new.window.last ≤ old.window.last + 1
  pub told : is_some new.cache.left ≡ is_some old.cache.left
  pub held : new.held ≡ old.held

same_grows : (plain : PlainState) → GrowsByOne plain plain
same_grows plain = record {
  geometry = refl;
  chain = refl;
  inherits = λ objects is. is;
  end = refl;
  entries = omega arith;
  last = omega arith;
  told = refl;
  held = refl;
}

either_grows : (plain : PlainState) (b : Bool) (x y : PlainState) → GrowsByOne plain x → GrowsByOne plain y
    → GrowsByOne plain (cond b x y)
either_grows plain true x y grows other = grows
either_grows plain false x y other grows = grows

either_length : (b : Bool) (entry : Entry) (list : List Entry) → length (cond b (list ++ entry ∷ []) list) ≤ length list + 1
either_length true entry list = omega (arith, length-append list (entry ∷ []))
either_length false entry list = omega arith

entering_grows : (plain : PlainState) (entry : Entry) → GrowsByOne plain (after_entering entry plain)
entering_grows plain entry = record {
  geometry = refl;
  chain = refl;
  inherits = λ objects is. is;
  end = refl;
  entries = either_length (comes_to_log plain entry && passes_entry (cache_for plain entry) entry) entry plain.entries;
  last = omega arith;
  told = entering_told plain entry;
  held = refl;
}

-- another cache, and other pins
cache_grows : (plain : PlainState) (cache : PlainCache) (pins : List ℕ) → IsToldAs plain.cache cache
    → GrowsByOne plain (record plain { cache = cache; pins = pins })
cache_grows plain cache pins told = record {
  geometry = refl;
  chain = refl;
  inherits = λ objects is. is;
  end = refl;
  entries = omega arith;
  last = omega arith;
  told = told;
  held = refl;
}

-- other objects, and another window
window_grows : (plain : PlainState) (objects : List StreamObject) (window : WindowState) (checkpoint : PlainCheckpoint)
    → window.last ≤ plain.window.last + 1
    → GrowsByOne plain (record plain { objects = objects; window = window; checkpoint = checkpoint })
window_grows plain objects window checkpoint last = record {
  geometry = refl;
  chain = refl;
  inherits = λ objects is. is;
  end = refl;
  entries = omega arith;
  last = last;
  told = refl;
  held = refl;
}

take_last : (lowest : Option ℕ) (window : WindowState) → (window_after_take lowest window).last ≡ window.last
take_last None window = refl
take_last (Some number) window = refl

failed_last : (job : Option ℕ) (window : WindowState) → (window_after_failed job window).last ≡ window.last
failed_last None window = refl
failed_last (Some number) window =
    elim (is_started number window.objects) as (λ b. (cond b (marked number false window) window).last ≡ window.last)
    [ true ↦ refl | false ↦ refl ]

done_last : (job : Option ℕ) (window : WindowState) → (window_after_done job window).last ≡ window.last
done_last None window = refl
done_last (Some number) window =
    elim (is_started number window.objects) as (λ b. (cond b (acknowledged number window) window).last ≡ window.last)
    [ true ↦ refl | false ↦ refl ]

-- other objects that are removed, and a removal that is out
removal_grows : (plain : PlainState) (removed given_out : List ℕ) (removal : Option ℕ)
    → GrowsByOne plain (record plain { removed = removed; given_out = given_out; removal = removal })
removal_grows plain removed given_out removal = record {
  geometry = refl;
  chain = refl;
  inherits = λ objects is. is;
  end = refl;
  entries = omega arith;
  last = omega arith;
  told = refl;
  held = refl;
}

taking_grows : (plain : PlainState) (out lowest : Option ℕ) → GrowsByOne plain (with_removal out lowest plain)
taking_grows plain None None = same_grows plain
taking_grows plain None (Some number) = removal_grows plain plain.removed (plain.given_out ++ number ∷ []) (Some number)
taking_grows plain (Some other) lowest = same_grows plain

-- the plan of a copy, or none, and its seal
with_plan_grows : (plain : PlainState) (plan : Option (List CopiedSector)) → GrowsByOne plain (record plain { plan = plan })
with_plan_grows plain plan = record {
  geometry = refl;
  chain = refl;
  inherits = λ objects is. is;
  end = refl;
  entries = omega arith;
  last = omega arith;
  told = refl;
  held = refl;
}

plan_grows : (plain : PlainState) (out : Option (List CopiedSector)) (sectors : List CopiedSector)
    → GrowsByOne plain (with_plan out sectors plain)
plan_grows plain (Some plan) sectors = same_grows plain
plan_grows plain None [] = same_grows plain
plan_grows plain None (first ∷ more) = with_plan_grows plain (Some (first ∷ more))

copy_grows : (plain : PlainState) (is_sealed : Bool) (out : Option (List CopiedSector))
    → GrowsByOne plain (after_sealed_copy is_sealed out plain)
copy_grows plain is_sealed None = same_grows plain
copy_grows plain false (Some plan) = same_grows plain
copy_grows plain true (Some plan) = record {
  geometry = refl;
  chain = refl;
  inherits = λ objects is. is;
  end = refl;
  entries = omega arith;
  last = omega arith;
  told = refl;
  held = refl;
}

pub event_grows : (plain : PlainState) (event : PlainEvent) → GrowsByOne plain (plain_after event plain)
event_grows plain (Write lba body) = entering_grows plain (entries.Write lba body)
event_grows plain (Zero lba sectors) = entering_grows plain (entries.Zero lba sectors)
event_grows plain Flush = cache_grows plain (cache_after_commit (frontier_end plain) plain.cache) plain.pins
    (commit_told (frontier_end plain) plain.cache)
event_grows plain (Look lba sectors) =
    let read : PlainCache = after_reads (look_calls plain lba sectors) plain.cache in
    let pins : List ℕ = cond (passes_look plain lba sectors) (plain.pins ++ objects_read plain lba sectors) plain.pins in
    either_grows plain (may_transfer plain.geometry lba sectors) (record plain { cache = read; pins = pins }) plain
    (cache_grows plain read pins (still_told plain.cache.left (look_calls plain lba sectors))) (same_grows plain)
event_grows plain (Release numbers) =
    let pins : List ℕ = without_pins numbers plain.pins in
    either_grows plain (are_pinned numbers plain.pins) (record plain { pins = pins }) plain
    (cache_grows plain plain.cache pins refl) (same_grows plain)
event_grows plain Seal =
    let objects : List StreamObject = plain.objects ++ record { content = Data; end = end_of_next plain } ∷ [] in
    let window : WindowState = entered (plain.window.last + 1) false plain.window in
    either_grows plain (has_unsealed plain && not (is_busy plain)) (record plain { objects = objects; window = window }) plain
    (window_grows plain objects window plain.checkpoint (omega arith)) (same_grows plain)
event_grows plain TakeJob =
    let window = window_after_take (lowest_ready plain.window.objects) plain.window in
    let e = take_last (lowest_ready plain.window.objects) plain.window in
    window_grows plain plain.objects window plain.checkpoint (omega (arith, e))
event_grows plain (JobDone job) =
    let e = done_last job plain.window in
    window_grows plain plain.objects (window_after_done job plain.window) (checkpoint_after_done job plain) (omega (arith, e))
event_grows plain (JobFailed job) =
    let e = failed_last job plain.window in
    window_grows plain plain.objects (window_after_failed job plain.window) plain.checkpoint (omega (arith, e))
event_grows plain SealCheckpoint =
    let end = end_at (stream_in plain) (last_number (stream_in plain)) in
    let objects : List StreamObject = plain.objects ++ record { content = Checkpoint; end = end } ∷ [] in
    let window : WindowState = entered (plain.window.last + 1) true plain.window in
    either_grows plain (is_busy plain) plain (record plain { objects = objects; window = window })
    (same_grows plain) (window_grows plain objects window plain.checkpoint (omega arith))
event_grows plain TakeRemove = taking_grows plain plain.removal (to_remove plain)
event_grows plain (RemoveDone number) =
    let gone : PlainState = record plain { removed = plain.removed ++ number ∷ []; removal = None } in
    either_grows plain (is_out number plain.removal) gone plain
    (removal_grows plain (plain.removed ++ number ∷ []) plain.given_out None) (same_grows plain)
event_grows plain (RemoveFailed number) =
    either_grows plain (is_out number plain.removal) (record plain { removal = None }) plain
    (removal_grows plain plain.removed plain.given_out None) (same_grows plain)
event_grows plain PlanCopy = plan_grows plain plain.plan (planned_copy plain)
event_grows plain (SealCopy is_planned) = copy_grows plain (is_planned && not (is_busy plain)) plain.plan
event_grows plain DropPlan = with_plan_grows plain None
event_grows plain Status = same_grows plain

-- ---- removals

-- as many objects were removed and given out for it, and the same removal is out
pub record KeepsRemovals (old new : PlainState) : Type 0 where
  pub removed : new.removed ≡ old.removed
  pub given_out : new.given_out ≡ old.given_out
  pub removal : new.removal ≡ old.removal

pub same_removals : (plain : PlainState) → KeepsRemovals plain plain
same_removals plain = record { removed = refl; given_out = refl; removal = refl }

either_removals : (plain : PlainState) (b : Bool) (x y : PlainState) → KeepsRemovals plain x → KeepsRemovals plain y
    → KeepsRemovals plain (cond b x y)
either_removals plain true x y keeps other = keeps
either_removals plain false x y other keeps = keeps

-- an event is none of a removal
abbrev pub is_no_removal : PlainEvent → Bool
is_no_removal TakeRemove = false
is_no_removal (RemoveDone number) = false
is_no_removal (RemoveFailed number) = false
is_no_removal event = true

plan_removals : (plain : PlainState) (out : Option (List CopiedSector)) (sectors : List CopiedSector)
    → KeepsRemovals plain (with_plan out sectors plain)
plan_removals plain (Some plan) sectors = same_removals plain
plan_removals plain None [] = same_removals plain
plan_removals plain None (first ∷ more) = record { removed = refl; given_out = refl; removal = refl }

copy_removals : (plain : PlainState) (is_sealed : Bool) (out : Option (List CopiedSector))
    → KeepsRemovals plain (after_sealed_copy is_sealed out plain)
copy_removals plain is_sealed None = same_removals plain
copy_removals plain false (Some plan) = same_removals plain
copy_removals plain true (Some plan) = record { removed = refl; given_out = refl; removal = refl }

pub event_keeps_removals : (plain : PlainState) (event : PlainEvent) → is_no_removal event ≡ true
    → KeepsRemovals plain (plain_after event plain)
event_keeps_removals plain (Write lba body) is = record { removed = refl; given_out = refl; removal = refl }
event_keeps_removals plain (Zero lba sectors) is = record { removed = refl; given_out = refl; removal = refl }
event_keeps_removals plain Flush is = record { removed = refl; given_out = refl; removal = refl }
event_keeps_removals plain (Look lba sectors) is =
    let read : PlainCache = after_reads (look_calls plain lba sectors) plain.cache in
    let pins : List ℕ = cond (passes_look plain lba sectors) (plain.pins ++ objects_read plain lba sectors) plain.pins in
    either_removals plain (may_transfer plain.geometry lba sectors) (record plain { cache = read; pins = pins }) plain
    (record { removed = refl; given_out = refl; removal = refl }) (same_removals plain)
event_keeps_removals plain (Release numbers) is =
    either_removals plain (are_pinned numbers plain.pins) (record plain { pins = without_pins numbers plain.pins }) plain
    (record { removed = refl; given_out = refl; removal = refl }) (same_removals plain)
event_keeps_removals plain Seal is =
    let objects : List StreamObject = plain.objects ++ record { content = Data; end = end_of_next plain } ∷ [] in
    let window : WindowState = entered (plain.window.last + 1) false plain.window in
    either_removals plain (has_unsealed plain && not (is_busy plain)) (record plain { objects = objects; window = window }) plain
    (record { removed = refl; given_out = refl; removal = refl }) (same_removals plain)
event_keeps_removals plain TakeJob is = record { removed = refl; given_out = refl; removal = refl }
event_keeps_removals plain (JobDone job) is = record { removed = refl; given_out = refl; removal = refl }
event_keeps_removals plain (JobFailed job) is = record { removed = refl; given_out = refl; removal = refl }
event_keeps_removals plain SealCheckpoint is =
    let end = end_at (stream_in plain) (last_number (stream_in plain)) in
    let objects : List StreamObject = plain.objects ++ record { content = Checkpoint; end = end } ∷ [] in
    let window : WindowState = entered (plain.window.last + 1) true plain.window in
    either_removals plain (is_busy plain) plain (record plain { objects = objects; window = window })
    (same_removals plain) (record { removed = refl; given_out = refl; removal = refl })
event_keeps_removals plain TakeRemove is = absurd cc
event_keeps_removals plain (RemoveDone number) is = absurd cc
event_keeps_removals plain (RemoveFailed number) is = absurd cc
event_keeps_removals plain PlanCopy is = plan_removals plain plain.plan (planned_copy plain)
event_keeps_removals plain (SealCopy is_planned) is =
    copy_removals plain (is_planned && not (is_busy plain)) plain.plan
event_keeps_removals plain DropPlan is = record { removed = refl; given_out = refl; removal = refl }
event_keeps_removals plain Status is = same_removals plain

-- a line leaves no removal out, where it leaves the removals alone
pub still_at_once : (old new : PlainState) → KeepsRemovals old new → RemovesAtOnce old → RemovesAtOnce new
still_at_once old new keeps at_once = record {
  none_out = keeps.removal ∙ at_once.none_out;
  gone = keeps.given_out ∙ at_once.gone ∙ sym keeps.removed;
}

-- ---- what is expected and said of it

-- the same is expected of the objects
pub same_expected : (old new : PlainState) → GrowsByOne old new → expected_of_plain new ≡ expected_of_plain old
same_expected old new grows =
    ap (λ (g : Geometry). expected_of script_uuid g (length new.chain)) grows.geometry
    ∙ ap (λ (chain : List Ancestor). expected_of script_uuid old.geometry (length chain)) grows.chain

-- and what a store says of the one it says of the other
pub described_still : (old new : PlainState) (epoch : ℕ) (objects : Objects) → GrowsByOne old new
    → HasVolume script_uuid old.geometry old.chain epoch objects → HasVolume script_uuid new.geometry new.chain epoch objects
described_still old new epoch objects grows described =
    subst (λ chain. HasVolume script_uuid new.geometry chain epoch objects) (sym grows.chain)
    (subst (λ g. HasVolume script_uuid g old.chain epoch objects) (sym grows.geometry) described)
