-- What an event leaves of a plain volume, which goes on from it.
use Rattle.std.proofs.Common.{arith, ◌≡◌, ℕ, ◌+◌, ◌≤◌, Bool, true, false, cond, not, ◌&&◌, List, [], ◌∷◌, ◌++◌, append-nil, refl}
use Rattle.std.proofs.Common.{sym, ◌∙◌, ap, subst, Option, Some, None}
use Rattle.lsvd_base.specs.declared.entry.Entry.{Entry}
use Rattle.lsvd_base.specs.Limits.{may_transfer}
use Rattle.object_stream.specs.declared.object.Content.TheVariants.{Data, Checkpoint}
use Rattle.object_stream.specs.declared.object.CopiedSector.{CopiedSector}
use Rattle.object_stream.specs.declared.object.StreamObject.{StreamObject}
use Rattle.object_stream.specs.Stream.{end_at, last_number}
use Rattle.upload_window.specs.Window.{entered}
use Rattle.plain_disk.specs.declared.event.PlainEvent.{PlainEvent}
use Rattle.plain_disk.specs.declared.event.PlainEvent.TheVariants.{Write, Zero, Flush, Look, Release, Seal, TakeJob, JobDone}
use Rattle.plain_disk.specs.declared.event.PlainEvent.TheVariants.{JobFailed, SealCheckpoint, TakeRemove}
use Rattle.plain_disk.specs.declared.event.PlainEvent.TheVariants.{RemoveDone, RemoveFailed, PlanCopy, SealCopy, DropPlan}
use Rattle.plain_disk.specs.declared.event.PlainEvent.TheVariants.{Status}
use Rattle.plain_disk.specs.Cache.{passes_entry, after_reads}
use Rattle.plain_disk.specs.State.{PlainState, stream_in, frontier_of, folded_to}
use Rattle.plain_disk.specs.Removals.{to_remove, with_removal, is_out}
use Rattle.plain_disk.specs.Entries.{cache_for, comes_to_log, after_entering}
use Rattle.plain_disk.specs.Objects.{has_unsealed, is_busy, end_of_next}
use Rattle.plain_disk.specs.Collection.{planned_copy, with_plan, with_copy, after_sealed_copy}
use Rattle.plain_disk.specs.Reads.{look_calls, passes_look, objects_read, are_pinned, without_pins}
use Rattle.plain_disk.specs.Step.{plain_after}
use Rattle.plain_disk.specs.Valid.{IsPlainVolume}
use Rattle.plain_disk.proofs.EventLemmas.{events_keep}
use Rattle.plain_disk.proofs.FlushLemmas.{events_keep_committed}
use Rattle.plain_disk.proofs.FoldVolumeLemmas.{folding_keeps}
use Rattle.plain_disk.proofs.FoldEventLemmas.{folding_commutes_with_events}
use Rattle.plain_disk.proofs.OpeningLemmas.{checkpoint_goes_on}
use Rattle.volume_owner.specs.History.{GoesOn}

-- ---- the frontier

-- no event lowers it: the volume may be folded up to it before
pub frontier_grows : (plain : PlainState) (event : PlainEvent) → IsPlainVolume plain
    → frontier_of plain ≤ frontier_of (plain_after event plain)
frontier_grows plain event valid =
    let n : ℕ = frontier_of plain in
    let folded = folding_keeps plain n valid valid.opened (omega arith) in
    let after = events_keep (folded_to n plain) event folded in
    let same = folding_commutes_with_events plain n event valid valid.opened (omega arith) in
    subst (λ (s : PlainState). s.number ≤ frontier_of s) same after.opened

-- ---- all events but those of entries

-- what such an event leaves: the entries stay, and objects, and numbers that were given out for removal or are removed, may come
pub record KeepsEntries (plain after : PlainState) : Type 0 where
  pub opens : after ≡ record plain {
    objects = after.objects;
    window = after.window;
    checkpoint = after.checkpoint;
    plan = after.plan;
    pins = after.pins;
    removed = after.removed;
    given_out = after.given_out;
    removal = after.removal;
    cache = after.cache;
  }
  pub objects : (more : List StreamObject) × (after.objects ≡ plain.objects ++ more)
  pub given_out : (more : List ℕ) × (after.given_out ≡ plain.given_out ++ more)
  pub removed : (more : List ℕ) × (after.removed ≡ plain.removed ++ more)

either_keeps : (plain : PlainState) (b : Bool) (x y : PlainState) → KeepsEntries plain x → KeepsEntries plain y
    → KeepsEntries plain (cond b x y)
either_keeps plain true x y keeps other = keeps
either_keeps plain false x y other keeps = keeps

none_more : {T : Type 0} (list : List T) → (more : List T) × (list ≡ list ++ more)
none_more list = ([], sym (append-nil list))

-- the same window, checkpoint, plan, pins, removal and cache as this one has, and nothing else
abbrev with_same_lists : PlainState → PlainState → PlainState
with_same_lists plain after = record plain {
  window = after.window;
  checkpoint = after.checkpoint;
  plan = after.plan;
  pins = after.pins;
  removal = after.removal;
  cache = after.cache;
}

same_lists : (plain after : PlainState) → KeepsEntries plain (with_same_lists plain after)
same_lists plain after = record {
  opens = refl;
  objects = none_more plain.objects;
  given_out = none_more plain.given_out;
  removed = none_more plain.removed;
}

-- an object is sealed
sealed_keeps : (plain : PlainState) (is_checkpoint : Bool) (object : StreamObject) → KeepsEntries plain (record plain {
  objects = plain.objects ++ object ∷ [];
  window = entered (plain.window.last + 1) is_checkpoint plain.window;
})
sealed_keeps plain is_checkpoint object = record {
  opens = refl;
  objects = (object ∷ [], refl);
  given_out = none_more plain.given_out;
  removed = none_more plain.removed;
}

-- a removal begins
removing_keeps : (plain : PlainState) (out lowest : Option ℕ) → KeepsEntries plain (with_removal out lowest plain)
removing_keeps plain None (Some number) = record {
  opens = refl;
  objects = none_more plain.objects;
  given_out = (number ∷ [], refl);
  removed = none_more plain.removed;
}
removing_keeps plain None None = same_lists plain plain
removing_keeps plain (Some other) lowest = same_lists plain plain

removed_keeps : (plain : PlainState) (number : ℕ) → KeepsEntries plain (record plain {
  removed = plain.removed ++ number ∷ [];
  removal = None;
})
removed_keeps plain number = record {
  opens = refl;
  objects = none_more plain.objects;
  given_out = none_more plain.given_out;
  removed = (number ∷ [], refl);
}

-- a plan of a copy is made
planning_keeps : (plain : PlainState) (out : Option (List CopiedSector)) (sectors : List CopiedSector)
    → KeepsEntries plain (with_plan out sectors plain)
planning_keeps plain (Some plan) sectors = same_lists plain plain
planning_keeps plain None [] = same_lists plain plain
planning_keeps plain None (first ∷ more) = same_lists plain (record plain { plan = Some (first ∷ more) })

-- what was copied is sealed, or is not
copy_keeps : (plain : PlainState) (plan : List CopiedSector) → KeepsEntries plain (with_copy plan plain)
copy_keeps plain plan = record {
  opens = refl;
  objects = (_, refl);
  given_out = none_more plain.given_out;
  removed = none_more plain.removed;
}

sealed_copy_keeps : (plain : PlainState) (is_sealed : Bool) (out : Option (List CopiedSector))
    → KeepsEntries plain (after_sealed_copy is_sealed out plain)
sealed_copy_keeps plain is_sealed None = same_lists plain plain
sealed_copy_keeps plain is_sealed (Some plan) =
    either_keeps plain is_sealed (with_copy plan plain) plain (copy_keeps plain plan) (same_lists plain plain)

-- an event that enters nothing
abbrev pub is_quiet : PlainEvent → Bool
is_quiet (Write lba body) = false
is_quiet (Zero lba sectors) = false
is_quiet event = true

pub quiet_keeps : (plain : PlainState) (event : PlainEvent) → is_quiet event ≡ true → KeepsEntries plain (plain_after event plain)
quiet_keeps plain (Write lba body) quiet = let bad : ⊥ = cc in absurd bad
quiet_keeps plain (Zero lba sectors) quiet = let bad : ⊥ = cc in absurd bad
quiet_keeps plain Flush quiet = same_lists plain (plain_after Flush plain)
quiet_keeps plain (Look lba sectors) quiet =
    let after : PlainState = record plain {
      cache = after_reads (look_calls plain lba sectors) plain.cache;
      pins = cond (passes_look plain lba sectors) (plain.pins ++ objects_read plain lba sectors) plain.pins;
    } in
    either_keeps plain (may_transfer plain.geometry lba sectors) after plain (same_lists plain after) (same_lists plain plain)
quiet_keeps plain (Release numbers) quiet =
    let after : PlainState = record plain { pins = without_pins numbers plain.pins } in
    either_keeps plain (are_pinned numbers plain.pins) after plain (same_lists plain after) (same_lists plain plain)
quiet_keeps plain Seal quiet =
    let object : StreamObject = record { content = Data; end = end_of_next plain } in
    either_keeps plain (has_unsealed plain && not (is_busy plain)) (record plain {
      objects = plain.objects ++ object ∷ [];
      window = entered (plain.window.last + 1) false plain.window;
    }) plain (sealed_keeps plain false object) (same_lists plain plain)
quiet_keeps plain TakeJob quiet = same_lists plain (plain_after TakeJob plain)
quiet_keeps plain (JobDone job) quiet = same_lists plain (plain_after (JobDone job) plain)
quiet_keeps plain (JobFailed job) quiet = same_lists plain (plain_after (JobFailed job) plain)
quiet_keeps plain SealCheckpoint quiet =
    let object : StreamObject =
    record { content = Checkpoint; end = end_at (stream_in plain) (last_number (stream_in plain)) } in
    either_keeps plain (is_busy plain) plain (record plain {
      objects = plain.objects ++ object ∷ [];
      window = entered (plain.window.last + 1) true plain.window;
    }) (same_lists plain plain) (sealed_keeps plain true object)
quiet_keeps plain TakeRemove quiet = removing_keeps plain plain.removal (to_remove plain)
quiet_keeps plain (RemoveDone number) quiet =
    either_keeps plain (is_out number plain.removal) (record plain {
      removed = plain.removed ++ number ∷ [];
      removal = None;
    }) plain (removed_keeps plain number) (same_lists plain plain)
quiet_keeps plain (RemoveFailed number) quiet =
    let after : PlainState = record plain { removal = None } in
    either_keeps plain (is_out number plain.removal) after plain (same_lists plain after) (same_lists plain plain)
quiet_keeps plain PlanCopy quiet = planning_keeps plain plain.plan (planned_copy plain)
quiet_keeps plain (SealCopy is_planned) quiet = sealed_copy_keeps plain (is_planned && not (is_busy plain)) plain.plan
quiet_keeps plain DropPlan quiet = same_lists plain (record plain { plan = None })
quiet_keeps plain Status quiet = same_lists plain plain

pub quiet_goes_on : (plain : PlainState) (event : PlainEvent) → IsPlainVolume plain → is_quiet event ≡ true
    → GoesOn [] plain (plain_after event plain)
quiet_goes_on plain event valid quiet =
    let after : PlainState = plain_after event plain in
    let keeps = quiet_keeps plain event quiet in
    record {
      opens =
          keeps.opens
          ∙ ap (λ (es : List Entry). record plain {
            entries = es;
            objects = after.objects;
            window = after.window;
            checkpoint = after.checkpoint;
            plan = after.plan;
            pins = after.pins;
            removed = after.removed;
            given_out = after.given_out;
            removal = after.removal;
            cache = after.cache;
          })
          (sym (append-nil plain.entries));
      objects = keeps.objects;
      frontier = frontier_grows plain event valid;
      committed = (events_keep_committed plain event valid).0;
      checkpoint = (checkpoint_goes_on plain valid).0 event;
      given_out = keeps.given_out;
      removed = keeps.removed;
    }

-- ---- an entry

-- it is entered
abbrev pub is_entered : PlainState → Entry → Bool
is_entered plain entry = comes_to_log plain entry && passes_entry (cache_for plain entry) entry

abbrev pub entered_if : Bool → Entry → List Entry
entered_if true entry = entry ∷ []
entered_if false entry = []

with_entries_if : (b : Bool) (entry : Entry) (list : List Entry) → cond b (list ++ entry ∷ []) list ≡ list ++ entered_if b entry
with_entries_if true entry list = refl
with_entries_if false entry list = sym (append-nil list)

pub entering_goes_on : (plain : PlainState) (entry : Entry) (event : PlainEvent)
    → plain_after event plain ≡ after_entering entry plain
    → IsPlainVolume plain → GoesOn (entered_if (is_entered plain entry) entry) plain (after_entering entry plain)
entering_goes_on plain entry event is valid =
    let after : PlainState = after_entering entry plain in
    record {
      opens =
          ap (λ (es : List Entry). record plain {
            entries = es;
            objects = after.objects;
            window = after.window;
            checkpoint = after.checkpoint;
            plan = after.plan;
            pins = after.pins;
            removed = after.removed;
            given_out = after.given_out;
            removal = after.removal;
            cache = after.cache;
          })
          (with_entries_if (is_entered plain entry) entry plain.entries);
      objects = ([], sym (append-nil plain.objects));
      frontier = omega arith;
      committed = subst (λ (s : PlainState). plain.cache.log.last.head.seq ≤ s.cache.log.last.head.seq) is
          (events_keep_committed plain event valid).0;
      checkpoint = omega arith;
      given_out = none_more plain.given_out;
      removed = none_more plain.removed;
    }

-- ---- one after the other

pub goes_on_nothing : (plain : PlainState) → GoesOn [] plain plain
goes_on_nothing plain = record {
  opens = ap (λ (es : List Entry). record plain { entries = es }) (sym (append-nil plain.entries));
  objects = ([], sym (append-nil plain.objects));
  frontier = omega arith;
  committed = omega arith;
  checkpoint = omega arith;
  given_out = none_more plain.given_out;
  removed = none_more plain.removed;
}
