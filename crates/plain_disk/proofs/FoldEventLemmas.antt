-- Entries of a plain volume may be folded before an event or after it.
use Rattle.std.proofs.Common.{arith, ℕ, ◌+◌, ◌-◌, ◌≤◌, ◌≡◌, Bool, true, false, cond, not, ◌&&◌, eqb, Option, Some, None, is_some}
use Rattle.std.proofs.Common.{List, []}
use Rattle.std.proofs.Common.{◌∷◌, ◌++◌, map, length, take, drop, refl, sym, ◌∙◌, ap}
use Rattle.std.proofs.lemmas.List.{take-append-le, drop-append-le}
use Rattle.std.specs.List.{range_with_len}
use Rattle.lsvd_base.specs.declared.entry.Entry.{Entry}
use Rattle.lsvd_base.specs.declared.entry.Entry.TheVariants as entries
use Rattle.lsvd_base.specs.Image.{Image, after}
use Rattle.lsvd_base.specs.Limits.{may_transfer}
use Rattle.lsvd_device.specs.Calls.{passes}
use Rattle.object_stream.specs.declared.object.CopiedSector.{CopiedSector}
use Rattle.object_stream.specs.declared.object.Content.TheVariants.{Data, Copy, Checkpoint}
use Rattle.object_stream.specs.declared.object.StreamObject.{StreamObject}
use Rattle.object_stream.specs.declared.owner.Owner.{Owner}
use Rattle.object_stream.specs.Stream.{Owners, after_objects, end_after, end_at, last_number}
use Rattle.object_stream.proofs.StreamLemmas.{follow_first}
use Rattle.upload_window.specs.Window.{WindowState, entered}
use Rattle.plain_disk.specs.declared.event.PlainEvent.{PlainEvent}
use Rattle.plain_disk.specs.declared.event.PlainEvent.TheVariants.{Write, Zero, Flush, Look, Release, Seal, TakeJob, JobDone}
use Rattle.plain_disk.specs.declared.event.PlainEvent.TheVariants.{JobFailed, SealCheckpoint, TakeRemove}
use Rattle.plain_disk.specs.declared.event.PlainEvent.TheVariants.{RemoveDone, RemoveFailed, PlanCopy, SealCopy, DropPlan}
use Rattle.plain_disk.specs.declared.event.PlainEvent.TheVariants.{Status}
use Rattle.plain_disk.specs.Writers.{read_calls}
use Rattle.plain_disk.specs.Cache.{PlainCache, after_reads, passes_entry, cache_after_entry, cache_after_commit}
use Rattle.plain_disk.specs.State.{PlainState, PlainCheckpoint, stream_in, frontier_end, unsealed_entries, payloads_after}
use Rattle.plain_disk.specs.State.{folded_to}
use Rattle.plain_disk.specs.Checkpoints.{checkpoint_at, is_started_checkpoint}
use Rattle.plain_disk.specs.Removals.{to_remove, with_removal, is_out}
use Rattle.plain_disk.specs.Entries.{has_room_for, cache_for, comes_to_log, cache_after, after_entering}
use Rattle.plain_disk.specs.Reads.{objects_read, look_calls, passes_look, after_look, are_pinned, without_pins}
use Rattle.plain_disk.specs.Objects.{sealed_count, is_busy, has_unsealed, end_of_next, after_seal, after_seal_checkpoint}
use Rattle.plain_disk.specs.Objects.{after_done}
use Rattle.plain_disk.specs.Collection.{planned_copy, with_plan, with_copy, after_sealed_copy}
use Rattle.plain_disk.specs.Step.{plain_after}
use Rattle.plain_disk.specs.Valid.{FoldingCommutesWithEvents, FoldingCommutesWithStops}
use Rattle.plain_disk.proofs.FoldLemmas.{MayFold, fold_sealed, fold_from, fold_within, frontier_end_of_fold, logged_of_fold}
use Rattle.plain_disk.proofs.FoldLemmas.{unsealed_of_fold, last_end_of_fold, owners_of_first, payloads_of_first}
use Rattle.plain_disk.proofs.CheckpointLemmas.{at_of_fold, started_is_lowest}
use Rattle.plain_disk.proofs.FoldReplyLemmas.{by_four, refusal_by, cache_by, made_by, objects_of_fold, planned_of_fold}

-- the volume that opens after some first objects, where these are its entries, and these the objects after those
abbrev pub opened_by : PlainState → (number : ℕ) → List Entry → (first rest : List StreamObject) → PlainState
opened_by state number entries first rest = record state {
  opening = after state.opening (take (end_after state.end first - state.end) entries);
  number = number;
  end = end_after state.end first;
  owned = map (after_objects state.number state.end entries (stream_in state).opening first)
      (range_with_len 0 state.geometry.sectors);
  payloads = state.payloads ++ payloads_after state.geometry.sectors state.end entries first;
  entries = drop (end_after state.end first - state.end) entries;
  objects = rest;
}

-- ---- an entry

-- more entries are not folded
opened_with_more : (state : PlainState) (number : ℕ) (more : List Entry) → MayFold state number
    → record (folded_to number state) { entries = (folded_to number state).entries ++ more }
    ≡ opened_by state number (state.entries ++ more) (take (number - state.number) state.objects)
    (drop (number - state.number) state.objects)
opened_with_more state number more h =
    let first = take (number - state.number) state.objects in
    let ends = end_at (stream_in state) number in
    let from = fold_from state number h in
    let within = fold_within state number h in
    let inside : ends - state.end ≤ length state.entries = omega arith in
    let opening = ap (after state.opening) (sym (take-append-le (ends - state.end) state.entries more inside)) in
    let owned = ap (λ (f : Owners). map f (range_with_len 0 state.geometry.sectors))
    (sym (owners_of_first state.number state.end state.entries more (stream_in state).opening first
    (follow_first state.end (number - state.number) state.objects h.valid.stream.ends) within)) in
    let payloads = ap (λ list. state.payloads ++ list) (sym (payloads_of_first state.geometry.sectors state.end state.entries more
    first (follow_first state.end (number - state.number) state.objects h.valid.stream.ends) within)) in
    let rest = sym (drop-append-le (ends - state.end) state.entries more inside) in
    by_four (λ (o : Image) (w : List (Option Owner)) (p : List ℕ) (e : List Entry). record (folded_to number state) {
      opening = o;
      owned = w;
      payloads = p;
      entries = e;
    })
    _ _ _ _ _ _ _ _ opening owned payloads rest

-- one entry more or none
fold_with : (state : PlainState) (number : ℕ) (entry : Entry) (cache : PlainCache) (is_taken : Bool) → MayFold state number
    → record (folded_to number state) {
      cache = cache;
      entries = cond is_taken ((folded_to number state).entries ++ entry ∷ []) (folded_to number state).entries;
    }
    ≡ folded_to number (record state { cache = cache; entries = cond is_taken (state.entries ++ entry ∷ []) state.entries })
fold_with state number entry cache true h =
    ap (λ (s : PlainState). record s { cache = cache }) (opened_with_more state number (entry ∷ []) h)
fold_with state number entry cache false h = refl

-- what an entry leaves, by the unsealed entries and the frontier's end
abbrev comes_by : PlainState → Entry → List Entry → ℕ → Bool
comes_by state entry unsealed end =
    not (is_some (refusal_by state.geometry unsealed entry)) && made_by state.cache end entry
    && has_room_for (cache_by state.cache end entry) entry

abbrev entered_by : PlainState → Entry → List Entry → ℕ → PlainState
entered_by state entry unsealed end = record state {
  cache =
      cond (is_some (refusal_by state.geometry unsealed entry)) state.cache
      (cond (comes_by state entry unsealed end) (cache_after_entry entry (cache_by state.cache end entry))
      (cache_by state.cache end entry));
  entries =
      cond (comes_by state entry unsealed end && passes_entry (cache_by state.cache end entry) entry)
      (state.entries ++ entry ∷ []) state.entries;
}

entering_of_fold : (state : PlainState) (number : ℕ) (entry : Entry) → MayFold state number
    → after_entering entry (folded_to number state) ≡ folded_to number (after_entering entry state)
entering_of_fold state number entry h =
    let folded : PlainState = folded_to number state in
    ap (λ (u : List Entry). entered_by folded entry u (frontier_end folded)) (unsealed_of_fold state number h)
    ∙ ap (λ (e : ℕ). entered_by folded entry (unsealed_entries state) e) (frontier_end_of_fold state number h)
    ∙ fold_with state number entry (cache_after state entry)
    (comes_to_log state entry && passes_entry (cache_for state entry) entry) h

-- one of two volumes
fold_choice : (number : ℕ) (b : Bool) (x y : PlainState)
    → cond b (folded_to number x) (folded_to number y) ≡ folded_to number (cond b x y)
fold_choice number true x y = refl
fold_choice number false x y = refl

-- ---- a read, and a plan that is given back

fold_either : (state : PlainState) (number : ℕ) (b : Bool) (cache : PlainCache) (pins : List ℕ)
    → cond b (record (folded_to number state) { cache = cache; pins = pins }) (folded_to number state)
    ≡ folded_to number (cond b (record state { cache = cache; pins = pins }) state)
fold_either state number true cache pins = refl
fold_either state number false cache pins = refl

abbrev looked_by : PlainState → (lba sectors : ℕ) → (calls : ℕ) → List ℕ → PlainState
looked_by state lba sectors calls objects =
    cond (may_transfer state.geometry lba sectors)
    (record state {
      cache = after_reads calls state.cache;
      pins = cond (passes state.cache.left calls) (state.pins ++ objects)
          state.pins;
    })
    state

look_of_fold : (state : PlainState) (number lba sectors : ℕ) → MayFold state number
    → after_look lba sectors (folded_to number state) ≡ folded_to number (after_look lba sectors state)
look_of_fold state number lba sectors h =
    let folded : PlainState = folded_to number state in
    ap (λ (l : List Entry). looked_by folded lba sectors (read_calls l lba sectors) (objects_read folded lba sectors))
    (logged_of_fold state number h)
    ∙ ap (λ (o : List ℕ). looked_by folded lba sectors (look_calls state lba sectors) o)
    (objects_of_fold state number lba sectors h)
    ∙ fold_either state number (may_transfer state.geometry lba sectors) (after_reads (look_calls state lba sectors) state.cache)
    (cond (passes_look state lba sectors) (state.pins ++ objects_read state lba sectors) state.pins)

-- ---- a seal

fold_with_object : (state : PlainState) (number : ℕ) (object : StreamObject) (window : WindowState) (is_sealed : Bool)
    → MayFold state number
    → cond is_sealed (record (folded_to number state) {
      objects = (folded_to number state).objects ++ object ∷ [];
      window = window;
    }) (folded_to number state)
    ≡ folded_to number (cond is_sealed (record state { objects = state.objects ++ object ∷ []; window = window }) state)
fold_with_object state number object window false h = refl
fold_with_object state number object window true h =
    let n = number - state.number in
    let sealed = fold_sealed state number h in
    let inside : n ≤ length state.objects = omega arith in
    let first = sym (take-append-le n state.objects (object ∷ []) inside) in
    let rest = sym (drop-append-le n state.objects (object ∷ []) inside) in
    ap (λ (r : List StreamObject). record (opened_by state number state.entries (take n state.objects) r) { window = window })
    rest
    ∙ ap (λ (f : List StreamObject). record (opened_by state number state.entries f (drop n (state.objects ++ object ∷ [])))
    { window = window }) first

abbrev sealed_by : PlainState → (last_end : ℕ) → List Entry → PlainState
sealed_by state last_end unsealed =
    cond (not (eqb (length unsealed) 0) && not (is_busy state))
    (record state {
      objects = state.objects ++ record { content = Data; end = last_end + sealed_count state.geometry.batch unsealed } ∷ [];
      window = entered (state.window.last + 1) false state.window;
    })
    state

seal_of_fold : (state : PlainState) (number : ℕ) → MayFold state number
    → after_seal (folded_to number state) ≡ folded_to number (after_seal state)
seal_of_fold state number h =
    let folded : PlainState = folded_to number state in
    ap (λ (e : ℕ). sealed_by folded e (unsealed_entries folded)) (last_end_of_fold state number h)
    ∙ ap (λ (u : List Entry). sealed_by folded (end_at (stream_in state) (last_number (stream_in state))) u)
    (unsealed_of_fold state number h)
    ∙ fold_with_object state number (record { content = Data; end = end_of_next state })
    (entered (state.window.last + 1) false state.window)
    (has_unsealed state && not (is_busy state)) h

-- a checkpoint repeats the last end
seal_checkpoint_of_fold : (state : PlainState) (number : ℕ) → MayFold state number
    → after_seal_checkpoint (folded_to number state) ≡ folded_to number (after_seal_checkpoint state)
seal_checkpoint_of_fold state number h =
    let folded : PlainState = folded_to number state in
    let window : WindowState = entered (state.window.last + 1) true state.window in
    let sealed = λ (end : ℕ). record folded {
      objects = folded.objects ++ record { content = Checkpoint; end = end } ∷ [];
      window = window;
    } in
    let end = end_at (stream_in state) (last_number (stream_in state)) in
    let object : StreamObject = record { content = Checkpoint; end = end } in
    ap (λ (e : ℕ). cond (is_busy state) folded (sealed e)) (last_end_of_fold state number h)
    ∙ ap (λ (s : PlainState). cond (is_busy state) folded s) (fold_with_object state number object window true h)
    ∙ fold_choice number (is_busy state) state (record state { objects = state.objects ++ object ∷ []; window = window })

-- ---- a put that is done

done_of_fold : (state : PlainState) (number : ℕ) (job : Option ℕ) → MayFold state number
    → after_done job (folded_to number state) ≡ folded_to number (after_done job state)
done_of_fold state number None h = refl
done_of_fold state number (Some done) h =
    let test = is_started_checkpoint done state.window.objects in
    let same : cond test (checkpoint_at done (folded_to number state)) state.checkpoint
    ≡ cond test (checkpoint_at done state) state.checkpoint =
    elim test as (λ b. test ≡ b → cond b (checkpoint_at done (folded_to number state)) state.checkpoint
    ≡ cond b (checkpoint_at done state) state.checkpoint) [
      | true ↦ λ is.
          (let lowest = started_is_lowest state done h.valid is in
          at_of_fold state number done h (omega (arith, lowest.0, h.to)))
      | false ↦ λ is. refl
    ] refl in
    ap (λ (c : PlainCheckpoint). record (folded_to number (after_done (Some done) state)) { checkpoint = c }) same

-- ---- a removal

removing_of_fold : (state : PlainState) (number : ℕ) (out lowest : Option ℕ)
    → with_removal out lowest (folded_to number state) ≡ folded_to number (with_removal out lowest state)
removing_of_fold state number None None = refl
removing_of_fold state number None (Some removed) = refl
removing_of_fold state number (Some other) lowest = refl

-- ---- a copy

planning_of_fold : (state : PlainState) (number : ℕ) (out : Option (List CopiedSector)) (sectors : List CopiedSector)
    → with_plan out sectors (folded_to number state) ≡ folded_to number (with_plan out sectors state)
planning_of_fold state number (Some plan) sectors = refl
planning_of_fold state number None [] = refl
planning_of_fold state number None (first ∷ more) = refl

-- a copy repeats the last end
copy_of_fold : (state : PlainState) (number : ℕ) (is_sealed : Bool) (out : Option (List CopiedSector)) → MayFold state number
    → after_sealed_copy is_sealed out (folded_to number state) ≡ folded_to number (after_sealed_copy is_sealed out state)
copy_of_fold state number is_sealed None h = refl
copy_of_fold state number is_sealed (Some plan) h =
    let folded : PlainState = folded_to number state in
    let window : WindowState = entered (state.window.last + 1) false state.window in
    let copied = λ (end : ℕ). record folded {
      plan = None;
      objects = folded.objects ++ record { content = Copy plan; end = end } ∷ [];
      window = window;
    } in
    let end = end_at (stream_in state) (last_number (stream_in state)) in
    let object : StreamObject = record { content = Copy plan; end = end } in
    ap (λ (e : ℕ). cond is_sealed (copied e) folded) (last_end_of_fold state number h)
    ∙ ap (λ (s : PlainState). cond is_sealed (record s { plan = None }) folded)
    (fold_with_object state number object window true h)
    ∙ fold_choice number is_sealed (with_copy plan state) state

-- ---- each event

event_of_fold : (state : PlainState) (number : ℕ) (event : PlainEvent) → MayFold state number
    → plain_after event (folded_to number state) ≡ folded_to number (plain_after event state)
event_of_fold state number (Write lba body) h = entering_of_fold state number (entries.Write lba body) h
event_of_fold state number (Zero lba sectors) h = entering_of_fold state number (entries.Zero lba sectors) h
event_of_fold state number Flush h =
    ap (λ (e : ℕ). record (folded_to number state) { cache = cache_after_commit e state.cache })
    (frontier_end_of_fold state number h)
event_of_fold state number (Look lba sectors) h = look_of_fold state number lba sectors h
event_of_fold state number (Release numbers) h =
    fold_either state number (are_pinned numbers state.pins) state.cache (without_pins numbers state.pins)
event_of_fold state number Seal h = seal_of_fold state number h
event_of_fold state number TakeJob h = refl
event_of_fold state number (JobDone job) h = done_of_fold state number job h
event_of_fold state number (JobFailed job) h = refl
event_of_fold state number SealCheckpoint h = seal_checkpoint_of_fold state number h
event_of_fold state number TakeRemove h = removing_of_fold state number state.removal (to_remove state)
event_of_fold state number (RemoveDone removed) h =
    fold_choice number (is_out removed state.removal)
    (record state { removed = state.removed ++ removed ∷ []; removal = None }) state
event_of_fold state number (RemoveFailed removed) h =
    fold_choice number (is_out removed state.removal) (record state { removal = None }) state
event_of_fold state number PlanCopy h =
    ap (λ (sectors : List CopiedSector). with_plan state.plan sectors (folded_to number state)) (planned_of_fold state number h)
    ∙ planning_of_fold state number state.plan (planned_copy state)
event_of_fold state number (SealCopy is_planned) h =
    copy_of_fold state number (is_planned && not (is_busy state)) state.plan h
event_of_fold state number DropPlan h = refl
event_of_fold state number Status h = refl

pub folding_commutes_with_events : FoldingCommutesWithEvents
folding_commutes_with_events state number event h from to =
    event_of_fold state number event (record { valid = h; from = from; to = to })

pub folding_commutes_with_stops : FoldingCommutesWithStops
folding_commutes_with_stops state number calls = refl
