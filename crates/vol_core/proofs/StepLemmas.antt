-- A step that asks the device for nothing, and the invariant after a step.
use Rattle.std.proofs.Common.{◌≡◌, ℕ, zero, suc, ◌+◌, ◌-◌, ◌≤◌, ◌<◌, ◌⊎◌, inl, inr, Option, Some, None, List, [], ◌∷◌, drop}
use Rattle.std.proofs.Common.{sym, ◌∙◌, ap, subst, arith}
use Rattle.std.specs.Prelude.{IfSome}
use Rattle.std.proofs.Math.Path.{subst₂}
use Rattle.std.proofs.lemmas.List.{drop-drop}
use Rattle.lsvd_base.specs.declared.entry.Entry.{Entry}
use Rattle.lsvd_device.specs.Calls.{Fuse}
use Rattle.lsvd_objstore.specs.Store.{ReceiptState}
use Rattle.upload_window.specs.Window.{WindowState}
use Rattle.cache_log.specs.declared.row.Row.{Row}
use Rattle.cache_log.specs.Log.{LogState, next_seq, AreRowsOf}
use Rattle.gc_copier.specs.Plan.{PlanState}
use Rattle.obj_log.specs.State.{ObjLogState}
use Rattle.plain_disk.specs.declared.event.PlainEvent.{PlainEvent}
use Rattle.plain_disk.specs.Cache.{PlainCache}
use Rattle.plain_disk.specs.State.{PlainState, frontier_of, frontier_end, logged_entries}
use Rattle.plain_disk.specs.Step.{plain_reply, plain_after}
use Rattle.plain_disk.specs.Valid.{IsPlainVolume}
use Rattle.plain_disk.proofs.EndLemmas.{ends_from}
use Rattle.refine_log.specs.Shows.{ShowsLog}
use Rattle.refine_log.specs.Logged.{listed_from, HasLoggedEntries}
use Rattle.refine_objects.specs.Shows.{ShowsObjects}
use Rattle.refine_log.specs.Pending.{ShowsPending}
use Rattle.refine_objects.specs.Table.{ShowsTable}
use Rattle.refine_objects.specs.Plan.{ShowsPlan}
use Rattle.refine_objects.specs.PlanLaws.{KeepsPlan}
use Rattle.vol_core.specs.declared.event.Event.{Event}
use Rattle.vol_core.specs.declared.reply.Reply.{Reply}
use Rattle.vol_core.specs.Volume.{VolumeState, SteppedVolume}
use Rattle.vol_core.specs.Shows.{Shows, IsSmall, NumbersGrow, IsVolume, max_number}
use Rattle.vol_core.specs.Events.{Asks, Tells}
use Rattle.vol_core.specs.Step.{passing, IsStep, IsNoStep, StepsAsPlain, StepOf}
use Rattle.vol_core.specs.Calls.{IsReadyForStep}
use Rattle.vol_core.proofs.PinsGrow.{pins_grow}

-- ---- other calls

-- a plain volume stays one whatever calls its device passes
pub passing_keeps : (left : Fuse) (plain : PlainState) → IsPlainVolume plain → IsPlainVolume (passing left plain)
passing_keeps left plain valid = record {
  limits = valid.limits;
  sectors = valid.sectors;
  owned = valid.owned;
  payloads = valid.payloads;
  in_range = valid.in_range;
  stream = valid.stream;
  window = valid.window;
  last = valid.last;
  opened = valid.opened;
  begun = valid.begun;
  checkpoint = valid.checkpoint;
  held = valid.held;
  log = valid.log;
  size = valid.size;
}

-- ---- a step without calls of the device

-- It takes the fuse that the plain volume has, which is the one that the device tells; and the log and the cache are as they
-- were.
pub quiet_step : {R : Type 0} (state : R → ReceiptState) (event : Event R) (reply : Reply R) (plain : PlainState)
    (old new : VolumeState)
    → (asked : PlainEvent) → Shows old plain → Asks state old event asked → Tells state old reply (plain_reply plain asked)
    → Shows new (plain_after asked plain) → new.log ≡ old.log → (plain_after asked plain).cache ≡ plain.cache
    → IsStep state event reply plain old new
quiet_step state event reply plain old new asked shows asks tells now same_log same_cache = record {
  left = plain.cache.left;
  asked = asked;
  asks = asks;
  tells = tells;
  shows = subst (λ left. Shows new (passing left (plain_after asked plain))) now.fuse now;
  told = λ room. (shows.fuse, now.fuse);
  pending = λ room pends. subst₂ ShowsPending (sym same_log) (sym same_cache) pends;
}

-- ---- numbers

-- the numbers grow by one entry, one object and two commits at most
pub record CountsGrow (old new : VolumeState) : Type 0 where
  pub entries : next_seq new.log ≤ next_seq old.log + 1
  pub objects : new.objects.uploads.window.last ≤ old.objects.uploads.window.last + 1
  pub commits : new.log.commits.number ≤ old.log.commits.number + 2

-- and by a pin on each object, in each step
pub numbers_grow : {R : Type 0} (state : R → ReceiptState) (event : Event R) (reply : Reply R) (old new : VolumeState)
    (plain : PlainState)
    → Shows old plain → StepsAsPlain state event reply old new → CountsGrow old new → NumbersGrow old new
numbers_grow state event reply old new plain shows steps counts = record {
  entries = counts.entries;
  objects = counts.objects;
  commits = counts.commits;
  pins = pins_grow state event reply old new plain shows steps;
}

-- they do not grow where neither the log nor the window changes
pub counts_stay : (old new : VolumeState) → new.log ≡ old.log → new.objects.uploads.window ≡ old.objects.uploads.window
    → CountsGrow old new
counts_stay old new same_log same_window =
    let next = ap next_seq same_log in
    let last = ap (λ (w : WindowState). w.last) same_window in
    let number = ap (λ (l : LogState). l.commits.number) same_log in
    record { entries = omega (arith, next); objects = omega (arith, last); commits = omega (arith, number) }

-- a step leaves them small
pub small_of : (old new : VolumeState) (steps : ℕ) → NumbersGrow old new → IsReadyForStep (record { volume = old; steps = steps })
    → IsSmall new steps
small_of old new steps grow ready =
    let counted = ready.counted in
    let small = ready.small in
    record {
      entries = omega (arith, counted, small.entries, grow.entries);
      objects = omega (arith, counted, small.objects, grow.objects);
      commits = omega (arith, counted, small.commits, grow.commits);
      pins = λ number. omega (arith, counted, small.pins number, grow.pins number);
    }

-- ---- the invariant after a step

-- a step leaves a volume that shows some plain volume
pub shown_after : {R : Type 0} (state : R → ReceiptState) (event : Event R) (reply : Reply R) (plain : PlainState)
    (old new : VolumeState)
    → IsStep state event reply plain old new ⊎ IsNoStep state event reply plain old new → (now : PlainState) × Shows new now
shown_after state event reply plain old new (inl step) = (_, step.shows)
shown_after state event reply plain old new (inr none) = (plain, none.shows)

pub steps_keep_volume : {R : Type 0} (state : R → ReceiptState) (event : Event R) (reply : Reply R) (old new : VolumeState)
    (steps : ℕ)
    → IsVolume (record { volume = old; steps = steps }) → IsReadyForStep (record { volume = old; steps = steps })
    → StepsAsPlain state event reply old new → NumbersGrow old new
    → IsVolume (record { volume = new; steps = steps })
steps_keep_volume state event reply old new steps is ready as_plain grow =
    let after = shown_after state event reply is.plain old new (as_plain is.plain is.shows) in
    record { plain = after.0; shows = after.1; steps = is.steps; small = small_of old new steps grow ready }

-- and so does a step that is counted with it
pub counted_keeps_volume : {R : Type 0} (state : R → ReceiptState) (event : Event R) (reply : Reply R) (old new : SteppedVolume)
    → IsVolume old → old.steps < max_number → StepOf state event reply old.volume new.volume → new.steps ≡ old.steps + 1
    → IsVolume new
counted_keeps_volume state event reply old new was few step count =
    let after = shown_after state event reply was.plain old.volume new.volume (step.step was.plain was.shows) in
    let small = was.small in
    let grow = step.numbers in
    record {
      plain = after.0;
      shows = after.1;
      steps = omega (arith, few, count);
      small = record {
        entries = omega (arith, count, small.entries, grow.entries);
        objects = omega (arith, count, small.objects, grow.objects);
        commits = omega (arith, count, small.commits, grow.commits);
        pins = λ number. omega (arith, count, small.pins number, grow.pins number);
      };
    }

-- the step is that of the volume as it is seen before
pub step_seen : {R : Type 0} (state : R → ReceiptState) (event : Event R) (reply : Reply R) (new : VolumeState)
    (inside seen : SteppedVolume)
    → inside ≡ seen → StepOf state event reply inside.volume new → StepOf state event reply seen.volume new
step_seen state event reply new inside seen same step =
    subst (λ (s : SteppedVolume). StepOf state event reply s.volume new) same step

-- ---- only the objects change

-- what becomes of the plain volume where its entries and its cache stay: the frontier does not go back
pub record KeepsEntries (plain now : PlainState) : Type 0 where
  pub cache : now.cache ≡ plain.cache
  pub end : now.end ≡ plain.end
  pub entries : now.entries ≡ plain.entries
  pub frontier : frontier_end plain ≤ frontier_end now

-- the same where only its objects change, and the plan of a copy that is out stays
pub record IsOfOtherObjects (plain now : PlainState) : Type 0 where
  pub cache : now.cache ≡ plain.cache
  pub end : now.end ≡ plain.end
  pub entries : now.entries ≡ plain.entries
  pub frontier : frontier_end plain ≤ frontier_end now
  pub plan : now.plan ≡ plain.plan
  pub geometry : now.geometry ≡ plain.geometry

-- the rows and the entries without the first ones
rows_dropped : (n : ℕ) (rows : List Row) (list : List Entry) → AreRowsOf rows list → AreRowsOf (drop n rows) (drop n list)
rows_dropped zero rows list are = are
rows_dropped (suc n) [] [] are = tt
rows_dropped (suc n) [] (entry ∷ list) are = absurd are
rows_dropped (suc n) (row ∷ rows) [] are = absurd are
rows_dropped (suc n) (row ∷ rows) (entry ∷ list) are = rows_dropped n rows list are.1

module _ (data_at : ℕ → ℕ) (log : LogState) (plain now : PlainState) (valid : IsPlainVolume plain)
    (other : KeepsEntries plain now)
    (logged : HasLoggedEntries data_at log plain) where
  abbrev more : ℕ
  more = frontier_end now - frontier_end plain

  listed : {A : Type 0} (items : List A) → drop more (listed_from (frontier_end plain) log items)
      ≡ listed_from (frontier_end now) log items
  listed items =
      let skipped : frontier_end plain - log.first + more ≡ frontier_end now - log.first =
      omega (arith, logged.first, other.frontier) in
      drop-drop more (frontier_end plain - log.first) items ∙ ap (λ n. drop n items) skipped

  entries_left : drop more (logged_entries plain) ≡ logged_entries now
  entries_left =
      let from = ends_from plain (frontier_of plain) valid in
      let skipped : frontier_end plain - plain.end + more ≡ frontier_end now - now.end =
      omega (arith, from, other.frontier, other.end) in
      drop-drop more (frontier_end plain - plain.end) plain.entries
      ∙ (ap (λ n. drop n plain.entries) skipped ∙ ap (drop (frontier_end now - now.end)) (sym other.entries))

  told_left : (told : Option (List Entry))
      → IfSome told (λ list. listed_from (frontier_end plain) log list ≡ logged_entries plain)
      → IfSome told (λ list. listed_from (frontier_end now) log list ≡ logged_entries now)
  told_left None are = tt
  told_left (Some list) are = sym (listed list) ∙ (ap (drop more) are ∙ entries_left)

  later_logged : HasLoggedEntries data_at log now
  later_logged =
      let rows = rows_dropped more (listed_from (frontier_end plain) log log.rows) (logged_entries plain) logged.rows in
      record {
        first = omega (arith, logged.first, other.frontier);
        rows =
            subst (AreRowsOf (listed_from (frontier_end now) log log.rows)) entries_left
            (subst (λ list. AreRowsOf list (drop more (logged_entries plain))) (listed log.rows) rows);
        entries = told_left log.entries logged.entries;
        placed = logged.placed;
      }

-- the volume with other objects
abbrev pub with_objects : ObjLogState → VolumeState → VolumeState
with_objects objects volume = record volume { objects = objects }

-- and with another plan out, or none
abbrev pub with_planned : ObjLogState → Option PlanState → VolumeState → VolumeState
with_planned objects out volume = record volume { objects = objects; plan = out }

pub planned_shown : (old : VolumeState) (objects : ObjLogState) (out : Option PlanState) (plain now : PlainState)
    (shows : Shows old plain)
    → KeepsEntries plain now
    → IsPlainVolume now → ShowsObjects shows.data_at objects now → ShowsTable objects.uploads.queue now
    → ShowsPlan objects.uploads.queue out now → Shows (with_planned objects out old) now
planned_shown old objects out plain now shows other valid shown table plan = record {
  valid = valid;
  data_at = shows.data_at;
  objects = shown;
  table = table;
  plan = plan;
  log = subst (λ (cache : PlainCache). ShowsLog old.log cache.log) (sym other.cache) shows.log;
  logged = later_logged shows.data_at old.log plain now shows.valid other shows.logged;
  fuse = ap (λ (cache : PlainCache). cache.left) other.cache ∙ shows.fuse;
}

pub objects_shown : (old : VolumeState) (objects : ObjLogState) (plain now : PlainState) (shows : Shows old plain)
    → IsOfOtherObjects plain now
    → IsPlainVolume now → ShowsObjects shows.data_at objects now → ShowsTable objects.uploads.queue now
    → KeepsPlan old.objects.uploads.queue objects.uploads.queue
    → Shows (with_objects objects old) now
objects_shown old objects plain now shows other valid shown table keeps =
    let entries : KeepsEntries plain now =
    record { cache = other.cache; end = other.end; entries = other.entries; frontier = other.frontier } in
    planned_shown old objects old.plan plain now shows entries valid shown table
    (keeps old.plan plain now other.plan other.geometry shows.table shows.plan)
