-- What a step of a volume adds to its history.
use Rattle.std.proofs.Common.{arith, ◌≡◌, ℕ, ◌+◌, ◌*◌, ◌≤◌, ◌⊎◌, inl, inr, Bool, true, false, cond, List, [], ◌∷◌, ◌++◌, length}
use Rattle.std.proofs.Common.{length-append, append-nil, append_assoc, refl, sym, ◌∙◌, ap, subst}
use Rattle.std.specs.Prelude.{◌==◌, None}
use Rattle.std.proofs.lemmas.Bool.{eq-eqb}
use Rattle.std.proofs.lemmas.List.Sums.{sum_by-cons}
use Rattle.lsvd_base.specs.declared.entry.Entry.{Entry}
use Rattle.lsvd_device.specs.Calls.{Fuse}
use Rattle.lsvd_objstore.specs.Store.{ReceiptState}
use Rattle.cache_log.specs.Log.{LogState, next_seq, all_rows}
use Rattle.upload_window.specs.Window.{WindowState}
use Rattle.plain_disk.specs.declared.event.PlainEvent.{PlainEvent}
use Rattle.plain_disk.specs.declared.log.PlainCommit.{PlainCommit}
use Rattle.plain_disk.specs.declared.log.PlainRecord.{PlainRecord}
use Rattle.plain_disk.specs.State.{PlainState, history_length, unsealed_entries}
use Rattle.plain_disk.specs.Step.{plain_after}
use Rattle.refine_log.proofs.Following.{records_count}
use Rattle.refine_objects.specs.Table.{times_pinned}
use Rattle.vol_core.specs.declared.event.Event.{Event}
use Rattle.vol_core.specs.declared.reply.Reply.{Reply}
use Rattle.vol_core.specs.Volume.{VolumeState, SteppedVolume}
use Rattle.vol_core.specs.Shows.{Shows}
use Rattle.vol_core.specs.View.{HasNoPins}
use Rattle.vol_core.specs.Events.{Asks}
use Rattle.vol_core.specs.Step.{passing, IsStep, IsNoStep, HasSameSizes, CountedStep}
use Rattle.vol_core.proofs.StepLemmas.{passing_keeps}
use Rattle.volume_owner.specs.Owner.{IsIdle}
use Rattle.volume_owner.specs.History.{GoesOn}
use Rattle.volume_owner.specs.Calls.{Adds, IsLengthOf, MakesSteps}
use Rattle.volume_owner.specs.Helping.{work_of}
use Rattle.volume_owner.proofs.PlainLemmas.{is_quiet, quiet_goes_on, goes_on_nothing}
use Rattle.volume_owner.proofs.WindowLemmas.{any_started}

-- ---- one after the other

-- what calls the device passes before and after does not matter
pub goes_on_passing : (added : List Entry) (left now : Fuse) (plain after : PlainState) → GoesOn added (passing left plain) after
    → GoesOn added plain (passing now after)
goes_on_passing added left now plain after goes = record {
  opens = ap (passing now) goes.opens;
  objects = goes.objects;
  frontier = goes.frontier;
  committed = goes.committed;
  checkpoint = goes.checkpoint;
  given_out = goes.given_out;
  removed = goes.removed;
}

more_after : {T : Type 0} (plain mid after : List T) → (more : List T) × (mid ≡ plain ++ more)
    → (more : List T) × (after ≡ mid ++ more) → (more : List T) × (after ≡ plain ++ more)
more_after plain mid after first second = (
  first.0 ++ second.0,
  second.1 ∙ ap (λ xs. xs ++ second.0) first.1 ∙ append_assoc plain first.0 second.0,
)

pub goes_on_then : (added : List Entry) (plain mid after : PlainState) → GoesOn [] plain mid → GoesOn added mid after
    → GoesOn added plain after
goes_on_then added plain mid after first second = record {
  opens =
      second.opens
      ∙ ap (λ (m : PlainState). record m {
        entries = m.entries ++ added;
        objects = after.objects;
        window = after.window;
        checkpoint = after.checkpoint;
        plan = after.plan;
        pins = after.pins;
        removed = after.removed;
        given_out = after.given_out;
        removal = after.removal;
        cache = after.cache;
      }) first.opens
      ∙ ap (λ (es : List Entry). record plain {
        entries = es ++ added;
        objects = after.objects;
        window = after.window;
        checkpoint = after.checkpoint;
        plan = after.plan;
        pins = after.pins;
        removed = after.removed;
        given_out = after.given_out;
        removal = after.removal;
        cache = after.cache;
      })
      (append-nil plain.entries);
  objects = more_after plain.objects mid.objects after.objects first.objects second.objects;
  frontier = omega (arith, first.frontier, second.frontier);
  committed = omega (arith, first.committed, second.committed);
  checkpoint = omega (arith, first.checkpoint, second.checkpoint);
  given_out = more_after plain.given_out mid.given_out after.given_out first.given_out second.given_out;
  removed = more_after plain.removed mid.removed after.removed first.removed second.removed;
}

-- the entries of both
pub goes_on_more : (xs ys : List Entry) (plain mid after : PlainState) → GoesOn xs plain mid → GoesOn ys mid after
    → GoesOn (xs ++ ys) plain after
goes_on_more xs ys plain mid after first second = record {
  opens =
      second.opens
      ∙ ap (λ (m : PlainState). record m {
        entries = m.entries ++ ys;
        objects = after.objects;
        window = after.window;
        checkpoint = after.checkpoint;
        plan = after.plan;
        pins = after.pins;
        removed = after.removed;
        given_out = after.given_out;
        removal = after.removal;
        cache = after.cache;
      }) first.opens
      ∙ ap (λ (es : List Entry). record plain {
        entries = es;
        objects = after.objects;
        window = after.window;
        checkpoint = after.checkpoint;
        plan = after.plan;
        pins = after.pins;
        removed = after.removed;
        given_out = after.given_out;
        removal = after.removal;
        cache = after.cache;
      })
      (append_assoc plain.entries xs ys);
  objects = more_after plain.objects mid.objects after.objects first.objects second.objects;
  frontier = omega (arith, first.frontier, second.frontier);
  committed = omega (arith, first.committed, second.committed);
  checkpoint = omega (arith, first.checkpoint, second.checkpoint);
  given_out = more_after plain.given_out mid.given_out after.given_out first.given_out second.given_out;
  removed = more_after plain.removed mid.removed after.removed first.removed second.removed;
}

pub adds_then : (added : List Entry) (old mid new : VolumeState) → Adds [] old mid → Adds added mid new → Adds added old new
adds_then added old mid new first second plain shows =
    let one = first plain shows in
    let two = second one.0 one.1 in
    (two.0, two.1, goes_on_then added plain one.0 two.0 one.2 two.2)

pub same_sizes : (old mid new : VolumeState) → HasSameSizes old mid → HasSameSizes mid new → HasSameSizes old new
same_sizes old mid new first second = record {
  geometry = second.geometry ∙ first.geometry;
  uuid = second.uuid ∙ first.uuid;
  ancestors = second.ancestors ∙ first.ancestors;
}

pub makes_then : (m n : ℕ) (added : List Entry) (old mid new : SteppedVolume) → MakesSteps m [] old mid
    → MakesSteps n added mid new
    → MakesSteps (m + n) added old new
makes_then m n added old mid new first second = record {
  adds = adds_then added old.volume mid.volume new.volume first.adds second.adds;
  sizes = same_sizes old.volume mid.volume new.volume first.sizes second.sizes;
  own = λ owner own. second.own owner (first.own owner own);
  steps = omega (arith, first.steps, second.steps);
}

pub makes_fewer : (m n : ℕ) (added : List Entry) (old new : SteppedVolume) → m ≤ n → MakesSteps m added old new
    → MakesSteps n added old new
makes_fewer m n added old new less makes = record {
  adds = makes.adds;
  sizes = makes.sizes;
  own = makes.own;
  steps = omega (arith, makes.steps);
}

-- ---- what a volume shows

pub shown_work : (volume : VolumeState) (plain : PlainState) → Shows volume plain
    → work_of volume ≡ 2 * length (unsealed_entries plain) + length plain.window.objects
shown_work volume plain shows =
    let entries = ap (λ (es : List Entry). length es) shows.objects.stream.entries in
    let objects = ap (λ (w : WindowState). length w.objects) shows.objects.window in
    omega (arith, entries, objects)

pub shown_length : (volume : VolumeState) (plain : PlainState) → Shows volume plain → next_seq volume.log ≡ history_length plain
shown_length volume plain shows =
    let log : LogState = volume.log in
    let counted = shows.log.counted in
    let seq : plain.cache.log.last.tail.seq ≡ log.commits.body.tail.seq = ap (λ (c : PlainCommit). c.tail.seq) shows.log.last in
    let many : length plain.cache.log.records ≡ length (all_rows log) =
    ap (λ (r : List PlainRecord). length r) shows.log.records
    ∙ records_count (all_rows log) log.room.log log.commits.body.tail.position in
    let long = length-append log.held log.rows in
    let whole = shows.valid.log.counted in
    omega (arith, counted, seq, many, long, whole)

-- the history has one length
pub length_is : (count : ℕ) (volume : VolumeState) (plain : PlainState) → Shows volume plain → count ≡ history_length plain
    → IsLengthOf count volume
length_is count volume plain shows is other others = is ∙ sym (shown_length volume plain shows) ∙ shown_length volume other others

-- ---- what is out

pub record IsIdlePlain (plain : PlainState) : Type 0 where
  pub puts : any_started plain.window.objects ≡ false
  pub plans : plain.pins ≡ []
  pub none_out : plain.removal ≡ None
  pub few : length plain.window.objects ≤ 16

pinned_once : (pin : ℕ) (pins : List ℕ) → times_pinned pin (pin ∷ pins) ≡ 0 → ⊥
pinned_once pin pins none =
    let one : ℕ → ℕ = λ (other : ℕ). cond (other == pin) 1 0 in
    let more : times_pinned pin (pin ∷ pins) ≡ one pin + times_pinned pin pins = sum_by-cons one pin pins in
    let own : one pin ≡ 1 = ap (λ (b : Bool). cond b 1 0) (eq-eqb pin pin refl) in
    omega (arith, none, more, own)

no_pins : (pins : List ℕ) → ((number : ℕ) → times_pinned number pins ≡ 0) → pins ≡ []
no_pins [] none = refl
no_pins (pin ∷ pins) none = absurd (pinned_once pin pins (none pin))

pub plans_shown : (volume : VolumeState) (plain : PlainState) → Shows volume plain → plain.pins ≡ [] → HasNoPins volume
plans_shown volume plain shows none number = shows.table.pins number ∙ ap (times_pinned number) none

pub plans_plain : (volume : VolumeState) (plain : PlainState) → Shows volume plain → HasNoPins volume → plain.pins ≡ []
plans_plain volume plain shows none = no_pins plain.pins (λ number. sym (shows.table.pins number) ∙ none number)

pub shown_idle : (volume : VolumeState) (plain : PlainState) → Shows volume plain → IsIdle volume → IsIdlePlain plain
shown_idle volume plain shows idle = record {
  puts = ap (λ (w : WindowState). any_started w.objects) (sym shows.objects.window) ∙ idle.puts;
  plans = plans_plain volume plain shows idle.plans;
  none_out = sym shows.table.removal ∙ idle.none_out;
  few = subst (λ (w : WindowState). length w.objects ≤ 16) shows.objects.window idle.few;
}

pub idle_shown : (volume : VolumeState) (plain : PlainState) → Shows volume plain → IsIdlePlain plain → IsIdle volume
idle_shown volume plain shows idle = record {
  puts = ap (λ (w : WindowState). any_started w.objects) shows.objects.window ∙ idle.puts;
  plans = plans_shown volume plain shows idle.plans;
  none_out = shows.table.removal ∙ idle.none_out;
  few = subst (λ (w : WindowState). length w.objects ≤ 16) (sym shows.objects.window) idle.few;
}

-- ---- a step

-- a step that enters nothing
pub quiet_after : {R : Type 0} (state : R → ReceiptState) (event : Event R) (reply : Reply R) (plain : PlainState)
    (old new : VolumeState)
    → ((asked : PlainEvent) → Asks state old event asked → is_quiet asked ≡ true) → Shows old plain
    → IsStep state event reply plain old new ⊎ IsNoStep state event reply plain old new
    → (after : PlainState) × Shows new after × GoesOn [] plain after
quiet_after state event reply plain old new quiet shows (inl s) =
    let ready : PlainState = passing s.left plain in
    let goes =
    quiet_goes_on ready s.asked (passing_keeps s.left plain shows.valid) (quiet s.asked s.asks) in
    (_, s.shows, goes_on_passing [] s.left _ plain (plain_after s.asked ready) goes)
quiet_after state event reply plain old new quiet shows (inr n) = (plain, n.shows, goes_on_nothing plain)

pub quiet_makes : {R : Type 0} (state : R → ReceiptState) (event : Event R) (reply : Reply R) (old new : SteppedVolume)
    → ((asked : PlainEvent) → Asks state old.volume event asked → is_quiet asked ≡ true) → CountedStep state event reply old new
    → MakesSteps 1 [] old new
quiet_makes state event reply old new quiet of = record {
  adds = λ plain shows. quiet_after state event reply plain old.volume new.volume quiet shows (of.step.step plain shows);
  sizes = of.step.sizes;
  own = λ owner own. (of.step.stops owner own).own;
  steps = omega (arith, of.count);
}
