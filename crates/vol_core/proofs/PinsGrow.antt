-- No step pins an object more than once.
use Rattle.std.proofs.Common.{◌≡◌, ℕ, ◌+◌, ◌<◌, ◌≤◌, ◌==◌, inl, inr, Bool, true, false, cond, not, ◌&&◌, Option, Some}
use Rattle.std.proofs.Common.{None, List, [], ◌∷◌, ◌++◌, arith}
use Rattle.std.specs.List.{list_any, range_with_len}
use Rattle.std.proofs.lemmas.List.Kept.{AllPairs-filter}
use Rattle.std.proofs.lemmas.List.Sums.{sum_by-append}
use Rattle.lsvd_base.specs.Limits.{may_transfer}
use Rattle.lsvd_objstore.specs.Store.{ReceiptState}
use Rattle.object_stream.specs.declared.object.CopiedSector.{CopiedSector}
use Rattle.object_stream.specs.declared.object.Content.TheVariants.{Data, Checkpoint}
use Rattle.object_stream.specs.Stream.{end_at, last_number}
use Rattle.upload_window.specs.Window.{entered}
use Rattle.plain_disk.specs.declared.event.PlainEvent.{PlainEvent}
use Rattle.plain_disk.specs.declared.event.PlainEvent.TheVariants as events
use Rattle.plain_disk.specs.Cache.{after_reads}
use Rattle.plain_disk.specs.State.{PlainState, stream_in, frontier_of}
use Rattle.plain_disk.specs.Objects.{has_unsealed, is_busy, end_of_next}
use Rattle.plain_disk.specs.Reads.{is_read_from, objects_read, look_calls, passes_look, unpinned, are_pinned, without_pins}
use Rattle.plain_disk.specs.Removals.{to_remove, with_removal, is_out}
use Rattle.plain_disk.specs.Collection.{planned_copy, with_plan, after_sealed_copy}
use Rattle.plain_disk.specs.Step.{plain_after}
use Rattle.refine_objects.specs.Table.{times_pinned}
use Rattle.vol_core.specs.declared.event.Event.{Event}
use Rattle.vol_core.specs.declared.reply.Reply.{Reply}
use Rattle.vol_core.specs.Volume.{VolumeState}
use Rattle.vol_core.specs.Shows.{Shows, pins_on}
use Rattle.vol_core.specs.Step.{passing, StepsAsPlain}
use Rattle.vol_core.proofs.PinCounts.{is_it, counted, times_of_ascending}
use Rattle.vol_core.proofs.ObjectsRead.{range_ascends}

-- ---- the plain volume

unpinned_less : (number other : ℕ) (pins : List ℕ) → times_pinned number (unpinned other pins) ≤ times_pinned number pins
unpinned_less number other [] = omega arith
unpinned_less number other (pin ∷ pins) =
    let before = counted number pin pins in
    let kept = counted number pin (unpinned other pins) in
    let more = unpinned_less number other pins in
    elim (pin == other) as (λ b. times_pinned number (cond b pins (pin ∷ unpinned other pins))
    ≤ times_pinned number (pin ∷ pins)) [
      | true ↦ omega (arith, before)
      | false ↦ omega (arith, before, kept, more)
    ]

without_less : (number : ℕ) (numbers pins : List ℕ) → times_pinned number (without_pins numbers pins) ≤ times_pinned number pins
without_less number [] pins = omega arith
without_less number (first ∷ rest) pins =
    let one = unpinned_less number first pins in
    let more = without_less number rest (unpinned first pins) in
    omega (arith, one, more)

-- a read pins each object once at most
read_once : (number : ℕ) (plain : PlainState) (lba sectors : ℕ) → times_pinned number (objects_read plain lba sectors) ≤ 1
read_once number plain lba sectors =
    times_of_ascending number (objects_read plain lba sectors)
    (AllPairs-filter (λ a b. a < b) (λ n. list_any (is_read_from plain n) (range_with_len lba sectors))
    (range_with_len 1 (frontier_of plain)) (range_ascends 1 (frontier_of plain)))

read_pins : (number : ℕ) (passes : Bool) (plain : PlainState) (lba sectors : ℕ)
    → times_pinned number (cond passes (plain.pins ++ objects_read plain lba sectors) plain.pins)
    ≤ times_pinned number plain.pins + 1
read_pins number false plain lba sectors = omega arith
read_pins number true plain lba sectors =
    let both = sum_by-append (is_it number) plain.pins (objects_read plain lba sectors) in
    let once = read_once number plain lba sectors in
    omega (arith, both, once)

-- either of two volumes
either_pins : (number most : ℕ) (test : Bool) (one other : PlainState) → times_pinned number one.pins ≤ most
    → times_pinned number other.pins ≤ most
    → times_pinned number (cond test one other).pins ≤ most
either_pins number most true one other within within_other = within
either_pins number most false one other within within_other = within_other

no_more : (n : ℕ) → n ≤ n + 1
no_more n = omega arith

removal_pins : (number : ℕ) (out lowest : Option ℕ) (plain : PlainState)
    → times_pinned number (with_removal out lowest plain).pins ≤ times_pinned number plain.pins + 1
removal_pins number None None plain = no_more (times_pinned number plain.pins)
removal_pins number None (Some removed) plain = no_more (times_pinned number plain.pins)
removal_pins number (Some other) lowest plain = no_more (times_pinned number plain.pins)

plan_pins : (number : ℕ) (out : Option (List CopiedSector)) (sectors : List CopiedSector) (plain : PlainState)
    → times_pinned number (with_plan out sectors plain).pins ≤ times_pinned number plain.pins + 1
plan_pins number None [] plain = no_more (times_pinned number plain.pins)
plan_pins number None (first ∷ more) plain = no_more (times_pinned number plain.pins)
plan_pins number (Some plan) sectors plain = no_more (times_pinned number plain.pins)

copy_pins : (number : ℕ) (is_sealed : Bool) (out : Option (List CopiedSector)) (plain : PlainState)
    → times_pinned number (after_sealed_copy is_sealed out plain).pins ≤ times_pinned number plain.pins + 1
copy_pins number is_sealed None plain = no_more (times_pinned number plain.pins)
copy_pins number true (Some plan) plain = no_more (times_pinned number plain.pins)
copy_pins number false (Some plan) plain = no_more (times_pinned number plain.pins)

-- an event pins each object once at most
pub pins_after : (number : ℕ) (event : PlainEvent) (plain : PlainState)
    → times_pinned number (plain_after event plain).pins ≤ times_pinned number plain.pins + 1
pins_after number (events.Write lba body) plain = no_more (times_pinned number plain.pins)
pins_after number (events.Zero lba sectors) plain = no_more (times_pinned number plain.pins)
pins_after number events.Flush plain = no_more (times_pinned number plain.pins)
pins_after number (events.Look lba sectors) plain =
    let none = no_more (times_pinned number plain.pins) in
    either_pins number (times_pinned number plain.pins + 1) (may_transfer plain.geometry lba sectors)
    (record plain {
      cache = after_reads (look_calls plain lba sectors) plain.cache;
      pins = cond (passes_look plain lba sectors) (plain.pins ++ objects_read plain lba sectors) plain.pins;
    })
    plain (read_pins number (passes_look plain lba sectors) plain lba sectors) none
pins_after number (events.Release numbers) plain =
    let none = no_more (times_pinned number plain.pins) in
    let less = without_less number numbers plain.pins in
    either_pins number (times_pinned number plain.pins + 1) (are_pinned numbers plain.pins)
    (record plain { pins = without_pins numbers plain.pins }) plain (omega (arith, less)) none
pins_after number events.Seal plain =
    let none = no_more (times_pinned number plain.pins) in
    either_pins number (times_pinned number plain.pins + 1) (has_unsealed plain && not (is_busy plain))
    (record plain {
      objects = plain.objects ++ record { content = Data; end = end_of_next plain } ∷ [];
      window = entered (plain.window.last + 1) false plain.window;
    })
    plain none none
pins_after number events.TakeJob plain = no_more (times_pinned number plain.pins)
pins_after number (events.JobDone job) plain = no_more (times_pinned number plain.pins)
pins_after number (events.JobFailed job) plain = no_more (times_pinned number plain.pins)
pins_after number events.SealCheckpoint plain =
    let none = no_more (times_pinned number plain.pins) in
    either_pins number (times_pinned number plain.pins + 1) (is_busy plain) plain
    (record plain {
      objects =
          plain.objects
          ++ record { content = Checkpoint; end = end_at (stream_in plain) (last_number (stream_in plain)) } ∷ [];
      window = entered (plain.window.last + 1) true plain.window;
    })
    none none
pins_after number events.TakeRemove plain = removal_pins number plain.removal (to_remove plain) plain
pins_after number (events.RemoveDone removed) plain =
    let none = no_more (times_pinned number plain.pins) in
    either_pins number (times_pinned number plain.pins + 1) (is_out removed plain.removal)
    (record plain { removed = plain.removed ++ removed ∷ []; removal = None }) plain none none
pins_after number (events.RemoveFailed removed) plain =
    let none = no_more (times_pinned number plain.pins) in
    either_pins number (times_pinned number plain.pins + 1) (is_out removed plain.removal) (record plain { removal = None }) plain
    none none
pins_after number events.PlanCopy plain = plan_pins number plain.plan (planned_copy plain) plain
pins_after number (events.SealCopy is_planned) plain =
    copy_pins number (is_planned && not (is_busy plain)) plain.plan plain
pins_after number events.DropPlan plain = no_more (times_pinned number plain.pins)
pins_after number events.Status plain = no_more (times_pinned number plain.pins)

-- ---- a volume

-- an object has as many pins as in each plain volume that it shows
pub shown_pins : (volume : VolumeState) (plain : PlainState) → Shows volume plain → (number : ℕ)
    → pins_on volume number ≡ times_pinned number plain.pins
shown_pins volume plain shows number =
    shows.table.pins number

pub pins_grow : {R : Type 0} (state : R → ReceiptState) (event : Event R) (reply : Reply R) (old new : VolumeState)
    (plain : PlainState)
    → Shows old plain → StepsAsPlain state event reply old new → (number : ℕ) → pins_on new number ≤ pins_on old number + 1
pins_grow state event reply old new plain shows steps number =
    let before = shown_pins old plain shows number in
    elim (steps plain shows) [
      | inl step ↦
          let after : pins_on new number ≡ times_pinned number (plain_after step.asked (passing step.left plain)).pins =
          shown_pins new _ step.shows number in
          let more : times_pinned number (plain_after step.asked (passing step.left plain)).pins
          ≤ times_pinned number plain.pins + 1 =
          pins_after number step.asked (passing step.left plain) in
          omega (arith, before, after, more)
      | inr none ↦ (let after = shown_pins new plain none.shows number in omega (arith, before, after))
    ]
