-- Contract: what a read of the plain volume answers: its sectors, and the objects that its plan pins.
use Rattle.std.specs.Prelude.{ℕ, ◌==◌, Bool, true, not, ◌&&◌, List, [], ◌∷◌, ◌++◌, if◌then◌else◌}
use Rattle.std.specs.List.{list_any, range_with_len, filter}
use Rattle.lsvd_base.specs.Limits.{may_transfer}
use Rattle.lsvd_device.specs.Calls.{passes}
use Rattle.object_stream.specs.Stream.{owners, is_own}
use Rattle.plain_disk.specs.declared.event.PlainReply.{PlainReply}
use Rattle.plain_disk.specs.declared.event.PlainReply.TheVariants.{Planned, Released, Range, Nothing, Fault}
use Rattle.plain_disk.specs.declared.event.PlannedRead.{PlannedRead}
use Rattle.plain_disk.specs.Sectors.{sectors_at}
use Rattle.plain_disk.specs.Writers.{covers_sector, read_calls}
use Rattle.plain_disk.specs.Cache.{after_reads}
use Rattle.plain_disk.specs.State.{PlainState, stream_in, history_length, image_now, frontier_of, logged_entries}

-- a read gets the sector from the object of this number: it owns it at the frontier, and no later entry covers it
abbrev pub is_read_from : PlainState → (number k : ℕ) → Bool
is_read_from state number k =
    is_own number (owners (stream_in state) (frontier_of state) k)
    && not (list_any (λ entry. covers_sector entry k) (logged_entries state))

-- the objects that a read gets sectors from, by their numbers in ascending order
abbrev pub objects_read : PlainState → (lba sectors : ℕ) → List ℕ
objects_read state lba sectors =
    filter (λ number. list_any (is_read_from state number) (range_with_len lba sectors)) (range_with_len 1 (frontier_of state))

-- the calls of a read: one for each maximal run of its sectors that one same entry past the frontier's end wrote last
abbrev pub look_calls : PlainState → (lba sectors : ℕ) → ℕ
look_calls state lba sectors = read_calls (logged_entries state) lba sectors

abbrev pub passes_look : PlainState → (lba sectors : ℕ) → Bool
passes_look state lba sectors = passes state.cache.left (look_calls state lba sectors)

-- what a plan of a read says: it gives the sectors as they are now
abbrev pub planned_read : PlainState → (lba sectors : ℕ) → PlannedRead
planned_read state lba sectors = record {
  history_length = history_length state;
  «data» = sectors_at lba sectors (image_now state);
  objects = objects_read state lba sectors;
}

-- what a read answers
abbrev pub look_reply : PlainState → (lba sectors : ℕ) → PlainReply
look_reply state lba sectors =
    if may_transfer state.geometry lba sectors then
    (if passes_look state lba sectors then Planned (planned_read state lba sectors) else Fault)
    else Range

-- what it leaves: the objects of the plan are pinned
abbrev pub after_look : (lba sectors : ℕ) → PlainState → PlainState
after_look lba sectors state =
    if may_transfer state.geometry lba sectors then
    record state {
      cache = after_reads (look_calls state lba sectors) state.cache;
      pins = if passes_look state lba sectors then state.pins ++ objects_read state lba sectors else state.pins;
    }
    else state

-- ---- a plan that is given back

-- the numbers without one of them, once
abbrev pub unpinned : (number : ℕ) → List ℕ → List ℕ
unpinned number [] = []
unpinned number (pin ∷ pins) = if pin == number then pins else pin ∷ unpinned number pins

-- each of some numbers is among the pins, as often as they have it
abbrev pub are_pinned : List ℕ → (pins : List ℕ) → Bool
are_pinned [] pins = true
are_pinned (number ∷ numbers) pins = list_any (λ pin. pin == number) pins && are_pinned numbers (unpinned number pins)

abbrev pub without_pins : List ℕ → (pins : List ℕ) → List ℕ
without_pins [] pins = pins
without_pins (number ∷ numbers) pins = without_pins numbers (unpinned number pins)

abbrev pub release_reply : PlainState → List ℕ → PlainReply
release_reply state numbers = if are_pinned numbers state.pins then Released else Nothing

abbrev pub after_plan_release : List ℕ → PlainState → PlainState
after_plan_release numbers state =
    if are_pinned numbers state.pins then record state { pins = without_pins numbers state.pins } else state
