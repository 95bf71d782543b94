-- Contract: which sectors a collection copies, and what plans of copies answer and leave.
use Rattle.std.specs.Prelude.{ℕ, ◌+◌, ◌*◌, ◌==◌, Bool, false, not, ◌&&◌, ◌||◌, nat_lt, Option, Some, None, is_some}
use Rattle.std.specs.Prelude.{List, [], ◌∷◌, ◌++◌, length, if◌then◌else◌}
use Rattle.std.specs.List.{range_with_len, filter}
use Rattle.object_stream.specs.declared.object.CopiedSector.{CopiedSector}
use Rattle.object_stream.specs.declared.object.Content.TheVariants.{Copy}
use Rattle.object_stream.specs.Planned.{planned}
use Rattle.object_stream.specs.Stream.{owners, is_own, end_at, last_number}
use Rattle.upload_window.specs.Window.{entered}
use Rattle.plain_disk.specs.declared.event.PlainReply.{PlainReply}
use Rattle.plain_disk.specs.declared.event.PlainReply.TheVariants.{Copying, Sealed, Dropped, Nothing, Busy}
use Rattle.plain_disk.specs.State.{PlainState, stream_in, frontier_of, payload_of}
use Rattle.plain_disk.specs.Objects.{is_busy}
use Rattle.plain_disk.specs.Removals.{has}

-- ---- victims

-- the sectors of the volume that the object of a number owns at the frontier, in ascending order: its live ones
abbrev pub live_sectors : PlainState → (number : ℕ) → List ℕ
live_sectors state number =
    filter (λ k. is_own number (owners (stream_in state) (frontier_of state) k)) (range_with_len 0 state.geometry.sectors)

abbrev pub live_in : PlainState → (number : ℕ) → ℕ
live_in state number = length (live_sectors state number)

-- An object is a victim: it has a live sector, fewer than 70 in a hundred of its payload are live, and no hold keeps it.
abbrev pub is_victim : PlainState → (number : ℕ) → Bool
is_victim state number =
    nat_lt 0 (live_in state number) && nat_lt (live_in state number * 100) (70 * payload_of state number)
    && not (has state.held number)

-- A victim comes before another: a smaller share of its payload is live or, where the shares are the same, its number is smaller.
abbrev pub comes_before : PlainState → (number other : ℕ) → Bool
comes_before state number other =
    let mine : ℕ = live_in state number * payload_of state other in
    let its : ℕ = live_in state other * payload_of state number in
    nat_lt mine its || (mine == its && nat_lt number other)

-- numbers in an order, each put before the first that does not come before it
abbrev pub put_in_order : (ℕ → ℕ → Bool) → (number : ℕ) → List ℕ → List ℕ
put_in_order before number [] = number ∷ []
put_in_order before number (first ∷ rest) =
    if before first number then first ∷ put_in_order before number rest else number ∷ first ∷ rest

abbrev pub in_order : (ℕ → ℕ → Bool) → List ℕ → List ℕ
in_order before [] = []
in_order before (number ∷ numbers) = put_in_order before number (in_order before numbers)

-- all victims, in their order
abbrev pub victims : PlainState → List ℕ
victims state = in_order (comes_before state) (filter (is_victim state) (range_with_len 1 (frontier_of state)))

-- ---- a plan

-- what a plan copies: live sectors victim by victim, and by their place in the volume within one, no more than fill a batch
abbrev pub planned_copy : PlainState → List CopiedSector
planned_copy state = planned state.geometry.batch (live_sectors state) (victims state)

-- a plan is made where none is out and there is a victim
abbrev pub reply_of_plan : (out : Option (List CopiedSector)) → List CopiedSector → PlainReply
reply_of_plan (Some plan) sectors = Busy
reply_of_plan None [] = Nothing
reply_of_plan None (first ∷ more) = Copying (first ∷ more)

abbrev pub plan_copy_reply : PlainState → PlainReply
plan_copy_reply state = reply_of_plan state.plan (planned_copy state)

abbrev pub with_plan : (out : Option (List CopiedSector)) → List CopiedSector → PlainState → PlainState
with_plan (Some plan) sectors state = state
with_plan None [] state = state
with_plan None (first ∷ more) state = record state { plan = Some (first ∷ more) }

abbrev pub after_plan_copy : PlainState → PlainState
after_plan_copy state = with_plan state.plan (planned_copy state) state

-- ---- the end of a plan

-- what was copied is sealed, where it is that of the plan that is out
abbrev pub seal_copy_reply : PlainState → (is_planned : Bool) → PlainReply
seal_copy_reply state is_planned =
    if is_some state.plan && is_planned then (if is_busy state then Busy else Sealed (state.window.last + 1)) else Nothing

-- the copy is the next object, with the end of the object before it, and the plan is ended
abbrev pub with_copy : List CopiedSector → PlainState → PlainState
with_copy plan state = record state {
  plan = None;
  objects =
      state.objects ++ record { content = Copy plan; end = end_at (stream_in state) (last_number (stream_in state)) } ∷ [];
  window = entered (state.window.last + 1) false state.window;
}

abbrev pub after_sealed_copy : (is_sealed : Bool) → (out : Option (List CopiedSector)) → PlainState → PlainState
after_sealed_copy is_sealed None state = state
after_sealed_copy is_sealed (Some plan) state = if is_sealed then with_copy plan state else state

abbrev pub after_seal_copy : (is_planned : Bool) → PlainState → PlainState
after_seal_copy is_planned state = after_sealed_copy (is_planned && not (is_busy state)) state.plan state

-- a plan is given up
abbrev pub drop_plan_reply : PlainState → PlainReply
drop_plan_reply state = if is_some state.plan then Dropped else Nothing

abbrev pub after_drop_plan : PlainState → PlainState
after_drop_plan state = record state { plan = None }
