-- The ends of objects, the frontier among them, and how many entries there are.
use Rattle.std.proofs.Common.{arith, ℕ, zero, suc, ◌-◌, ◌≤◌, List, [], ◌∷◌, take}
use Rattle.object_stream.specs.declared.object.StreamObject.{StreamObject}
use Rattle.object_stream.specs.Stream.{Stream, end_after, end_at, last_number, EndsFollow}
use Rattle.object_stream.proofs.StreamLemmas.{end_no_earlier, follow_first}
use Rattle.upload_window.specs.declared.object.OpenObject.{OpenObject}
use Rattle.upload_window.specs.Window.{Ascends, below_lowest}
use Rattle.upload_window.proofs.Order.{at_most}
use Rattle.plain_disk.specs.State.{PlainState, stream_in, history_length, frontier_of, frontier_end}
use Rattle.plain_disk.specs.Valid.{IsPlainVolume}

-- of more objects the last ends no earlier
grows : (end m n : ℕ) (objects : List StreamObject) → EndsFollow end objects → m ≤ n
    → end_after end (take m objects) ≤ end_after end (take n objects)
grows end zero n objects h is = end_no_earlier end (take n objects) (follow_first end n objects h)
grows end (suc m) zero objects h is = absurd (omega arith)
grows end (suc m) (suc n) [] h is = omega arith
grows end (suc m) (suc n) (object ∷ objects) h is = grows object.end m n objects h.1 (omega arith)

-- an object ends no earlier than one before it
pub ends_grow : (stream : Stream) (number later : ℕ) → EndsFollow stream.end stream.objects → number ≤ later
    → end_at stream number ≤ end_at stream later
ends_grow stream number later h is =
    grows stream.end (number - stream.number) (later - stream.number) stream.objects h (omega arith)

-- the number below the open objects is at least one that is below them, and not past the last
pub below_from : (low : ℕ) (objects : List OpenObject) (last : ℕ) → Ascends low objects last → low ≤ below_lowest objects last
below_from low [] last order = order
below_from low (object ∷ objects) last order = omega (arith, order.0)

below_at_most : (low : ℕ) (objects : List OpenObject) (last : ℕ) → Ascends low objects last → below_lowest objects last ≤ last
below_at_most low [] last order = omega arith
below_at_most low (object ∷ objects) last order = omega (arith, at_most object.number objects last order.1)

-- the frontier is not past the last object, nor its end past the entries
pub frontier_is_sealed : (state : PlainState) → IsPlainVolume state → frontier_of state ≤ last_number (stream_in state)
frontier_is_sealed state h = omega (arith, below_at_most 0 state.window.objects state.window.last h.window.order, h.last)

-- an object that there is ends within the entries, and not before those that the volume opens with
pub ends_within : (state : PlainState) (number : ℕ) → IsPlainVolume state → number ≤ last_number (stream_in state)
    → end_at (stream_in state) number ≤ history_length state
ends_within state number h is =
    let grown = ends_grow (stream_in state) number (last_number (stream_in state)) h.stream.ends is in
    omega (arith, h.stream.within, grown)

pub ends_from : (state : PlainState) (number : ℕ) → IsPlainVolume state → state.end ≤ end_at (stream_in state) number
ends_from state number h =
    end_no_earlier state.end (take (number - state.number) state.objects)
    (follow_first state.end (number - state.number) state.objects h.stream.ends)

pub frontier_ends : (state : PlainState) → IsPlainVolume state → frontier_end state ≤ history_length state
frontier_ends state h = ends_within state (frontier_of state) h (frontier_is_sealed state h)
