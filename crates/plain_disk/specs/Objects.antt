-- Contract: what seals, puts and the question for the status answer, and what they leave.
use Rattle.std.specs.Prelude.{ℕ, ◌+◌, ◌==◌, Option, Some, None, is_some, Bool, true, false, not, ◌&&◌, List, [], ◌∷◌, ◌++◌}
use Rattle.std.specs.Prelude.{length, find, if◌then◌else◌, unwrap_or}
use Rattle.std.specs.List.{range_with_len}
use Rattle.lsvd_base.specs.declared.entry.Entry.{Entry}
use Rattle.batcher.specs.Batch.{fullness_of_first}
use Rattle.object_stream.specs.declared.object.Content.TheVariants.{Data, Checkpoint}
use Rattle.object_stream.specs.Stream.{end_at, last_number}
use Rattle.upload_window.specs.Window.{WindowState, lowest_ready, is_started, entered, marked, acknowledged, below_open}
use Rattle.plain_disk.specs.declared.event.PlainReply.{PlainReply}
use Rattle.plain_disk.specs.declared.event.PlainReply.TheVariants.{Sealed, Taken, Done, Returned, Told, Nothing, Busy}
use Rattle.plain_disk.specs.State.{PlainState, stream_in, history_length, unsealed_entries, frontier_of}
use Rattle.plain_disk.specs.Checkpoints.{sealed_checkpoint, checkpoint_after_done}

-- ---- a seal of data

-- how many of some entries the next object takes: the fewest first ones that fill a batch, or all where they do not
abbrev pub sealed_count : (batch : ℕ) → List Entry → ℕ
sealed_count batch entries = unwrap_or (find (λ n. is_some (fullness_of_first batch entries n))
    (range_with_len 0 (length entries))) (length entries)

-- 16 objects are on their way to the store
abbrev pub is_busy : PlainState → Bool
is_busy state = length state.window.objects == 16

abbrev pub has_unsealed : PlainState → Bool
has_unsealed state = not (length (unsealed_entries state) == 0)

-- where the next data object ends
abbrev pub end_of_next : PlainState → ℕ
end_of_next state =
    end_at (stream_in state) (last_number (stream_in state)) + sealed_count state.geometry.batch (unsealed_entries state)

abbrev pub seal_reply : PlainState → PlainReply
seal_reply state = if has_unsealed state then (if is_busy state then Busy else Sealed (state.window.last + 1)) else Nothing

abbrev pub after_seal : PlainState → PlainState
after_seal state =
    if has_unsealed state && not (is_busy state) then
    record state {
      objects = state.objects ++ record { content = Data; end = end_of_next state } ∷ [];
      window = entered (state.window.last + 1) false state.window;
    }
    else state

-- ---- a seal of a checkpoint, which repeats the end before it

abbrev pub seal_checkpoint_reply : PlainState → PlainReply
seal_checkpoint_reply state = if is_busy state then Busy else Sealed (state.window.last + 1)

abbrev pub after_seal_checkpoint : PlainState → PlainState
after_seal_checkpoint state =
    if is_busy state then state else
    record state {
      objects =
          state.objects
          ++ record { content = Checkpoint; end = end_at (stream_in state) (last_number (stream_in state)) } ∷ [];
      window = entered (state.window.last + 1) true state.window;
    }

-- ---- puts

-- the lowest ready object is put
abbrev pub reply_of_taken : Option ℕ → PlainReply
reply_of_taken None = Nothing
reply_of_taken (Some number) = Taken number

abbrev pub take_reply : PlainState → PlainReply
take_reply state = reply_of_taken (lowest_ready state.window.objects)

abbrev pub window_after_take : Option ℕ → WindowState → WindowState
window_after_take None window = window
window_after_take (Some number) window = marked number true window

abbrev pub after_take : PlainState → PlainState
after_take state = record state { window = window_after_take (lowest_ready state.window.objects) state.window }

-- a job is that of a put that is under way: none is where its bytes, or what the store gave, are not those of the sealed object
abbrev pub is_under_way : Option ℕ → WindowState → Bool
is_under_way None window = false
is_under_way (Some number) window = is_started number window.objects

-- a put is done
abbrev pub window_after_done : Option ℕ → WindowState → WindowState
window_after_done None window = window
window_after_done (Some number) window = if is_started number window.objects then acknowledged number window else window

abbrev pub done_reply : PlainState → Option ℕ → PlainReply
done_reply state job = if is_under_way job state.window then Done (below_open (window_after_done job state.window)) else Nothing

abbrev pub after_done : Option ℕ → PlainState → PlainState
after_done job state = record state {
  window = window_after_done job state.window;
  checkpoint = checkpoint_after_done job state;
}

-- a put failed, and its object is ready again
abbrev pub window_after_failed : Option ℕ → WindowState → WindowState
window_after_failed None window = window
window_after_failed (Some number) window = if is_started number window.objects then marked number false window else window

abbrev pub failed_reply : PlainState → Option ℕ → PlainReply
failed_reply state job = if is_under_way job state.window then Returned else Nothing

abbrev pub after_failed : Option ℕ → PlainState → PlainState
after_failed job state = record state { window = window_after_failed job state.window }

-- ---- the status

abbrev pub status_reply : PlainState → PlainReply
status_reply state = Told (history_length state) state.window.last (frontier_of state) (sealed_checkpoint state).number
