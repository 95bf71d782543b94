-- Contract: the newest checkpoint of the plain volume: of those that are acknowledged, that have landed, or that were sealed.
use Rattle.std.specs.Prelude.{ℕ, Bool, true, ◌&&◌, Option, Some, None, List, [], ◌∷◌, if◌then◌else◌}
use Rattle.std.specs.List.{list_any}
use Rattle.object_stream.specs.Landed.{Numbers}
use Rattle.upload_window.specs.declared.object.OpenObject.{OpenObject}
use Rattle.upload_window.specs.Window.{has_number}
use Rattle.plain_disk.specs.State.{PlainState, PlainCheckpoint, owned_after}

-- The checkpoint of this number holds the owners after the objects before it, since it changes none.
abbrev pub checkpoint_at : (number : ℕ) → PlainState → PlainCheckpoint
checkpoint_at number state = record { number = number; owned = owned_after state.geometry.sectors state number }

-- ---- the newest one

-- Of a checkpoint and open objects after it, the last checkpoint that has landed.
abbrev pub newest_landed : Numbers → PlainState → PlainCheckpoint → List OpenObject → PlainCheckpoint
newest_landed landed state before [] = before
newest_landed landed state before (object ∷ objects) =
    newest_landed landed state
    (if object.is_checkpoint && landed object.number then checkpoint_at object.number state else before) objects

-- the newest checkpoint that has landed: one that is open, or else the newest acknowledged one
abbrev pub landed_checkpoint : Numbers → PlainState → PlainCheckpoint
landed_checkpoint landed state = newest_landed landed state state.checkpoint state.window.objects

-- the newest checkpoint that was sealed
abbrev pub sealed_checkpoint : PlainState → PlainCheckpoint
sealed_checkpoint state = landed_checkpoint (λ number. true) state

-- ---- a checkpoint that is acknowledged

-- the object of this number is a checkpoint, and its put is under way
abbrev pub is_started_checkpoint : (number : ℕ) → List OpenObject → Bool
is_started_checkpoint number objects =
    list_any (λ object. has_number number object && object.is_started && object.is_checkpoint) objects

-- the newest acknowledged checkpoint once a put is done: its put began when all lower numbers were acknowledged
abbrev pub checkpoint_after_done : Option ℕ → PlainState → PlainCheckpoint
checkpoint_after_done None state = state.checkpoint
checkpoint_after_done (Some number) state =
    if is_started_checkpoint number state.window.objects then checkpoint_at number state else state.checkpoint
