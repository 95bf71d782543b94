-- The newest checkpoint that has landed, by the last one among the open objects, and the one that no put makes newer.
use Rattle.std.proofs.Common.{◌≡◌, ℕ, Bool, true, false, ◌&&◌, ◌||◌, cond, Option, Some, None, List, [], ◌∷◌, refl, sym, ap, ◌∙◌}
use Rattle.object_stream.specs.Landed.{Numbers}
use Rattle.upload_window.specs.declared.object.OpenObject.{OpenObject}
use Rattle.upload_window.specs.Window.{is_started, is_started_with, acknowledged}
use Rattle.plain_disk.specs.State.{PlainState, PlainCheckpoint}
use Rattle.plain_disk.specs.Checkpoints.{checkpoint_at, newest_landed, landed_checkpoint, is_started_checkpoint}
use Rattle.plain_disk.specs.Checkpoints.{checkpoint_after_done}
use Rattle.plain_disk.specs.Objects.{after_done}
use Rattle.plain_volume.specs.Fields.{last_landed}

-- the checkpoint of a number, or another one
abbrev checkpoint_or : PlainState → PlainCheckpoint → Option ℕ → PlainCheckpoint
checkpoint_or state other None = other
checkpoint_or state other (Some number) = checkpoint_at number state

chosen : (state : PlainState) (other : PlainCheckpoint) (before : Option ℕ) (number : ℕ) (is : Bool)
    → cond is (checkpoint_at number state) (checkpoint_or state other before)
    ≡ checkpoint_or state other (cond is (Some number) before)
chosen state other before number true = refl
chosen state other before number false = refl

newest_is : (landed : Numbers) (state : PlainState) (other : PlainCheckpoint) (before : Option ℕ) (objects : List OpenObject)
    → newest_landed landed state (checkpoint_or state other before) objects
    ≡ checkpoint_or state other (last_landed landed before objects)
newest_is landed state other before [] = refl
newest_is landed state other before (object ∷ objects) =
    let is : Bool = object.is_checkpoint && landed object.number in
    ap (λ c. newest_landed landed state c objects) (chosen state other before object.number is)
    ∙ newest_is landed state other (cond is (Some object.number) before) objects

-- one of the open objects is the newest checkpoint that has landed
pub newest_open : (landed : Numbers) (state : PlainState) (number : ℕ)
    → last_landed landed None state.window.objects ≡ Some number
    → checkpoint_at number state ≡ landed_checkpoint landed state
newest_open landed state number is =
    sym (newest_is landed state state.checkpoint None state.window.objects ∙ ap (checkpoint_or state state.checkpoint) is)

-- or none of them
pub newest_acknowledged : (landed : Numbers) (state : PlainState) → last_landed landed None state.window.objects ≡ None
    → state.checkpoint ≡ landed_checkpoint landed state
newest_acknowledged landed state is =
    sym (newest_is landed state state.checkpoint None state.window.objects ∙ ap (checkpoint_or state state.checkpoint) is)

-- ---- a put that is not under way

not_started : (number : ℕ) (objects : List OpenObject) → is_started number objects ≡ false
    → is_started_checkpoint number objects ≡ false
not_started number [] is = refl
not_started number (object ∷ objects) is =
    elim (is_started_with number object) as (λ b. (b || is_started number objects) ≡ false
    → ((b && object.is_checkpoint) || is_started_checkpoint number objects) ≡ false) [
      | true ↦ λ any. (let bad : ⊥ = cc in absurd bad)
      | false ↦ λ any. not_started number objects any
    ] is

pub done_leaves : (state : PlainState) (number : ℕ) → is_started number state.window.objects ≡ false
    → state ≡ after_done (Some number) state
done_leaves state number is =
    sym (ap (λ b. record state {
      window = cond b (acknowledged number state.window) state.window;
      checkpoint = checkpoint_after_done (Some number) state;
    }) is
    ∙ ap (λ b. record state { checkpoint = cond b (checkpoint_at number state) state.checkpoint })
    (not_started number state.window.objects is))
