-- No number of an open object, or of a checkpoint, is past the stream's last one.
use Rattle.std.proofs.Common.{arith, ◌≡◌, ℕ, ◌≤◌, Bool, true, false, ◌&&◌, ◌||◌, cond, Some, List, [], ◌∷◌, ◌++◌, refl}
use Rattle.std.proofs.Common.{suc, length, take, drop, sym, ap, subst, ◌∙◌}
use Rattle.std.proofs.lemmas.Grind.{common_steps}
use Rattle.std.specs.List.{All}
use Rattle.std.proofs.lemmas.List.Elements.{All-cons, All-head, All-tail}
use Rattle.object_stream.specs.Landed.{Numbers}
use Rattle.upload_window.specs.declared.object.OpenObject.{OpenObject}
use Rattle.upload_window.specs.Window.{has_number, with_started, without}
use Rattle.plain_disk.specs.State.{PlainState, PlainCheckpoint}
use Rattle.plain_disk.specs.Checkpoints.{checkpoint_at, newest_landed, is_started_checkpoint, checkpoint_after_done}
use Rattle.plain_disk.proofs.CheckpointLemmas.{any_tells, both_true, same_number}

abbrev pub Within : (last : ℕ) → OpenObject → Type 0
Within last object = object.number ≤ last

within_with : (last number : ℕ) (started : Bool) (objects : List OpenObject) → All (Within last) objects
    → All (Within last) (with_started number started objects)
within_with last number started [] all = all
within_with last number started (object ∷ objects) all =
    let changed : OpenObject = record object { is_started = started; was_started = object.was_started || started } in
    let here = All-head (Within last) object objects all in
    let rest = All-tail (Within last) object objects all in
    elim (has_number number object) as (λ b.
    All (Within last) (cond b (changed ∷ objects) (object ∷ with_started number started objects))) [
      | true ↦ All-cons (Within last) changed objects here rest
      | false ↦ All-cons (Within last) object (with_started number started objects) here
          (within_with last number started objects rest)
    ]

length_with : (number : ℕ) (started : Bool) (objects : List OpenObject)
    → length (with_started number started objects) ≡ length objects
length_with number started [] = refl
length_with number started (object ∷ objects) =
    let changed : OpenObject = record object { is_started = started; was_started = object.was_started || started } in
    elim (has_number number object) as (λ b. length (cond b (changed ∷ objects) (object ∷ with_started number started objects))
    ≡ length (object ∷ objects)) [
      | true ↦ refl
      | false ↦ ap (λ n. suc n) (length_with number started objects)
    ]

-- all objects of a list were written back
refilled : (size : ℕ) (objects ws : List OpenObject) → size ≡ length objects → length ws ≡ length objects
    → take size (ws ++ drop (length ws) objects) ≡ ws
refilled size objects ws is same = grind (arith, common_steps)

pub within_written : (last number : ℕ) (started : Bool) (objects new : List OpenObject) (size : ℕ) → All (Within last) objects
    → new ≡ with_started number started objects → size ≡ length objects
    → All (Within last) (take size (new ++ drop (length new) objects))
within_written last number started objects new size all is whole =
    subst (λ (list : List OpenObject). All (Within last) list)
    (sym (refilled size objects new whole (ap (λ (list : List OpenObject). length list) is ∙ length_with number started objects)
    ∙ is))
    (within_with last number started objects all)

pub within_without : (last number : ℕ) (objects : List OpenObject) → All (Within last) objects
    → All (Within last) (without number objects)
within_without last number [] all = all
within_without last number (object ∷ objects) all =
    let rest = All-tail (Within last) object objects all in
    elim (has_number number object) as (λ b. All (Within last) (cond b objects (object ∷ without number objects))) [
      | true ↦ rest
      | false ↦ All-cons (Within last) object (without number objects) (All-head (Within last) object objects all)
          (within_without last number objects rest)
    ]

started_within : (last number : ℕ) (objects : List OpenObject) → All (Within last) objects
    → is_started_checkpoint number objects ≡ true → number ≤ last
started_within last number objects all is =
    any_tells (λ o. has_number number o && o.is_started && o.is_checkpoint) (Within last) (number ≤ last) objects is all
    (λ o tested within.
    let first = both_true (has_number number o && o.is_started) o.is_checkpoint tested in
    let second = both_true (has_number number o) o.is_started first.0 in
    let same = same_number o.number number second.0 in
    omega (arith, same, within))

pub done_within : (state : PlainState) (last number : ℕ) → state.checkpoint.number ≤ last
    → All (Within last) state.window.objects → (checkpoint_after_done (Some number) state).number ≤ last
done_within state last number newest all =
    elim (is_started_checkpoint number state.window.objects) as (λ b. is_started_checkpoint number state.window.objects ≡ b
    → (cond b (checkpoint_at number state) state.checkpoint).number ≤ last) [
      | true ↦ λ is. started_within last number state.window.objects all is
      | false ↦ λ is. newest
    ] refl

pub newest_within : (landed : Numbers) (state : PlainState) (last : ℕ) (before : PlainCheckpoint) (objects : List OpenObject)
    → before.number ≤ last → All (Within last) objects → (newest_landed landed state before objects).number ≤ last
newest_within landed state last before [] fits all = fits
newest_within landed state last before (object ∷ objects) fits all =
    let is : Bool = object.is_checkpoint && landed object.number in
    newest_within landed state last (cond is (checkpoint_at object.number state) before) objects
    (elim is as (λ b. (cond b (checkpoint_at object.number state) before).number ≤ last) [
      | true ↦ All-head (Within last) object objects all
      | false ↦ fits
    ])
    (All-tail (Within last) object objects all)
