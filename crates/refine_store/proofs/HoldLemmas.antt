-- Where a store changes neither the holds of a volume nor the checkpoints that these name, they keep what they did; and each such
-- checkpoint is acknowledged, and was never given out for removal.
use Rattle.std.proofs.Common.{◌≡◌, ℕ, inl, inr, eqb, true, List, refl, sym, ◌∙◌, subst}
use Rattle.std.specs.Prelude.{IsSome}
use Rattle.std.specs.List.{All}
use Rattle.lsvd_names.specs.Names.{hold_name}
use Rattle.lsvd_objstore.specs.Objects.{Objects, found}
use Rattle.object_format.specs.declared.expected.Expected.{Expected}
use Rattle.object_stream.specs.Replay.{object_name}
use Rattle.object_stream.specs.Stream.{Owners}
use Rattle.stopped_volume.specs.Holds.{IsHeld, HasCheckpoint, IsKeptBy, IsKept}
use Rattle.stopped_volume.specs.Opening.{IsCheckpointOf}
use Rattle.plain_disk.specs.Removals.{has}
use Rattle.plain_disk.specs.State.{PlainState, frontier_of}
use Rattle.plain_disk.specs.Valid.{IsPlainVolume, IsKeptByHold}
use Rattle.plain_disk.proofs.CheckpointLemmas.{any_tells, same_number}
use Rattle.refine_mount.specs.Found.{HasHolds}

-- ---- a store that leaves them

-- the holds stay, and the checkpoint of each
pub record KeepsHolds (volume : Expected) (old new : Objects) : Type 0 where
  pub names : (number : ℕ) → found new (hold_name volume.uuid number) ≡ found old (hold_name volume.uuid number)
  pub checkpoints : (number : ℕ) → IsHeld volume old number
      → found new (object_name volume number) ≡ found old (object_name volume number)

module _ (volume : Expected) where
  -- one store has the hold that another one has
  same_held : (old new : Objects) (number : ℕ)
      → found new (hold_name volume.uuid number) ≡ found old (hold_name volume.uuid number)
      → IsHeld volume old number → IsHeld volume new number
  same_held old new number same held = record { named = held.named; present = subst IsSome (sym same) held.present }

  -- and its checkpoint
  same_checkpoint : (old new : Objects) (number end : ℕ) (owned : Owners)
      → found new (object_name volume number) ≡ found old (object_name volume number)
      → IsCheckpointOf volume old number end owned → IsCheckpointOf volume new number end owned
  same_checkpoint old new number end owned same is = record {
    bytes = is.bytes;
    present = same ∙ is.present;
    rows = is.rows;
    is_checkpoint = is.is_checkpoint;
    says = is.says;
  }

  -- which keeps the same objects
  same_kept : (old new : Objects) (checkpoint number : ℕ)
      → found new (object_name volume checkpoint) ≡ found old (object_name volume checkpoint)
      → IsKeptBy volume old checkpoint number → IsKeptBy volume new checkpoint number
  same_kept old new checkpoint number same (inl itself) = inl itself
  same_kept old new checkpoint number same (inr mapped) =
      inr (mapped.0, mapped.1, same_checkpoint old new checkpoint mapped.0 mapped.1 same mapped.2, mapped.3)

  module _ (held : List ℕ) (old new : Objects) (keeps : KeepsHolds volume old new) (holds : HasHolds volume held old) where
    held_before : (number : ℕ) → IsHeld volume new number → IsHeld volume old number
    held_before number is = same_held new old number (sym (keeps.names number)) is

    checkpoint_stays : (number : ℕ) → IsHeld volume new number → HasCheckpoint volume new number
    checkpoint_stays number is =
        let before = held_before number is in
        let has_it = holds.checkpoints number before in
        (has_it.0, has_it.1, same_checkpoint old new number has_it.0 has_it.1 (keeps.checkpoints number before) has_it.2)

    kept_still : (number : ℕ) → IsKept volume old number → IsKept volume new number
    kept_still number is =
        let same = keeps.checkpoints is.0 is.1 in
        (is.0, same_held old new is.0 (keeps.names is.0) is.1, same_kept old new is.0 number same is.2)

    kept_before : (number : ℕ) → IsKept volume new number → IsKept volume old number
    kept_before number is =
        let before = held_before is.0 is.1 in
        (is.0, before, same_kept new old is.0 number (sym (keeps.checkpoints is.0 before)) is.2)

    pub holds_stay : HasHolds volume held new
    holds_stay = record {
      checkpoints = checkpoint_stays;
      same = λ number. (
        λ is. kept_still number ((holds.same number).0 is),
        λ is. (holds.same number).1 (kept_before number is),
      );
    }

-- ---- the objects that they keep

-- what holds of each of some numbers holds of one that is among them
among : (P : ℕ → Type 0) (numbers : List ℕ) (number : ℕ) → All P numbers → has numbers number ≡ true → P number
among P numbers number all is =
    any_tells (λ other. eqb other number) P (P number) numbers is all
    (λ other same of_it. subst P (same_number other number same) of_it)

-- the checkpoint that a hold names is acknowledged, and was never given out for removal
pub held_by_hold : (volume : Expected) (plain : PlainState) (objects : Objects) (number : ℕ) → IsPlainVolume plain
    → HasHolds volume plain.held objects → IsHeld volume objects number
    → IsKeptByHold (frontier_of plain) plain.given_out number
held_by_hold volume plain objects number valid holds held =
    among (IsKeptByHold (frontier_of plain) plain.given_out) plain.held number valid.held
    ((holds.same number).1 (number, held, inl refl))
