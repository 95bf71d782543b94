-- What objects of a store stand for is one.
use Rattle.std.proofs.Common.{rules, ◌≡◌, ℕ, ◌+◌, ◌-◌, ◌^◌, ◌<◌, ◌≤◌, inl, inr, false, length, refl, sym, ◌∙◌, ap, subst, arith}
use Rattle.std.specs.Prelude.{IsTrue}
use Rattle.std.proofs.lemmas.Bool.{cases_lt}
use Rattle.std.proofs.lemmas.List.{length-take}
use Rattle.lsvd_objstore.specs.Objects.{Objects}
use Rattle.object_format.specs.declared.expected.Expected.{Expected}
use Rattle.object_format.specs.declared.header.Header.{Header}
use Rattle.object_stream.specs.Stream.{Owners, Stream, owners, objects_to, end_at, last_number}
use Rattle.object_stream.specs.Landed.{Numbers, IsFirstMissing}
use Rattle.object_stream.specs.Replay.{Replays}
use Rattle.object_stream.proofs.ReplayLemmas.{stored_are_replayed}
use Rattle.object_stream.proofs.StreamLemmas.{follow_first}
use Rattle.object_stream.proofs.ValueLemmas.{value_is_image_after}
use Rattle.object_stream.proofs.OneLemmas.{replays_as_one, has_one_value}
use Rattle.ckpt_format.specs.Checkpoint.{IsCheckpoint}
use Rattle.ckpt_format.proofs.LawLemmas.{has_one_reading}
use Rattle.stopped_volume.specs.Expected.{expected_alone}
use Rattle.stopped_volume.specs.Opening.{owned_by, IsCheckpointOf, IsOpening}
use Rattle.stopped_volume.specs.Objects.{AreCheckpoints}
use Rattle.stopped_volume.specs.Laws.{StandForOneVolume, StandForHistory}

-- what has landed is not missing
not_missing : (landed : Numbers) (number : ℕ) → IsTrue (landed number) → landed number ≡ false → ⊥
not_missing landed number there absent = search rules

-- checkpoints of one store are the same ones
is_other_checkpoint : (volume : Expected) (objects : Objects) (a b : Numbers) (number : ℕ) → AreCheckpoints volume objects a
    → AreCheckpoints volume objects b
    → IsTrue (a number) → IsTrue (b number)
is_other_checkpoint volume objects a b number are_a are_b is = (are_b number).1 ((are_a number).0 is)

module _ (volume : Expected) (objects : Objects) (a b landed : Numbers) (are_a : AreCheckpoints volume objects a)
    (are_b : AreCheckpoints volume objects b) where
  base_not_past : (missing other : ℕ) (x : IsFirstMissing a landed missing) (y : IsFirstMissing b landed other) → x.base ≤ y.base
  base_not_past missing other x y =
      y.newest.newest x.base (is_other_checkpoint volume objects a b x.base are_a are_b x.newest.is_checkpoint)
      x.newest.has_landed

  not_past : (missing other : ℕ) (x : IsFirstMissing a landed missing) (y : IsFirstMissing b landed other) → x.base ≤ y.base
      → missing ≤ other
  not_past missing other x y base =
      elim (cases_lt other missing) [
        | inl low ↦ absurd (not_missing landed other (x.least other (omega (arith, y.above, base)) low) y.absent)
        | inr from ↦ from
      ]

-- a checkpoint of the store has one list of rows
same_rows : (volume : Expected) (objects : Objects) (number end other : ℕ) (owned others : Owners)
    → (a : IsCheckpointOf volume objects number end owned) → (b : IsCheckpointOf volume objects number other others)
    → (end ≡ other) × (a.rows ≡ b.rows)
same_rows volume objects number end other owned others a b =
    let same_bytes : a.bytes ≡ b.bytes = let e = a.present in let f = b.present in cc in
    let moved = subst (λ bytes. IsCheckpoint bytes (expected_alone volume number) other b.rows) (sym same_bytes)
    b.is_checkpoint in
    let one = has_one_reading a.bytes (expected_alone volume number) (expected_alone volume number) end other a.rows b.rows
    a.is_checkpoint moved in
    (ap (λ (h : Header). h.end_seq) one.0, one.1)

-- so it has one end, and one owner of each sector
one_end : (volume : Expected) (objects : Objects) (number end other : ℕ) (owned others : Owners)
    → IsCheckpointOf volume objects number end owned → IsCheckpointOf volume objects number other others → end ≡ other
one_end volume objects number end other owned others a b = (same_rows volume objects number end other owned others a b).0

same_owners : (volume : Expected) (objects : Objects) (number end other : ℕ) (owned others : Owners)
    → IsCheckpointOf volume objects number end owned → IsCheckpointOf volume objects number other others
    → (k : ℕ) → owned k ≡ others k
same_owners volume objects number end other owned others a b k =
    a.says k
    ∙ ap (λ rows. owned_by rows k) (same_rows volume objects number end other owned others a b).1
    ∙ sym (b.says k)

pub stand_for_one : StandForOneVolume
stand_for_one volume uuid_at objects image other number other_number end other_end wide long a b =
    let below : a.missing.base ≤ b.missing.base = base_not_past volume objects a.checkpoint b.checkpoint _ a.checkpoints
    b.checkpoints _ _ a.missing b.missing in
    let above : b.missing.base ≤ a.missing.base = base_not_past volume objects b.checkpoint a.checkpoint _ b.checkpoints
    a.checkpoints _ _ b.missing a.missing in
    let first : number + 1 ≤ other_number + 1 = not_past volume objects a.checkpoint b.checkpoint _ a.checkpoints b.checkpoints _
    _ a.missing b.missing below in
    let second : other_number + 1 ≤ number + 1 = not_past volume objects b.checkpoint a.checkpoint _ b.checkpoints a.checkpoints _
    _ b.missing a.missing above in
    let same_number : number ≡ other_number = omega arith in
    let base : a.missing.base ≡ b.missing.base = omega arith in
    let count : number - a.missing.base ≡ other_number - b.missing.base = omega arith in
    let A : ℕ → Type 0 = λ n. IsCheckpointOf volume objects n b.base_end b.owned in
    let moved : IsCheckpointOf volume objects a.missing.base b.base_end b.owned = subst A (sym base) b.opening.checkpoint in
    let ends : a.base_end ≡ b.base_end = one_end volume objects a.missing.base a.base_end b.base_end a.owned b.owned
    a.opening.checkpoint moved in
    let R : ℕ → Type 0 = λ n. Replays objects volume n b.base_end b.owned (other_number - b.missing.base) other_end b.owners in
    let S : ℕ → Type 0 = λ e. Replays objects volume a.missing.base e b.owned (other_number - b.missing.base) other_end
    b.owners in
    let T : ℕ → Type 0 = λ n. Replays objects volume a.missing.base a.base_end b.owned n other_end b.owners in
    let replay = subst T (sym count) (subst S (sym ends) (subst R (sym base) b.replayed)) in
    let one = replays_as_one objects volume a.missing.base a.base_end a.owned b.owned (number - a.missing.base) end a.owners
    other_end b.owners wide
    (same_owners volume objects a.missing.base a.base_end b.base_end a.owned b.owned a.opening.checkpoint moved) a.replayed
    replay in
    (same_number, one.0, has_one_value objects uuid_at a.owners b.owners image other one.1 long a.value b.value)

-- the objects of a stream up to a number that it has
objects_count : (stream : Stream) (number : ℕ) → number ≤ last_number stream
    → length (objects_to stream number) ≡ number - stream.number
objects_count stream number last = omega (arith, length-take (number - stream.number) stream.objects)

pub stand_for_history : StandForHistory
stand_for_history volume uuid_at objects stream opening number own wide ends valid landed =
    let base = landed.base in
    let list = objects_to stream number in
    let count_is = objects_count stream number landed.last in
    record {
      checkpoint = landed.checkpoint;
      checkpoints = landed.checkpoints;
      missing = landed.missing;
      base_end = stream.end;
      owned = stream.opening;
      opening = subst (λ n. IsOpening volume uuid_at objects n stream.end stream.opening) (sym base) landed.opens.is;
      owners = owners stream number;
      replayed =
          subst (λ n. Replays objects volume n stream.end stream.opening (number - n) (end_at stream number)
          (owners stream number)) (sym base)
          (subst (λ n. Replays objects volume stream.number stream.end stream.opening n (end_at stream number)
          (owners stream number)) count_is
          (stored_are_replayed objects uuid_at volume stream.number stream.end stream.entries stream.opening
          (owners stream number) list landed.stored (λ k. refl)));
      value =
          value_is_image_after objects uuid_at volume stream.number stream.end stream.entries stream.opening opening list
          own wide ends
          (follow_first stream.end (number - stream.number) stream.objects valid.ends) landed.stored landed.opens.value;
      past = landed.past;
    }
