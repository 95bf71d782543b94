-- Where a volume that is followed from its creation on stops: past the newest checkpoint that has landed there is no other one.
use Rattle.std.proofs.Common.{◌≡◌, ℕ, ◌+◌, ◌-◌, ◌<◌, ◌≤◌, Some, List, refl, ◌∙◌, ap, arith}
use Rattle.std.specs.Prelude.{IsTrue}
use Rattle.std.specs.List.{slice_get}
use Rattle.object_format.specs.declared.expected.Expected.{Expected}
use Rattle.object_stream.specs.declared.object.Content.TheVariants.{Checkpoint}
use Rattle.object_stream.specs.declared.object.StreamObject.{StreamObject}
use Rattle.object_stream.specs.Landed.{Numbers, IsFirstMissing}
use Rattle.object_stream.specs.Replay.{expected_at}
use Rattle.object_stream.specs.Stream.{owners, end_at, entries_in_object, last_number}
use Rattle.plain_disk.specs.State.{PlainState, OpensFirst, stream_in}
use Rattle.plain_disk.specs.Checkpoints.{landed_checkpoint}
use Rattle.plain_disk.specs.Found.{SealsCheckpoints}
use Rattle.plain_disk.specs.Stops.{recovered_number}
use Rattle.plain_disk.specs.Valid.{IsPlainVolume, MayLand, is_checkpoint_from}
use Rattle.plain_disk.proofs.CheckpointLemmas.{landed_is, landed_from}
use Rattle.plain_disk.proofs.StopLemmas.{newest_of_all, recovers_base, recovers_before_missing, have_landed}
use Rattle.refine_store.specs.Puts.{IsLaterObject}
use Rattle.refine_store.proofs.DataLemmas.{HasSectors, sectors_of_content, checkpoint_object}

module _ (plain : PlainState) (landed : Numbers) (valid : IsPlainVolume plain) (blank : OpensFirst plain)
    (seals : SealsCheckpoints plain) (may : MayLand plain landed) where
  abbrev base : ℕ
  base = (landed_checkpoint landed plain).number

  abbrev number : ℕ
  number = recovered_number landed plain

  pub base_from : (plain.number ≡ 1) × (0 < base) × (plain.checkpoint.number ≤ base) × (base ≤ number)
  base_from = (blank.number, (landed_is plain landed valid).numbered, landed_from plain landed valid, recovers_base plain landed)

  -- a checkpoint that has landed is not past it
  pub no_newer : (other : ℕ) (object : StreamObject) → 1 < other → plain.checkpoint.number ≤ other → IsTrue (landed other)
      → slice_get plain.objects (other - (plain.number + 1)) ≡ Some object → object.content ≡ Checkpoint → other ≤ base
  no_newer other object later past there at is =
      let marked = seals.marked other object.end (omega (arith, later, blank.number)) past
      (at ∙ ap Some (checkpoint_object object is)) in
      newest_of_all plain landed other valid marked there

  -- so what has landed past it is none, but data or a copy
  pub none_past : (volume : Expected) (other : ℕ) (bytes : List ℕ) → base < other → IsTrue (landed other)
      → (is : IsLaterObject volume plain other bytes) → is.object.content ≡ Checkpoint → ⊥
  none_past volume other bytes past there is kind =
      let from = base_from in
      absurd (omega (
        arith,
        past,
        from.1,
        no_newer other is.object (omega (arith, past, from.1))
            (omega (arith, past, from.2)) there is.there kind,
      ))

  pub sectors_past : (volume : Expected) (other : ℕ) (bytes : List ℕ) → base < other → IsTrue (landed other)
      → (is : IsLaterObject volume plain other bytes)
      → HasSectors (expected_at volume other (end_at (stream_in plain) (other - 1))) is.object.content
      (entries_in_object (stream_in plain) other) is.object.end bytes
  sectors_past volume other bytes past there is =
      sectors_of_content (stream_in plain) (expected_at volume other (end_at (stream_in plain) (other - 1))) is.object.content
      (entries_in_object (stream_in plain) other) (owners (stream_in plain) (other - 1)) is.object.end bytes is.rows
      (none_past volume other bytes past there is) is.holds

  -- each object past it has landed, up to the one before the first missing number
  pub landed_past : (other : ℕ) → base < other → other ≤ number → IsTrue (landed other)
  landed_past other past most = have_landed landed base (last_number (stream_in plain) - base) other past most

  pub first_missing : IsFirstMissing (is_checkpoint_from plain) landed (number + 1)
  first_missing = recovers_before_missing plain landed (is_checkpoint_from plain) valid may (λ other from. refl)
