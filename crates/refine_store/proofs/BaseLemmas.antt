-- The newest checkpoint that a stop leaves in the store: it says which object has each sector, and where.
use Rattle.std.proofs.Common.{◌≡◌, ℕ, ◌+◌, ◌-◌, ◌≤◌, inl, inr, Option, Some, None, List, take}
use Rattle.std.proofs.Common.{refl, sym, ◌∙◌, ap, subst, arith}
use Rattle.std.specs.Prelude.{IfSome, option_map}
use Rattle.lsvd_objstore.specs.Objects.{Objects, found}
use Rattle.extent_map.specs.declared.extent.Extent.{Extent}
use Rattle.extent_map.specs.Extents.{place_at}
use Rattle.object_format.specs.declared.expected.Expected.{Expected}
use Rattle.ckpt_format.specs.declared.place.StoredPlace.{StoredPlace}
use Rattle.ckpt_format.specs.Places.{stored_on}
use Rattle.ckpt_format.specs.Checkpoint.{IsCheckpoint}
use Rattle.object_stream.specs.declared.object.Content.TheVariants.{Checkpoint}
use Rattle.object_stream.specs.declared.object.StreamObject.{StreamObject}
use Rattle.object_stream.specs.declared.owner.Owner.{Owner}
use Rattle.object_stream.specs.Landed.{Numbers}
use Rattle.object_stream.specs.Replay.{object_name, expected_at}
use Rattle.object_stream.specs.Stream.{Stream, owners, after_objects, end_after, end_at, last_number, entries_in_object}
use Rattle.volume_maps.specs.declared.place.ObjectPlace.{ObjectPlace}
use Rattle.volume_maps.specs.Laws.{place_owner}
use Rattle.volume_maps.specs.Maps.{settled_at}
use Rattle.object_uploads.specs.Checkpoint.{mapped_place}
use Rattle.object_uploads.specs.Stream.{IsPlacedIn, HoldsOwners, HoldsContent}
use Rattle.stopped_volume.specs.Expected.{expected_alone}
use Rattle.stopped_volume.specs.Opening.{stored_owner, owned_by, IsCheckpointOf}
use Rattle.refine_mount.specs.Found.{expected_for}
use Rattle.plain_disk.specs.State.{PlainState, OpensFirst, stream_in}
use Rattle.plain_disk.specs.Checkpoints.{landed_checkpoint}
use Rattle.plain_disk.specs.Valid.{IsPlainVolume}
use Rattle.plain_disk.proofs.SealedLemmas.{owners_before}
use Rattle.plain_disk.proofs.StopLemmas.{base_is_checkpoint, base_has_landed, recovers_sealed}
use Rattle.refine_store.specs.Puts.{IsOpeningObject, IsLaterObject, IsObjectOf}
use Rattle.refine_store.specs.Stored.{HasVolumeUpTo}
use Rattle.refine_store.specs.Laws.{KnownIsPlaced}
use Rattle.refine_store.proofs.DataLemmas.{owners_of_content, checkpoint_alone, owner_of_place}
use Rattle.refine_store.proofs.NewestLemmas.{base_from}
use Rattle.refine_store.proofs.StoredLemmas.{end_there}

-- ---- any checkpoint of a plain volume

-- Bytes are a checkpoint of a plain volume's owners after the object of a number, each place where its object has the sector.
pub record IsPlainCheckpointAt (volume : Expected) (plain : PlainState) (number : ℕ) (bytes : List ℕ) : Type 0 where
  pub rows : List (Extent StoredPlace)
  pub is_checkpoint : IsCheckpoint bytes (expected_alone volume number) (end_at (stream_in plain) number) rows
  pub says : (k : ℕ) → owners (stream_in plain) number k ≡ owned_by rows k
  pub placed : (k : ℕ) (place : ObjectPlace) → option_map mapped_place (place_at stored_on rows k) ≡ Some place
      → IsPlacedIn (stream_in plain) k place

-- A place that rows have where a volume opens is in an object of an ancestor, at the place where that has the sector.
opens_placed : (stream : Stream) (k : ℕ) (place : Option StoredPlace) (mapped : ObjectPlace)
    → IfSome (option_map stored_owner place) (λ owner. 1 ≤ owner.level)
    → ((p : StoredPlace) → place ≡ Some p → p.place ≡ stream.inherited k)
    → option_map mapped_place place ≡ Some mapped → IsPlacedIn stream k mapped
opens_placed stream k None mapped level inherited at = absurd (cc)
opens_placed stream k (Some place) mapped level inherited at =
    let same : mapped_place place ≡ mapped = cc in
    subst (IsPlacedIn stream k) same (λ own past. absurd (omega (arith, level, own)), λ from. inherited place refl)

pub opening_is_checkpoint : (volume : Expected) (plain : PlainState) (number : ℕ) (bytes : List ℕ)
    → OpensFirst plain → IsOpeningObject volume plain number bytes → IsPlainCheckpointAt volume plain number bytes
opening_is_checkpoint volume plain number bytes opens is =
    let first : number - plain.number ≡ 0 = omega (arith, is.first) in
    record {
      rows = is.rows;
      is_checkpoint =
          subst (λ end. IsCheckpoint bytes (expected_alone volume number) end is.rows)
          (sym (ap (λ n. end_after plain.end (take n plain.objects)) first)) is.is_checkpoint;
      says = λ k.
          ap (λ n. after_objects plain.number plain.end plain.entries (stream_in plain).opening (take n plain.objects) k) first
          ∙ is.says k;
      placed = λ k place at.
          opens_placed (stream_in plain) k (place_at stored_on is.rows k) place
          (subst (λ o. IfSome o (λ (owner : Owner). 1 ≤ owner.level)) (is.says k) (opens.inherited k)) (is.places k) at;
    }

pub later_is_checkpoint : (volume : Expected) (plain : PlainState) (number : ℕ) (bytes : List ℕ) → IsPlainVolume plain
    → number ≤ last_number (stream_in plain)
    → (is : IsLaterObject volume plain number bytes) → is.object.content ≡ Checkpoint
    → IsPlainCheckpointAt volume plain number bytes
later_is_checkpoint volume plain number bytes valid sealed is kind =
    let stream = stream_in plain in
    let before = end_at stream (number - 1) in
    let i = number - (plain.number + 1) in
    let past = is.past in
    let sum : plain.number + 1 + i ≡ number = omega arith in
    let holds : HoldsOwners stream (expected_at volume number before) (owners stream (number - 1)) is.object.end bytes =
    owners_of_content stream (expected_at volume number before) (entries_in_object stream number) (owners stream (number - 1))
    is.object.end bytes is.rows
    (subst (λ c. HoldsContent stream (expected_at volume number before) c (entries_in_object stream number)
    (owners stream (number - 1)) is.object.end bytes is.rows) kind is.holds) in
    let rows = holds.holds.rows in
    let ends : is.object.end ≡ end_at stream number =
    sym (end_there plain i is.object is.there) ∙ ap (end_at stream) sum in
    let object : is.object ≡ record { content = Checkpoint; end = is.object.end } =
    ap (λ c. let o : StreamObject = record { content = c; end = is.object.end } in o) kind in
    record {
      rows = rows;
      is_checkpoint =
          subst (λ end. IsCheckpoint bytes (expected_alone volume number) end rows) ends
          (checkpoint_alone volume number before is.object.end bytes rows holds.holds.is_checkpoint);
      says = λ k.
          owners_before plain number k is.object.end valid past sealed (is.there ∙ ap Some object)
          ∙ sym (holds.owners_are k) ∙ ap place_owner (sym (holds.holds.same k)) ∙ owner_of_place (place_at stored_on rows k);
      placed = λ k place at.
          subst (λ (p : Option ObjectPlace). IfSome p (IsPlacedIn stream k)) (sym (holds.holds.same k) ∙ at) (holds.placed k);
    }

-- ---- the newest one

module _ (uuid : List ℕ) (epoch : ℕ) (plain : PlainState) (landed : Numbers) (objects : Objects) (valid : IsPlainVolume plain)
    (has : HasVolumeUpTo uuid epoch plain landed objects) where
  abbrev volume : Expected
  volume = expected_for uuid plain

  abbrev base : ℕ
  base = (landed_checkpoint landed plain).number

  pub base_sealed : base ≤ last_number (stream_in plain)
  base_sealed =
      let from = base_from plain landed valid has.opens has.seals has.may in
      omega (arith, from.3, recovers_sealed plain landed valid)

  -- the object that the store has under its number
  abbrev pub BaseThere : Type 0
  BaseThere =
      (bytes : List ℕ) × (found objects (object_name volume base) ≡ Some bytes) × IsObjectOf volume plain base bytes

  base_there : BaseThere
  base_there =
      let from = base_from plain landed valid has.opens has.seals has.may in
      has.there base from.1 from.3 (base_has_landed plain landed valid has.may)

  -- one after the opening is sealed as a checkpoint
  kind_of_later : (bytes : List ℕ) (is : IsLaterObject volume plain base bytes) → is.object.content ≡ Checkpoint
  kind_of_later bytes is =
      let sealed = has.seals.sealed base is.past (base_is_checkpoint plain landed) in
      let other : StreamObject = record { content = Checkpoint; end = sealed.0 } in
      let same : is.object ≡ other = let e = sym is.there ∙ sealed.1 in cc in
      ap (λ (o : StreamObject). o.content) same

  base_checkpoint : (there : BaseThere) → IsPlainCheckpointAt volume plain base there.0
  base_checkpoint there = elim there.2 [
    | inl first ↦ opening_is_checkpoint volume plain base there.0 has.opens first
    | inr is ↦ later_is_checkpoint volume plain base there.0 valid base_sealed is (kind_of_later there.0 is)
  ]

  -- what the store has of it
  pub record HasBase : Type 0 where
    pub bytes : List ℕ
    pub present : found objects (object_name volume base) ≡ Some bytes
    pub is : IsPlainCheckpointAt volume plain base bytes

  pub has_base : HasBase
  has_base = record { bytes = base_there.0; present = base_there.1; is = base_checkpoint base_there }

pub known_is_placed : KnownIsPlaced
known_is_placed uuid epoch plain landed objects uploads valid has knows k =
    let volume : Expected = expected_for uuid plain in
    let base = (landed_checkpoint landed plain).number in
    let stream = stream_in plain in
    let there : HasBase uuid epoch plain landed objects valid has = has_base uuid epoch plain landed objects valid has in
    let checkpoint : IsCheckpointOf volume objects base (end_at stream base) (owners stream base) = record {
      bytes = there.bytes;
      present = there.present;
      rows = there.is.rows;
      is_checkpoint = there.is.is_checkpoint;
      says = there.is.says;
    } in
    elim (settled_at uploads.queue.maps k) as (λ p. settled_at uploads.queue.maps k ≡ p
    → IfSome p (λ (place : ObjectPlace). (place.level ≡ 0 → place.number ≤ base) → IsPlacedIn stream k place)) [
      | None ↦ λ at. tt
      | Some place ↦ λ at low.
          there.is.placed k place (knows.places (end_at stream base) (owners stream base) checkpoint k place at low)
    ] refl
