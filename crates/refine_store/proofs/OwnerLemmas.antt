-- The objects that the newest checkpoint of a stopped store names are there, and have the sectors of the image.
use Rattle.std.proofs.Common.{◌≡◌, ℕ, ◌-◌, ◌^◌, ◌<◌, ◌≤◌, inl, inr, true, Option, Some, None, List, refl, sym, ◌∙◌}
use Rattle.std.proofs.Common.{ap, subst, arith, get_or}
use Rattle.std.specs.Prelude.{option_map, IfSome}
use Rattle.std.specs.List.{slice_get}
use Rattle.std.proofs.lemmas.Bool.Decides.{nat_tests}
use Rattle.lsvd_base.specs.Image.{Image}
use Rattle.lsvd_objstore.specs.Objects.{Objects, found}
use Rattle.extent_map.specs.Extents.{place_at}
use Rattle.object_format.specs.declared.expected.Expected.{Expected}
use Rattle.ckpt_format.specs.declared.place.StoredPlace.{StoredPlace}
use Rattle.ckpt_format.specs.Places.{stored_on}
use Rattle.object_stream.specs.declared.object.Content.{Content}
use Rattle.object_stream.specs.declared.object.Content.TheVariants.{Data, Copy, Checkpoint}
use Rattle.object_stream.specs.declared.object.StreamObject.{StreamObject}
use Rattle.object_stream.specs.declared.owner.Owner.{Owner}
use Rattle.object_stream.specs.Changes.{sector_of}
use Rattle.object_stream.specs.Landed.{Numbers}
use Rattle.object_stream.specs.Replay.{object_name, expected_at}
use Rattle.object_stream.specs.Stream.{Stream, owners, end_at, is_own, entries_in_object, place_in_copy, place_in_object}
use Rattle.object_stream.specs.Value.{HasSector, StandsForSector}
use Rattle.object_uploads.specs.declared.rows.SealedRows.{SealedRows}
use Rattle.object_uploads.specs.Checkpoint.{mapped_place}
use Rattle.object_uploads.specs.Stream.{object_at, HoldsContent}
use Rattle.stopped_volume.specs.Ancestors.{uuid_in_chain, place_of}
use Rattle.stopped_volume.specs.Opening.{stored_owner, HasSectorAt, HoldPlaces}
use Rattle.refine_mount.specs.Found.{expected_for}
use Rattle.plain_disk.specs.State.{PlainState, stream_in}
use Rattle.plain_disk.specs.Checkpoints.{landed_checkpoint}
use Rattle.plain_disk.specs.Found.{IsMappedThere, IsOwnPast, IsInheritedAt}
use Rattle.plain_disk.specs.Removals.{maps}
use Rattle.plain_disk.specs.Valid.{IsPlainVolume}
use Rattle.plain_disk.proofs.CheckpointLemmas.{landed_is, owns_some}
use Rattle.plain_disk.proofs.OpeningLemmas.{owners_are_past}
use Rattle.plain_disk.proofs.Overlaid.{sectors_limit}
use Rattle.plain_disk.proofs.SealedLemmas.{mapped_have_landed}
use Rattle.refine_store.specs.Puts.{HasSourceSectors, IsLaterObject}
use Rattle.refine_store.specs.Stored.{HasVolumeUpTo}
use Rattle.refine_store.proofs.BaseLemmas.{base_sealed, HasBase, has_base}
use Rattle.refine_store.proofs.DataLemmas.{HasSectors, sectors_of_content, copy_sector}
use Rattle.refine_store.proofs.NewestLemmas.{base_from}
use Rattle.refine_store.proofs.PlaceLemmas.{HasPlace, place_of_data, place_of_copy}
use Rattle.refine_store.proofs.ValueLemmas.{image_at, PutIn, OwnsBy, owns_at}

own_test : (owner : Owner) → owner.level ≡ 0 → is_own owner.number (Some owner) ≡ true
own_test owner level = grind (arith, nat_tests)

module _ (uuid : List ℕ) (epoch : ℕ) (plain : PlainState) (landed : Numbers) (objects : Objects) (valid : IsPlainVolume plain)
    (has : HasVolumeUpTo uuid epoch plain landed objects) where
  abbrev volume : Expected
  volume = expected_for uuid plain

  abbrev stream : Stream
  stream = stream_in plain

  abbrev base : ℕ
  base = (landed_checkpoint landed plain).number

  abbrev image : Image
  image = image_at plain valid has.opens base

  -- the uuids of the volume's levels
  abbrev pub uuid_at : ℕ → Option (List ℕ)
  uuid_at = uuid_in_chain uuid plain.chain

  wide : plain.geometry.sectors < 2 ^ 64
  wide = omega (arith, sectors_limit plain.geometry valid.limits)

  -- An object has a sector that it owns, in its rows and at its place, and it is an image's.
  pub record HasOwn (shown : Image) (content : Content) (n k end : ℕ) (bytes : List ℕ) : Type 0 where
    pub object : HasSectors (expected_at volume n (end_at stream (n - 1))) content (entries_in_object stream n) end bytes
    pub sector : List ℕ
    pub placed : HasPlace content (entries_in_object stream n) object.header object.rows object.payload k sector
    pub image_has : (s : List ℕ) → slice_get shown k ≡ Some s → s ≡ sector

  pub own_sector : (shown : Image) (content : Content) (n k end : ℕ) (bytes : List ℕ) (rows : SealedRows)
      → HoldsContent stream (expected_at volume n (end_at stream (n - 1))) content (entries_in_object stream n)
      (owners stream (n - 1)) end bytes rows
      → HasSourceSectors plain n bytes rows → PutIn plain valid has.opens content n k shown
      → HasOwn shown content n k end bytes
  own_sector shown Data n k end bytes rows holds copied put =
      let expected : Expected = expected_at volume n (end_at stream (n - 1)) in
      let own = entries_in_object stream n in
      let object = sectors_of_content stream expected Data own (owners stream (n - 1)) end bytes rows (λ kind. cc) holds in
      record {
        object = object;
        sector = put.0;
        placed = place_of_data expected own end bytes object k put.0 put.1;
        image_has = put.2;
      }
  own_sector shown (Copy pairs) n k end bytes rows holds copied put =
      let expected : Expected = expected_at volume n (end_at stream (n - 1)) in
      let own = entries_in_object stream n in
      let before = owners stream (n - 1) in
      let object = sectors_of_content stream expected (Copy pairs) own before end bytes rows (λ kind. cc) holds in
      let placed = place_of_copy expected pairs own end bytes object k put.0 put.1 in
      record {
        object = object;
        sector = sector_of (place_in_copy pairs k) object.payload;
        placed = placed;
        image_has = λ s at.
            (let there = copy_sector plain n expected pairs own before end bytes rows (λ kind. cc) holds copied k put.0 s put.1
            put.2 (put.3 s at) in
            let same : Some (sector_of (place_in_copy pairs k) object.payload) ≡ Some s = sym placed.has ∙ there in
            cc);
      }
  own_sector shown Checkpoint n k end bytes rows holds copied put = absurd put

  -- the object that owns a sector is there
  pub record IsOwnerThere (owner : Owner) (k : ℕ) : Type 0 where
    level : owner.level ≡ 0
    past : 1 < owner.number
    bytes : List ℕ
    present : found objects (object_name volume owner.number) ≡ Some bytes
    object : StreamObject
    there : object_at stream owner.number ≡ Some object
    own : HasOwn image object.content owner.number k object.end bytes

  owner_in : (owner : Owner) (k : ℕ) → owner.level ≡ 0 → 1 < owner.number → OwnsBy plain valid has.opens (Some owner) k image
      → (bytes : List ℕ) → found objects (object_name volume owner.number) ≡ Some bytes
      → IsLaterObject volume plain owner.number bytes
      → IsOwnerThere owner k
  owner_in owner k level past owns bytes present is = record {
    level = level;
    past = past;
    bytes = bytes;
    present = present;
    object = is.object;
    there = is.there;
    own = own_sector image is.object.content owner.number k is.object.end bytes is.rows is.holds is.copied
        (owns.own level is.object is.there);
  }

  owner_there : (owner : Owner) (k : ℕ) → owners stream base k ≡ Some owner → IsOwnPast base owner → IsOwnerThere owner k
  owner_there owner k owns past =
      let n = owner.number in
      let from = base_from plain landed valid has.opens has.seals has.may in
      let first : plain.number ≤ base = omega (arith, from.0, from.1) in
      let own : is_own n (get_or (landed_checkpoint landed plain).owned k None) ≡ true =
      ap (is_own n) ((landed_is plain landed valid).holds first k ∙ owns) ∙ own_test owner past.0 in
      let mapped : maps (landed_checkpoint landed plain) n ≡ true =
      owns_some n (landed_checkpoint landed plain).owned k own in
      let there : IsMappedThere landed plain n =
      mapped_have_landed plain landed n valid has.may has.opens has.seals mapped in
      let object = has.there n there.some (omega (arith, there.before, from.3)) there.there in
      let by : OwnsBy plain valid has.opens (Some owner) k image =
      subst (λ (o : Option Owner). OwnsBy plain valid has.opens o k image) owns
      (owns_at plain valid has.opens base k first (base_sealed uuid epoch plain landed objects valid has)) in
      elim object.2 [
        | inl opening ↦ absurd (omega (arith, opening.first, from.0, past.1))
        | inr is ↦ owner_in owner k past.0 past.1 by object.0 object.1 is
      ]

  abbrev sector_there : (owner : Owner) (k : ℕ) → (is : IsOwnerThere owner k) → HasSector objects uuid_at owner k is.own.sector
  sector_there owner k is = record {
    expected = expected_at volume owner.number (end_at stream (owner.number - 1));
    wide = wide;
    level = ap uuid_at is.level;
    number = refl;
    bytes = is.bytes;
    present = is.present;
    header = is.own.object.header;
    rows = is.own.object.rows;
    payload = is.own.object.payload;
    parts = is.own.object.parts;
    has = is.own.placed.has;
  }

  -- ---- the value

  stands_by : (owner : Option Owner) (k : ℕ) (sector : List ℕ) → owners stream base k ≡ owner → slice_get image k ≡ Some sector
      → OwnsBy plain valid has.opens owner k image
      → StandsForSector objects uuid_at owner k sector
  stands_by None k sector owns at by = by sector at
  stands_by (Some owner) k sector owns at by =
      elim (owners_are_past plain base k owner has.opens owns) [
        | inl own ↦
            let is = owner_there owner k owns own in
            subst (HasSector objects uuid_at owner k) (sym (is.own.image_has sector at)) (sector_there owner k is)
        | inr inherited ↦
            subst (λ o. StandsForSector objects uuid_at o k sector) inherited.1
            (has.inherits.value k sector (by.inherited inherited.0 sector at))
      ]

  pub stands_for : (k : ℕ) (sector : List ℕ) → slice_get image k ≡ Some sector
      → StandsForSector objects uuid_at (owners stream base k) k sector
  stands_for k sector at =
      let from = base_from plain landed valid has.opens has.seals has.may in
      stands_by (owners stream base k) k sector refl at
      (owns_at plain valid has.opens base k (omega (arith, from.0, from.1))
      (base_sealed uuid epoch plain landed objects valid has))

  -- ---- the places

  abbrev there : HasBase uuid epoch plain landed objects valid has
  there = has_base uuid epoch plain landed objects valid has

  own_holds : (k : ℕ) (place : StoredPlace) → place_at stored_on there.is.rows k ≡ Some place
      → owners stream base k ≡ Some (stored_owner place) → IsOwnPast base (stored_owner place)
      → HasSectorAt objects uuid_at place k
  own_holds k place at owns past =
      let owner : Owner = stored_owner place in
      let n = place.number in
      let own = entries_in_object stream n in
      let is : IsOwnerThere owner k = owner_there owner k owns past in
      let from = base_from plain landed valid has.opens has.seals has.may in
      let placed = (there.is.placed k (mapped_place place) (ap (option_map mapped_place) at)).0 is.level
      (omega (arith, is.past, from.0)) in
      let same : place.place ≡ place_in_object is.object.content own k =
      subst (λ (o : Option StreamObject). IfSome o (λ object. place.place ≡ place_in_object object.content own k)) is.there
      placed in
      let inside = is.own.placed.inside in
      record {
        numbered = omega (arith, is.past);
        sector = is.own.sector;
        has = sector_there owner k is;
        inside = omega (arith, same, inside);
        at = ap (λ at_place. sector_of at_place is.own.object.payload) same ∙ is.own.placed.at;
      }

  -- an ancestor's object has it where the volume opens with it
  inherited_holds : (k : ℕ) (place : StoredPlace) → place_at stored_on there.is.rows k ≡ Some place
      → IsInheritedAt plain k (stored_owner place) → HasSectorAt objects uuid_at place k
  inherited_holds k place at inherited =
      let placed : place.place ≡ stream.inherited k =
      (there.is.placed k (mapped_place place) (ap (option_map mapped_place) at)).1 inherited.0 in
      let holds = (has.inherits.places k (stored_owner place) inherited.1).1 in
      subst (λ n. HasSectorAt objects uuid_at (place_of (stored_owner place) n) k) (sym placed) holds

  pub hold_places : HoldPlaces objects uuid_at there.is.rows
  hold_places k place at =
      let owns = there.is.says k ∙ ap (option_map stored_owner) at in
      elim (owners_are_past plain base k (stored_owner place) has.opens owns) [
        | inl past ↦ own_holds k place at owns past
        | inr inherited ↦ inherited_holds k place at inherited
      ]
