-- The image that owners stand for, object by object.
use Rattle.std.proofs.Common.{◌≡◌, ℕ, suc, ◌+◌, ◌-◌, ◌^◌, ◌<◌, ◌≤◌, inl, inr, Bool, true, false, cond, Option, Some, None, List}
use Rattle.std.proofs.Common.{[], ◌∷◌, ◌++◌, length, take, drop, refl, sym, ◌∙◌, ap, subst, arith}
use Rattle.std.proofs.lemmas.Bool.Decides.{nat_tests}
use Rattle.std.proofs.lemmas.Option.{slice_get_past}
use Rattle.std.proofs.lemmas.Bool.{cases_lt}
use Rattle.std.proofs.lemmas.List.Elements.{All-take, All-drop}
use Rattle.std.proofs.Math.Seq.{take-add}
use Rattle.std.specs.List.{slice_get, All}
use Rattle.lsvd_base.specs.declared.entry.Entry.{Entry}
use Rattle.lsvd_base.specs.Image.{Image, zero_sector, apply, after}
use Rattle.lsvd_base.specs.Laws.{EndsBy}
use Rattle.lsvd_base.proofs.SectorLemmas.{keeps_count, applies_in_parts}
use Rattle.lsvd_objstore.specs.Objects.{Objects}
use Rattle.object_format.specs.declared.expected.Expected.{Expected}
use Rattle.object_format.specs.declared.rows.Rows.{Rows}
use Rattle.object_format.specs.declared.rows.Rows.TheVariants as rows
use Rattle.object_stream.specs.declared.change.Change.{Change}
use Rattle.object_stream.specs.declared.change.Change.TheVariants.{Put, Clear}
use Rattle.object_stream.specs.declared.object.Content.{Content}
use Rattle.object_stream.specs.declared.object.Content.TheVariants.{Data, Copy, Checkpoint}
use Rattle.object_stream.specs.declared.object.StreamObject.{StreamObject}
use Rattle.object_stream.specs.declared.owner.Owner.{Owner}
use Rattle.object_stream.specs.Changes.{change_at}
use Rattle.object_stream.specs.Stream.{Owners, owner_by_change, is_own, owner_by_copy, source_in, after_object, after_objects}
use Rattle.object_stream.specs.Stream.{end_after, GoesTo, EndsFollow}
use Rattle.object_stream.specs.Replay.{expected_at}
use Rattle.object_stream.specs.Value.{sector_put, sector_in, HasSector, StandsForSector, IsValue}
use Rattle.object_stream.specs.Stored.{HasContent, IsObjectStored, AreStored}
use Rattle.object_stream.specs.Laws.{changed_by, ValueIsImageAfter}
use Rattle.object_stream.proofs.ChangeLemmas.{changes_make_image}
use Rattle.object_stream.proofs.StreamLemmas.{goes_on, end_no_earlier}

-- a sector, where there is one
abbrev sector_or : List ℕ → Option (List ℕ) → List ℕ
sector_or other None = other
sector_or other (Some sector) = sector

same_owner : (owner : Owner) (source : ℕ) → is_own source (Some owner) ≡ true → owner ≡ record { level = 0; number = source }
same_owner owner source still = grind (arith, nat_tests)

-- ---- images

-- entries that lie inside an image keep its count of sectors
pub length-after : (image : Image) (entries : List Entry) → All (EndsBy (length image)) entries
    → length (after image entries) ≡ length image
length-after image [] ends = refl
length-after image (entry ∷ entries) ends =
    let count : length (apply entry image) ≡ length image = keeps_count entry image (ends 0 entry (omega arith)) in
    length-after (apply entry image) entries (λ i x at. rw count (ends (suc i) x (omega arith))) ∙ count

-- a sector that is there is below the count
there : (image : Image) (k : ℕ) (sector : List ℕ) → slice_get image k ≡ Some sector → k < length image
there image k sector at =
    elim (cases_lt k (length image)) [
      | inl low ↦ low
      | inr past ↦ let none : slice_get image k ≡ None = slice_get_past image k past in absurd cc
    ]

module _ (objects : Objects) (uuid_at : ℕ → Option (List ℕ)) (volume : Expected) (own : uuid_at 0 ≡ Some volume.uuid)
    (wide : volume.sectors < 2 ^ 64) where
  -- ---- what an object has that is in the store

  module _ (number end : ℕ) (object : StreamObject) (part : List Entry) (before : Owners)
      (is : IsObjectStored objects uuid_at (expected_at volume number end) before object part) where
    has_sector : (k : ℕ) (sector : List ℕ) → sector_in is.rows_of is.payload k ≡ Some sector
        → HasSector objects uuid_at (record { level = 0; number = number }) k sector
    has_sector k sector has = record {
      expected = expected_at volume number end;
      wide = wide;
      level = own;
      number = refl;
      bytes = is.bytes;
      present = is.present;
      header = is.header;
      rows = is.rows_of;
      payload = is.payload;
      parts = is.parts;
      has = has;
    }

  -- what the rows of a data object have is what its entries put
  data_sector : (before : Owners) (part : List Entry) (list : Rows) (payload : List ℕ) (k : ℕ)
      → HasContent objects uuid_at before Data part list payload
      → sector_in list payload k ≡ sector_put (change_at part k)
  data_sector before part (rows.Data list) payload k has = ap sector_put (has k)
  data_sector before part (rows.Copy list) payload k has = absurd has
  data_sector before part rows.Checkpoint payload k has = absurd has

  copy_sector : (before : Owners) (pairs : _) (part : List Entry) (list : Rows) (payload : List ℕ) (k source : ℕ)
      (sector : List ℕ)
      → HasContent objects uuid_at before (Copy pairs) part list payload → source_in pairs k ≡ Some source
      → is_own source (before k) ≡ true
      → HasSector objects uuid_at (record { level = 0; number = source }) k sector → sector_in list payload k ≡ Some sector
  copy_sector before pairs part (rows.Data list) payload k source sector has from still old = absurd has
  copy_sector before pairs part (rows.Copy list) payload k source sector has from still old =
      has.1 k source sector from still old
  copy_sector before pairs part rows.Checkpoint payload k source sector has from still old = absurd has

  -- an owner that is the volume's own object of a number
  owned : (source : ℕ) (before : Option Owner) (k : ℕ) (sector : List ℕ) → is_own source before ≡ true
      → StandsForSector objects uuid_at before k sector
      → HasSector objects uuid_at (record { level = 0; number = source }) k sector
  owned source None k sector still stands = absurd cc
  owned source (Some owner) k sector still stands =
      let same : owner ≡ record { level = 0; number = source } = same_owner owner source still in
      subst (λ o. HasSector objects uuid_at o k sector) same stands

  -- ---- one object

  module _ (number end : ℕ) (object : StreamObject) (part : List Entry) (before : Owners)
      (is : IsObjectStored objects uuid_at (expected_at volume number end) before object part) (image : Image)
      (value : IsValue objects uuid_at before image) where
    by_change : (k : ℕ) (sector : List ℕ) (change : Option Change)
        → HasContent objects uuid_at before Data part is.rows_of is.payload
        → change_at part k ≡ change → changed_by change (slice_get image k) ≡ Some sector
        → StandsForSector objects uuid_at (owner_by_change number change (before k)) k sector
    by_change k sector None has e at = value k sector at
    by_change k sector (Some (Put bytes)) has e at =
        has_sector number end object part before is k sector
        (data_sector before part is.rows_of is.payload k has ∙ (ap sector_put e ∙ at))
    by_change k sector (Some Clear) has e at = sym (ap (sector_or zero_sector) at)

    by_test : (k source : ℕ) (sector : List ℕ) (still : Bool) (pairs : _)
        → HasContent objects uuid_at before (Copy pairs) part is.rows_of is.payload
        → source_in pairs k ≡ Some source → is_own source (before k) ≡ still → slice_get image k ≡ Some sector
        → StandsForSector objects uuid_at (cond still (Some (record { level = 0; number = number })) (before k)) k sector
    by_test k source sector false pairs has from still at = value k sector at
    by_test k source sector true pairs has from still at =
        has_sector number end object part before is k sector
        (copy_sector before pairs part is.rows_of is.payload k source sector has from still
        (owned source (before k) k sector still (value k sector at)))

    by_copy : (k : ℕ) (sector : List ℕ) (source : Option ℕ) (pairs : _)
        → HasContent objects uuid_at before (Copy pairs) part is.rows_of is.payload
        → source_in pairs k ≡ source → slice_get image k ≡ Some sector
        → StandsForSector objects uuid_at (owner_by_copy number source (before k)) k sector
    by_copy k sector None pairs has from at = value k sector at
    by_copy k sector (Some source) pairs has from at = by_test k source sector (is_own source (before k)) pairs has from refl at

    -- an object without entries, if it is none of data
    abbrev HasNone : Content → Type 0
    HasNone Data = Unit {0}
    HasNone (Copy pairs) = part ≡ []
    HasNone Checkpoint = part ≡ []

    by_content : (content : Content) → HasContent objects uuid_at before content part is.rows_of is.payload → HasNone content
        → All (EndsBy (length image)) part → IsValue objects uuid_at (after_object number content part before) (after image part)
    by_content Data has none ends k sector at =
        let inside : k < length image = rw (sym (length-after image part ends)) (there (after image part) k sector at) in
        by_change k sector (change_at part k) has refl (sym (changes_make_image image part k ends inside) ∙ at)
    by_content (Copy pairs) has none ends k sector at =
        by_copy k sector (source_in pairs k) pairs has refl (ap (λ entries. slice_get (after image entries) k) (sym none)
        ∙ at)
    by_content Checkpoint has none ends k sector at =
        value k sector (ap (λ entries. slice_get (after image entries) k) (sym none) ∙ at)

  -- an object that is none of data has no entries
  none_taken : (number end : ℕ) (object : StreamObject) (entries : List Entry) (before : Owners)
      (is : IsObjectStored objects uuid_at (expected_at volume number end) before object (take (object.end - end) entries))
      (image : Image) (value : IsValue objects uuid_at before image) (content : Content)
      → GoesTo content end object.end
      → HasNone number end object (take (object.end - end) entries) before is image value content
  none_taken number end object entries before is image value Data goes = tt
  none_taken number end object entries before is image value (Copy pairs) goes =
      let none : object.end - end ≡ 0 = omega (arith, goes) in ap (λ n. take n entries) none
  none_taken number end object entries before is image value Checkpoint goes =
      let none : object.end - end ≡ 0 = omega (arith, goes) in ap (λ n. take n entries) none

  -- ---- objects one after the other

  value_after : (number end : ℕ) (entries : List Entry) (before : Owners) (image : Image) (list : List StreamObject)
      → All (EndsBy (length image)) entries → EndsFollow end list
      → AreStored objects uuid_at volume number end entries before list
      → IsValue objects uuid_at before image
      → IsValue objects uuid_at (after_objects number end entries before list)
      (after image (take (end_after end list - end) entries))
  value_after number end entries before image [] ends follow stored value =
      let none : end - end ≡ 0 = omega arith in rw none value
  value_after number end entries before image (object ∷ list) ends follow stored value =
      let part = take (object.end - end) entries in
      let later = drop (object.end - end) entries in
      let first : end ≤ object.end = goes_on object.content end object.end follow.0 in
      let rest : object.end ≤ end_after object.end list = end_no_earlier object.end list follow.1 in
      let sum : end_after object.end list - end ≡ object.end - end + (end_after object.end list - object.end) = omega arith in
      let part_ends : All (EndsBy (length image)) part = All-take (EndsBy (length image)) (object.end - end) entries ends in
      let later_ends : All (EndsBy (length (after image part))) later =
      rw (length-after image part part_ends) (All-drop (EndsBy (length image)) (object.end - end) entries ends) in
      let one = by_content (number + 1) end object part before stored.0 image value object.content stored.0.content
      (none_taken (number + 1) end object entries before stored.0 image value object.content follow.0) part_ends in
      let all = value_after (number + 1) object.end later (after_object (number + 1) object.content part before)
      (after image part) list later_ends follow.1 stored.1 one in
      let split : take (end_after object.end list - end) entries ≡ part ++ take (end_after object.end list - object.end) later =
      ap (λ n. take n entries) sum ∙ take-add (object.end - end) (end_after object.end list - object.end) entries in
      let image_is : after image (take (end_after object.end list - end) entries) ≡ after (after image part)
      (take (end_after object.end list - object.end) later) =
      ap (after image) split ∙ applies_in_parts image part (take (end_after object.end list - object.end) later) in
      rw image_is all

pub value_is_image_after : ValueIsImageAfter
value_is_image_after objects uuid_at volume number end entries before image list own wide ends follow stored value =
    value_after objects uuid_at volume own wide number end entries before image list ends follow stored value
