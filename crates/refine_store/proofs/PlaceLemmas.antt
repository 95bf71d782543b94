-- Where an object has in its payload a sector: a data object what its entries put, a copy what its rows have.
use Rattle.std.proofs.Common.{◌≡◌, ℕ, ◌+◌, ◌*◌, ◌<◌, true, false, cond, Option, Some, None, List, [], ◌∷◌, length, refl, sym}
use Rattle.std.proofs.Common.{◌∙◌, ap, subst, arith, length-drop}
use Rattle.std.proofs.lemmas.Bool.{and_parts}
use Rattle.std.proofs.lemmas.Bool.Decides.{nat_tests}
use Rattle.std.specs.Global.{Vec}
use Rattle.std.specs.Prelude.{IsTrue}
use Rattle.std.specs.Option.{is_some}
use Rattle.lsvd_base.specs.declared.entry.Entry.{Entry}
use Rattle.extent_map.specs.Extents.{is_within}
use Rattle.object_format.specs.declared.copy_row.CopyRow.{CopyRow}
use Rattle.object_format.specs.declared.data_row.DataRow.{DataRow}
use Rattle.object_format.specs.declared.expected.Expected.{Expected}
use Rattle.object_format.specs.declared.header.Header.{Header}
use Rattle.object_format.specs.declared.rows.Rows.{Rows}
use Rattle.object_format.specs.declared.rows.Rows.TheVariants as rows_of
use Rattle.object_format.specs.Layout.{front_sectors}
use Rattle.object_format.specs.Rows.{data_rows_may_stand, copy_may_stand, copy_rows_may_stand}
use Rattle.object_stream.specs.declared.change.Change.{Change}
use Rattle.object_stream.specs.declared.change.Change.TheVariants.{Put}
use Rattle.object_stream.specs.declared.object.Content.{Content}
use Rattle.object_stream.specs.declared.object.Content.TheVariants.{Data, Copy}
use Rattle.object_stream.specs.declared.object.CopiedSector.{CopiedSector}
use Rattle.object_stream.specs.Changes.{sector_of, change_at, change_in, is_put, place_in_payload}
use Rattle.object_stream.specs.Replay.{HasParts, source_at}
use Rattle.object_stream.specs.Stream.{source_in, place_in_copy, place_in_object}
use Rattle.object_stream.specs.Value.{sector_put, sector_in}
use Rattle.volume_maps.specs.declared.place.ObjectPlace.{ObjectPlace}
use Rattle.volume_maps.specs.Laws.{IsPlacedBy}
use Rattle.volume_maps.specs.Maps.{settled_by}
use Rattle.volume_maps.proofs.RankLemmas.{places_are_ranks}
use Rattle.volume_maps.proofs.SettleLemmas.{settles_places}
use Rattle.object_uploads.proofs.CopyRanks.{IsPlacedByCopy, placed_by_copy}
use Rattle.object_uploads.proofs.WholeLemmas.{PutsWhole, puts_whole, lies_inside}
use Rattle.refine_store.proofs.DataLemmas.{AreContentRows, HasSectors}

-- an object of this content has a sector in its rows, and in its payload at the sector's place, which lies inside
pub record HasPlace (content : Content) (entries : List Entry) (header : Header) (rows : Rows) (payload : List ℕ) (k : ℕ)
    (sector : List ℕ) : Type 0 where
  pub has : sector_in rows payload k ≡ Some sector
  pub at : sector_of (place_in_object content entries k) payload ≡ sector
  pub inside : place_in_object content entries k < header.payload

-- ---- a data object

-- the sector at which a place is, where there is one
abbrev at_or : ℕ → Option ObjectPlace → ℕ
at_or other None = other
at_or other (Some place) = place.sector

module _ (expected : Expected) (entries : List Entry) (bytes : List ℕ) (header : Header) (list : Vec DataRow) (payload : List ℕ)
    (parts : HasParts expected bytes header (rows_of.Data list) payload)
    (changes : (k : ℕ) → change_in list.items payload k ≡ change_at entries k)
    (k : ℕ) (sector : List ℕ) (puts : change_at entries k ≡ Some (Put sector)) where
  stand : IsTrue (data_rows_may_stand expected.sectors header.payload None 0 list.items)
  stand = parts.is_object.rows_are.spelling

  abbrev settled : Option ObjectPlace
  settled = settled_by 0 list.items None k

  placed : IsPlacedBy 0 payload (Some (Put sector)) None settled
  placed =
      subst (λ (change : Option Change). IsPlacedBy 0 payload change None settled) (changes k ∙ puts)
      (settles_places expected.sectors header.payload 0 k list.items payload None stand)

  ranked : settled ≡ Some (record { level = 0; number = 0; sector = place_in_payload entries k })
  ranked =
      places_are_ranks expected.sectors header.payload 0 k entries list.items payload None stand changes (ap is_put puts)

  same : placed.0 ≡ place_in_payload entries k
  same = ap (at_or 0) (sym placed.1 ∙ ranked)

  at_place : sector_of (place_in_payload entries k) payload ≡ sector
  at_place = ap (λ at. sector_of at payload) (sym same) ∙ placed.2

  place_inside : place_in_payload entries k < header.payload
  place_inside =
      let at = place_in_payload entries k in
      let whole : length sector ≡ 512 = subst PutsWhole puts (puts_whole entries k) in
      let low = lies_inside at payload sector whole at_place in
      let front = front_sectors header in
      omega (
        arith,
        low,
        ap length parts.payload_is,
        length-drop (512 * front) bytes,
        parts.is_object.head.has_size,
      )

  data_has_place : HasPlace Data entries header (rows_of.Data list) payload k sector
  data_has_place = record { has = ap sector_put (changes k ∙ puts); at = at_place; inside = place_inside }

data_place : (expected : Expected) (entries : List Entry) (bytes : List ℕ) (header : Header) (rows : Rows) (payload : List ℕ)
    → HasParts expected bytes header rows payload → AreContentRows Data entries rows payload
    → (k : ℕ) (sector : List ℕ) → change_at entries k ≡ Some (Put sector)
    → HasPlace Data entries header rows payload k sector
data_place expected entries bytes header (rows_of.Data list) payload parts are k sector puts =
    data_has_place expected entries bytes header list payload parts are k sector puts
data_place expected entries bytes header (rows_of.Copy list) payload parts are k sector puts = absurd are
data_place expected entries bytes header rows_of.Checkpoint payload parts are k sector puts = absurd are

pub place_of_data : (expected : Expected) (entries : List Entry) (end : ℕ) (bytes : List ℕ)
    (is : HasSectors expected Data entries end bytes) (k : ℕ) (sector : List ℕ) → change_at entries k ≡ Some (Put sector)
    → HasPlace Data entries is.header is.rows is.payload k sector
place_of_data expected entries end bytes is k sector puts =
    data_place expected entries bytes is.header is.rows is.payload is.parts is.are k sector puts

-- ---- a copy

-- a row that may stand in a copy ends inside the volume, and so does each sector that rows have
row_inside : (volume payload number place k : ℕ) (before : Option CopyRow) (row : CopyRow)
    → IsTrue (copy_may_stand volume payload number before place row) → is_within row.lba row.sectors k ≡ true → k < volume
row_inside volume payload number place k before row stand within = grind (arith, nat_tests)

rows_inside : (volume payload number place k source : ℕ) (before : Option CopyRow) (rows : List CopyRow)
    → IsTrue (copy_rows_may_stand volume payload number before place rows) → source_at rows k ≡ Some source → k < volume
rows_inside volume payload number place k source before [] may from = absurd cc
rows_inside volume payload number place k source before (row ∷ rows) may from =
    let parts = and_parts (copy_may_stand volume payload number before place row)
    (copy_rows_may_stand volume payload number (Some row) (place + row.sectors) rows) may in
    elim (is_within row.lba row.sectors k) as (λ b. is_within row.lba row.sectors k ≡ b
    → cond b (Some row.source.number) (source_at rows k) ≡ Some source → k < volume) [
      | true ↦ λ test at. row_inside volume payload number place k before row parts.0 test
      | false ↦ λ test at.
          rows_inside volume payload number (place + row.sectors) k source (Some row) rows parts.1 at
    ] refl from

copy_place : (expected : Expected) (pairs : List CopiedSector) (entries : List Entry) (bytes : List ℕ) (header : Header)
    (rows : Rows) (payload : List ℕ)
    → HasParts expected bytes header rows payload → AreContentRows (Copy pairs) entries rows payload
    → (k source : ℕ) → source_in pairs k ≡ Some source
    → HasPlace (Copy pairs) entries header rows payload k (sector_of (place_in_copy pairs k) payload)
copy_place expected pairs entries bytes header (rows_of.Data list) payload parts are k source from = absurd are
copy_place expected pairs entries bytes header (rows_of.Copy list) payload parts are k source from =
    let is : IsPlacedByCopy header.payload header.number pairs list.items None k =
    placed_by_copy expected.sectors header.payload header.number pairs list.items None k parts.is_object.rows_are.spelling are in
    let some : is_some (source_in pairs k) ≡ true = ap is_some from in
    record { has = is.copied payload some; at = refl; inside = is.inside some }
copy_place expected pairs entries bytes header rows_of.Checkpoint payload parts are k source from = absurd are

inside_by : (expected : Expected) (pairs : List CopiedSector) (entries : List Entry) (bytes : List ℕ) (header : Header)
    (rows : Rows) (payload : List ℕ)
    → HasParts expected bytes header rows payload → AreContentRows (Copy pairs) entries rows payload
    → (k source : ℕ) → source_in pairs k ≡ Some source → k < expected.sectors
inside_by expected pairs entries bytes header (rows_of.Data list) payload parts are k source from = absurd are
inside_by expected pairs entries bytes header (rows_of.Copy list) payload parts are k source from =
    rows_inside expected.sectors header.payload header.number 0 k source None list.items parts.is_object.rows_are.spelling
    (are k ∙ from)
inside_by expected pairs entries bytes header rows_of.Checkpoint payload parts are k source from = absurd are

pub place_of_copy : (expected : Expected) (pairs : List CopiedSector) (entries : List Entry) (end : ℕ) (bytes : List ℕ)
    (is : HasSectors expected (Copy pairs) entries end bytes) (k source : ℕ) → source_in pairs k ≡ Some source
    → HasPlace (Copy pairs) entries is.header is.rows is.payload k (sector_of (place_in_copy pairs k) is.payload)
place_of_copy expected pairs entries end bytes is k source from =
    copy_place expected pairs entries bytes is.header is.rows is.payload is.parts is.are k source from

pub sector_of_copy_inside : (expected : Expected) (pairs : List CopiedSector) (entries : List Entry) (end : ℕ) (bytes : List ℕ)
    (is : HasSectors expected (Copy pairs) entries end bytes) (k source : ℕ) → source_in pairs k ≡ Some source
    → k < expected.sectors
sector_of_copy_inside expected pairs entries end bytes is k source from =
    inside_by expected pairs entries bytes is.header is.rows is.payload is.parts is.are k source from
