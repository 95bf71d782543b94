-- What the bytes of a plain volume's object are: those of a data object or a copy, or of a checkpoint of the owners before it.
use Rattle.std.proofs.Common.{◌≡◌, ℕ, true, false, Bool, ◌&&◌, Option, Some, None, List, length, refl, ◌∙◌, ap}
use Rattle.std.proofs.Common.{[], ◌∷◌, ◌-◌, ◌*◌, drop, subst}
use Rattle.std.specs.Prelude.{IsTrue, option_map}
use Rattle.std.specs.List.{slice_get}
use Rattle.lsvd_base.specs.declared.entry.Entry.{Entry}
use Rattle.lsvd_objstore.specs.Objects.{Objects, found}
use Rattle.extent_map.specs.declared.extent.Extent.{Extent}
use Rattle.object_format.specs.declared.copy_row.CopyRow.{CopyRow}
use Rattle.object_format.specs.declared.data_row.DataRow.{DataRow}
use Rattle.object_format.specs.declared.expected.Expected.{Expected}
use Rattle.object_format.specs.declared.header.Header.{Header}
use Rattle.object_format.specs.declared.kind.Kind.TheVariants as kinds
use Rattle.object_format.specs.declared.rows.Rows.{Rows}
use Rattle.object_format.specs.declared.rows.Rows.TheVariants as rows_of
use Rattle.object_format.specs.Header.{has_seqs_of_kind, begins_at, IsObjectHeader}
use Rattle.object_format.specs.Layout.{front_sectors}
use Rattle.object_format.specs.Rows.{AreObjectRows}
use Rattle.ckpt_format.specs.declared.place.StoredPlace.{StoredPlace}
use Rattle.ckpt_format.specs.Checkpoint.{checkpoint_header, IsCheckpoint}
use Rattle.ckpt_format.specs.Rows.{AllMayStand}
use Rattle.ckpt_format.proofs.CheckpointLemmas.{header_of_both}
use Rattle.object_stream.specs.declared.object.CopiedSector.{CopiedSector}
use Rattle.object_stream.specs.declared.object.Content.{Content}
use Rattle.object_stream.specs.declared.object.Content.TheVariants.{Data, Copy, Checkpoint}
use Rattle.object_stream.specs.declared.object.StreamObject.{StreamObject}
use Rattle.object_stream.specs.Changes.{change_at, change_in}
use Rattle.object_stream.specs.Replay.{object_name, HasParts, expected_at, source_at}
use Rattle.object_stream.specs.Stream.{Stream, Owners, owners, is_own, source_in}
use Rattle.object_stream.specs.Value.{copied_in, sector_in}
use Rattle.volume_maps.specs.Laws.{place_owner}
use Rattle.object_uploads.specs.declared.rows.SealedRows.{SealedRows}
use Rattle.object_uploads.specs.declared.rows.SealedRows.TheVariants as sealed_rows
use Rattle.object_uploads.specs.Checkpoint.{mapped_place}
use Rattle.object_uploads.specs.Queue.{copy_front_of}
use Rattle.object_uploads.specs.Stream.{AreRows, AreCopyRows, HoldsOwners, HoldsContent}
use Rattle.object_uploads.proofs.SettleImage.{copy_front_is}
use Rattle.stopped_volume.specs.Expected.{expected_alone}
use Rattle.stopped_volume.specs.Opening.{stored_owner, IsCheckpointOf}
use Rattle.plain_disk.specs.State.{PlainState, stream_in}
use Rattle.refine_store.specs.Puts.{image_up_to, HasSourceSectors}

-- ---- a data object or a copy

-- rows and a payload are what an object with this content has, but for the sectors of a copy; of a checkpoint they are not
abbrev pub AreContentRows : Content → List Entry → Rows → (payload : List ℕ) → Type 0
AreContentRows Data entries (rows_of.Data list) payload = (k : ℕ) → change_in list.items payload k ≡ change_at entries k
AreContentRows (Copy pairs) entries (rows_of.Copy list) payload = (k : ℕ) → source_at list.items k ≡ source_in pairs k
AreContentRows content entries rows payload = ⊥

-- bytes are an object with this content, a data object's of some entries or a copy's, and these are its parts
pub record HasSectors (expected : Expected) (content : Content) (entries : List Entry) (end : ℕ) (bytes : List ℕ) : Type 0 where
  pub header : Header
  pub rows : Rows
  pub payload : List ℕ
  pub parts : HasParts expected bytes header rows payload
  pub ends : header.end_seq ≡ end
  pub are : AreContentRows content entries rows payload

data_rows : (entries : List Entry) (rows : Rows) (payload : List ℕ) (items : List DataRow) → AreRows rows items
    → ((k : ℕ) → change_in items payload k ≡ change_at entries k) → AreContentRows Data entries rows payload
data_rows entries (rows_of.Data list) payload items are changes = λ k. ap (λ is. change_in is payload k) are ∙ changes k
data_rows entries (rows_of.Copy list) payload items are changes = absurd are
data_rows entries rows_of.Checkpoint payload items are changes = absurd are

copy_rows : (pairs : List CopiedSector) (entries : List Entry) (rows : Rows) (payload : List ℕ) (items : List CopyRow)
    → AreCopyRows rows items → ((k : ℕ) → source_at items k ≡ source_in pairs k)
    → AreContentRows (Copy pairs) entries rows payload
copy_rows pairs entries (rows_of.Data list) payload items are sources = absurd are
copy_rows pairs entries (rows_of.Copy list) payload items are sources = λ k. ap (λ is. source_at is k) are ∙ sources k
copy_rows pairs entries rows_of.Checkpoint payload items are sources = absurd are

-- content that is no checkpoint's is that of one of these
pub sectors_of_content : (stream : Stream) (expected : Expected) (content : Content) (entries : List Entry) (before : Owners)
    (end : ℕ) (bytes : List ℕ) (rows : SealedRows)
    → (content ≡ Checkpoint → ⊥) → HoldsContent stream expected content entries before end bytes rows
    → HasSectors expected content entries end bytes
sectors_of_content stream expected Data entries before end bytes (sealed_rows.Data list) not_so holds = record {
  header = holds.header;
  rows = holds.rows_of;
  payload = holds.payload;
  parts = holds.parts;
  ends = holds.ends;
  are = data_rows entries holds.rows_of holds.payload list.items holds.rows_are holds.changes;
}
sectors_of_content stream expected Data entries before end bytes (sealed_rows.Copy list) not_so holds = absurd holds
sectors_of_content stream expected Data entries before end bytes sealed_rows.Checkpoint not_so holds = absurd holds
sectors_of_content stream expected (Copy pairs) entries before end bytes (sealed_rows.Data list) not_so holds = absurd holds
sectors_of_content stream expected (Copy pairs) entries before end bytes (sealed_rows.Copy list) not_so holds = record {
  header = holds.header;
  rows = holds.rows_of;
  payload = holds.payload;
  parts = holds.parts;
  ends = holds.ends;
  are = copy_rows pairs entries holds.rows_of holds.payload list.items holds.rows_are holds.sources;
}
sectors_of_content stream expected (Copy pairs) entries before end bytes sealed_rows.Checkpoint not_so holds = absurd holds
sectors_of_content stream expected Checkpoint entries before end bytes rows not_so holds = absurd (not_so refl)

-- a copy has in its payload what its rows, as they were sealed, have there
sealed_sector : (sectors : ℕ) (header : Header) (rows : Rows) (payload bytes : List ℕ) (items : List CopyRow) (k : ℕ)
    (sector : List ℕ)
    → AreCopyRows rows items → AreObjectRows sectors header rows → payload ≡ drop (512 * front_sectors header) bytes
    → copied_in items (drop (512 * copy_front_of items) bytes) k ≡ Some sector → sector_in rows payload k ≡ Some sector
sealed_sector sectors header (rows_of.Data list) payload bytes items k sector are object is at = absurd are
sealed_sector sectors header (rows_of.Copy list) payload bytes items k sector are object is at =
    ap (λ p. copied_in list.items p k)
    (is ∙ ap (λ n. drop (512 * n) bytes) (copy_front_is header (rows_of.Copy list) items sectors are object))
    ∙ ap (λ rows. copied_in rows (drop (512 * copy_front_of items) bytes) k) are
    ∙ at
sealed_sector sectors header rows_of.Checkpoint payload bytes items k sector are object is at = absurd are

pub copy_sector : (plain : PlainState) (number : ℕ) (expected : Expected) (pairs : List CopiedSector) (entries : List Entry)
    (before : Owners) (end : ℕ) (bytes : List ℕ) (rows : SealedRows) (not_so : Copy pairs ≡ Checkpoint → ⊥)
    (holds : HoldsContent (stream_in plain) expected (Copy pairs) entries before end bytes rows)
    → HasSourceSectors plain number bytes rows → (k source : ℕ) (sector : List ℕ) → source_in pairs k ≡ Some source
    → is_own source (owners (stream_in plain) (number - 1) k) ≡ true
    → slice_get (image_up_to plain (number - 1)) k ≡ Some sector
    → (let is = sectors_of_content (stream_in plain) expected (Copy pairs) entries before end bytes rows not_so holds in
    sector_in is.rows is.payload k ≡ Some sector)
unfolding sectors_of_content
copy_sector plain number expected pairs entries before end bytes (sealed_rows.Data list) not_so holds copied k source sector from
    own at = absurd holds
copy_sector plain number expected pairs entries before end bytes (sealed_rows.Copy list) not_so holds copied k source sector from
    own at =
    sealed_sector expected.sectors holds.header holds.rows_of holds.payload bytes list.items k sector holds.rows_are
    holds.parts.is_object.rows_are holds.parts.payload_is
    (copied k source sector (holds.sources k ∙ from) own at)
copy_sector plain number expected pairs entries before end bytes sealed_rows.Checkpoint not_so holds copied k source sector from
    own at = absurd holds

-- and a checkpoint's is that of its owners
pub owners_of_content : (stream : Stream) (expected : Expected) (entries : List Entry) (before : Owners) (end : ℕ)
    (bytes : List ℕ) (rows : SealedRows)
    → HoldsContent stream expected Checkpoint entries before end bytes rows → HoldsOwners stream expected before end bytes
owners_of_content stream expected entries before end bytes sealed_rows.Checkpoint holds = holds
owners_of_content stream expected entries before end bytes (sealed_rows.Data list) holds = absurd holds
owners_of_content stream expected entries before end bytes (sealed_rows.Copy list) holds = absurd holds

-- content is a checkpoint's, or not
pub checkpoint_or : (content : Content) (Result : Type 0) → (content ≡ Checkpoint → Result)
    → ((content ≡ Checkpoint → ⊥) → Result) → Result
checkpoint_or Checkpoint Result is not_so = is refl
checkpoint_or Data Result is not_so = not_so (λ same. cc)
checkpoint_or (Copy copied) Result is not_so = not_so (λ same. cc)

pub checkpoint_object : (object : StreamObject) → object.content ≡ Checkpoint
    → object ≡ record { content = Checkpoint; end = object.end }
checkpoint_object object is = ap (λ c. let o : StreamObject = record { content = c; end = object.end } in o) is

-- the header of such an object is of no checkpoint
kind_not : (sectors : ℕ) (header : Header) (content : Content) (entries : List Entry) (rows : Rows) (payload : List ℕ)
    → AreContentRows content entries rows payload → AreObjectRows sectors header rows → kinds.Checkpoint ≡ header.kind → ⊥
kind_not sectors header Data entries (rows_of.Data list) payload are object kind =
    let own : kinds.Data ≡ header.kind = object.kind in cc
kind_not sectors header Data entries (rows_of.Copy list) payload are object kind = are
kind_not sectors header Data entries rows_of.Checkpoint payload are object kind = are
kind_not sectors header (Copy pairs) entries (rows_of.Data list) payload are object kind = are
kind_not sectors header (Copy pairs) entries (rows_of.Copy list) payload are object kind =
    let own : kinds.Copy ≡ header.kind = object.kind in cc
kind_not sectors header (Copy pairs) entries rows_of.Checkpoint payload are object kind = are
kind_not sectors header Checkpoint entries rows payload are object kind = are

-- a checkpoint is no data object and no copy
pub no_sectors : (volume : Expected) (objects : Objects) (number end from to : ℕ) (owned : Owners) (content : Content)
    (entries : List Entry) (bytes : List ℕ)
    → IsCheckpointOf volume objects number end owned → found objects (object_name volume number) ≡ Some bytes
    → HasSectors (expected_at volume number from) content entries to bytes → ⊥
no_sectors volume objects number end from to owned content entries bytes is there has =
    let same : bytes ≡ is.bytes = let e = is.present in cc in
    let alone : Expected = expected_alone volume number in
    let after : Expected = expected_at volume number from in
    let head : IsObjectHeader is.bytes (length is.bytes) after has.header =
    subst (λ b. IsObjectHeader b (length b) after has.header) same has.parts.is_object.head in
    let one : checkpoint_header alone end (length is.rows) ≡ has.header =
    header_of_both is.bytes (length is.bytes) alone after (checkpoint_header alone end (length is.rows)) has.header
    is.is_checkpoint.head head in
    kind_not after.sectors has.header content entries has.rows has.payload has.are has.parts.is_object.rows_are
    (ap (λ (h : Header). h.kind) one)

-- ---- a checkpoint

-- two tests hold, and so does the first
first_alone : (first second : Bool) → IsTrue (first && second) → IsTrue (first && true)
first_alone true second both = refl
first_alone false second both = both

rows_stand_alone : (volume : Expected) (number before : ℕ) (rows : List (Extent StoredPlace))
    → AllMayStand (expected_at volume number before) rows → AllMayStand (expected_alone volume number) rows
rows_stand_alone volume number before [] stand = tt
rows_stand_alone volume number before (row ∷ rows) stand =
    (stand.0, stand.1, rows_stand_alone volume number before rows stand.2)

-- one that goes on where the object before it ends is one by itself
pub checkpoint_alone : (volume : Expected) (number before end : ℕ) (bytes : List ℕ) (rows : List (Extent StoredPlace))
    → IsCheckpoint bytes (expected_at volume number before) end rows → IsCheckpoint bytes (expected_alone volume number) end rows
checkpoint_alone volume number before end bytes rows is =
    let head = is.head in
    let header = checkpoint_header (expected_at volume number before) end (length rows) in
    record {
      head = record {
        head = head.head;
        has_size = head.has_size;
        uuid = head.uuid;
        number = head.number;
        seqs = first_alone (has_seqs_of_kind header header.kind) (begins_at header.first_seq (Some before)) head.seqs;
        limits = head.limits;
        widths = head.widths;
      };
      rows_are = record {
        shortest = is.rows_are.shortest;
        all_stand = rows_stand_alone volume number before rows is.rows_are.all_stand;
      };
      whole = is.whole;
    }

-- the owner that a row's place names is that of the place that it stands for
pub owner_of_place : (place : Option StoredPlace) → place_owner (option_map mapped_place place) ≡ option_map stored_owner place
owner_of_place None = refl
owner_of_place (Some place) = refl
