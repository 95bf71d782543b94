-- The payload of an object that is adopted, as its header says it and as the table has it.
use Rattle.std.proofs.Common.{◌≡◌, ℕ, ◌+◌, ◌-◌, ◌*◌, ◌/◌, Some, List, length}
use Rattle.std.proofs.Common.{sym, ◌∙◌, ap, arith}
use Rattle.lsvd_objstore.specs.Objects.{Objects}
use Rattle.lsvd_objstore.specs.Store.{ReceiptState}
use Rattle.object_format.specs.declared.expected.Expected.{Expected}
use Rattle.object_format.specs.declared.header.Header.{Header}
use Rattle.object_format.specs.declared.kind.Kind.TheVariants as kinds
use Rattle.object_format.specs.declared.rows.Rows.{Rows}
use Rattle.object_format.specs.declared.rows.Rows.TheVariants as rows_of
use Rattle.object_format.specs.Layout.{front_sectors, front_with}
use Rattle.object_format.specs.Object.{IsObject}
use Rattle.object_stream.specs.Replay.{expected_at}
use Rattle.object_uploads.specs.declared.rows.SealedRows.{SealedRows}
use Rattle.object_uploads.specs.declared.rows.SealedRows.TheVariants as sealed_rows
use Rattle.object_uploads.specs.Queue.{front_of, copy_front_of, payload_of, copy_payload_of}
use Rattle.object_recovery.specs.Adoption.{adoptable_rows, IsStoredAs}
use Rattle.object_recovery.specs.Table.{HasPayloadThere}
use Rattle.object_recovery.proofs.EndLemmas.{alone_object}

-- how many sectors of payload it has, and how many before it
abbrev pub joined_payload : (size : ℕ) → SealedRows → ℕ
joined_payload size (sealed_rows.Data list) = payload_of size list.items
joined_payload size (sealed_rows.Copy list) = copy_payload_of size list.items
joined_payload size sealed_rows.Checkpoint = 0

abbrev pub joined_front : SealedRows → ℕ
joined_front (sealed_rows.Data list) = front_of list.items
joined_front (sealed_rows.Copy list) = copy_front_of list.items
joined_front sealed_rows.Checkpoint = 0

-- ---- they are those of its header

left_of : (size front payload : ℕ) → size ≡ 512 * (front + payload) → size / 512 - front ≡ payload
left_of size front payload is = omega (arith, is)

payload_by_kind : (bytes : List ℕ) (size : ℕ) (expected : Expected) (header : Header) (rows_read : Rows) (rows : SealedRows)
    → adoptable_rows rows_read ≡ Some rows → IsObject bytes size expected header rows_read
    → joined_payload size rows ≡ header.payload
payload_by_kind bytes size expected header (rows_of.Data list) rows is object =
    let same : sealed_rows.Data list ≡ rows = cc in
    let front : front_sectors header ≡ front_of list.items =
    ap (λ kind. front_with kind header.rows) (sym object.rows_are.kind)
    ∙ ap (front_with kinds.Data) (sym object.rows_are.count) in
    ap (joined_payload size) (sym same)
    ∙ left_of size (front_of list.items) header.payload
    (object.head.has_size ∙ ap (λ n. 512 * (n + header.payload)) front)
payload_by_kind bytes size expected header (rows_of.Copy list) rows is object =
    let same : sealed_rows.Copy list ≡ rows = cc in
    let front : front_sectors header ≡ copy_front_of list.items =
    ap (λ kind. front_with kind header.rows) (sym object.rows_are.kind)
    ∙ ap (front_with kinds.Copy) (sym object.rows_are.count) in
    ap (joined_payload size) (sym same)
    ∙ left_of size (copy_front_of list.items) header.payload
    (object.head.has_size ∙ ap (λ n. 512 * (n + header.payload)) front)
payload_by_kind bytes size expected header rows_of.Checkpoint rows is object = absurd cc

-- rows that may be adopted are of no checkpoint
other_kind : (bytes : List ℕ) (size : ℕ) (expected : Expected) (header : Header) (rows_read : Rows) (rows : SealedRows)
    → adoptable_rows rows_read ≡ Some rows → IsObject bytes size expected header rows_read → header.kind ≡ kinds.Checkpoint → ⊥
other_kind bytes size expected header (rows_of.Data list) rows is object kind = let own = object.rows_are.kind in cc
other_kind bytes size expected header (rows_of.Copy list) rows is object kind = let own = object.rows_are.kind in cc
other_kind bytes size expected header rows_of.Checkpoint rows is object kind = absurd cc

-- ---- in the store

pub payload_there : (objects : Objects) (volume : Expected) (number before : ℕ) (rows : SealedRows) (end : ℕ)
    (receipt : ReceiptState)
    → IsStoredAs objects (expected_at volume number before) rows end receipt
    → HasPayloadThere volume objects number (joined_payload receipt.size rows)
payload_there objects volume number before rows end receipt is =
    let expected = expected_at volume number before in
    let size = length is.bytes in
    let alone = alone_object is.bytes size expected is.header is.rows_read is.is_object in
    record {
      bytes = is.bytes;
      present = is.present;
      header = is.header;
      is_header = alone.head;
      no_checkpoint = other_kind is.bytes size expected is.header is.rows_read rows is.adoptable is.is_object;
      payload_is =
          sym (payload_by_kind is.bytes size expected is.header is.rows_read rows is.adoptable is.is_object)
          ∙ ap (λ n. joined_payload n rows) (sym is.receipt_is.size);
    }
