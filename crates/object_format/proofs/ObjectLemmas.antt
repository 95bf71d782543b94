-- Objects, and the rows that are read in them.
use Rattle.std.proofs.Common.{◌≡◌, ℕ, ◌-◌, ◌*◌, ◌^◌, ◌<◌, ◌≤◌, IsTrue, None, List, length, take, drop, replicate, sym, ◌∙◌, ap}
use Rattle.std.proofs.Common.{subst, arith}
use Rattle.std.proofs.lemmas.Bool.{and_parts, leb-true}
use Rattle.std.proofs.lemmas.List.{take_all}
use Rattle.std.specs.List.{flat_map}
use Rattle.lsvd_bytes.specs.Places.{bytes_at}
use Rattle.object_format.specs.declared.header.Header.{Header}
use Rattle.object_format.specs.declared.expected.Expected.{Expected}
use Rattle.object_format.specs.declared.data_row.DataRow.{DataRow}
use Rattle.object_format.specs.declared.copy_row.CopyRow.{CopyRow}
use Rattle.object_format.specs.declared.rows.Rows.{Rows}
use Rattle.object_format.specs.declared.rows.Rows.TheVariants.{Data, Copy, Checkpoint}
use Rattle.object_format.specs.declared.reason.BadObject.TheVariants as reasons
use Rattle.object_format.specs.Layout.{rows_length, rows_end, front_sectors, padding}
use Rattle.object_format.specs.Header.{IsObjectHeader}
use Rattle.object_format.specs.Rows.{data_row_bytes, copy_row_bytes, rows_bytes, data_row_in, copy_row_in, rows_in}
use Rattle.object_format.specs.Rows.{data_rows_may_stand, copy_rows_may_stand, may_stand, rows_kind, count_of, AreReadAs}
use Rattle.object_format.specs.Object.{IsObject}
use Rattle.object_format.specs.Tests.{IsObjectRefusedAs}
use Rattle.object_format.proofs.PartLemmas.{IsBytes, bytes_of_part, length_of_part}
use Rattle.object_format.proofs.TestLemmas.{header_in-IsHeader, header_passes}
use Rattle.object_format.proofs.RowLemmas.{length-rows_in, rows_in-flat_map, flat_map-rows_in, DataRowFits, data_row_of_bytes}
use Rattle.object_format.proofs.RowLemmas.{data_row_again, length-data_row_bytes, data_rows_fit, CopyRowFits, copy_row_of_bytes}
use Rattle.object_format.proofs.RowLemmas.{copy_row_again, length-copy_row_bytes, copy_rows_fit}

-- ---- rows that were read

data_bytes : (rows : List DataRow) (count : ℕ) (bytes : List ℕ) → length bytes ≡ 24 * count → IsBytes bytes
    → rows ≡ rows_in 24 data_row_in count bytes → bytes ≡ flat_map data_row_bytes rows
data_bytes rows count bytes size fits is =
    sym (take_all (24 * count) bytes (omega (arith, size)))
    ∙ sym (flat_map-rows_in 24 data_row_in data_row_bytes data_row_of_bytes count bytes (omega (arith, size)) fits)
    ∙ ap (flat_map data_row_bytes) (sym is)

copy_bytes : (rows : List CopyRow) (count : ℕ) (bytes : List ℕ) → length bytes ≡ 44 * count → IsBytes bytes
    → rows ≡ rows_in 44 copy_row_in count bytes → bytes ≡ flat_map copy_row_bytes rows
copy_bytes rows count bytes size fits is =
    sym (take_all (44 * count) bytes (omega (arith, size)))
    ∙ sym (flat_map-rows_in 44 copy_row_in copy_row_bytes copy_row_of_bytes count bytes (omega (arith, size)) fits)
    ∙ ap (flat_map copy_row_bytes) (sym is)

-- rows that were read have the bytes in which they were read
read_bytes : (header : Header) (bytes : List ℕ) (rows : Rows) → length bytes ≡ rows_length header.kind header.rows → IsBytes bytes
    → AreReadAs header bytes rows → bytes ≡ rows_bytes rows
read_bytes header bytes (Data rows) size fits is =
    data_bytes rows.items header.rows bytes (size ∙ ap (λ kind. rows_length kind header.rows) is.0) fits is.1
read_bytes header bytes (Copy rows) size fits is =
    copy_bytes rows.items header.rows bytes (size ∙ ap (λ kind. rows_length kind header.rows) is.0) fits is.1
read_bytes header bytes Checkpoint size fits is =
    let none : length bytes ≡ 0 = size ∙ ap (λ kind. rows_length kind header.rows) is.0 ∙ omega (arith, is.1) in
    sym (take_all 0 bytes (omega (arith, none)))

read_kind : (header : Header) (bytes : List ℕ) (rows : Rows) → AreReadAs header bytes rows → rows_kind rows ≡ header.kind
read_kind header bytes (Data rows) is = sym is.0
read_kind header bytes (Copy rows) is = sym is.0
read_kind header bytes Checkpoint is = sym is.0

read_count : (header : Header) (bytes : List ℕ) (rows : Rows) → AreReadAs header bytes rows → count_of rows ≡ header.rows
read_count header bytes (Data rows) is = ap length is.1 ∙ length-rows_in 24 data_row_in header.rows bytes
read_count header bytes (Copy rows) is = ap length is.1 ∙ length-rows_in 44 copy_row_in header.rows bytes
read_count header bytes Checkpoint is = sym is.1

-- the rows end in the front
pub rows_end_first : (header : Header) → rows_end header ≤ 512 * front_sectors header
rows_end_first header = omega arith

abbrev pub row_part : Header → List ℕ → List ℕ
row_part header bytes = bytes_at 64 (rows_length header.kind header.rows) bytes

pub length-row_part : (bytes : List ℕ) (header : Header) → 512 * front_sectors header ≤ length bytes
    → length (row_part header bytes) ≡ rows_length header.kind header.rows
length-row_part bytes header room =
    length_of_part 64 (rows_length header.kind header.rows) bytes (omega (arith, room, rows_end_first header))

pub object_if_read : (bytes : List ℕ) (size : ℕ) (expected : Expected) (header : Header) (rows : Rows) → IsBytes bytes
    → IsObjectHeader bytes size expected header → 512 * front_sectors header ≤ length bytes
    → AreReadAs header (row_part header bytes) rows
    → bytes_at (rows_end header) (padding header) bytes ≡ replicate (padding header) 0
    → IsTrue (may_stand expected.sectors header rows) → IsObject bytes size expected header rows
object_if_read bytes size expected header rows fits head room is zeros stand =
    let part = row_part header bytes in
    let part_fits = bytes_of_part 64 (rows_length header.kind header.rows) bytes fits in
    record {
      head = head;
      whole_front = room;
      rows_are = record { kind = read_kind header part rows is; count = read_count header part rows is; spelling = stand };
      row_bytes = read_bytes header part rows (length-row_part bytes header room) part_fits is;
      zeros = zeros;
    }

-- ---- the zeros after the rows, as a slice from one place to another shows them

abbrev pub between : ℕ → ℕ → List ℕ → List ℕ
between at end bytes = take (end - at) (drop at bytes)

zero_part : (bytes : List ℕ) (header : Header) (at end : ℕ) → at ≡ rows_end header → end ≡ front_sectors header * 512
    → between at end bytes ≡ bytes_at (rows_end header) (padding header) bytes
zero_part bytes header at end is_at is_end =
    let count : end - at ≡ padding header = omega (arith, is_at, is_end) in
    ap (λ n. take n (drop at bytes)) count ∙ ap (λ n. take (padding header) (drop n bytes)) is_at

length-zero_part : (bytes : List ℕ) (header : Header) → 512 * front_sectors header ≤ length bytes
    → length (bytes_at (rows_end header) (padding header) bytes) ≡ padding header
length-zero_part bytes header room =
    length_of_part (rows_end header) (padding header) bytes (omega (arith, room, rows_end_first header))

pub zeros_pass : (bytes : List ℕ) (header : Header) (at end : ℕ) → 512 * front_sectors header ≤ length bytes
    → at ≡ rows_end header → end ≡ front_sectors header * 512
    → bytes_at (rows_end header) (padding header) bytes ≡ replicate (padding header) 0
    → between at end bytes ≡ replicate (length (between at end bytes)) 0
zeros_pass bytes header at end room is_at is_end zeros =
    let part = zero_part bytes header at end is_at is_end in
    part ∙ zeros ∙ ap (λ n. replicate n 0) (sym (ap length part ∙ length-zero_part bytes header room))

pub zeros_if_pass : (bytes : List ℕ) (header : Header) (at end : ℕ) → 512 * front_sectors header ≤ length bytes
    → at ≡ rows_end header → end ≡ front_sectors header * 512
    → between at end bytes ≡ replicate (length (between at end bytes)) 0
    → bytes_at (rows_end header) (padding header) bytes ≡ replicate (padding header) 0
zeros_if_pass bytes header at end room is_at is_end zeros =
    let part = zero_part bytes header at end is_at is_end in
    sym part ∙ zeros ∙ ap (λ n. replicate n 0) (ap length part ∙ length-zero_part bytes header room)

-- the rows, as a slice shows them
pub row_part_between : (bytes : List ℕ) (header : Header) (end : ℕ) → end ≡ rows_end header
    → between 64 end bytes ≡ row_part header bytes
row_part_between bytes header end is_end =
    let count : end - 64 ≡ rows_length header.kind header.rows = omega (arith, is_end) in
    ap (λ n. take n (drop 64 bytes)) count

-- ---- an object has the rows that are read in it

payload_is_low : (bytes : List ℕ) (size : ℕ) (expected : Expected) (header : Header) → IsObjectHeader bytes size expected header
    → header.payload ≤ 131071
payload_is_low bytes size expected header is = leb-true _ _ (and_parts _ _ is.limits).1

pub data_of_object : (bytes : List ℕ) (size : ℕ) (expected : Expected) (header : Header) (rows : List DataRow)
    → expected.sectors < 2 ^ 64
    → IsObjectHeader bytes size expected header → length rows ≡ header.rows
    → IsTrue (data_rows_may_stand expected.sectors header.payload None 0 rows)
    → row_part header bytes ≡ flat_map data_row_bytes rows
    → rows_in 24 data_row_in header.rows (row_part header bytes) ≡ rows
data_of_object bytes size expected header rows wide head count stand is =
    let fit = data_rows_fit expected.sectors header.payload None 0 rows wide
    (payload_is_low bytes size expected header head) stand in
    ap (λ n. rows_in 24 data_row_in n (row_part header bytes)) (sym count)
    ∙ ap (rows_in 24 data_row_in (length rows)) is
    ∙ rows_in-flat_map 24 data_row_in data_row_bytes DataRowFits length-data_row_bytes data_row_again rows fit

pub copies_of_object : (bytes : List ℕ) (size : ℕ) (expected : Expected) (header : Header) (rows : List CopyRow)
    → expected.sectors < 2 ^ 64
    → IsObjectHeader bytes size expected header → length rows ≡ header.rows
    → IsTrue (copy_rows_may_stand expected.sectors header.payload header.number None 0 rows)
    → row_part header bytes ≡ flat_map copy_row_bytes rows
    → rows_in 44 copy_row_in header.rows (row_part header bytes) ≡ rows
copies_of_object bytes size expected header rows wide head count stand is =
    let fit = copy_rows_fit expected.sectors header.payload header.number None 0 rows wide
    (payload_is_low bytes size expected header head) head.widths.number stand in
    ap (λ n. rows_in 44 copy_row_in n (row_part header bytes)) (sym count)
    ∙ ap (rows_in 44 copy_row_in (length rows)) is
    ∙ rows_in-flat_map 44 copy_row_in copy_row_bytes CopyRowFits length-copy_row_bytes copy_row_again rows fit

-- rows that are read in an object keep the spelling that its rows keep
pub read_may_stand : (bytes : List ℕ) (size : ℕ) (expected : Expected) (header : Header) (rows other : Rows)
    → expected.sectors < 2 ^ 64
    → AreReadAs header (row_part header bytes) rows → IsObject bytes size expected header other
    → IsTrue (may_stand expected.sectors header rows)
read_may_stand bytes size expected header (Data rows) (Data other) wide is object =
    let same = is.1 ∙ data_of_object bytes size expected header other.items wide object.head object.rows_are.count
    object.rows_are.spelling object.row_bytes in
    let P : List DataRow → Type 0 = λ xs. IsTrue (data_rows_may_stand expected.sectors header.payload None 0 xs) in
    subst P (sym same) object.rows_are.spelling
read_may_stand bytes size expected header (Copy rows) (Copy other) wide is object =
    let same = is.1 ∙ copies_of_object bytes size expected header other.items wide object.head object.rows_are.count
    object.rows_are.spelling object.row_bytes in
    let P : List CopyRow → Type 0 = λ xs. IsTrue (copy_rows_may_stand expected.sectors header.payload header.number None 0 xs) in
    subst P (sym same) object.rows_are.spelling
read_may_stand bytes size expected header Checkpoint Checkpoint wide is object = object.rows_are.spelling
read_may_stand bytes size expected header (Data rows) (Copy other) wide is object = let e = object.rows_are.kind ∙ is.0 in cc
read_may_stand bytes size expected header (Data rows) Checkpoint wide is object = let e = object.rows_are.kind ∙ is.0 in cc
read_may_stand bytes size expected header (Copy rows) (Data other) wide is object = let e = object.rows_are.kind ∙ is.0 in cc
read_may_stand bytes size expected header (Copy rows) Checkpoint wide is object = let e = object.rows_are.kind ∙ is.0 in cc
read_may_stand bytes size expected header Checkpoint (Data other) wide is object = let e = object.rows_are.kind ∙ is.0 in cc
read_may_stand bytes size expected header Checkpoint (Copy other) wide is object = let e = object.rows_are.kind ∙ is.0 in cc

-- ---- the last reason

pub same_header : (bytes : List ℕ) (size : ℕ) (expected : Expected) (a b : Header) → IsObjectHeader bytes size expected a
    → IsObjectHeader bytes size expected b → a ≡ b
same_header bytes size expected a b is_a is_b =
    let e = header_in-IsHeader bytes size expected a is_a in
    let f = header_in-IsHeader bytes size expected b is_b in
    cc

pub refused_as_rows : (bytes : List ℕ) (size : ℕ) (expected : Expected) (header : Header)
    → IsObjectHeader bytes size expected header
    → ((rows : Rows) → IsObject bytes size expected header rows → ⊥) → IsObjectRefusedAs bytes size expected reasons.Rows
refused_as_rows bytes size expected header head none = record {
  earlier = λ other below. header_passes bytes size expected header other below head;
  failed = λ passes. fails passes.0 passes.1 passes.2;
}
  where
    fails : (other : Header) (rows : Rows) → IsObject bytes size expected other rows → ⊥
    fails other rows is =
        let P : Header → Type 0 = λ h. IsObject bytes size expected h rows in
        none rows (subst P (same_header bytes size expected other header is.head head) is)
