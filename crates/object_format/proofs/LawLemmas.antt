-- Written objects are read again, in one way.
use Rattle.std.proofs.Common.{◌≡◌, ℕ, ◌+◌, ◌*◌, ◌^◌, ◌<◌, ◌≤◌, List, [], ◌∷◌, ◌++◌, length, take, replicate, refl, sym, ◌∙◌, ap}
use Rattle.std.proofs.Common.{subst, append_assoc, arith}
use Rattle.std.proofs.lemmas.List.{length-append, length-replicate, take_at, drop_at, take-append-le}
use Rattle.std.proofs.Math.Nat.{mul-suc}
use Rattle.std.specs.List.{flat_map}
use Rattle.lsvd_bytes.specs.Places.{bytes_at}
use Rattle.object_format.specs.declared.header.Header.{Header}
use Rattle.object_format.specs.declared.expected.Expected.{Expected}
use Rattle.object_format.specs.declared.rows.Rows.{Rows}
use Rattle.object_format.specs.declared.rows.Rows.TheVariants.{Data, Copy, Checkpoint}
use Rattle.object_format.specs.Layout.{rows_length, rows_end, padding, length_of}
use Rattle.object_format.specs.Header.{header_bytes, header_in, IsObjectHeader}
use Rattle.object_format.specs.Rows.{data_row_bytes, copy_row_bytes, rows_bytes, rows_kind, count_of}
use Rattle.object_format.specs.Object.{IsObject}
use Rattle.object_format.specs.Writing.{object_header_of, front_bytes}
use Rattle.object_format.specs.Laws.{WritesObjects, AreSameRows, HasOneReading, BeginsNoOther}
use Rattle.std.specs.Prelude.{Some}
use Rattle.object_format.proofs.HeaderLemmas.{length-header_bytes}
use Rattle.object_format.proofs.TestLemmas.{header_in-IsHeader}
use Rattle.object_format.proofs.RowLemmas.{length-data_row_bytes, length-copy_row_bytes}
use Rattle.object_format.proofs.ObjectLemmas.{data_of_object, copies_of_object}

-- ---- lengths

length-rows : {R : Type 0} (size : ℕ) (row_bytes : R → List ℕ) → ((row : R) → length (row_bytes row) ≡ size) → (rows : List R)
    → length (flat_map row_bytes rows) ≡ size * length rows
length-rows size row_bytes has_size [] = omega arith
length-rows size row_bytes has_size (row ∷ rows) =
    omega (
      arith,
      length-append (row_bytes row) (flat_map row_bytes rows),
      has_size row,
      length-rows size row_bytes has_size rows,
      mul-suc size (length rows),
    )

length-rows_bytes : (rows : Rows) → length (rows_bytes rows) ≡ rows_length (rows_kind rows) (count_of rows)
length-rows_bytes (Data rows) = length-rows 24 data_row_bytes length-data_row_bytes rows.items
length-rows_bytes (Copy rows) = length-rows 44 copy_row_bytes length-copy_row_bytes rows.items
length-rows_bytes Checkpoint = refl

-- ---- parts of four lists in a row

apart : (a b c d : List ℕ) → (a ++ b ++ c) ++ d ≡ a ++ (b ++ (c ++ d))
apart a b c d = simp append_assoc refl

second : (a b rest : List ℕ) → bytes_at (length a) (length b) (a ++ (b ++ rest)) ≡ b
second a b rest =
    ap (take (length b)) (drop_at a (b ++ rest) (length a) refl) ∙ take_at b rest (length b) refl

third : (a b c rest : List ℕ) → bytes_at (length a + length b) (length c) (a ++ (b ++ (c ++ rest))) ≡ c
third a b c rest =
    ap (λ xs. bytes_at (length a + length b) (length c) xs) (sym (append_assoc a b (c ++ rest)))
    ∙ ap (take (length c)) (drop_at (a ++ b) (c ++ rest) (length a + length b) (length-append a b))
    ∙ take_at c rest (length c) refl

-- ---- what is written is an object

pub writes_objects : WritesObjects
writes_objects expected first_seq end_seq rows payload widths may size =
    let header = object_header_of expected first_seq end_seq rows in
    let head = header_bytes header in
    let part = rows_bytes rows in
    let zeros : List ℕ = replicate (padding header) 0 in
    let bytes = front_bytes header rows ++ payload in
    let splits : bytes ≡ head ++ (part ++ (zeros ++ payload)) = apart head part zeros payload in
    let head_size : length head ≡ 64 = length-header_bytes header widths.uuid in
    let part_size : length part ≡ rows_length header.kind header.rows = length-rows_bytes rows in
    let zeros_size : length zeros ≡ padding header = length-replicate (padding header) 0 in
    let at_zeros : length head + length part ≡ rows_end header = omega (arith, head_size, part_size) in
    let whole : length bytes ≡ length_of header =
    omega (
      arith,
      length-append (head ++ part ++ zeros) payload,
      length-append (head ++ part) zeros,
      length-append head part,
      head_size,
      part_size,
      zeros_size,
      size,
    ) in
    record {
      head = record {
        head = ap (take 64) splits ∙ take_at head (part ++ (zeros ++ payload)) 64 head_size;
        has_size = whole;
        uuid = refl;
        number = refl;
        seqs = may.seqs;
        limits = may.limits;
        widths = widths;
      };
      whole_front = omega (arith, whole);
      rows_are = record { kind = refl; count = refl; spelling = may.spelling };
      row_bytes =
          ap (λ xs. bytes_at 64 (rows_length header.kind header.rows) xs) splits
          ∙ ap (λ n. bytes_at n (rows_length header.kind header.rows) (head ++ (part ++ (zeros ++ payload)))) (sym head_size)
          ∙ ap (λ n. bytes_at (length head) n (head ++ (part ++ (zeros ++ payload)))) (sym part_size)
          ∙ second head part (zeros ++ payload);
      zeros =
          ap (λ xs. bytes_at (rows_end header) (padding header) xs) splits
          ∙ ap (λ n. bytes_at n (padding header) (head ++ (part ++ (zeros ++ payload)))) (sym at_zeros)
          ∙ ap (λ n. bytes_at (length head + length part) n (head ++ (part ++ (zeros ++ payload)))) (sym zeros_size)
          ∙ third head part zeros payload;
    }

-- ---- an object has one reading

same_rows : (bytes : List ℕ) (size : ℕ) (expected another : Expected) (header : Header) (rows others : Rows)
    → expected.sectors < 2 ^ 64 → another.sectors < 2 ^ 64
    → IsObject bytes size expected header rows → IsObject bytes size another header others → AreSameRows rows others
same_rows bytes size expected another header (Data rows) (Data others) wide wide_too is other =
    sym (data_of_object bytes size expected header rows.items wide is.head is.rows_are.count is.rows_are.spelling is.row_bytes)
    ∙ data_of_object bytes size another header others.items wide_too other.head other.rows_are.count other.rows_are.spelling
    other.row_bytes
same_rows bytes size expected another header (Copy rows) (Copy others) wide wide_too is other =
    sym (copies_of_object bytes size expected header rows.items wide is.head is.rows_are.count is.rows_are.spelling is.row_bytes)
    ∙ copies_of_object bytes size another header others.items wide_too other.head other.rows_are.count other.rows_are.spelling
    other.row_bytes
same_rows bytes size expected another header Checkpoint Checkpoint wide wide_too is other = tt
same_rows bytes size expected another header (Data rows) (Copy others) wide wide_too is other = let e = is.rows_are.kind
    ∙ sym other.rows_are.kind in cc
same_rows bytes size expected another header (Data rows) Checkpoint wide wide_too is other = let e = is.rows_are.kind
    ∙ sym other.rows_are.kind in cc
same_rows bytes size expected another header (Copy rows) (Data others) wide wide_too is other = let e = is.rows_are.kind
    ∙ sym other.rows_are.kind in cc
same_rows bytes size expected another header (Copy rows) Checkpoint wide wide_too is other = let e = is.rows_are.kind
    ∙ sym other.rows_are.kind in cc
same_rows bytes size expected another header Checkpoint (Data others) wide wide_too is other = let e = is.rows_are.kind
    ∙ sym other.rows_are.kind in cc
same_rows bytes size expected another header Checkpoint (Copy others) wide wide_too is other = let e = is.rows_are.kind
    ∙ sym other.rows_are.kind in cc

-- the header too
header_of_both : (bytes : List ℕ) (size : ℕ) (expected another : Expected) (a b : Header) → IsObjectHeader bytes size expected a
    → IsObjectHeader bytes size another b → a ≡ b
header_of_both bytes size expected another a b is_a is_b =
    let e : header_in (take 64 bytes) ≡ Some a = header_in-IsHeader bytes size expected a is_a in
    let f : header_in (take 64 bytes) ≡ Some b = header_in-IsHeader bytes size another b is_b in
    cc

pub has_one_reading : HasOneReading
has_one_reading bytes size expected another a b rows others wide wide_too is_a is_b =
    let same = header_of_both bytes size expected another a b is_a.head is_b.head in
    let P : Header → Type 0 = λ h. IsObject bytes size another h others in
    (same, same_rows bytes size expected another a rows others wide wide_too is_a (subst P (sym same) is_b))

-- ---- no object begins another

no_more : (xs ys : List ℕ) → length (xs ++ ys) ≡ length xs → ys ≡ []
no_more xs [] same = refl
no_more xs (y ∷ ys) same = absurd (omega (arith, length-append xs (y ∷ ys), same))

pub begins_no_other : BeginsNoOther
begins_no_other bytes more expected another a b is_a is_b =
    let long : 64 ≤ length bytes = omega (arith, is_a.has_size) in
    let front : take 64 (bytes ++ more) ≡ take 64 bytes = take-append-le 64 bytes more long in
    let e : header_in (take 64 bytes) ≡ Some a = header_in-IsHeader bytes (length bytes) expected a is_a in
    let f : header_in (take 64 bytes) ≡ Some b = ap header_in (sym front)
    ∙ header_in-IsHeader (bytes ++ more) (length (bytes ++ more)) another b is_b in
    let same : a ≡ b = cc in
    no_more bytes more (is_b.has_size ∙ sym (ap length_of same) ∙ sym is_a.has_size)
