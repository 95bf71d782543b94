-- Rows that are pushed one after the other, and the object that they become.
use Rattle.std.proofs.Common.{◌≡◌, ℕ, ◌+◌, ◌-◌, ◌*◌, ◌%◌, ◌<◌, ◌≤◌, List, [], ◌∷◌, ◌++◌, length, take, drop, replicate, sym}
use Rattle.std.proofs.Common.{◌∙◌, ap, subst, append_assoc, arith}
use Rattle.std.proofs.lemmas.List.{length-append, length-replicate, take-replicate, drop_at, append-nil}
use Rattle.extent_map.specs.declared.extent.Extent.{Extent}
use Rattle.object_format.specs.declared.expected.Expected.{Expected}
use Rattle.object_format.specs.Layout.{padding}
use Rattle.object_format.specs.Header.{header_bytes, HasWidths}
use Rattle.object_format.specs.Rows.{rows_in}
use Rattle.object_format.proofs.HeaderLemmas.{length-header_bytes}
use Rattle.object_format.proofs.RowLemmas.{length-rows_in}
use Rattle.ckpt_format.specs.declared.place.StoredPlace.{StoredPlace}
use Rattle.ckpt_format.specs.Rows.{row_bytes, rows_bytes, row_in, HasRowWidths, AreCheckpointRows}
use Rattle.ckpt_format.specs.Checkpoint.{checkpoint_header, checkpoint_bytes, IsCheckpoint}
use Rattle.ckpt_format.specs.Fields.{rows_at, IsWriter, AllHaveWidths}
use Rattle.ckpt_format.proofs.RowLemmas.{length-rows_bytes, rows_bytes_more, rows_again, widths_more}
use Rattle.ckpt_format.proofs.LawLemmas.{writes_checkpoints}

-- as many rows as were pushed
pub length-rows_at : (index count : ℕ) (bytes : List ℕ) → length (rows_at index count bytes) ≡ count
length-rows_at index count bytes = length-rows_in 36 row_in count (drop (64 + 36 * index) bytes)

-- how long the bytes are
pub length-written : (bytes : List ℕ) (capacity : ℕ) (expected : Expected) (end_seq count pushed : ℕ)
    → IsWriter bytes capacity expected end_seq count pushed → length bytes ≡ 64 + 36 * pushed
length-written bytes capacity expected end_seq count pushed is =
    let header = checkpoint_header expected end_seq count in
    let rows = rows_at 0 pushed bytes in
    ap length is.written
    ∙ length-append (header_bytes header) (rows_bytes rows)
    ∙ omega (
      arith,
      length-header_bytes header is.widths.uuid,
      length-rows_bytes rows,
      length-rows_at 0 pushed bytes,
    )

-- the next row, after what stands so far
after_row : (bytes : List ℕ) (capacity : ℕ) (expected : Expected) (end_seq count pushed : ℕ) (row : Extent StoredPlace)
    → IsWriter bytes capacity expected end_seq count pushed
    → bytes ++ row_bytes row
    ≡ header_bytes (checkpoint_header expected end_seq count) ++ rows_bytes (rows_at 0 pushed bytes ++ row ∷ [])
after_row bytes capacity expected end_seq count pushed row is =
    let head = header_bytes (checkpoint_header expected end_seq count) in
    let rows = rows_at 0 pushed bytes in
    ap (λ xs. xs ++ row_bytes row) is.written
    ∙ append_assoc head (rows_bytes rows) (row_bytes row)
    ∙ ap (λ xs. head ++ xs) (sym (rows_bytes_more rows row))

pub rows_pushed : (bytes new : List ℕ) (capacity : ℕ) (expected : Expected) (end_seq count pushed : ℕ) (row : Extent StoredPlace)
    → IsWriter bytes capacity expected end_seq count pushed → HasRowWidths row → new ≡ bytes ++ row_bytes row
    → rows_at 0 (pushed + 1) new ≡ rows_at 0 pushed bytes ++ row ∷ []
rows_pushed bytes new capacity expected end_seq count pushed row is fits push =
    let header = checkpoint_header expected end_seq count in
    let rows = rows_at 0 pushed bytes in
    let all = rows ++ row ∷ [] in
    let many : pushed + 1 ≡ length all = omega (arith, length-append rows (row ∷ []), length-rows_at 0 pushed bytes) in
    let rest : drop 64 new ≡ rows_bytes all ++ [] =
    ap (drop 64) (push ∙ after_row bytes capacity expected end_seq count pushed row is)
    ∙ drop_at (header_bytes header) (rows_bytes all) 64 (length-header_bytes header is.widths.uuid)
    ∙ sym (append-nil (rows_bytes all)) in
    ap (λ n. rows_at 0 n new) many
    ∙ ap (rows_in 36 row_in (length all)) rest
    ∙ rows_again all [] (widths_more rows row is.row_widths fits)

pub writer_pushed : (bytes new : List ℕ) (capacity more : ℕ) (expected : Expected) (end_seq count pushed : ℕ)
    (row : Extent StoredPlace)
    → IsWriter bytes capacity expected end_seq count pushed → pushed < count → HasRowWidths row
    → new ≡ bytes ++ row_bytes row → capacity ≤ more → IsWriter new more expected end_seq count (pushed + 1)
writer_pushed bytes new capacity more expected end_seq count pushed row is below fits push kept =
    let head = header_bytes (checkpoint_header expected end_seq count) in
    let rows = rows_at 0 pushed bytes in
    let same = rows_pushed bytes new capacity expected end_seq count pushed row is fits push in
    record {
      written = push ∙ after_row bytes capacity expected end_seq count pushed row is
          ∙ ap (λ xs. head ++ rows_bytes xs) (sym same);
      room = omega (arith, is.room, kept);
      within = omega (arith, below);
      widths = is.widths;
      row_widths = subst AllHaveWidths (sym same) (widths_more rows row is.row_widths fits);
      goes_on = is.goes_on;
    }

-- there is room for a row
pub room_for_row : (bytes : List ℕ) (capacity : ℕ) (expected : Expected) (end_seq count pushed : ℕ)
    → IsWriter bytes capacity expected end_seq count pushed → pushed < count → length bytes + 36 ≤ capacity
room_for_row bytes capacity expected end_seq count pushed is below =
    omega (arith, is.room, below, length-written bytes capacity expected end_seq count pushed is)

-- ---- the whole object

-- zeros up to the next whole sector
pub zeros_missing : (bytes : List ℕ) (capacity : ℕ) (expected : Expected) (end_seq count pushed : ℕ) (missing : ℕ)
    → IsWriter bytes capacity expected end_seq count pushed → pushed ≡ count
    → missing ≡ (512 - length bytes % 512) % 512 → missing ≡ padding (checkpoint_header expected end_seq count)
zeros_missing bytes capacity expected end_seq count pushed missing is all equals =
    omega (arith, equals, all, length-written bytes capacity expected end_seq count pushed is)

pub room_for_zeros : (bytes : List ℕ) (capacity : ℕ) (expected : Expected) (end_seq count pushed : ℕ) (missing : ℕ)
    → IsWriter bytes capacity expected end_seq count pushed → pushed ≡ count
    → missing ≡ (512 - length bytes % 512) % 512 → length bytes + length (take missing (replicate {A = ℕ} 512 0)) ≤ capacity
room_for_zeros bytes capacity expected end_seq count pushed missing is all equals =
    let low : missing ≤ 512 = omega (arith, equals) in
    let zeros : take missing (replicate {A = ℕ} 512 0) ≡ replicate missing 0 = take-replicate missing 512 0 low in
    let many : length (take missing (replicate {A = ℕ} 512 0)) ≡ missing = ap length zeros ∙ length-replicate missing 0 in
    omega (
      arith,
      many,
      is.room,
      zeros_missing bytes capacity expected end_seq count pushed missing is all equals,
      all,
      length-written bytes capacity expected end_seq count pushed is,
    )

pub zeros_are : (bytes : List ℕ) (capacity : ℕ) (expected : Expected) (end_seq count pushed : ℕ) (missing : ℕ)
    → IsWriter bytes capacity expected end_seq count pushed → pushed ≡ count
    → missing ≡ (512 - length bytes % 512) % 512
    → take missing (replicate {A = ℕ} 512 0) ≡ replicate (padding (checkpoint_header expected end_seq count)) 0
zeros_are bytes capacity expected end_seq count pushed missing is all equals =
    let low : missing ≤ 512 = omega (arith, equals) in
    take-replicate missing 512 0 low
    ∙ ap (λ n. replicate n 0) (zeros_missing bytes capacity expected end_seq count pushed missing is all equals)

pub is_written : (bytes new zeros : List ℕ) (capacity : ℕ) (expected : Expected) (end_seq count pushed : ℕ)
    → IsWriter bytes capacity expected end_seq count pushed → pushed ≡ count
    → zeros ≡ replicate (padding (checkpoint_header expected end_seq count)) 0 → new ≡ bytes ++ zeros
    → AreCheckpointRows expected (rows_at 0 pushed bytes) → IsCheckpoint new expected end_seq (rows_at 0 pushed bytes)
is_written bytes new zeros capacity expected end_seq count pushed is all are_zeros push spelling =
    let rows = rows_at 0 pushed bytes in
    let many : count ≡ length rows = sym all ∙ sym (length-rows_at 0 pushed bytes) in
    let W : ℕ → Type 0 = λ n. bytes ++ replicate (padding (checkpoint_header expected end_seq n)) 0
    ≡ header_bytes (checkpoint_header expected end_seq n) ++ rows_bytes rows
    ++ replicate (padding (checkpoint_header expected end_seq n)) 0 in
    let M : ℕ → Type 0 = λ n. HasWidths (checkpoint_header expected end_seq n) in
    let Z : ℕ → Type 0 = λ n. zeros ≡ replicate (padding (checkpoint_header expected end_seq n)) 0 in
    let whole : bytes ++ replicate (padding (checkpoint_header expected end_seq (length rows))) 0
    ≡ checkpoint_bytes expected end_seq rows =
    subst W many (ap (λ xs. xs ++ replicate (padding (checkpoint_header expected end_seq count)) 0) is.written) in
    let same : checkpoint_bytes expected end_seq rows ≡ new =
    sym (push ∙ ap (λ xs. bytes ++ xs) (subst Z many are_zeros) ∙ whole) in
    let C : List ℕ → Type 0 = λ xs. IsCheckpoint xs expected end_seq rows in
    subst C same
    (writes_checkpoints expected end_seq rows
    (record { widths = subst M many is.widths; goes_on = is.goes_on; rows_are = spelling }))

-- ---- pieces that are appended one after the other

-- what is appended after what was appended is appended with it
pub appended : (old front part mid new piece : List ℕ) → mid ≡ old ++ front → new ≡ mid ++ piece → piece ≡ part
    → new ≡ old ++ (front ++ part)
appended old front part mid new piece is_mid is_new is =
    is_new
    ∙ ap (λ xs. xs ++ piece) is_mid
    ∙ append_assoc old front piece
    ∙ ap (λ xs. old ++ (front ++ xs)) is
