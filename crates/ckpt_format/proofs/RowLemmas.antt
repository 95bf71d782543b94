-- The bytes of rows, and the rows that are read in them.
use Rattle.std.proofs.Common.{◌≡◌, ℕ, zero, suc, ◌+◌, ◌*◌, ◌≤◌, List, [], ◌∷◌, ◌++◌, length, take, drop, refl, sym, ◌∙◌, ap}
use Rattle.std.proofs.Common.{append_assoc, arith}
use Rattle.std.proofs.lemmas.List.{length-append, drop_at, drop-drop}
use Rattle.std.proofs.lemmas.Nat.{from_be_bytes-to_be_bytes_4, from_be_bytes-to_be_bytes_8}
use Rattle.std.proofs.Math.Nat.{mul-suc}
use Rattle.std.specs.Int.{w32, w64, to_be_bytes}
use Rattle.lsvd_bytes.specs.Places.{number_at}
use Rattle.extent_map.specs.declared.extent.Extent.{Extent}
use Rattle.object_format.specs.Rows.{rows_in}
use Rattle.object_format.proofs.PartLemmas.{IsBytes, part_of_u32, part_of_u64, front_more, u32_fits, u64_fits}
use Rattle.object_format.proofs.RowLemmas.{flat_map-rows_in}
use Rattle.ckpt_format.specs.declared.place.StoredPlace.{StoredPlace}
use Rattle.ckpt_format.specs.Rows.{row_bytes, rows_bytes, row_in, HasRowWidths}
use Rattle.ckpt_format.specs.Fields.{AllHaveWidths}

-- ---- one row

pub length-row_bytes : (row : Extent StoredPlace) → length (row_bytes row) ≡ 36
unfolding row_bytes
length-row_bytes row = refl

abbrev row_of : (lba sectors level number place : ℕ) → Extent StoredPlace
row_of lba sectors level number place = record {
  lba = lba;
  sectors = sectors;
  place = record { level = level; number = number; place = place };
}

-- a row that was written is read again
pub row_again : (row : Extent StoredPlace) (rest : List ℕ) → HasRowWidths row → row_in (row_bytes row ++ rest) ≡ row
unfolding row_bytes
row_again row rest fits =
    let bytes = row_bytes row ++ rest in
    let lba : number_at w64 0 bytes ≡ row.lba = from_be_bytes-to_be_bytes_8 row.lba fits.lba in
    let sectors : number_at w64 8 bytes ≡ row.sectors = from_be_bytes-to_be_bytes_8 row.sectors fits.sectors in
    let level : number_at w32 16 bytes ≡ row.place.level = from_be_bytes-to_be_bytes_4 row.place.level fits.level in
    let number : number_at w64 20 bytes ≡ row.place.number = from_be_bytes-to_be_bytes_8 row.place.number fits.number in
    let place : number_at w64 28 bytes ≡ row.place.place = from_be_bytes-to_be_bytes_8 row.place.place fits.place in
    ap (λ x. row_of x (number_at w64 8 bytes) (number_at w32 16 bytes) (number_at w64 20 bytes) (number_at w64 28 bytes)) lba
    ∙ ap (λ x. row_of row.lba x (number_at w32 16 bytes) (number_at w64 20 bytes) (number_at w64 28 bytes)) sectors
    ∙ ap (λ x. row_of row.lba row.sectors x (number_at w64 20 bytes) (number_at w64 28 bytes)) level
    ∙ ap (λ x. row_of row.lba row.sectors row.place.level x (number_at w64 28 bytes)) number
    ∙ ap (λ x. row_of row.lba row.sectors row.place.level row.place.number x) place

-- a row that was read has the bytes in which it was read
row_of_bytes : (bytes : List ℕ) → 36 ≤ length bytes → IsBytes bytes → row_bytes (row_in bytes) ≡ take 36 bytes
unfolding row_bytes
row_of_bytes bytes room fits =
    let to_lba : take 8 bytes ≡ to_be_bytes w64 (number_at w64 0 bytes) = part_of_u64 0 bytes (omega (arith, room)) fits in
    let to_sectors = front_more 8 8 bytes _ _ to_lba (part_of_u64 8 bytes (omega (arith, room)) fits) in
    let to_level = front_more 16 4 bytes _ _ to_sectors (part_of_u32 16 bytes (omega (arith, room)) fits) in
    let to_number = front_more 20 8 bytes _ _ to_level (part_of_u64 20 bytes (omega (arith, room)) fits) in
    sym (front_more 28 8 bytes _ _ to_number (part_of_u64 28 bytes (omega (arith, room)) fits))

pub row_fits : (bytes : List ℕ) → IsBytes bytes → HasRowWidths (row_in bytes)
row_fits bytes fits = record {
  lba = u64_fits 0 bytes fits;
  sectors = u64_fits 8 bytes fits;
  level = u32_fits 16 bytes fits;
  number = u64_fits 20 bytes fits;
  place = u64_fits 28 bytes fits;
}

-- ---- rows one after the other

pub length-rows_bytes : (rows : List (Extent StoredPlace)) → length (rows_bytes rows) ≡ 36 * length rows
length-rows_bytes [] = refl
length-rows_bytes (row ∷ rows) =
    omega (
      arith,
      length-append (row_bytes row) (rows_bytes rows),
      length-row_bytes row,
      length-rows_bytes rows,
      mul-suc 36 (length rows),
    )

-- one row more
pub rows_bytes_more : (rows : List (Extent StoredPlace)) (row : Extent StoredPlace)
    → rows_bytes (rows ++ row ∷ []) ≡ rows_bytes rows ++ row_bytes row
rows_bytes_more [] row = append_nil (row_bytes row)
  where
    append_nil : (xs : List ℕ) → xs ++ [] ≡ xs
    append_nil [] = refl
    append_nil (x ∷ xs) = ap (λ ys. x ∷ ys) (append_nil xs)
rows_bytes_more (first ∷ rows) row =
    ap (λ xs. row_bytes first ++ xs) (rows_bytes_more rows row)
    ∙ sym (append_assoc (row_bytes first) (rows_bytes rows) (row_bytes row))

pub rows_in_more : (count : ℕ) (bytes : List ℕ)
    → rows_in 36 row_in (suc count) bytes ≡ rows_in 36 row_in count bytes ++ row_in (drop (36 * count) bytes) ∷ []
rows_in_more zero bytes = refl
rows_in_more (suc count) bytes =
    let rest : drop (36 * count) (drop 36 bytes) ≡ drop (36 * suc count) bytes =
    drop-drop (36 * count) 36 bytes ∙ ap (λ n. drop n bytes) (omega (arith, mul-suc 36 count)) in
    ap (λ xs. row_in bytes ∷ xs) (rows_in_more count (drop 36 bytes))
    ∙ ap (λ xs. row_in bytes ∷ rows_in 36 row_in count (drop 36 bytes) ++ row_in xs ∷ []) rest

-- some rows, and those after them
pub rows_in_both : (a b : ℕ) (bytes : List ℕ)
    → rows_in 36 row_in (a + b) bytes ≡ rows_in 36 row_in a bytes ++ rows_in 36 row_in b (drop (36 * a) bytes)
rows_in_both zero b bytes = ap (λ n. rows_in 36 row_in n bytes) (zero_plus b)
  where
    zero_plus : (n : ℕ) → zero + n ≡ n
    zero_plus n = omega arith
rows_in_both (suc a) b bytes =
    let more : suc a + b ≡ suc (a + b) = omega arith in
    let rest : drop (36 * a) (drop 36 bytes) ≡ drop (36 * suc a) bytes =
    drop-drop (36 * a) 36 bytes ∙ ap (λ n. drop n bytes) (omega (arith, mul-suc 36 a)) in
    ap (λ n. rows_in 36 row_in n bytes) more
    ∙ ap (λ xs. row_in bytes ∷ xs) (rows_in_both a b (drop 36 bytes))
    ∙ ap (λ xs. row_in bytes ∷ rows_in 36 row_in a (drop 36 bytes) ++ rows_in 36 row_in b xs) rest

-- rows that were written are read again, whatever stands after them
pub rows_again : (rows : List (Extent StoredPlace)) (rest : List ℕ) → AllHaveWidths rows
    → rows_in 36 row_in (length rows) (rows_bytes rows ++ rest) ≡ rows
rows_again [] rest fit = refl
rows_again (row ∷ rows) rest fit =
    let after = rows_bytes rows ++ rest in
    let splits : (row_bytes row ++ rows_bytes rows) ++ rest ≡ row_bytes row ++ after =
    append_assoc (row_bytes row) (rows_bytes rows) rest in
    ap (λ bytes. row_in bytes ∷ rows_in 36 row_in (length rows) (drop 36 bytes)) splits
    ∙ ap (λ x. x ∷ rows_in 36 row_in (length rows) (drop 36 (row_bytes row ++ after))) (row_again row after fit.0)
    ∙ ap (λ bytes. row ∷ rows_in 36 row_in (length rows) bytes) (drop_at (row_bytes row) after 36 (length-row_bytes row))
    ∙ ap (λ xs. row ∷ xs) (rows_again rows rest fit.1)

-- rows that were read have the bytes in which they were read
pub bytes_again : (count : ℕ) (bytes : List ℕ) → 36 * count ≤ length bytes → IsBytes bytes
    → rows_bytes (rows_in 36 row_in count bytes) ≡ take (36 * count) bytes
bytes_again count bytes room fits = flat_map-rows_in 36 row_in row_bytes row_of_bytes count bytes room fits

pub widths_more : (rows : List (Extent StoredPlace)) (row : Extent StoredPlace) → AllHaveWidths rows → HasRowWidths row
    → AllHaveWidths (rows ++ row ∷ [])
widths_more [] row fit fits = (fits, tt)
widths_more (first ∷ rows) row fit fits = (fit.0, widths_more rows row fit.1 fits)
