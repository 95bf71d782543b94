-- The bytes of rows, and the rows that are read in them.
use Rattle.std.proofs.Common.{◌≡◌, ℕ, zero, suc, ◌+◌, ◌-◌, ◌*◌, ◌^◌, ◌<◌, ◌≤◌, ◌==◌, ◌&&◌, nat_lt, nat_le, IsTrue, Option, Some}
use Rattle.std.proofs.Common.{None, List, [], ◌∷◌, ◌++◌, length, take, drop, refl, sym, ◌∙◌, ap, append_assoc, arith}
use Rattle.std.proofs.lemmas.Bool.{and_parts, leb-true, ltb-true, eqb-true}
use Rattle.std.proofs.lemmas.Bool.Decides.{nat_tests}
use Rattle.std.proofs.lemmas.List.{length-drop, drop_at, take_rest}
use Rattle.std.proofs.lemmas.Nat.{from_be_bytes-to_be_bytes_4, from_be_bytes-to_be_bytes_8}
use Rattle.std.proofs.Math.Nat.{mul-suc}
use Rattle.std.proofs.Math.Seq.{take-add}
use Rattle.std.specs.Int.{w32, w64, to_be_bytes}
use Rattle.std.specs.List.{flat_map}
use Rattle.std.specs.Option.{IfSome}
use Rattle.lsvd_bytes.specs.Places.{number_at}
use Rattle.object_format.specs.declared.data_row.DataRow.{DataRow}
use Rattle.object_format.specs.declared.copy_row.CopyRow.{CopyRow}
use Rattle.object_format.specs.Rows.{place_number, place_from, data_row_bytes, copy_row_bytes, data_row_in, copy_row_in, rows_in}
use Rattle.object_format.specs.Rows.{is_inside, data_payload, is_at, data_may_follow, data_may_stand, data_rows_may_stand}
use Rattle.object_format.specs.Rows.{copy_may_follow, is_source, copy_may_stand, copy_rows_may_stand}
use Rattle.object_format.proofs.PartLemmas.{IsBytes, bytes_of_rest, part_of_u32, part_of_u64, front_more}

-- ---- rows of any kind

-- each row has
abbrev pub AllFit : {R : Type 0} → (R → Type 0) → List R → Type 0
AllFit Fits [] = Unit {0}
AllFit Fits (row ∷ rows) = Fits row × AllFit Fits rows

pub length-rows_in : {R : Type 0} (size : ℕ) (row_in : List ℕ → R) (count : ℕ) (bytes : List ℕ)
    → length (rows_in size row_in count bytes) ≡ count
length-rows_in size row_in zero bytes = refl
length-rows_in size row_in (suc count) bytes = ap suc (length-rows_in size row_in count (drop size bytes))

-- one row more is read
pub rows_in_more : {R : Type 0} (size : ℕ) (row_in : List ℕ → R) (count counter : ℕ) (rows : List R) (rest : List ℕ)
    → counter < count
    → (rows ++ row_in rest ∷ []) ++ rows_in size row_in (count - (counter + 1)) (drop size rest)
    ≡ rows ++ rows_in size row_in (count - counter) rest
rows_in_more size row_in count counter rows rest below =
    let more : count - counter ≡ suc (count - (counter + 1)) = omega arith in
    append_assoc rows (row_in rest ∷ []) (rows_in size row_in (count - (counter + 1)) (drop size rest))
    ∙ ap (λ n. rows ++ rows_in size row_in n rest) (sym more)

-- the same, after a push of the row, of what a slice shows of the rest
pub read_more : {R : Type 0} (size : ℕ) (row_in : List ℕ → R) (count counter : ℕ) (rows pushed all : List R) (row : R)
    (rest : List ℕ)
    → counter < count → pushed ≡ rows ++ row ∷ [] → row ≡ row_in rest
    → rows ++ rows_in size row_in (count - counter) rest ≡ all
    → pushed ++ rows_in size row_in (count - (counter + 1)) (take (length rest - size) (drop size rest)) ≡ all
read_more size row_in count counter rows pushed all row rest below push read before =
    ap (λ bytes. pushed ++ rows_in size row_in (count - (counter + 1)) bytes) (take_rest rest size)
    ∙ ap (λ xs. xs ++ rows_in size row_in (count - (counter + 1)) (drop size rest)) push
    ∙ ap (λ x. (rows ++ x ∷ []) ++ rows_in size row_in (count - (counter + 1)) (drop size rest)) read
    ∙ rows_in_more size row_in count counter rows rest below
    ∙ before

-- there is room for the rows after it
pub read_room : (size count counter : ℕ) (rest : List ℕ) → counter < count → size * (count - counter) ≤ length rest
    → size * (count - (counter + 1)) ≤ length (take (length rest - size) (drop size rest))
read_room size count counter rest below room =
    let more : count - counter ≡ suc (count - (counter + 1)) = omega arith in
    let step : size * (count - counter) ≡ size + size * (count - (counter + 1)) =
    ap (λ n. size * n) more ∙ omega (arith, mul-suc size (count - (counter + 1))) in
    let whole : length (take (length rest - size) (drop size rest)) ≡ length rest - size =
    ap length (take_rest rest size) ∙ length-drop size rest in
    omega (arith, step, whole, room)

-- rows that were written are read again
pub rows_in-flat_map : {R : Type 0} (size : ℕ) (row_in : List ℕ → R) (row_bytes : R → List ℕ) (Fits : R → Type 0)
    → ((row : R) → length (row_bytes row) ≡ size)
    → ((row : R) (rest : List ℕ) → Fits row → row_in (row_bytes row ++ rest) ≡ row)
    → (rows : List R) → AllFit Fits rows
    → rows_in size row_in (length rows) (flat_map row_bytes rows) ≡ rows
rows_in-flat_map size row_in row_bytes Fits has_size again [] fit = refl
rows_in-flat_map size row_in row_bytes Fits has_size again (row ∷ rows) fit =
    let rest = flat_map row_bytes rows in
    ap (λ x. x ∷ rows_in size row_in (length rows) (drop size (row_bytes row ++ rest))) (again row rest fit.0)
    ∙ ap (λ bytes. row ∷ rows_in size row_in (length rows) bytes) (drop_at (row_bytes row) rest size (has_size row))
    ∙ ap (λ xs. row ∷ xs) (rows_in-flat_map size row_in row_bytes Fits has_size again rows fit.1)

-- rows that were read have their bytes
pub flat_map-rows_in : {R : Type 0} (size : ℕ) (row_in : List ℕ → R) (row_bytes : R → List ℕ)
    → ((bytes : List ℕ) → size ≤ length bytes → IsBytes bytes → row_bytes (row_in bytes) ≡ take size bytes)
    → (count : ℕ) (bytes : List ℕ) → size * count ≤ length bytes → IsBytes bytes
    → flat_map row_bytes (rows_in size row_in count bytes) ≡ take (size * count) bytes
flat_map-rows_in size row_in row_bytes one zero bytes room fits =
    let none : size * zero ≡ 0 = omega arith in
    rw none refl
flat_map-rows_in size row_in row_bytes one (suc count) bytes room fits =
    let more : size * suc count ≡ size + size * count = omega (arith, mul-suc size count) in
    let rest : flat_map row_bytes (rows_in size row_in count (drop size bytes)) ≡ take (size * count) (drop size bytes) =
    flat_map-rows_in size row_in row_bytes one count (drop size bytes) (omega (arith, length-drop size bytes))
    (bytes_of_rest size bytes fits) in
    ap (λ xs. xs ++ flat_map row_bytes (rows_in size row_in count (drop size bytes))) (one bytes (omega arith) fits)
    ∙ ap (λ xs. take size bytes ++ xs) rest
    ∙ sym (take-add size (size * count) bytes)
    ∙ ap (λ n. take n bytes) (sym more)

-- ---- rows of data

pub record DataRowFits (row : DataRow) : Type 0 where
  pub lba : row.lba < 2 ^ 64
  pub sectors : row.sectors < 2 ^ 64
  pub place : IfSome row.place (λ place. place < 18446744073709551615)

place_from-place_number : (place : Option ℕ) → IfSome place (λ at. at < 18446744073709551615)
    → place_from (place_number place) ≡ place
place_from-place_number None fits = refl
place_from-place_number (Some place) fits = grind (arith, nat_tests)

place_number_fits : (place : Option ℕ) → IfSome place (λ at. at < 18446744073709551615) → place_number place < 2 ^ 64
place_number_fits None fits = omega arith
place_number_fits (Some place) fits = omega arith

place_number-place_from : (number : ℕ) → place_number (place_from number) ≡ number
place_number-place_from number = grind (arith, nat_tests)

pub length-data_row_bytes : (row : DataRow) → length (data_row_bytes row) ≡ 24
unfolding data_row_bytes
length-data_row_bytes row = refl

abbrev data_row_of : ℕ → ℕ → Option ℕ → DataRow
data_row_of lba sectors place = record { lba = lba; sectors = sectors; place = place }

pub data_row_again : (row : DataRow) (rest : List ℕ) → DataRowFits row → data_row_in (data_row_bytes row ++ rest) ≡ row
unfolding data_row_bytes
data_row_again row rest fits =
    let bytes = data_row_bytes row ++ rest in
    let lba : number_at w64 0 bytes ≡ row.lba = from_be_bytes-to_be_bytes_8 row.lba fits.lba in
    let sectors : number_at w64 8 bytes ≡ row.sectors = from_be_bytes-to_be_bytes_8 row.sectors fits.sectors in
    let number : number_at w64 16 bytes ≡ place_number row.place =
    from_be_bytes-to_be_bytes_8 (place_number row.place) (place_number_fits row.place fits.place) in
    let place : place_from (number_at w64 16 bytes) ≡ row.place = ap place_from number
    ∙ place_from-place_number row.place fits.place in
    ap (λ x. data_row_of x (number_at w64 8 bytes) (place_from (number_at w64 16 bytes))) lba
    ∙ ap (λ x. data_row_of row.lba x (place_from (number_at w64 16 bytes))) sectors
    ∙ ap (λ x. data_row_of row.lba row.sectors x) place

pub data_row_of_bytes : (bytes : List ℕ) → 24 ≤ length bytes → IsBytes bytes → data_row_bytes (data_row_in bytes) ≡ take 24 bytes
unfolding data_row_bytes
data_row_of_bytes bytes room fits =
    let to_lba : take 8 bytes ≡ to_be_bytes w64 (number_at w64 0 bytes) = part_of_u64 0 bytes (omega (arith, room)) fits in
    let to_sectors = front_more 8 8 bytes _ _ to_lba (part_of_u64 8 bytes (omega (arith, room)) fits) in
    let place = part_of_u64 16 bytes (omega (arith, room)) fits
    ∙ ap (to_be_bytes w64) (sym (place_number-place_from (number_at w64 16 bytes))) in
    sym (front_more 16 8 bytes _ _ to_sectors place)

-- a row that may stand has numbers of its fields' widths
data_row_fits : (volume payload : ℕ) (before : Option DataRow) (place : ℕ) (row : DataRow) → volume < 2 ^ 64 → payload ≤ 131071
    → IsTrue (data_may_stand volume payload before place row) → DataRowFits row
data_row_fits volume payload before place row wide few stands =
    let inside_and_after = is_inside volume row.lba row.sectors && data_may_follow before row in
    let a = and_parts (inside_and_after && is_at place row.place) (nat_le (place + data_payload row) payload) stands in
    let b = and_parts inside_and_after (is_at place row.place) a.0 in
    let c = and_parts (is_inside volume row.lba row.sectors) (data_may_follow before row) b.0 in
    let d = and_parts (nat_lt 0 row.sectors) (nat_le (row.lba + row.sectors) volume) c.0 in
    let inside : row.lba + row.sectors ≤ volume = leb-true _ _ d.1 in
    let room : place + data_payload row ≤ payload = leb-true _ _ a.1 in
    record {
      lba = omega (arith, inside, wide);
      sectors = omega (arith, inside, wide);
      place = place_fits row.place place b.1 (omega (arith, room, few));
    }
  where
    place_fits : (at : Option ℕ) (place : ℕ) → IsTrue (is_at place at) → place ≤ 131071
        → IfSome at (λ p. p < 18446744073709551615)
    place_fits None place is low = tt
    place_fits (Some at) place is low = omega (arith, eqb-true at place is, low)

pub data_rows_fit : (volume payload : ℕ) (before : Option DataRow) (place : ℕ) (rows : List DataRow) → volume < 2 ^ 64
    → payload ≤ 131071 → IsTrue (data_rows_may_stand volume payload before place rows) → AllFit DataRowFits rows
data_rows_fit volume payload before place [] wide few stand = tt
data_rows_fit volume payload before place (row ∷ rows) wide few stand =
    let parts = and_parts (data_may_stand volume payload before place row)
    (data_rows_may_stand volume payload (Some row) (place + data_payload row) rows) stand in (
      data_row_fits volume payload before place row wide few parts.0,
      data_rows_fit volume payload (Some row) (place + data_payload row) rows wide few parts.1,
    )

-- ---- rows of a copy

pub record CopyRowFits (row : CopyRow) : Type 0 where
  pub lba : row.lba < 2 ^ 64
  pub sectors : row.sectors < 2 ^ 64
  pub place : row.place < 2 ^ 64
  pub level : row.source.level < 2 ^ 32
  pub number : row.source.number < 2 ^ 64
  pub source_place : row.source.place < 2 ^ 64

pub length-copy_row_bytes : (row : CopyRow) → length (copy_row_bytes row) ≡ 44
unfolding copy_row_bytes
length-copy_row_bytes row = refl

abbrev copy_row_of : (lba sectors place level number source_place : ℕ) → CopyRow
copy_row_of lba sectors place level number source_place = record {
  lba = lba;
  sectors = sectors;
  place = place;
  source = record { level = level; number = number; place = source_place };
}

pub copy_row_again : (row : CopyRow) (rest : List ℕ) → CopyRowFits row → copy_row_in (copy_row_bytes row ++ rest) ≡ row
unfolding copy_row_bytes
copy_row_again row rest fits =
    let bytes = copy_row_bytes row ++ rest in
    let lba : number_at w64 0 bytes ≡ row.lba = from_be_bytes-to_be_bytes_8 row.lba fits.lba in
    let sectors : number_at w64 8 bytes ≡ row.sectors = from_be_bytes-to_be_bytes_8 row.sectors fits.sectors in
    let place : number_at w64 16 bytes ≡ row.place = from_be_bytes-to_be_bytes_8 row.place fits.place in
    let level : number_at w32 24 bytes ≡ row.source.level = from_be_bytes-to_be_bytes_4 row.source.level fits.level in
    let number : number_at w64 28 bytes ≡ row.source.number = from_be_bytes-to_be_bytes_8 row.source.number fits.number in
    let source_place : number_at w64 36 bytes ≡ row.source.place =
    from_be_bytes-to_be_bytes_8 row.source.place fits.source_place in
    ap (λ x. copy_row_of x (number_at w64 8 bytes) (number_at w64 16 bytes) (number_at w32 24 bytes) (number_at w64 28 bytes)
    (number_at w64 36 bytes)) lba
    ∙ ap (λ x. copy_row_of row.lba x (number_at w64 16 bytes) (number_at w32 24 bytes) (number_at w64 28 bytes)
    (number_at w64 36 bytes)) sectors
    ∙ ap (λ x. copy_row_of row.lba row.sectors x (number_at w32 24 bytes) (number_at w64 28 bytes) (number_at w64 36 bytes)) place
    ∙ ap (λ x. copy_row_of row.lba row.sectors row.place x (number_at w64 28 bytes) (number_at w64 36 bytes)) level
    ∙ ap (λ x. copy_row_of row.lba row.sectors row.place row.source.level x (number_at w64 36 bytes)) number
    ∙ ap (λ x. copy_row_of row.lba row.sectors row.place row.source.level row.source.number x) source_place

pub copy_row_of_bytes : (bytes : List ℕ) → 44 ≤ length bytes → IsBytes bytes → copy_row_bytes (copy_row_in bytes) ≡ take 44 bytes
unfolding copy_row_bytes
copy_row_of_bytes bytes room fits =
    let to_lba : take 8 bytes ≡ to_be_bytes w64 (number_at w64 0 bytes) = part_of_u64 0 bytes (omega (arith, room)) fits in
    let to_sectors = front_more 8 8 bytes _ _ to_lba (part_of_u64 8 bytes (omega (arith, room)) fits) in
    let to_place = front_more 16 8 bytes _ _ to_sectors (part_of_u64 16 bytes (omega (arith, room)) fits) in
    let to_level = front_more 24 4 bytes _ _ to_place (part_of_u32 24 bytes (omega (arith, room)) fits) in
    let to_number = front_more 28 8 bytes _ _ to_level (part_of_u64 28 bytes (omega (arith, room)) fits) in
    sym (front_more 36 8 bytes _ _ to_number (part_of_u64 36 bytes (omega (arith, room)) fits))

copy_row_fits : (volume payload number : ℕ) (before : Option CopyRow) (place : ℕ) (row : CopyRow) → volume < 2 ^ 64
    → payload ≤ 131071 → number < 2 ^ 64
    → IsTrue (copy_may_stand volume payload number before place row) → CopyRowFits row
copy_row_fits volume payload number before place row wide few own stands =
    let inside_and_after = is_inside volume row.lba row.sectors && copy_may_follow before row in
    let room_test = nat_le (place + row.sectors) payload in
    let a = and_parts (inside_and_after && (row.place == place) && room_test) (is_source number row.sectors row.source) stands in
    let b = and_parts (inside_and_after && (row.place == place)) room_test a.0 in
    let c = and_parts inside_and_after (row.place == place) b.0 in
    let d = and_parts (is_inside volume row.lba row.sectors) (copy_may_follow before row) c.0 in
    let e = and_parts (nat_lt 0 row.sectors) (nat_le (row.lba + row.sectors) volume) d.0 in
    let inside : row.lba + row.sectors ≤ volume = leb-true _ _ e.1 in
    let at : row.place ≡ place = eqb-true _ _ c.1 in
    let room : place + row.sectors ≤ payload = leb-true _ _ b.1 in
    let own_and_older = (row.source.level == 0) && nat_lt row.source.number number in
    let s = and_parts own_and_older (nat_le (row.source.place + row.sectors) 131071) a.1 in
    let t = and_parts (row.source.level == 0) (nat_lt row.source.number number) s.0 in
    let level : row.source.level ≡ 0 = eqb-true _ _ t.0 in
    let older : row.source.number < number = ltb-true _ _ t.1 in
    let source : row.source.place + row.sectors ≤ 131071 = leb-true _ _ s.1 in
    record {
      lba = omega (arith, inside, wide);
      sectors = omega (arith, inside, wide);
      place = omega (arith, at, room, few);
      level = omega (arith, level);
      number = omega (arith, older, own);
      source_place = omega (arith, source);
    }

pub copy_rows_fit : (volume payload number : ℕ) (before : Option CopyRow) (place : ℕ) (rows : List CopyRow) → volume < 2 ^ 64
    → payload ≤ 131071 → number < 2 ^ 64
    → IsTrue (copy_rows_may_stand volume payload number before place rows) → AllFit CopyRowFits rows
copy_rows_fit volume payload number before place [] wide few own stand = tt
copy_rows_fit volume payload number before place (row ∷ rows) wide few own stand =
    let parts = and_parts (copy_may_stand volume payload number before place row)
    (copy_rows_may_stand volume payload number (Some row) (place + row.sectors) rows) stand in (
      copy_row_fits volume payload number before place row wide few own parts.0,
      copy_rows_fit volume payload number (Some row) (place + row.sectors) rows wide few own parts.1,
    )
