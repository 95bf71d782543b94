-- The rows of a map as those of a checkpoint.
use Rattle.std.proofs.Common.{◌≡◌, ℕ, ◌+◌, ◌-◌, ◌<◌, ◌≤◌, cond, Bool, true, false, Option, Some, None, List, [], ◌∷◌}
use Rattle.std.proofs.Common.{◌++◌}
use Rattle.std.proofs.Common.{length, length-append, refl, sym, ◌∙◌, ap, subst, arith}
use Rattle.std.specs.Prelude.{IsTrue, IfSome, IfOk, Result, Ok, Err, map, option_map}
use Rattle.std.specs.List.{All}
use Rattle.std.proofs.lemmas.List.{append-nil, length-map}
use Rattle.std.proofs.lemmas.List.Elements.{All-head, All-tail}
use Rattle.std.proofs.lemmas.Bool.Decides.{nat_tests}
use Rattle.extent_map.specs.declared.extent.Extent.{Extent}
use Rattle.extent_map.specs.Extents.{is_within, place_at, ComesBeforeFirst, IsShortest}
use Rattle.extent_map.specs.Laws.{StartsFrom}
use Rattle.extent_map.proofs.Places.{at_inside, after_row, none_before}
use Rattle.object_format.specs.declared.expected.Expected.{Expected}
use Rattle.ckpt_format.specs.declared.place.StoredPlace.{StoredPlace}
use Rattle.ckpt_format.specs.Places.{stored_on}
use Rattle.ckpt_format.specs.Rows.{HasRowWidths, may_stand, AllMayStand, AreCheckpointRows}
use Rattle.ckpt_format.specs.Checkpoint.{IsCheckpoint}
use Rattle.volume_maps.specs.declared.place.ObjectPlace.{ObjectPlace}
use Rattle.volume_maps.specs.Places.{object_on}
use Rattle.object_uploads.specs.Checkpoint.{mapped_place, HoldsPlaces}
use Rattle.object_uploads.specs.Order.{PlaceFits, PlacesFitIn}
use Rattle.object_uploads.specs.Invariant.{stored_row, IsPlaceWide}

-- ---- the places

same_by : (test : Bool) (n : ℕ) (row : Extent ObjectPlace) (stored : Option StoredPlace) (rest : Option ObjectPlace)
    → option_map mapped_place stored ≡ rest
    → option_map mapped_place (cond test (Some (stored_on n (stored_row row).place)) stored)
    ≡ cond test (Some (object_on n row.place)) rest
same_by true n row stored rest same = refl
same_by false n row stored rest same = same

-- the rows of the checkpoint say of each sector what those of the map say
pub same_places : (rows : List (Extent ObjectPlace)) (k : ℕ)
    → option_map mapped_place (place_at stored_on (map stored_row rows) k) ≡ place_at object_on rows k
same_places [] k = refl
same_places (row ∷ rows) k =
    same_by (is_within row.lba row.sectors k) (k - row.lba) row (place_at stored_on (map stored_row rows) k)
    (place_at object_on rows k) (same_places rows k)

before : (row : Extent ObjectPlace) (rows : List (Extent ObjectPlace)) → ComesBeforeFirst object_on row rows
    → ComesBeforeFirst stored_on (stored_row row) (map stored_row rows)
before row [] comes = tt
before row (next ∷ rows) comes = record {
  in_order = comes.in_order;
  apart = λ touch same. comes.apart touch (ap mapped_place same);
}

-- and they are the shortest list of them
shortest : (rows : List (Extent ObjectPlace)) → IsShortest object_on rows → IsShortest stored_on (map stored_row rows)
shortest [] is = tt
shortest (row ∷ rows) is = (is.0, before row rows is.1, shortest rows is.2)

-- ---- each row

-- what holds of a row whose places fit the volume
record RowFitsIn (sectors ancestors last : ℕ) (row : Extent ObjectPlace) : Type 0 where
  some : 0 < row.sectors
  end : row.lba + row.sectors ≤ sectors
  level : row.place.level ≤ ancestors
  number : row.place.level ≡ 0 → row.place.number ≤ last
  payload : row.place.sector + row.sectors ≤ 131071

module _ (sectors ancestors last : ℕ) where
  first_fits : (row : Extent ObjectPlace) (rows : List (Extent ObjectPlace)) → IsShortest object_on (row ∷ rows)
      → PlacesFitIn sectors ancestors last (place_at object_on (row ∷ rows)) → RowFitsIn sectors ancestors last row
  first_fits row rows is fit =
      let k : ℕ = row.lba + (row.sectors - 1) in
      let some : 0 < row.sectors = is.0 in
      let there = at_inside object_on row rows k (omega arith) (omega arith) in
      let fits : PlaceFits sectors ancestors last k (object_on (k - row.lba) row.place) =
      subst (λ place. IfSome place (PlaceFits sectors ancestors last k)) there (fit k) in
      record {
        some = some;
        end = omega (arith, some, fits.inside);
        level = fits.level;
        number = fits.number;
        payload = omega (arith, some, fits.payload);
      }

  rest_by : (test : Bool) (k : ℕ) (first : ObjectPlace) (rest : Option ObjectPlace)
      → IfSome (cond test (Some first) rest) (PlaceFits sectors ancestors last k) → (test ≡ true → rest ≡ None)
      → IfSome rest (PlaceFits sectors ancestors last k)
  rest_by true k first rest fit none = rw (none refl) tt
  rest_by false k first rest fit none = fit

  rest_fit : (row : Extent ObjectPlace) (rows : List (Extent ObjectPlace)) → IsShortest object_on (row ∷ rows)
      → PlacesFitIn sectors ancestors last (place_at object_on (row ∷ rows))
      → PlacesFitIn sectors ancestors last (place_at object_on rows)
  rest_fit row rows is fit k =
      rest_by (is_within row.lba row.sectors k) k (object_on (k - row.lba) row.place) (place_at object_on rows k) (fit k)
      (λ within. let low : k < row.lba + row.sectors = grind (arith, nat_tests) in
      none_before object_on rows (row.lba + row.sectors) k is.2 (after_row object_on row rows is.1) low)

  -- rows with sectors of their own are no more than there are sectors
  few_from : (low : ℕ) (rows : List (Extent ObjectPlace)) → IsShortest object_on rows
      → PlacesFitIn sectors ancestors last (place_at object_on rows) → StartsFrom low rows → low ≤ sectors
      → length rows + low ≤ sectors
  few_from low [] is fit starts within = omega arith
  few_from low (row ∷ rows) is fit starts within =
      let row_fits = first_fits row rows is fit in
      let rest = few_from (row.lba + row.sectors) rows is.2 (rest_fit row rows is fit) (after_row object_on row rows is.1)
      row_fits.end in
      omega (arith, row_fits.some, rest, starts)

starts_at_none : (rows : List (Extent ObjectPlace)) → StartsFrom 0 rows
starts_at_none [] = tt
starts_at_none (row ∷ rows) = omega arith

pub few_rows : (sectors ancestors last : ℕ) (rows : List (Extent ObjectPlace)) → IsShortest object_on rows
    → PlacesFitIn sectors ancestors last (place_at object_on rows) → length rows ≤ sectors
few_rows sectors ancestors last rows is fit =
    let all = few_from sectors ancestors last 0 rows is fit (starts_at_none rows) (omega arith) in
    omega (arith, all)

-- a row may stand in the checkpoint
row_stands : (expected : Expected) (row : Extent ObjectPlace) → 0 < expected.number
    → RowFitsIn expected.sectors expected.ancestors (expected.number - 1) row → IsTrue (may_stand expected (stored_row row))
row_stands expected row some fits =
    let below : row.place.level ≡ 0 → row.place.number < expected.number = λ own. omega (arith, some, fits.number own) in
    let level : row.place.level ≤ expected.ancestors = fits.level in
    let sectors : 0 < row.sectors = fits.some in
    let end : row.lba + row.sectors ≤ expected.sectors = fits.end in
    let payload : row.place.sector + row.sectors ≤ 131071 = fits.payload in
    grind (arith, nat_tests)

row_widths : (expected : Expected) (row : Extent ObjectPlace) → expected.sectors ≤ 2147483648 → IsPlaceWide (stored_row row)
    → RowFitsIn expected.sectors expected.ancestors (expected.number - 1) row → HasRowWidths (stored_row row)
row_widths expected row sectors wide fits = record {
  lba = omega (arith, sectors, fits.end);
  sectors = omega (arith, sectors, fits.end);
  level = wide.0;
  number = wide.1;
  place = omega (arith, fits.payload);
}

all_stand : (expected : Expected) (rows : List (Extent ObjectPlace)) → 0 < expected.number → expected.sectors ≤ 2147483648
    → IsShortest object_on rows → All IsPlaceWide (map stored_row rows)
    → PlacesFitIn expected.sectors expected.ancestors (expected.number - 1) (place_at object_on rows)
    → AllMayStand expected (map stored_row rows)
all_stand expected [] some sectors is wide fit = tt
all_stand expected (row ∷ rows) some sectors is wide fit =
    let last = expected.number - 1 in
    let row_fits = first_fits expected.sectors expected.ancestors last row rows is fit in (
      row_stands expected row some row_fits,
      row_widths expected row sectors (All-head IsPlaceWide (stored_row row) (map stored_row rows) wide) row_fits,
      all_stand expected rows some sectors is.2 (All-tail IsPlaceWide (stored_row row) (map stored_row rows) wide)
          (rest_fit expected.sectors expected.ancestors last row rows is fit),
    )

-- so the rows are those of a checkpoint, where the numbers of their places have the width of their fields
pub are_rows : (expected : Expected) (rows : List (Extent ObjectPlace)) → 0 < expected.number
    → expected.sectors ≤ 2147483648 → IsShortest object_on rows → All IsPlaceWide (map stored_row rows)
    → PlacesFitIn expected.sectors expected.ancestors (expected.number - 1) (place_at object_on rows)
    → AreCheckpointRows expected (map stored_row rows)
are_rows expected rows some sectors is wide fit = record {
  shortest = shortest rows is;
  all_stand = all_stand expected rows some sectors is wide fit;
}

-- and a checkpoint with them holds the places of the map
pub holds : (bytes : List ℕ) (expected : Expected) (end : ℕ) (rows : List (Extent ObjectPlace))
    → IsCheckpoint bytes expected end (map stored_row rows) → HoldsPlaces bytes expected end (place_at object_on rows)
holds bytes expected end rows is = record {
  rows = map stored_row rows;
  is_checkpoint = is;
  same = same_places rows;
}

-- ---- while they are written

-- where a row is left, not all were written
pub row_left : (written : List (Extent StoredPlace)) (left rest all : List (Extent ObjectPlace)) (row : Extent ObjectPlace)
    (count : ℕ) → written ++ map stored_row left ≡ map stored_row all → left ≡ row ∷ rest → count ≡ length all
    → length written < count
row_left written left rest all row count whole first counted =
    let parts = ap length whole in
    let size = length-append written (map stored_row left) in
    let left_size = length-map left stored_row in
    let all_size = length-map all stored_row in
    let more = ap length first in
    omega (arith, parts, size, left_size, all_size, more, counted)

-- and where none is, all were
pub all_written : (written : List (Extent StoredPlace)) (left all : List (Extent ObjectPlace))
    → written ++ map stored_row left ≡ map stored_row all → left ≡ [] → written ≡ map stored_row all
all_written written left all whole none =
    sym (append-nil written) ∙ (ap (λ list. written ++ map stored_row list) (sym none) ∙ whole)

pub spelled : (expected under : Expected) (written : List (Extent StoredPlace)) (rows : List (Extent ObjectPlace))
    → under ≡ expected → written ≡ map stored_row rows → AreCheckpointRows expected (map stored_row rows)
    → AreCheckpointRows under written
spelled expected under written rows same is are =
    subst (λ e. AreCheckpointRows e written) (sym same) (subst (AreCheckpointRows expected) (sym is) are)

pub holds_ok : {E : Type 0} (made : Result (List ℕ) E) (items : List ℕ) (expected under : Expected) (end end_as : ℕ)
    (written : List (Extent StoredPlace)) (rows : List (Extent ObjectPlace)) → IfOk made (λ object. object ≡ items)
    → IsCheckpoint items under end_as written → under ≡ expected → end_as ≡ end → written ≡ map stored_row rows
    → IfOk made (λ bytes. HoldsPlaces bytes expected end (place_at object_on rows))
holds_ok (Ok bytes) items expected under end end_as written rows same is same_expected same_end written_is =
    let by_expected = subst (λ e. IsCheckpoint items e end_as written) same_expected is in
    let by_end = subst (λ n. IsCheckpoint items expected n written) same_end by_expected in
    let by_rows = subst (IsCheckpoint items expected end) written_is by_end in
    subst (λ b. HoldsPlaces b expected end (place_at object_on rows)) (sym same) (holds items expected end rows by_rows)
holds_ok (Err error) items expected under end end_as written rows same is same_expected same_end written_is = tt
