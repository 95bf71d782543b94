-- Rows that are given one after the other, and the one spelling that they keep.
use Rattle.std.proofs.Common.{◌≡◌, ℕ, ◌+◌, ◌<◌, ◌≤◌, ◌&&◌, ◌||◌, nat_lt, nat_le, IsTrue, Option, Some, None, List, [], ◌∷◌, ◌++◌}
use Rattle.std.proofs.Common.{length, refl, arith}
use Rattle.std.specs.Option.{IfSome}
use Rattle.std.proofs.lemmas.Bool.{and_parts, leb-true, ltb-true}
use Rattle.extent_map.specs.declared.extent.Extent.{Extent}
use Rattle.extent_map.specs.Extents.{ComesBefore, IsShortest}
use Rattle.extent_map.specs.Laws.{StartsFrom}
use Rattle.extent_map.proofs.Places.{after_row}
use Rattle.object_format.specs.declared.expected.Expected.{Expected}
use Rattle.object_format.specs.Rows.{is_inside}
use Rattle.object_format.specs.Laws.{last_of}
use Rattle.ckpt_format.specs.declared.place.StoredPlace.{StoredPlace}
use Rattle.ckpt_format.specs.Places.{stored_on}
use Rattle.ckpt_format.specs.Rows.{HasRowWidths, may_stand, MayComeAfter, AllMayStand, AreCheckpointRows}
use Rattle.ckpt_format.specs.Fields.{AllHaveWidths}

-- ---- what a row that may stand says

pub record Stands (expected : Expected) (row : Extent StoredPlace) : Type 0 where
  pub some : 0 < row.sectors
  pub inside : row.lba + row.sectors ≤ expected.sectors
  pub in_payload : row.place.place + row.sectors ≤ 131071

pub stands : (expected : Expected) (row : Extent StoredPlace) → IsTrue (may_stand expected row) → Stands expected row
stands expected row is =
    let level = nat_le row.place.level expected.ancestors in
    let older = nat_lt 0 row.place.level || nat_lt row.place.number expected.number in
    let inside = is_inside expected.sectors row.lba row.sectors in
    let a = and_parts (inside && level && older) (nat_le (row.place.place + row.sectors) 131071) is in
    let b = and_parts (inside && level) older a.0 in
    let c = and_parts inside level b.0 in
    let d = and_parts (nat_lt 0 row.sectors) (nat_le (row.lba + row.sectors) expected.sectors) c.0 in
    record { some = ltb-true _ _ d.0; inside = leb-true _ _ d.1; in_payload = leb-true _ _ a.1 }

pub all_widths : (expected : Expected) (rows : List (Extent StoredPlace)) → AllMayStand expected rows → AllHaveWidths rows
all_widths expected [] stand = tt
all_widths expected (row ∷ rows) stand = (stand.1, all_widths expected rows stand.2)

-- ---- one row more

-- a row comes after the last one, if there is one
abbrev Follows : Option (Extent StoredPlace) → Extent StoredPlace → Type 0
Follows None row = Unit {0}
Follows (Some before) row = ComesBefore stored_on before row

pub last_of_more : (before : Option (Extent StoredPlace)) (rows : List (Extent StoredPlace)) (row : Extent StoredPlace)
    → last_of before (rows ++ row ∷ []) ≡ Some row
last_of_more before [] row = refl
last_of_more before (first ∷ rows) row = last_of_more (Some first) rows row

shortest_more : (rows : List (Extent StoredPlace)) (row : Extent StoredPlace) → IsShortest stored_on rows → 0 < row.sectors
    → Follows (last_of None rows) row → IsShortest stored_on (rows ++ row ∷ [])
shortest_more [] row shortest some follows = (some, tt, tt)
shortest_more (last ∷ []) row shortest some follows = (shortest.0, follows, (some, tt, tt))
shortest_more (first ∷ second ∷ rows) row shortest some follows =
    (shortest.0, shortest.1, shortest_more (second ∷ rows) row shortest.2 some follows)

all_more : (expected : Expected) (rows : List (Extent StoredPlace)) (row : Extent StoredPlace) → AllMayStand expected rows
    → IsTrue (may_stand expected row) → HasRowWidths row → AllMayStand expected (rows ++ row ∷ [])
all_more expected [] row stand may fits = (may, fits, tt)
all_more expected (first ∷ rows) row stand may fits = (stand.0, stand.1, all_more expected rows row stand.2 may fits)

stands_alone : (expected : Expected) (before : Option (Extent StoredPlace)) (row : Extent StoredPlace)
    → MayComeAfter expected before row → IsTrue (may_stand expected row)
stands_alone expected None row may = may
stands_alone expected (Some before) row may = may.0

follows_last : (expected : Expected) (before : Option (Extent StoredPlace)) (row : Extent StoredPlace)
    → MayComeAfter expected before row → Follows before row
follows_last expected None row may = tt
follows_last expected (Some before) row may = may.1

pub rows_more : (expected : Expected) (rows : List (Extent StoredPlace)) (row : Extent StoredPlace)
    → AreCheckpointRows expected rows → MayComeAfter expected (last_of None rows) row → HasRowWidths row
    → AreCheckpointRows expected (rows ++ row ∷ [])
rows_more expected rows row are may fits =
    let alone = stands_alone expected (last_of None rows) row may in
    let some : 0 < row.sectors = (stands expected row alone).some in
    record {
      shortest = shortest_more rows row are.shortest some (follows_last expected (last_of None rows) row may);
      all_stand = all_more expected rows row are.all_stand alone fits;
    }

-- ---- a row among others

shortest_at : (rows : List (Extent StoredPlace)) (row : Extent StoredPlace) (rest : List (Extent StoredPlace))
    → IsShortest stored_on (rows ++ row ∷ rest) → Follows (last_of None rows) row
shortest_at [] row rest shortest = tt
shortest_at (last ∷ []) row rest shortest = shortest.1
shortest_at (first ∷ second ∷ rows) row rest shortest = shortest_at (second ∷ rows) row rest shortest.2

all_at : (expected : Expected) (rows : List (Extent StoredPlace)) (row : Extent StoredPlace) (rest : List (Extent StoredPlace))
    → AllMayStand expected (rows ++ row ∷ rest) → IsTrue (may_stand expected row)
all_at expected [] row rest stand = stand.0
all_at expected (first ∷ rows) row rest stand = all_at expected rows row rest stand.2

comes_after : (expected : Expected) (before : Option (Extent StoredPlace)) (row : Extent StoredPlace)
    → IsTrue (may_stand expected row) → Follows before row → MayComeAfter expected before row
comes_after expected None row may follows = may
comes_after expected (Some before) row may follows = (may, follows)

pub row_at : (expected : Expected) (rows : List (Extent StoredPlace)) (row : Extent StoredPlace)
    (rest : List (Extent StoredPlace))
    → AreCheckpointRows expected (rows ++ row ∷ rest) → MayComeAfter expected (last_of None rows) row
row_at expected rows row rest are =
    comes_after expected (last_of None rows) row (all_at expected rows row rest are.all_stand)
    (shortest_at rows row rest are.shortest)

-- the last of rows that may stand may stand
last_from : (expected : Expected) (before : Option (Extent StoredPlace)) (rows : List (Extent StoredPlace))
    → IfSome before (λ row. IsTrue (may_stand expected row)) → AllMayStand expected rows
    → IfSome (last_of before rows) (λ row. IsTrue (may_stand expected row))
last_from expected before [] may stand = may
last_from expected before (row ∷ rows) may stand = last_from expected (Some row) rows stand.0 stand.2

pub last_stands : (expected : Expected) (rows : List (Extent StoredPlace)) → AllMayStand expected rows
    → IfSome (last_of None rows) (λ row. IsTrue (may_stand expected row))
last_stands expected rows stand = last_from expected None rows tt stand

-- ---- how many they are

count_from : (expected : Expected) (at : ℕ) (rows : List (Extent StoredPlace)) → at ≤ expected.sectors → StartsFrom at rows
    → IsShortest stored_on rows → AllMayStand expected rows → at + length rows ≤ expected.sectors
count_from expected at [] low starts shortest stand = omega (arith, low)
count_from expected at (row ∷ rows) low starts shortest stand =
    let is = stands expected row stand.0 in
    omega (
      arith,
      starts,
      is.some,
      count_from expected (row.lba + row.sectors) rows is.inside (after_row stored_on row rows shortest.1) shortest.2 stand.2,
    )

starts_from_zero : (rows : List (Extent StoredPlace)) → StartsFrom 0 rows
starts_from_zero [] = tt
starts_from_zero (row ∷ rows) = omega arith

-- there are no more of them than the volume has sectors
pub count_within : (expected : Expected) (rows : List (Extent StoredPlace)) → AreCheckpointRows expected rows
    → length rows ≤ expected.sectors
count_within expected rows are =
    omega (
      arith,
      count_from expected 0 rows (omega arith) (starts_from_zero rows) are.shortest are.all_stand,
    )
