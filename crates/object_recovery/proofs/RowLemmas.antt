-- What the rows of a checkpoint say of places, and how they become the map of a list.
use Rattle.std.proofs.Common.{◌≡◌, ℕ, ◌+◌, ◌-◌, ◌<◌, ◌≤◌, true, false, cond, Bool, Option, Some, None, List, [], ◌∷◌, ◌++◌, refl}
use Rattle.std.proofs.Common.{sym, ◌∙◌, ap, subst, arith}
use Rattle.std.specs.Prelude.{IsTrue, ◌&&◌, ◌||◌, nat_lt, nat_le, option_map}
use Rattle.std.proofs.lemmas.Bool.{and_parts, leb-true, ltb-true}
use Rattle.std.proofs.lemmas.Bool.Decides.{nat_tests}
use Rattle.extent_map.specs.declared.extent.Extent.{Extent}
use Rattle.extent_map.specs.Extents.{is_within, place_at, place_after_set, IsShortest}
use Rattle.extent_map.proofs.Order.{in_front}
use Rattle.object_format.specs.declared.expected.Expected.{Expected}
use Rattle.object_format.specs.Rows.{is_inside}
use Rattle.ckpt_format.specs.declared.place.StoredPlace.{StoredPlace}
use Rattle.ckpt_format.specs.Places.{stored_on}
use Rattle.ckpt_format.specs.Rows.{may_stand, AllMayStand, AreCheckpointRows}
use Rattle.ckpt_format.proofs.SpellingLemmas.{Stands, stands}
use Rattle.volume_maps.specs.declared.place.ObjectPlace.{ObjectPlace}
use Rattle.volume_maps.specs.Places.{object_on}
use Rattle.object_uploads.specs.Checkpoint.{mapped_place}
use Rattle.object_recovery.proofs.EarlierLemmas.{last_place}

-- ---- what a row and its places say

-- the level and the number of a row's object
pub record NamesObject (expected : Expected) (row : Extent StoredPlace) : Type 0 where
  pub level : row.place.level ≤ expected.ancestors
  pub number : row.place.level ≡ 0 → row.place.number < expected.number

older_by : (above below : Bool) (level number most : ℕ) → nat_lt 0 level ≡ above → nat_lt number most ≡ below
    → IsTrue (above || below)
    → level ≡ 0 → number < most
older_by true below level number most is_above is_below is own = absurd (grind (arith, nat_tests))
older_by false true level number most is_above is_below is own = ltb-true number most is_below
older_by false false level number most is_above is_below is own = absurd cc

pub names_object : (expected : Expected) (row : Extent StoredPlace) → IsTrue (may_stand expected row) → NamesObject expected row
names_object expected row is =
    let level = nat_le row.place.level expected.ancestors in
    let older = nat_lt 0 row.place.level || nat_lt row.place.number expected.number in
    let inside = is_inside expected.sectors row.lba row.sectors in
    let a = and_parts (inside && level && older) (nat_le (row.place.place + row.sectors) 131071) is in
    let b = and_parts (inside && level) older a.0 in
    let c = and_parts inside level b.0 in
    record {
      level = leb-true row.place.level expected.ancestors c.1;
      number =
          older_by (nat_lt 0 row.place.level) (nat_lt row.place.number expected.number) row.place.level row.place.number
          expected.number refl refl b.1;
    }

-- a place that rows of a checkpoint give a sector
pub record PlaceStands (expected : Expected) (k : ℕ) (place : StoredPlace) : Type 0 where
  pub level : place.level ≤ expected.ancestors
  pub number : place.level ≡ 0 → place.number < expected.number
  pub payload : place.place < 131071
  pub inside : k < expected.sectors

stands_by : (expected : Expected) (row : Extent StoredPlace) (k : ℕ) (place : StoredPlace) (b : Bool) (rest : Option StoredPlace)
    → is_within row.lba row.sectors k ≡ b → IsTrue (may_stand expected row)
    → (rest ≡ Some place → PlaceStands expected k place)
    → cond b (Some (stored_on (k - row.lba) row.place)) rest ≡ Some place → PlaceStands expected k place
stands_by expected row k place true rest within may more is =
    let own = stands expected row may in
    let names = names_object expected row may in
    let same : stored_on (k - row.lba) row.place ≡ place = cc in
    let low : row.lba ≤ k = grind (arith, nat_tests) in
    let high : k < row.lba + row.sectors = grind (arith, nat_tests) in
    subst (PlaceStands expected k) same (record {
      level = names.level;
      number = names.number;
      payload = omega (arith, own.in_payload, low, high);
      inside = omega (arith, own.inside, high);
    })
stands_by expected row k place false rest within may more is = more is

pub place_stands : (expected : Expected) (rows : List (Extent StoredPlace)) (k : ℕ) (place : StoredPlace)
    → AllMayStand expected rows → place_at stored_on rows k ≡ Some place → PlaceStands expected k place
place_stands expected [] k place stand is = absurd cc
place_stands expected (row ∷ rows) k place stand is =
    stands_by expected row k place (is_within row.lba row.sectors k) (place_at stored_on rows k) refl stand.0
    (place_stands expected rows k place stand.2) is

-- the last of rows may stand
all_at : (expected : Expected) (rows : List (Extent StoredPlace)) (row : Extent StoredPlace)
    → AllMayStand expected (rows ++ row ∷ []) → IsTrue (may_stand expected row)
all_at expected [] row stand = stand.0
all_at expected (first ∷ rows) row stand = all_at expected rows row stand.2

pub last_stands_so : (expected : Expected) (rows : List (Extent StoredPlace)) (row : Extent StoredPlace)
    → AreCheckpointRows expected (rows ++ row ∷ []) → Stands expected row
last_stands_so expected rows row are = stands expected row (all_at expected rows row are.all_stand)

pub last_names : (expected : Expected) (rows : List (Extent StoredPlace)) (row : Extent StoredPlace)
    → AreCheckpointRows expected (rows ++ row ∷ []) → NamesObject expected row
last_names expected rows row are = names_object expected row (all_at expected rows row are.all_stand)

-- ---- a row more in the map

outside_by : (row : Extent StoredPlace) (k : ℕ) → is_within row.lba row.sectors k ≡ false
    → place_at stored_on (row ∷ []) k ≡ None
outside_by row k outside = ap (λ b. cond b (Some (stored_on (k - row.lba) row.place)) None) outside

map_by : (rows : List (Extent StoredPlace)) (row : Extent StoredPlace) (k : ℕ) (b : Bool)
    → is_within row.lba row.sectors k ≡ b → IsShortest stored_on (rows ++ row ∷ [])
    → cond b (Some (object_on (k - row.lba) (mapped_place row.place))) (option_map mapped_place (place_at stored_on rows k))
    ≡ option_map mapped_place (place_at stored_on (rows ++ row ∷ []) k)
map_by rows row k true within shortest =
    let low : row.lba ≤ k = grind (arith, nat_tests) in
    let high : k < row.lba + row.sectors = grind (arith, nat_tests) in
    sym (ap (option_map mapped_place) (last_place rows row k shortest low high))
map_by rows row k false within shortest =
    sym (ap (option_map mapped_place) (in_front stored_on rows (row ∷ []) k (outside_by row k within)))

-- a row of a checkpoint that is set in the map after those before it gives the places of all
pub map_more : (rows : List (Extent StoredPlace)) (row : Extent StoredPlace) (before : ℕ → Option ObjectPlace) (k : ℕ)
    → IsShortest stored_on (rows ++ row ∷ [])
    → before k ≡ option_map mapped_place (place_at stored_on rows k)
    → place_after_set object_on row.lba row.sectors (mapped_place row.place) before k
    ≡ option_map mapped_place (place_at stored_on (rows ++ row ∷ []) k)
map_more rows row before k shortest was =
    ap (λ old. cond (is_within row.lba row.sectors k) (Some (object_on (k - row.lba) (mapped_place row.place))) old) was
    ∙ map_by rows row k (is_within row.lba row.sectors k) refl shortest
