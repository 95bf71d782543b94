-- The rows of a range, and what each of their sectors says of them.
use Rattle.std.proofs.Common.{◌≡◌, ℕ, zero, suc, ◌+◌, ◌-◌, ◌*◌, ◌<◌, ◌≤◌, ◌^◌, inl, inr, cond, Option, Some, None, List, [], ◌∷◌}
use Rattle.std.proofs.Common.{refl, sym, ◌∙◌, ap}
use Rattle.std.proofs.Common.{subst, arith}
use Rattle.std.specs.List.{AllByRecursion, slice_get}
use Rattle.std.proofs.lemmas.Bool.{cases_lt}
use Rattle.extent_map.specs.declared.extent.Extent.{Extent}
use Rattle.extent_map.specs.Extents.{place_at, place_in_range, IsShortest}
use Rattle.extent_map.specs.Laws.{StartsFrom}
use Rattle.extent_map.proofs.Places.{within, not_below, not_past, at_inside, at_past, after_row}
use Rattle.cache_log.specs.declared.row.Row.{Row}
use Rattle.cache_log.specs.declared.row.Row.TheVariants as row_kinds
use Rattle.cache_log.specs.Rows.{position_of, record_size, AreDataOfRow}
use Rattle.cache_log.specs.Log.{LogState, AreData}
use Rattle.volume_maps.specs.declared.place.ObjectPlace.{ObjectPlace}
use Rattle.volume_maps.specs.declared.place.LogPlace.{LogPlace}
use Rattle.volume_maps.specs.declared.place.LogPlace.TheVariants.{Data, Zeros}
use Rattle.volume_maps.specs.declared.place.VolumePlace.{VolumePlace}
use Rattle.volume_maps.specs.declared.place.VolumePlace.TheVariants.{Log, Object}
use Rattle.volume_maps.specs.Places.{volume_on, place_in}
use Rattle.volume_maps.specs.Maps.{MapsState, logged_at, settled_at, volume_place_at}
use Rattle.object_uploads.specs.State.{StoredObject, QueueState}
use Rattle.object_uploads.specs.Queue.{stored_at}
use Rattle.read_plan.specs.Places.{IsDataSector, LogHasPlaces, HasObjectSector, ObjectsHavePlaces}
use Rattle.read_plan.specs.Rows.{IsInRange, AreDataAt, IsReadable, HasSectorAt, IsFetchable}
use Rattle.read_plan.specs.Look.{AreRowsIn}

-- ---- a row by its sectors

-- a row covers a sector, and its sectors have its places
pub record HasSectors (places : ℕ → Option VolumePlace) (row : Extent VolumePlace) : Type 0 where
  pub some : 0 < row.sectors
  pub each : (k : ℕ) → row.lba ≤ k → k < row.lba + row.sectors → places k ≡ Some (volume_on (k - row.lba) row.place)

-- rows in order that give each sector from one on its place
rows_have : (places : ℕ → Option VolumePlace) (at : ℕ) (rows : List (Extent VolumePlace)) → IsShortest volume_on rows
    → StartsFrom at rows
    → ((k : ℕ) → at ≤ k → places k ≡ place_at volume_on rows k) → AllByRecursion (HasSectors places) rows
rows_have places at [] shortest starts gives = tt
rows_have places at (row ∷ rows) shortest starts gives = (
  record {
    some = shortest.0;
    each = λ k low high. gives k (omega arith) ∙ at_inside volume_on row rows k low high;
  },
  rows_have places (row.lba + row.sectors) rows shortest.2 (after_row volume_on row rows shortest.1)
      (λ k past. gives k (omega arith) ∙ at_past volume_on row rows k past),
)

starts_somewhere : (rows : List (Extent VolumePlace)) → StartsFrom 0 rows
starts_somewhere [] = tt
starts_somewhere (row ∷ rows) = omega arith

-- ---- the sectors of a range

-- a sector that has a place in a range lies in it, and has it
pub record IsPlacedIn (lba sectors k : ℕ) (places : ℕ → Option VolumePlace) (place : VolumePlace) : Type 0 where
  pub from : lba ≤ k
  pub to : k < lba + sectors
  pub is : places k ≡ Some place

pub placed_in : (lba sectors k : ℕ) (places : ℕ → Option VolumePlace) (place : VolumePlace)
    → place_in_range lba sectors places k ≡ Some place
    → IsPlacedIn lba sectors k places place
placed_in lba sectors k places place is =
    elim (cases_lt k lba) [
      | inl low ↦ absurd (let none = ap (λ b. cond b (places k) None) (not_below lba sectors k low) in cc)
      | inr from ↦ elim (cases_lt k (lba + sectors)) [
        | inr past ↦ absurd (let none = ap (λ b. cond b (places k) None) (not_past lba sectors k past) in cc)
        | inl to ↦ record {
          from = from;
          to = to;
          is = sym (ap (λ b. cond b (places k) None) (within lba sectors k from to))
              ∙ is;
        }
      ]
    ]

pub in_place : (lba sectors k : ℕ) (places : ℕ → Option VolumePlace) → lba ≤ k → k < lba + sectors
    → place_in_range lba sectors places k ≡ places k
in_place lba sectors k places from to = ap (λ b. cond b (places k) None) (within lba sectors k from to)

-- ---- the rows of a range can be read

-- a place can be read
abbrev pub IsReadablePlace : LogState → QueueState → VolumePlace → Type 0
IsReadablePlace log queue (Log (Data seq sector)) = IsDataSector log seq sector
IsReadablePlace log queue (Log (Zeros seq)) = Unit {0}
IsReadablePlace log queue (Object place) = HasObjectSector (stored_at queue place) place.sector

-- a row lies inside the range, and the place of each of its sectors can be read
pub record IsGood (lba sectors : ℕ) (log : LogState) (queue : QueueState) (row : Extent VolumePlace) : Type 0 where
  pub some : 0 < row.sectors
  pub inside : IsInRange lba sectors row
  pub places : (i : ℕ) → i < row.sectors → IsReadablePlace log queue (volume_on i row.place)

in_log : (logged : Option LogPlace) (settled : Option ObjectPlace) (place : LogPlace) → place_in logged settled ≡ Some (Log place)
    → logged ≡ Some place
in_log None None place is = absurd cc
in_log None (Some other) place is = absurd cc
in_log (Some other) settled place is = cc

readable_place : (lba sectors k : ℕ) (log : LogState) (queue : QueueState) (place : VolumePlace)
    → LogHasPlaces lba sectors queue.maps log
    → ObjectsHavePlaces lba sectors queue → IsPlacedIn lba sectors k (volume_place_at queue.maps) place
    → IsReadablePlace log queue place
readable_place lba sectors k log queue (Log (Data seq sector)) logged fetched placed =
    logged k seq sector placed.from placed.to (in_log (logged_at queue.maps k) (settled_at queue.maps k)
    (Data seq sector) placed.is)
readable_place lba sectors k log queue (Log (Zeros seq)) logged fetched placed = tt
readable_place lba sectors k log queue (Object place) logged fetched placed = fetched k place placed.from placed.to placed.is

good_row : (lba sectors : ℕ) (log : LogState) (queue : QueueState) (row : Extent VolumePlace)
    → LogHasPlaces lba sectors queue.maps log
    → ObjectsHavePlaces lba sectors queue → HasSectors (place_in_range lba sectors (volume_place_at queue.maps)) row
    → IsGood lba sectors log queue row
good_row lba sectors log queue row logged fetched has =
    let places = volume_place_at queue.maps in
    let placed = λ (k : ℕ) (low : row.lba ≤ k) (high : k < row.lba + row.sectors).
    placed_in lba sectors k places (volume_on (k - row.lba) row.place) (has.each k low high) in
    let some = has.some in
    record {
      some = some;
      inside = record {
        from = (placed row.lba (omega arith) (omega (arith, some))).from;
        to = (let last = (placed (row.lba + row.sectors - 1) (omega (arith, some)) (omega (arith, some))).to in
            omega (arith, last, some));
      };
      places = λ i less.
          let here : row.lba + i - row.lba ≡ i = omega arith in
          subst (λ n. IsReadablePlace log queue (volume_on n row.place)) here
          (readable_place lba sectors (row.lba + i) log queue (volume_on (row.lba + i - row.lba) row.place) logged fetched
          (placed (row.lba + i) (omega arith) (omega (arith, less))));
    }

all_good : (lba sectors : ℕ) (log : LogState) (queue : QueueState) (rows : List (Extent VolumePlace))
    → LogHasPlaces lba sectors queue.maps log
    → ObjectsHavePlaces lba sectors queue → AllByRecursion (HasSectors (place_in_range lba sectors (volume_place_at queue.maps)))
    rows
    → AllByRecursion (IsGood lba sectors log queue) rows
all_good lba sectors log queue [] logged fetched has = tt
all_good lba sectors log queue (row ∷ rows) logged fetched has =
    (good_row lba sectors log queue row logged fetched has.0, all_good lba sectors log queue rows logged fetched has.1)

pub rows_have_sectors : (lba sectors : ℕ) (maps : MapsState) (rows : List (Extent VolumePlace)) → AreRowsIn lba sectors maps rows
    → AllByRecursion (HasSectors (place_in_range lba sectors (volume_place_at maps))) rows
rows_have_sectors lba sectors maps rows are =
    rows_have (place_in_range lba sectors (volume_place_at maps)) 0 rows are.shortest (starts_somewhere rows)
    (λ k past. sym (are.places k))

pub good_rows : (lba sectors : ℕ) (log : LogState) (queue : QueueState) (rows : List (Extent VolumePlace))
    → LogHasPlaces lba sectors queue.maps log
    → ObjectsHavePlaces lba sectors queue → AreRowsIn lba sectors queue.maps rows
    → AllByRecursion (IsGood lba sectors log queue) rows
good_rows lba sectors log queue rows logged fetched are =
    all_good lba sectors log queue rows logged fetched (rows_have_sectors lba sectors queue.maps rows are)

-- ---- by the log

pub same_row : (a b : Row) → ◌≡◌ {A = Option Row} (Some a) (Some b) → a ≡ b
same_row a b is = cc

data_of_row : (row : Row) (sector count : ℕ) → 0 < count → position_of row + 1 ≤ sector
    → sector + count ≤ position_of row + record_size row
    → AreDataOfRow row sector (512 * count)
data_of_row (row_kinds.Write seq at lba sectors) sector count some from to = (from, omega arith)
data_of_row (row_kinds.Zero seq at lba sectors) sector count some from to = absurd (omega arith)

data_at : (rows : List Row) (i sector count : ℕ) (row : Row) → slice_get rows i ≡ Some row → AreDataOfRow row sector count
    → AreData rows sector count
data_at [] i sector count row is there = absurd cc
data_at (first ∷ rows) zero sector count row is there =
    inl (subst (λ r. AreDataOfRow r sector count) (sym (same_row first row is)) there)
data_at (first ∷ rows) (suc i) sector count row is there = inr (data_at rows i sector count row is there)

-- the record that has the sectors of a place
pub record HasRecord (log : LogState) (seq sector count : ℕ) : Type 0 where
  pub row : Row
  pub stands : slice_get log.rows (seq - log.first) ≡ Some row
  pub there : AreDataOfRow row sector (512 * count)

pub has_record : (log : LogState) (queue : QueueState) (seq sector count : ℕ) → 0 < count
    → ((i : ℕ) → i < count → IsReadablePlace log queue (volume_on i (Log (Data seq sector)))) → HasRecord log seq sector count
has_record log queue seq sector count some places =
    let first = places 0 some in
    let last = places (count - 1) (omega (arith, some)) in
    let one = same_row last.row first.row (sym last.stands ∙ first.stands) in
    let end = subst (λ r. sector + (count - 1) < position_of r + record_size r) one last.to in
    let from = first.from in
    record {
      row = first.row;
      stands = first.stands;
      there = data_of_row first.row sector count some (omega (arith, from)) (omega (arith, end, some));
    }

data_of_place : (log : LogState) (queue : QueueState) (place : VolumePlace) (count : ℕ) → 0 < count
    → ((i : ℕ) → i < count → IsReadablePlace log queue (volume_on i place)) → AreDataAt log.rows place (512 * count)
data_of_place log queue (Log (Data seq sector)) count some places =
    let record' = has_record log queue seq sector count some places in
    data_at log.rows (seq - log.first) sector (512 * count) record'.row record'.stands record'.there
data_of_place log queue (Log (Zeros seq)) count some places = tt
data_of_place log queue (Object place) count some places = tt

pub all_readable : (lba sectors : ℕ) (log : LogState) (queue : QueueState) (rows : List (Extent VolumePlace))
    → AllByRecursion (IsGood lba sectors log queue) rows → AllByRecursion (IsReadable lba sectors log) rows
all_readable lba sectors log queue [] good = tt
all_readable lba sectors log queue (row ∷ rows) good = (
  record { inside = good.0.inside; are_data = data_of_place log queue row.place row.sectors good.0.some good.0.places },
  all_readable lba sectors log queue rows good.1,
)

-- ---- by objects

-- an object is in the store, and its payload has so many sectors from one on
pub record HasObject (given : Option StoredObject) (sector count : ℕ) : Type 0 where
  pub object : StoredObject
  pub is : given ≡ Some object
  pub covers : 512 * (object.front + sector) + 512 * count ≤ object.receipt.size

pub has_object : (given : Option StoredObject) (sector count : ℕ) → 0 < count
    → ((i : ℕ) → i < count → HasObjectSector given (sector + i))
    → HasObject given sector count
has_object None sector count some places = absurd (places 0 some)
has_object (Some object) sector count some places =
    record {
      object = object;
      is = refl;
      covers = (let last = places (count - 1) (omega (arith, some)) in
          omega (arith, last, some));
    }

first_sector : (log : LogState) (queue : QueueState) (place : VolumePlace) (count : ℕ) → 0 < count
    → ((i : ℕ) → i < count → IsReadablePlace log queue (volume_on i place)) → HasSectorAt queue place
first_sector log queue (Log place) count some places = tt
first_sector log queue (Object place) count some places =
    let first : place.sector + 0 ≡ place.sector = omega arith in
    subst (λ (n : ℕ). HasObjectSector (stored_at queue place) n) first (places 0 some)

pub all_fetchable : (lba sectors : ℕ) (log : LogState) (queue : QueueState) (rows : List (Extent VolumePlace))
    → lba + sectors ≤ 2 ^ 31
    → AllByRecursion (IsGood lba sectors log queue) rows → AllByRecursion (IsFetchable lba queue) rows
all_fetchable lba sectors log queue [] below good = tt
all_fetchable lba sectors log queue (row ∷ rows) below good = (
  record {
    from = good.0.inside.from;
    to = (let to = good.0.inside.to in omega (arith, to, below));
    stored = first_sector log queue row.place row.sectors good.0.some good.0.places;
  },
  all_fetchable lba sectors log queue rows below good.1,
)
