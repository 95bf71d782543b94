-- The places of sectors stay inside the volume and its objects while objects are settled.
use Rattle.std.proofs.Common.{◌≡◌, ℕ, zero, suc, ◌+◌, ◌-◌, ◌<◌, ◌≤◌, ◌^◌, ◌&&◌, Bool, true, false, cond, Option}
use Rattle.std.proofs.Common.{Some, None, List, [], ◌∷◌, length, take, refl, sym, ap, subst, arith}
use Rattle.std.specs.Prelude.{IfSome}
use Rattle.std.specs.List.{AllByRecursion}
use Rattle.std.proofs.lemmas.Bool.Decides.{nat_tests}
use Rattle.extent_map.specs.declared.extent.Extent.{Extent}
use Rattle.extent_map.specs.Extents.{is_within, place_after_set}
use Rattle.object_format.specs.declared.copy_row.CopyRow.{CopyRow}
use Rattle.object_format.specs.declared.data_row.DataRow.{DataRow}
use Rattle.volume_maps.specs.declared.place.ObjectPlace.{ObjectPlace}
use Rattle.volume_maps.specs.Places.{object_on}
use Rattle.volume_maps.specs.Live.{is_live}
use Rattle.volume_maps.specs.Maps.{MapsState, RowsFit, CopyRowsFit, row_object_place, settled_by_row, settled_by, settled_at}
use Rattle.volume_maps.specs.Maps.{settled_by_copy_row, settled_by_copy}
use Rattle.object_uploads.specs.declared.rows.SealedRows.{SealedRows}
use Rattle.object_uploads.specs.declared.rows.SealedRows.TheVariants.{Data, Copy, Checkpoint}
use Rattle.object_uploads.specs.State.{SealedState}
use Rattle.object_uploads.specs.Queue.{FitsVolume, FitObject, CopyFitsVolume, FitCopy, FitSealed, settled_by_rows}
use Rattle.object_uploads.specs.Queue.{settled_by_all, SettlesSealed, SettlesObjects}
use Rattle.object_uploads.specs.Order.{PlaceFits, PlacesFit}
use Rattle.object_uploads.specs.Invariant.{MapsCanTake, MapsCanCopy, MaySettle}

-- ---- rows that fit a volume fit the maps

small : (n : ℕ) → n ≤ 2147483648 → n < 2 ^ 63
small n low = omega (arith, low)

place_fits : (sectors : ℕ) (place : Option ℕ) → IfSome place (λ p. p + sectors ≤ 131071)
    → IfSome place (λ p. p + sectors < 2 ^ 32)
place_fits sectors None fit = tt
place_fits sectors (Some p) fit = omega (arith, fit)

rows_take : (sectors : ℕ) (rows : List DataRow) → sectors ≤ 2147483648 → AllByRecursion (FitsVolume sectors) rows
    → RowsFit rows
rows_take sectors [] low fit = tt
rows_take sectors (row ∷ rows) low fit =
    let inside : row.lba + row.sectors ≤ 2147483648 = omega (arith, fit.0.sectors_are, low) in (
      record { sectors = small (row.lba + row.sectors) inside; place = place_fits row.sectors row.place fit.0.place },
      rows_take sectors rows low fit.1,
    )

pub maps_can_take : (sectors : ℕ) (rows : List DataRow) → sectors ≤ 2147483648 → FitObject sectors rows → MapsCanTake rows
maps_can_take sectors rows low fit = record { count = fit.count; fit = rows_take sectors rows low fit.fit }

copies_take : (sectors : ℕ) (rows : List CopyRow) → sectors ≤ 2147483648 → AllByRecursion (CopyFitsVolume sectors) rows
    → CopyRowsFit rows
copies_take sectors [] low fit = tt
copies_take sectors (row ∷ rows) low fit =
    let inside : row.lba + row.sectors ≤ 2147483648 = omega (arith, fit.0.sectors_are, low) in (
      record { sectors = small (row.lba + row.sectors) inside; place = omega (arith, fit.0.place) },
      copies_take sectors rows low fit.1,
    )

pub maps_can_copy : (sectors : ℕ) (rows : List CopyRow) → sectors ≤ 2147483648 → FitCopy sectors rows → MapsCanCopy rows
maps_can_copy sectors rows low fit =
    record { count = fit.count; copied = fit.copied; fit = copies_take sectors rows low fit.fit }

-- so any that fit may be settled
pub may_settle : (sectors : ℕ) (rows : SealedRows) → sectors ≤ 2147483648 → FitSealed sectors rows → MaySettle rows
may_settle sectors (Data list) low fit = maps_can_take sectors list.items low fit
may_settle sectors (Copy list) low fit = maps_can_copy sectors list.items low fit
may_settle sectors Checkpoint low fit = tt

-- ---- a data object

abbrev Fits : (sectors ancestors last k : ℕ) → Option ObjectPlace → Type 0
Fits sectors ancestors last k place = IfSome place (PlaceFits sectors ancestors last k)

module _ (sectors ancestors : ℕ) where
  fits_later : (last later k : ℕ) (place : Option ObjectPlace) → last ≤ later → Fits sectors ancestors last k place
      → Fits sectors ancestors later k place
  fits_later last later k None order fit = tt
  fits_later last later k (Some place) order fit =
      record {
        inside = fit.inside;
        level = fit.level;
        number = λ own. omega (arith, fit.number own, order);
        payload = fit.payload;
      }

  put_fits : (number k : ℕ) (row : DataRow) (place : Option ℕ) → row.lba + row.sectors ≤ sectors
      → IfSome place (λ p. p + row.sectors ≤ 131071) → row.lba ≤ k → k < row.lba + row.sectors
      → Fits sectors ancestors number k (row_object_place number place (k - row.lba))
  put_fits number k row None inside low from to = tt
  put_fits number k row (Some place) inside low from to =
      record {
        inside = omega (arith, inside, to);
        level = omega arith;
        number = λ own. omega arith;
        payload = omega (arith, low, from, to);
      }

  row_test : (test : Bool) (number k : ℕ) (row : DataRow) (before : Option ObjectPlace) → FitsVolume sectors row
      → is_within row.lba row.sectors k ≡ test → Fits sectors ancestors number k before
      → Fits sectors ancestors number k (cond test (row_object_place number row.place (k - row.lba)) before)
  row_test true number k row before fit within of_before =
      let from : row.lba ≤ k = grind (arith, nat_tests) in
      let to : k < row.lba + row.sectors = grind (arith, nat_tests) in
      put_fits number k row row.place fit.sectors_are fit.place from to
  row_test false number k row before fit within of_before = of_before

  rows_fit : (number k : ℕ) (rows : List DataRow) (before : Option ObjectPlace) → AllByRecursion (FitsVolume sectors) rows
      → Fits sectors ancestors number k before → Fits sectors ancestors number k (settled_by number rows before k)
  rows_fit number k [] before fit of_before = of_before
  rows_fit number k (row ∷ rows) before fit of_before =
      rows_fit number k rows (settled_by_row number row before k) fit.1
      (row_test (is_within row.lba row.sectors k) number k row before fit.0 refl of_before)

  object_fits : (number k : ℕ) (rows : List DataRow) (before : Option ObjectPlace) → FitObject sectors rows
      → Fits sectors ancestors number k before → Fits sectors ancestors (number + 1) k (settled_by (number + 1) rows before k)
  object_fits number k rows before fit of_before =
      rows_fit (number + 1) k rows before fit.fit (fits_later number (number + 1) k before (omega arith) of_before)

  -- ---- a copy

  copied_test : (within live : Bool) (number k : ℕ) (row : CopyRow) (before : Option ObjectPlace) → CopyFitsVolume sectors row
      → is_within row.lba row.sectors k ≡ within → Fits sectors ancestors number k before
      → Fits sectors ancestors number k
      (cond (within && live) (Some (record { level = 0; number = number; sector = row.place + (k - row.lba) })) before)
  copied_test true true number k row before fit within of_before =
      let from : row.lba ≤ k = grind (arith, nat_tests) in
      let to : k < row.lba + row.sectors = grind (arith, nat_tests) in
      record {
        inside = omega (arith, fit.sectors_are, to);
        level = omega arith;
        number = λ own. omega arith;
        payload = omega (arith, fit.place, from, to);
      }
  copied_test true false number k row before fit within of_before = of_before
  copied_test false live number k row before fit within of_before = of_before

  copies_fit : (number k : ℕ) (rows : List CopyRow) (before : Option ObjectPlace) → AllByRecursion (CopyFitsVolume sectors) rows
      → Fits sectors ancestors number k before → Fits sectors ancestors number k (settled_by_copy number rows before k)
  copies_fit number k [] before fit of_before = of_before
  copies_fit number k (row ∷ rows) before fit of_before =
      copies_fit number k rows (settled_by_copy_row number row before k) fit.1
      (copied_test (is_within row.lba row.sectors k) (is_live row.source.number before) number k row before fit.0 refl of_before)

  copy_fits : (number k : ℕ) (rows : List CopyRow) (before : Option ObjectPlace) → FitCopy sectors rows
      → Fits sectors ancestors number k before
      → Fits sectors ancestors (number + 1) k (settled_by_copy (number + 1) rows before k)
  copy_fits number k rows before fit of_before =
      copies_fit (number + 1) k rows before fit.fit (fits_later number (number + 1) k before (omega arith) of_before)

  -- ---- sealed objects

  pub sealed_fits : (number k : ℕ) (rows : SealedRows) (before : Option ObjectPlace) → FitSealed sectors rows
      → Fits sectors ancestors number k before
      → Fits sectors ancestors (number + 1) k (settled_by_rows (number + 1) rows before k)
  sealed_fits number k (Data list) before fit of_before = object_fits number k list.items before fit of_before
  sealed_fits number k (Copy list) before fit of_before = copy_fits number k list.items before fit of_before
  sealed_fits number k Checkpoint before fit of_before = fits_later number (number + 1) k before (omega arith) of_before

  abbrev AllFit : List SealedState → Type 0
  AllFit list = AllByRecursion (λ (sealed : SealedState). FitSealed sectors sealed.rows) list

  pub all_fit : (number k : ℕ) (list : List SealedState) (before : Option ObjectPlace) → AllFit list
      → Fits sectors ancestors number k before
      → Fits sectors ancestors (number + length list) k (settled_by_all number list before k)
  all_fit number k [] before fit of_before = let same : number + 0 ≡ number = omega arith in rw same of_before
  all_fit number k (sealed ∷ more) before fit of_before =
      let same : number + suc (length more) ≡ number + 1 + length more = omega arith in
      rw same (all_fit (number + 1) k more (settled_by_rows (number + 1) sealed.rows before k) fit.1
      (sealed_fits number k sealed.rows before fit.0 of_before))

  -- what the maps have after a sealed object was settled
  pub settled_is : (number size end : ℕ) (rows : SealedRows) (old new : MapsState) → SettlesSealed number size rows end old new
      → (k : ℕ) → settled_at new k ≡ settled_by_rows number rows (settled_at old k) k
  settled_is number size end (Data list) old new settles k = settles.settled k
  settled_is number size end (Copy list) old new settles k = settles.settled k
  settled_is number size end Checkpoint old new settles k =
      ap (λ m. settled_at (record old { settled = m }) k) settles.settled

  pub places_settled : (number count : ℕ) (list : List SealedState) (old new : MapsState) → count ≤ length list → AllFit list
      → SettlesObjects number (take count list) old new → PlacesFit sectors ancestors number old
      → PlacesFit sectors ancestors (number + count) new
  places_settled number zero list old new within fit settles places =
      let same : number + 0 ≡ number = omega arith in
      rw (same, settles) places
  places_settled number (suc count) [] old new within fit settles places = absurd (omega arith)
  places_settled number (suc count) (sealed ∷ more) old new within fit settles places =
      let same : number + suc count ≡ number + 1 + count = omega arith in
      let middle = settles.0 in
      let now : PlacesFit sectors ancestors (number + 1) middle = λ k.
      subst (Fits sectors ancestors (number + 1) k)
      (sym (settled_is (number + 1) (length sealed.bytes) sealed.end sealed.rows old middle settles.1 k))
      (sealed_fits number k sealed.rows (settled_at old k) fit.0 (places k)) in
      rw same (places_settled (number + 1) count more middle new (omega (arith, within)) fit.1 settles.2 now)

  -- ---- a row of a checkpoint

  set_test : (test : Bool) (last k : ℕ) (row : Extent ObjectPlace) (old : Option ObjectPlace)
      → row.lba + row.sectors ≤ sectors → row.place.sector + row.sectors ≤ 131071 → row.place.level ≤ ancestors
      → (row.place.level ≡ 0 → row.place.number ≤ last) → is_within row.lba row.sectors k ≡ test
      → Fits sectors ancestors last k old
      → Fits sectors ancestors last k (cond test (Some (object_on (k - row.lba) row.place)) old)
  set_test true last k row old inside payload low number within fit =
      let from : row.lba ≤ k = grind (arith, nat_tests) in
      let to : k < row.lba + row.sectors = grind (arith, nat_tests) in
      record { inside = omega (arith, inside, to); level = low; number = number; payload = omega (arith, payload, from, to) }
  set_test false last k row old inside payload low number within fit = fit

  pub places_mapped : (last : ℕ) (row : Extent ObjectPlace) (old new : MapsState)
      → row.lba + row.sectors ≤ sectors → row.place.sector + row.sectors ≤ 131071 → row.place.level ≤ ancestors
      → (row.place.level ≡ 0 → row.place.number ≤ last)
      → ((k : ℕ) → settled_at new k ≡ place_after_set object_on row.lba row.sectors row.place (settled_at old) k)
      → PlacesFit sectors ancestors last old → PlacesFit sectors ancestors last new
  places_mapped last row old new inside payload low number settled places k =
      subst (Fits sectors ancestors last k) (sym (settled k))
      (set_test (is_within row.lba row.sectors k) last k row (settled_at old k) inside payload low number refl (places k))
