-- The rows of a base, raised, as those of its clone.
use Rattle.std.proofs.Common.{◌≡◌, ℕ, ◌+◌, ◌-◌, ◌^◌, ◌<◌, ◌≤◌, ◌&&◌, ◌||◌, nat_lt, nat_le, cond, Bool, true, false, Option, Some}
use Rattle.std.proofs.Common.{List, [], ◌∷◌, ◌++◌, refl, sym, ◌∙◌, ap, subst, arith}
use Rattle.std.specs.Prelude.{IsTrue, map, option_map}
use Rattle.std.proofs.lemmas.Bool.{and_parts, leb-true}
use Rattle.std.proofs.lemmas.Bool.Decides.{nat_tests}
use Rattle.extent_map.specs.declared.extent.Extent.{Extent}
use Rattle.extent_map.specs.Extents.{is_within, place_at, ComesBeforeFirst, IsShortest}
use Rattle.object_format.specs.declared.expected.Expected.{Expected}
use Rattle.object_format.specs.Rows.{is_inside}
use Rattle.ckpt_format.specs.declared.place.StoredPlace.{StoredPlace}
use Rattle.ckpt_format.specs.Places.{stored_on}
use Rattle.ckpt_format.specs.Rows.{HasRowWidths, may_stand, AllMayStand, AreCheckpointRows}
use Rattle.ckpt_format.proofs.SpellingLemmas.{stands}
use Rattle.clone_opening.specs.Raised.{raised_place, raised}
use Rattle.clone_opening.specs.Laws.{RaisesEachOwner}

-- ---- the owners

raises_by : (test : Bool) (n : ℕ) (row : Extent StoredPlace) (rest others : Option StoredPlace)
    → others ≡ option_map raised_place rest
    → cond test (Some (stored_on n (raised row).place)) others
    ≡ option_map raised_place (cond test (Some (stored_on n row.place)) rest)
raises_by true n row rest others same = refl
raises_by false n row rest others same = same

pub raises_each_owner : RaisesEachOwner
raises_each_owner [] k = refl
raises_each_owner (row ∷ rows) k =
    raises_by (is_within row.lba row.sectors k) (k - row.lba) row (place_at stored_on rows k)
    (place_at stored_on (map raised rows) k) (raises_each_owner rows k)

-- ---- the shortest list

-- places that are one when they are raised were one before
lowered : (a b : StoredPlace) → raised_place a ≡ raised_place b → a ≡ b
lowered a b same =
    let at : ℕ → ℕ → ℕ → StoredPlace = λ level number place. record { level = level; number = number; place = place } in
    let level : a.level ≡ b.level = omega (arith, ap (λ (p : StoredPlace). p.level) same) in
    let number : a.number ≡ b.number = ap (λ (p : StoredPlace). p.number) same in
    let place : a.place ≡ b.place = ap (λ (p : StoredPlace). p.place) same in
    ap (λ n. at n a.number a.place) level ∙ ap (λ n. at b.level n a.place) number ∙ ap (λ n. at b.level b.number n) place

before : (row : Extent StoredPlace) (rows : List (Extent StoredPlace)) → ComesBeforeFirst stored_on row rows
    → ComesBeforeFirst stored_on (raised row) (map raised rows)
before row [] comes = tt
before row (next ∷ rows) comes = record {
  in_order = comes.in_order;
  apart = λ touch same. comes.apart touch (lowered (stored_on row.sectors row.place) next.place same);
}

shortest : (rows : List (Extent StoredPlace)) → IsShortest stored_on rows → IsShortest stored_on (map raised rows)
shortest [] is = tt
shortest (row ∷ rows) is = (is.0, before row rows is.1, shortest rows is.2)

-- ---- each row

level_within : (expected : Expected) (row : Extent StoredPlace) → IsTrue (may_stand expected row)
    → row.place.level ≤ expected.ancestors
level_within expected row is =
    let level = nat_le row.place.level expected.ancestors in
    let older = nat_lt 0 row.place.level || nat_lt row.place.number expected.number in
    let inside = is_inside expected.sectors row.lba row.sectors in
    let a = and_parts (inside && level && older) (nat_le (row.place.place + row.sectors) 131071) is in
    let b = and_parts (inside && level) older a.0 in
    leb-true row.place.level expected.ancestors (and_parts inside level b.0).1

module _ (base clone : Expected) (levels : base.ancestors < clone.ancestors) (limit : clone.ancestors < 2 ^ 32)
    (sectors : clone.sectors ≡ base.sectors) where
  raised_stands : (row : Extent StoredPlace) → IsTrue (may_stand base row) → IsTrue (may_stand clone (raised row))
  raised_stands row is =
      let own = stands base row is in
      let some : 0 < row.sectors = own.some in
      let end : row.lba + row.sectors ≤ clone.sectors = omega (arith, own.inside, sectors) in
      let payload : row.place.place + row.sectors ≤ 131071 = own.in_payload in
      let level : row.place.level + 1 ≤ clone.ancestors = omega (arith, level_within base row is, levels) in
      grind (arith, nat_tests)

  raised_widths : (row : Extent StoredPlace) → IsTrue (may_stand base row) → HasRowWidths row → HasRowWidths (raised row)
  raised_widths row is fits = record {
    lba = fits.lba;
    sectors = fits.sectors;
    level = omega (arith, limit, levels, level_within base row is);
    number = fits.number;
    place = fits.place;
  }

  all_stand : (rows : List (Extent StoredPlace)) → AllMayStand base rows → AllMayStand clone (map raised rows)
  all_stand [] stand = tt
  all_stand (row ∷ rows) stand = (raised_stands row stand.0, raised_widths row stand.0 stand.1, all_stand rows stand.2)

  -- the rows of a checkpoint of the base, raised, are those of one of the clone
  raised_rows : (rows : List (Extent StoredPlace)) → AreCheckpointRows base rows → AreCheckpointRows clone (map raised rows)
  raised_rows rows are = record { shortest = shortest rows are.shortest; all_stand = all_stand rows are.all_stand }

  -- and where these were written, so are they
  pub raised_written : (under over : Expected) (given written : List (Extent StoredPlace)) → under ≡ base → over ≡ clone
      → written ≡ map raised given → AreCheckpointRows under given → AreCheckpointRows over written
  raised_written under over given written of_base of_clone is are =
      subst (λ e. AreCheckpointRows e written) (sym of_clone)
      (subst (AreCheckpointRows clone) (sym is) (raised_rows given (subst (λ e. AreCheckpointRows e given) of_base are)))

-- ---- the next row

last_may_stand : (expected : Expected) (rows : List (Extent StoredPlace)) (row : Extent StoredPlace)
    → AllMayStand expected (rows ++ row ∷ []) → IsTrue (may_stand expected row)
last_may_stand expected [] row stand = stand.0
last_may_stand expected (first ∷ rows) row stand = last_may_stand expected rows row stand.2

-- there is a level past that of a row of the base
pub has_next_level : (base clone under : Expected) (rows : List (Extent StoredPlace)) (row : Extent StoredPlace)
    → base.ancestors < clone.ancestors → clone.ancestors < 2 ^ 32 → under ≡ base → AreCheckpointRows under (rows ++ row ∷ [])
    → row.place.level + 1 < 2 ^ 32
has_next_level base clone under rows row levels limit of_base are =
    let within = level_within under row (last_may_stand under rows row are.all_stand) in
    let most = ap (λ (e : Expected). e.ancestors) of_base in
    omega (arith, within, most, levels, limit)
