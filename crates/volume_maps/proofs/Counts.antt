-- How many sectors of a range pass a test, and how many of them the rows of a map have in an object.
use Rattle.std.proofs.Common.{ℕ, zero, suc, ◌+◌, ◌-◌, ◌^◌, ◌<◌, ◌≤◌, ◌≡◌, Bool, true, false, cond, Option, Some, None, List, []}
use Rattle.std.proofs.Common.{◌∷◌, refl, sym, ◌∙◌, ap, arith}
use Rattle.std.proofs.lemmas.List.Sums.{sum_by-cons}
use Rattle.extent_map.specs.declared.extent.Extent.{Extent}
use Rattle.extent_map.specs.Extents.{is_within, place_at, IsShortest, AllFit}
use Rattle.extent_map.specs.Join.{EndBy}
use Rattle.extent_map.specs.Laws.{StartsFrom}
use Rattle.extent_map.proofs.Places.{not_below, not_past, at_inside, at_past, after_row, none_before}
use Rattle.volume_maps.specs.declared.place.ObjectPlace.{ObjectPlace}
use Rattle.volume_maps.specs.Places.{object_on}
use Rattle.volume_maps.specs.Live.{is_in_object, is_live, sectors_in, live_sectors}
use Rattle.volume_maps.specs.Kept.{passing, live_between}

-- ---- sectors that pass a test

module _ (test : ℕ → Bool) where
  -- no sector
  pub passing_none : (from : ℕ) → passing test from zero ≡ 0
  unfolding passing
  passing_none from = refl

  -- and one more
  pub passing_more : (from n : ℕ) → passing test from (suc n) ≡ passing test from n + cond (test (from + n)) 1 0
  unfolding passing
  passing_more from n = refl

  -- a range in two parts, by their lengths
  pub in_parts : (from a b : ℕ) → passing test from (a + b) ≡ passing test from a + passing test (from + a) b
  in_parts from a zero =
      let same : a + zero ≡ a = omega arith in
      omega (arith, ap (passing test from) same, passing_none (from + a))
  in_parts from a (suc b) =
      let next : a + suc b ≡ suc (a + b) = omega arith in
      let last : from + (a + b) ≡ from + a + b = omega arith in
      omega (
        arith,
        ap (passing test from) next,
        passing_more from (a + b),
        in_parts from a b,
        passing_more (from + a) b,
        ap {B = ℕ} (λ k. cond (test k) 1 0) last,
      )

  -- the sectors up to one, and those from there on
  pub split : (from middle end : ℕ) → from ≤ middle → middle ≤ end
      → passing test from (end - from) ≡ passing test from (middle - from) + passing test middle (end - middle)
  split from middle end first second =
      let sum : end - from ≡ middle - from + (end - middle) = omega arith in
      let there : from + (middle - from) ≡ middle = omega arith in
      ap (passing test from) sum
      ∙ in_parts from (middle - from) (end - middle)
      ∙ ap (λ k. passing test from (middle - from) + passing test k (end - middle)) there

  -- one sector counts once at most
  at_most_one : (b : Bool) → cond b 1 0 ≤ 1
  at_most_one true = omega arith
  at_most_one false = omega arith

  -- no more pass than there are
  passing_most : (from n : ℕ) → passing test from n ≤ n
  passing_most from zero = omega (arith, passing_none from)
  passing_most from (suc n) =
      omega (arith, passing_more from n, passing_most from n, at_most_one (test (from + n)))

  -- a range within another
  passing_within : (low from end high : ℕ) → low ≤ from → from ≤ end → end ≤ high
      → passing test from (end - from) ≤ passing test low (high - low)
  passing_within low from end high first second third =
      omega (arith, split low from high first (omega arith), split from end high second third)

  -- sectors that all pass, and one more
  by_one : (b : Bool) (n : ℕ) → cond b n 0 + cond b 1 0 ≡ cond b (suc n) 0
  by_one true n = omega arith
  by_one false n = refl

  -- sectors that all pass, or of which none does
  pub passing_all : (b : Bool) (from n : ℕ) → ((k : ℕ) → from ≤ k → k < from + n → test k ≡ b)
      → passing test from n ≡ cond b n 0
  passing_all true from zero all = passing_none from
  passing_all false from zero all = passing_none from
  passing_all b from (suc n) all =
      passing_more from n
      ∙ ap (λ c. passing test from n + cond c 1 0) (all (from + n) (omega arith) (omega arith))
      ∙ ap (λ c. c + cond b 1 0) (passing_all b from n (λ k low high. all k low (omega arith)))
      ∙ by_one b n

-- tests that say the same there
pub passing_same : (test other : ℕ → Bool) (from n : ℕ) → ((k : ℕ) → from ≤ k → k < from + n → test k ≡ other k)
    → passing test from n ≡ passing other from n
passing_same test other from zero same = passing_none test from ∙ sym (passing_none other from)
passing_same test other from (suc n) same =
    passing_more test from n
    ∙ ap (λ c. passing test from n + cond c 1 0) (same (from + n) (omega arith) (omega arith))
    ∙ ap (λ c. c + cond (other (from + n)) 1 0) (passing_same test other from n (λ k low high. same k low (omega arith)))
    ∙ sym (passing_more other from n)

-- tests that say the same but in a range
passing_changed : (old new : ℕ → Bool) (lba end high : ℕ) → lba ≤ end → end ≤ high
    → ((k : ℕ) → k < lba → new k ≡ old k) → ((k : ℕ) → end ≤ k → new k ≡ old k)
    → passing new 0 (high - 0) + passing old lba (end - lba) ≡ passing old 0 (high - 0) + passing new lba (end - lba)
passing_changed old new lba end high first second below past =
    omega (
      arith,
      split old 0 lba high (omega arith) (omega arith),
      split new 0 lba high (omega arith) (omega arith),
      split old lba end high first second,
      split new lba end high first second,
      passing_same new old 0 (lba - 0) (λ k low high. below k (omega arith)),
      passing_same new old end (high - end) (λ k low high. past k low),
    )

-- ---- the rows of a map

module _ (number : ℕ) where
  -- sectors that have no place
  pub live_nowhere : (places : ℕ → Option ObjectPlace) (from n : ℕ)
      → ((k : ℕ) → from ≤ k → k < from + n → places k ≡ None) → live_between number places from n ≡ 0
  live_nowhere places from n none =
      passing_all (λ k. is_live number (places k)) false from n (λ k low high. ap (is_live number) (none k low high))

  -- and those of a row
  pub live_in_row : (places : ℕ → Option ObjectPlace) (row : Extent ObjectPlace)
      → ((k : ℕ) → row.lba ≤ k → k < row.lba + row.sectors → places k ≡ Some (object_on (k - row.lba) row.place))
      → live_between number places row.lba row.sectors ≡ sectors_in number row
  live_in_row places row here =
      passing_all (λ k. is_live number (places k)) (is_in_object number row.place) row.lba row.sectors
      (λ k low high. ap (is_live number) (here k low high))

  -- the rows of a map that lie in a range have there what they have in all
  live_rows : (from end : ℕ) (rows : List (Extent ObjectPlace)) → from ≤ end → IsShortest object_on rows
      → StartsFrom from rows → EndBy end rows
      → live_between number (place_at object_on rows) from (end - from) ≡ live_sectors number rows
  live_rows from end [] order shortest starts ends =
      live_nowhere (place_at object_on []) from (end - from) (λ k low high. refl)
  live_rows from end (row ∷ rows) order shortest starts ends =
      let all = place_at object_on (row ∷ rows) in
      let rest = place_at object_on rows in
      let test : ℕ → Bool = λ k. is_live number (all k) in
      let past = row.lba + row.sectors in
      let size : past - row.lba ≡ row.sectors = omega arith in
      let before = live_nowhere all from (row.lba - from)
      (λ k low high. none_before object_on (row ∷ rows) row.lba k shortest (omega arith) (omega arith)) in
      let own = live_in_row all row (λ k low high. at_inside object_on row rows k low high) in
      let after = passing_same test (λ k. is_live number (rest k)) past (end - past)
      (λ k low high. ap (is_live number) (at_past object_on row rows k low)) in
      omega (
        arith,
        split test from row.lba end starts (omega (arith, ends.0)),
        split test row.lba past end (omega arith) ends.0,
        ap (passing test row.lba) size,
        before,
        own,
        after,
        live_rows past end rows ends.0 shortest.2 (after_row object_on row rows shortest.1) ends.1,
        sum_by-cons (sectors_in number) row rows,
      )

-- a sector past which no row ends
abbrev reach : List (Extent ObjectPlace) → ℕ
reach [] = 0
reach (row ∷ rows) = row.lba + row.sectors + reach rows

-- each of the rows ends at that sector or before it
ends_by : (rows : List (Extent ObjectPlace)) (end : ℕ) → reach rows ≤ end → EndBy end rows
ends_by [] end order = tt
ends_by (row ∷ rows) end order = (omega arith, ends_by rows end (omega arith))

-- no row begins below the first sector of all
starts_at_none : (rows : List (Extent ObjectPlace)) → StartsFrom 0 rows
starts_at_none [] = tt
starts_at_none (row ∷ rows) = omega arith

module _ (number : ℕ) (rows : List (Extent ObjectPlace)) (shortest : IsShortest object_on rows) where
  -- the sectors up to that one have what the rows have in all
  live_total : (end : ℕ) → reach rows ≤ end
      → live_between number (place_at object_on rows) 0 (end - 0) ≡ live_sectors number rows
  live_total end order = live_rows number 0 end rows (omega arith) shortest (starts_at_none rows) (ends_by rows end order)

  -- a range has no more than all
  pub live_part : (lba end : ℕ) → lba ≤ end
      → live_between number (place_at object_on rows) lba (end - lba) ≤ live_sectors number rows
  live_part lba end order =
      let high = end + reach rows in
      let live : ℕ → Bool = λ k. is_live number (place_at object_on rows k) in
      omega (
        arith,
        passing_within live 0 lba end high (omega arith) order (omega arith),
        live_total high (omega arith),
      )

-- rows that fit end below 2^63
fit_ends : (number : ObjectPlace → ℕ) (rows : List (Extent ObjectPlace)) → AllFit number rows → EndBy (2 ^ 63) rows
fit_ends number [] fits = tt
fit_ends number (row ∷ rows) fits = (omega (arith, fits.0.sectors), fit_ends number rows fits.1)

-- so they have 2^63 sectors in an object at most
pub live_few : (object_number : ObjectPlace → ℕ) (number : ℕ) (rows : List (Extent ObjectPlace)) → IsShortest object_on rows
    → AllFit object_number rows → live_sectors number rows ≤ 2 ^ 63
live_few object_number number rows shortest fits =
    let all = live_rows number 0 (2 ^ 63) rows (omega arith) shortest (starts_at_none rows) (fit_ends object_number rows fits) in
    let most = passing_most (λ k. is_live number (place_at object_on rows k)) 0 (2 ^ 63 - 0) in
    omega (arith, all, most)

-- ---- a map that changes in a range

module _ (old new : List (Extent ObjectPlace)) (lba sectors : ℕ) (old_is : IsShortest object_on old)
    (new_is : IsShortest object_on new) where
  -- what an object has then beside what it had in the range is what it had beside what it has there then
  pub live_changed : (number : ℕ)
      → ((k : ℕ) → is_within lba sectors k ≡ false → place_at object_on new k ≡ place_at object_on old k)
      → live_sectors number new + live_between number (place_at object_on old) lba sectors
      ≡ live_sectors number old + live_between number (place_at object_on new) lba sectors
  live_changed number same =
      let end = lba + sectors in
      let high = end + (reach old + reach new) in
      let was : ℕ → Bool = λ k. is_live number (place_at object_on old k) in
      let is : ℕ → Bool = λ k. is_live number (place_at object_on new k) in
      let size : end - lba ≡ sectors = omega arith in
      let changed = passing_changed was is lba end high (omega arith) (omega arith)
      (λ k low. ap (is_live number) (same k (not_below lba sectors k low)))
      (λ k past. ap (is_live number) (same k (not_past lba sectors k past))) in
      omega (
        arith,
        changed,
        ap (passing was lba) size,
        ap (passing is lba) size,
        live_total number old old_is high (omega arith),
        live_total number new new_is high (omega arith),
      )
