-- The object of a number, and the objects with a range more for it, or without it.
use Rattle.std.proofs.Common.{◌≡◌, ◌≢◌, ℕ, zero, suc, ◌<◌, ◌≤◌, ◌==◌, true, false, Option, None, List, [], ◌∷◌, ◌++◌, length}
use Rattle.std.proofs.Common.{get_or, set, refl, sym, ap, subst, arith, inl, inr}
use Rattle.std.specs.Prelude.{Result, Ok, Err, find}
use Rattle.std.specs.List.{remove}
use Rattle.std.specs.List.Sorted.{IsSearchInRange, IsBinarySearchResult, IsNonDecreasingBy}
use Rattle.std.specs.Result.{result_ok}
use Rattle.std.specs.Ordering.{nat_cmp, ordering_index}
use Rattle.std.proofs.lemmas.Cmp.{ranked}
use Rattle.std.proofs.lemmas.Bool.{cases_lt}
use Rattle.std.proofs.lemmas.Bool.Decides.{nat_tests}
use Rattle.reverse_map.specs.declared.range.SectorRange.{SectorRange}
use Rattle.reverse_map.specs.Ranges.{ObjectRanges, ranges_of, with_range, without_object}
use Rattle.reverse_map.specs.Order.{Ascend, IsPlaceOf}

-- the objects after the first of some that ascend do
rest_ascend : (first : ObjectRanges) (rest : List ObjectRanges) → Ascend (first ∷ rest) → Ascend rest
rest_ascend first rest order i j d low high = order (suc i) (suc j) d (omega arith) (omega arith)

-- ---- where a search by number ends

absent : (number : ℕ) (objects : List ObjectRanges) (d : ObjectRanges)
    → ((k : ℕ) → k < length objects → (get_or objects k d).number ≢ number)
    → find (λ (object : ObjectRanges). object.number == number) objects ≡ None
absent number [] d others = refl
absent number (first ∷ rest) d others =
    let other : first.number ≢ number = others 0 (omega arith) in
    let not_it : (first.number == number) ≡ false = grind (arith, nat_tests) in
    rw not_it (absent number rest d (λ k less. others (suc k) (omega arith)))

module _ (number : ℕ) (objects : List ObjectRanges) (order : Ascend objects) where
  climbs : (i j : ℕ) (d : ObjectRanges) → i ≤ j → j < length objects
      → (get_or objects i d).number ≤ (get_or objects j d).number
  climbs i j d le inside = elim (cases_lt i j) [
    | inl low ↦ let h = order i j d low inside in omega (arith, h)
    | inr high ↦ let same : i ≡ j = omega arith in rw same (omega arith)
  ]

  comparisons_rise : IsNonDecreasingBy (λ (object : ObjectRanges). ordering_index (nat_cmp object.number number)) objects
  comparisons_rise i j d le inside = let h = climbs i j d le inside in grind (arith, nat_tests)

  pub place_searched : (found : Result ℕ ℕ) → IsSearchInRange found (length objects)
      → IsBinarySearchResult (λ (object : ObjectRanges). nat_cmp object.number number) objects found
      → IsPlaceOf number objects (result_ok found)
  place_searched (Ok at) within equal = (within, λ d. ranked _ number _ (sym (equal d)))
  place_searched (Err at) within parted =
      let blank : ObjectRanges = record { number = 0; ranges = [] } in
      absent number objects blank (λ k less is. elim (cases_lt k at) [
        | inl low ↦ (let h : (get_or objects k blank).number < number =
            ranked _ number _ (sym ((parted comparisons_rise).0 k blank (omega arith) low)) in omega (arith, h, is))
        | inr high ↦ (let h : number < (get_or objects k blank).number =
            ranked _ number _ (sym ((parted comparisons_rise).1 k blank high less)) in omega (arith, h, is))
      ])

-- a place that was found among the same objects
pub placed : (number : ℕ) (given objects : List ObjectRanges) (found place : Option ℕ) → given ≡ objects → found ≡ place
    → IsPlaceOf number given found → IsPlaceOf number objects place
placed number given objects found place same is at =
    subst (λ objects. IsPlaceOf number objects place) same (subst (IsPlaceOf number given) is at)

-- ---- the object at a place

pub object_at : (number : ℕ) (objects : List ObjectRanges) (i : ℕ) (d : ObjectRanges) → Ascend objects → i < length objects
    → (get_or objects i d).number ≡ number → ranges_of number objects ≡ (get_or objects i d).ranges
object_at number [] i d order inside is = absurd (omega arith)
object_at number (first ∷ rest) zero d order inside is =
    let it : (first.number == number) ≡ true = grind (arith, nat_tests) in
    rw it refl
object_at number (first ∷ rest) (suc i) d order inside is =
    let more = order 0 (suc i) d (omega arith) inside in
    let not_it : (first.number == number) ≡ false = grind (arith, nat_tests) in
    rw not_it (object_at number rest i d (rest_ascend first rest order) (omega arith) is)

pub removed_at : (number : ℕ) (objects : List ObjectRanges) (i : ℕ) (d : ObjectRanges) → Ascend objects → i < length objects
    → (get_or objects i d).number ≡ number → remove objects i ≡ without_object number objects
removed_at number [] i d order inside is = absurd (omega arith)
removed_at number (first ∷ rest) zero d order inside is =
    let it : (first.number == number) ≡ true = grind (arith, nat_tests) in
    rw it refl
removed_at number (first ∷ rest) (suc i) d order inside is =
    let more = order 0 (suc i) d (omega arith) inside in
    let not_it : (first.number == number) ≡ false = grind (arith, nat_tests) in
    rw not_it (
    ap (λ rest. first ∷ rest) (removed_at number rest i d (rest_ascend first rest order) (omega arith) is)
    )

pub ranged_at : (number : ℕ) (range : SectorRange) (objects : List ObjectRanges) (i : ℕ) (d : ObjectRanges) → Ascend objects
    → i < length objects → (get_or objects i d).number ≡ number
    → set objects i (record (get_or objects i d) { ranges = (get_or objects i d).ranges ++ range ∷ [] })
    ≡ with_range number range objects
ranged_at number range [] i d order inside is = absurd (omega arith)
ranged_at number range (first ∷ rest) zero d order inside is =
    let it : (first.number == number) ≡ true = grind (arith, nat_tests) in
    rw it refl
ranged_at number range (first ∷ rest) (suc i) d order inside is =
    let more = order 0 (suc i) d (omega arith) inside in
    let not_it : (first.number == number) ≡ false = grind (arith, nat_tests) in
    rw not_it (
    ap (λ rest. first ∷ rest) (ranged_at number range rest i d (rest_ascend first rest order) (omega arith) is)
    )

-- ---- where there is none of the number, all stay

pub none_removed : (number : ℕ) (objects : List ObjectRanges) → IsPlaceOf number objects None
    → objects ≡ without_object number objects
none_removed number [] none = refl
none_removed number (first ∷ rest) none =
    let more = none_removed number rest in
    grind (arith, nat_tests, more)

pub none_ranged : (number : ℕ) (range : SectorRange) (objects : List ObjectRanges) → IsPlaceOf number objects None
    → objects ≡ with_range number range objects
none_ranged number range [] none = refl
none_ranged number range (first ∷ rest) none =
    let more = none_ranged number range rest in
    grind (arith, nat_tests, more)
