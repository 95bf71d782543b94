-- The ranges of objects, where an object or a range is added, and where an object is dropped.
use Rattle.std.proofs.Common.{ℕ, ◌<◌, ◌≡◌, ◌≢◌, Bool, true, false, cond, ◌||◌, Some, List, [], ◌∷◌, ◌++◌, refl, sym, ◌∙◌, ap}
use Rattle.std.proofs.Common.{subst, arith}
use Rattle.std.specs.Prelude.{IsTrue, IsSome, is_some, nat_eq, ◌==◌, map, find}
use Rattle.std.specs.List.{All}
use Rattle.std.proofs.lemmas.Bool.Decides.{nat_tests}
use Rattle.std.proofs.lemmas.List.Elements.{All-nil, All-cons, All-head, All-tail, All-map}
use Rattle.object_table.specs.declared.row.ObjectRow.{ObjectRow}
use Rattle.object_table.specs.Table.{has_number, row_of, numbers, without}
use Rattle.object_table.specs.Lists.{removed}
use Rattle.reverse_map.specs.declared.range.SectorRange.{SectorRange}
use Rattle.reverse_map.specs.Ranges.{ObjectRanges, is_in_range, is_in_ranges, ranges_in, ranges_of, with_range, without_object}
use Rattle.reverse_map.specs.Ranges.{IsAbove}

-- ---- the numbers of the objects

abbrev pub number_of : ObjectRanges → ℕ
number_of object = object.number

-- whether one of a number is there
some_numbered : {X : Type 0} (number_in : X → ℕ) (number : ℕ) (xs : List X)
    → is_some (find (λ n. nat_eq n number) (map number_in xs)) ≡ is_some (find (λ x. nat_eq (number_in x) number) xs)
some_numbered number_in number [] = refl
some_numbered number_in number (x ∷ xs) =
    elim (nat_eq (number_in x) number) as (λ b. is_some (cond b (Some (number_in x))
    (find (λ n. nat_eq n number) (map number_in xs)))
    ≡ is_some (cond b (Some x) (find (λ x. nat_eq (number_in x) number) xs))) [
      | true ↦ refl
      | false ↦ some_numbered number_in number xs
    ]

-- an object of the table is there, where both have the same numbers
pub has_ranges : (number : ℕ) (objects : List ObjectRanges) (rows : List ObjectRow) → map number_of objects ≡ numbers rows
    → IsSome (row_of number rows) → IsSome (find (λ (object : ObjectRanges). object.number == number) objects)
has_ranges number objects rows known some =
    sym (some_numbered number_of number objects)
    ∙ ap (λ ns. is_some (find (λ n. nat_eq n number) ns)) known
    ∙ some_numbered (λ (row : ObjectRow). row.number) number rows
    ∙ some

-- a number above those of the table is above those of all objects
above_by : (number : ℕ) (objects : List ObjectRanges) → All (λ n. n < number) (map number_of objects) → IsAbove objects number
above_by number [] above = All-nil (λ (object : ObjectRanges). object.number < number)
above_by number (object ∷ objects) above =
    All-cons (λ (object : ObjectRanges). object.number < number) object objects
    (All-head (λ n. n < number) object.number (map number_of objects) above)
    (above_by number objects (All-tail (λ n. n < number) object.number (map number_of objects) above))

pub above_ranges : (number : ℕ) (objects : List ObjectRanges) (rows : List ObjectRow) → map number_of objects ≡ numbers rows
    → All (λ (row : ObjectRow). row.number < number) rows → IsAbove objects number
above_ranges number objects rows known above =
    above_by number objects
    (subst (All (λ n. n < number)) (sym known) (All-map (λ n. n < number) (λ (row : ObjectRow). row.number) rows above))

-- the numbers with a range more are the same
pub numbers_ranged : (number : ℕ) (range : SectorRange) (objects : List ObjectRanges)
    → map number_of (with_range number range objects) ≡ map number_of objects
numbers_ranged number range [] = refl
numbers_ranged number range (object ∷ objects) =
    elim (object.number == number) as (λ b. map number_of (cond b
    (record object { ranges = object.ranges ++ range ∷ [] } ∷ objects) (object ∷ with_range number range objects))
    ≡ object.number ∷ map number_of objects) [
      | true ↦ refl
      | false ↦ ap (λ rest. object.number ∷ rest) (numbers_ranged number range objects)
    ]

-- and those without an object go as the table's do
dropped_numbers : (number : ℕ) (objects : List ObjectRanges)
    → map number_of (without_object number objects) ≡ removed number (map number_of objects)
dropped_numbers number [] = refl
dropped_numbers number (object ∷ objects) =
    elim (object.number == number) as (λ b. map number_of (cond b objects (object ∷ without_object number objects))
    ≡ cond b (map number_of objects) (object.number ∷ removed number (map number_of objects))) [
      | true ↦ refl
      | false ↦ ap (λ rest. object.number ∷ rest) (dropped_numbers number objects)
    ]

dropped_rows : (number : ℕ) (rows : List ObjectRow) → numbers (without number rows) ≡ removed number (numbers rows)
dropped_rows number [] = refl
dropped_rows number (row ∷ rows) =
    elim (has_number number row) as (λ b. numbers (cond b rows (row ∷ without number rows))
    ≡ cond b (numbers rows) (row.number ∷ removed number (numbers rows))) [
      | true ↦ refl
      | false ↦ ap (λ rest. row.number ∷ rest) (dropped_rows number rows)
    ]

pub numbers_without : (number : ℕ) (objects : List ObjectRanges) (rows : List ObjectRow) → map number_of objects ≡ numbers rows
    → map number_of (without_object number objects) ≡ numbers (without number rows)
numbers_without number objects rows known =
    dropped_numbers number objects ∙ ap (removed number) known ∙ sym (dropped_rows number rows)

-- ---- a sector in the ranges of an object

-- one that was in some ranges is in one range more, and so is each of that range
pub stays_in : (range : SectorRange) (k : ℕ) (ranges : List SectorRange) → IsTrue (is_in_ranges ranges k)
    → IsTrue (is_in_ranges (ranges ++ range ∷ []) k)
stays_in range k [] within = absurd cc
stays_in range k (first ∷ ranges) within =
    elim (is_in_range first k) as (λ b. IsTrue (b || is_in_ranges ranges k)
    → IsTrue (b || is_in_ranges (ranges ++ range ∷ []) k)) [
      | true ↦ (λ within. refl)
      | false ↦ (λ within. stays_in range k ranges within)
    ] within

pub comes_in : (range : SectorRange) (k : ℕ) (ranges : List SectorRange) → IsTrue (is_in_range range k)
    → IsTrue (is_in_ranges (ranges ++ range ∷ []) k)
comes_in range k [] within = ap (λ b. b || false) within
comes_in range k (first ∷ ranges) within =
    elim (is_in_range first k) as (λ b. IsTrue (b || is_in_ranges (ranges ++ range ∷ []) k)) [
      | true ↦ refl
      | false ↦ comes_in range k ranges within
    ]

-- one that is in an object's ranges is so with more objects
pub in_more : (number k : ℕ) (objects more : List ObjectRanges) → IsTrue (is_in_ranges (ranges_of number objects) k)
    → IsTrue (is_in_ranges (ranges_of number (objects ++ more)) k)
in_more number k [] more within = absurd cc
in_more number k (object ∷ objects) more within =
    let test : ObjectRanges → Bool = λ object. object.number == number in
    elim (object.number == number) as (λ b. IsTrue (is_in_ranges (ranges_in (cond b (Some object) (find test objects))) k)
    → IsTrue (is_in_ranges (ranges_in (cond b (Some object) (find test (objects ++ more)))) k)) [
      | true ↦ (λ within. within)
      | false ↦ (λ within. in_more number k objects more within)
    ] within

-- and with a range more of an object
pub in_ranged : (number other k : ℕ) (range : SectorRange) (objects : List ObjectRanges)
    → IsTrue (is_in_ranges (ranges_of other objects) k)
    → IsTrue (is_in_ranges (ranges_of other (with_range number range objects)) k)
in_ranged number other k range [] within = within
in_ranged number other k range (object ∷ objects) within =
    let test : ObjectRanges → Bool = λ object. object.number == other in
    let more : ObjectRanges = record object { ranges = object.ranges ++ range ∷ [] } in
    elim (object.number == number) as (λ b. IsTrue (is_in_ranges (ranges_of other
    (cond b (more ∷ objects) (object ∷ with_range number range objects))) k)) [
      | true ↦ elim (object.number == other) as (λ c. IsTrue (is_in_ranges (ranges_in
          (cond c (Some object) (find test objects))) k)
          → IsTrue (is_in_ranges (ranges_in (cond c (Some more) (find test objects))) k)) [
            | true ↦ (λ within. stays_in range k object.ranges within)
            | false ↦ (λ within. within)
          ] within
      | false ↦ elim (object.number == other) as (λ c. IsTrue (is_in_ranges (ranges_in
          (cond c (Some object) (find test objects))) k)
          → IsTrue (is_in_ranges (ranges_in (cond c (Some object) (find test (with_range number range objects)))) k)) [
            | true ↦ (λ within. within)
            | false ↦ (λ within. in_ranged number other k range objects within)
          ] within
    ]

-- as is each sector of that range, where the object is there
by_number : (b : Bool) (number k : ℕ) (range : SectorRange) (object : ObjectRanges) (objects : List ObjectRanges)
    → (object.number == number) ≡ b
    → (IsSome (find (λ (object : ObjectRanges). object.number == number) objects)
    → IsTrue (is_in_ranges (ranges_of number (with_range number range objects)) k))
    → IsSome (find (λ (object : ObjectRanges). object.number == number) (object ∷ objects)) → IsTrue (is_in_range range k)
    → IsTrue (is_in_ranges (ranges_of number (with_range number range (object ∷ objects))) k)
by_number true number k range object objects test rest some within = rw (test, test) (comes_in range k object.ranges within)
by_number false number k range object objects test rest some within = rw (test, test) (rest (rw test at some))

pub in_new_range : (number k : ℕ) (range : SectorRange) (objects : List ObjectRanges)
    → IsSome (find (λ (object : ObjectRanges). object.number == number) objects) → IsTrue (is_in_range range k)
    → IsTrue (is_in_ranges (ranges_of number (with_range number range objects)) k)
in_new_range number k range [] some within = absurd cc
in_new_range number k range (object ∷ objects) some within =
    by_number (object.number == number) number k range object objects refl
    (λ some. in_new_range number k range objects some within) some within

-- the ranges of an object that comes last are those that it comes with
pub last_ranges : (number : ℕ) (ranges : List SectorRange) (objects : List ObjectRanges) → IsAbove objects number
    → ranges_of number (objects ++ record { number = number; ranges = ranges } ∷ []) ≡ ranges
last_ranges number ranges [] above =
    let it : (number == number) ≡ true = grind (arith, nat_tests) in
    rw it refl
last_ranges number ranges (object ∷ objects) above =
    let low = All-head (λ (object : ObjectRanges). object.number < number) object objects above in
    let not_it : (object.number == number) ≡ false = grind (arith, nat_tests) in
    rw not_it (
    last_ranges number ranges objects (All-tail (λ (object : ObjectRanges). object.number < number) object objects above)
    )

-- those of another than the one that is dropped stay
pub other_ranges : (number other : ℕ) (objects : List ObjectRanges) → other ≢ number
    → ranges_of other (without_object number objects) ≡ ranges_of other objects
other_ranges number other [] differ = refl
other_ranges number other (object ∷ objects) differ =
    let rest = other_ranges number other objects differ in
    grind (arith, nat_tests, rest)
