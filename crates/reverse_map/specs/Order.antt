-- For this crate's own clauses: the order of the objects, and where one stands.
use Rattle.std.specs.Prelude.{ℕ, ◌<◌, ◌≡◌, ◌==◌, Option, Some, None, List, length, find, slice_index_or}
use Rattle.std.specs.List.{AllPairs}
use Rattle.reverse_map.specs.Ranges.{ObjectRanges}

-- each object has a greater number than all before it
abbrev pub Ascend : List ObjectRanges → Type 0
Ascend objects = AllPairs (λ (earlier later : ObjectRanges). earlier.number < later.number) objects

-- the place of the object of a number; none where it is absent
abbrev pub IsPlaceOf : (number : ℕ) → List ObjectRanges → Option ℕ → Type 0
IsPlaceOf number objects None = find (λ (object : ObjectRanges). object.number == number) objects ≡ None
IsPlaceOf number objects (Some at) =
    (at < length objects) × ((blank : ObjectRanges) → (slice_index_or objects at blank).number ≡ number)
