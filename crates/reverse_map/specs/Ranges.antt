-- Contract: which sectors of the volume each object may still have.
use Rattle.std.specs.Prelude.{ℕ, ◌+◌, ◌<◌, ◌==◌, Bool, false, ◌&&◌, ◌||◌, nat_le, nat_lt, Option, Some, None}
use Rattle.std.specs.Prelude.{List, [], ◌∷◌, ◌++◌, find, if◌then◌else◌}
use Rattle.std.specs.List.{All}
use Rattle.reverse_map.specs.declared.range.SectorRange.{SectorRange}

-- a sector is in a range, and in one of several
abbrev pub is_in_range : SectorRange → (k : ℕ) → Bool
is_in_range range k = nat_le range.lba k && nat_lt k (range.lba + range.sectors)

abbrev pub is_in_ranges : List SectorRange → (k : ℕ) → Bool
is_in_ranges [] k = false
is_in_ranges (range ∷ ranges) k = is_in_range range k || is_in_ranges ranges k

-- an object and its ranges
pub record ObjectRanges : Type 0 where
  pub number : ℕ
  pub ranges : List SectorRange

-- the ranges of the objects, by ascending number, and for how many more objects there is room
pub record ReverseState : Type 0 where
  pub objects : List ObjectRanges
  pub spare : ℕ

abbrev pub ranges_in : Option ObjectRanges → List SectorRange
ranges_in None = []
ranges_in (Some object) = object.ranges

-- the ranges of the object of a number, none of one that is absent
abbrev pub ranges_of : (number : ℕ) → List ObjectRanges → List SectorRange
ranges_of number objects = ranges_in (find (λ (object : ObjectRanges). object.number == number) objects)

-- the objects with a range more for that of a number
abbrev pub with_range : (number : ℕ) → SectorRange → List ObjectRanges → List ObjectRanges
with_range number range [] = []
with_range number range (object ∷ objects) =
    if object.number == number then record object { ranges = object.ranges ++ range ∷ [] } ∷ objects
    else object ∷ with_range number range objects

-- and without that of a number
abbrev pub without_object : (number : ℕ) → List ObjectRanges → List ObjectRanges
without_object number [] = []
without_object number (object ∷ objects) =
    if object.number == number then objects else object ∷ without_object number objects

-- a number is above those of all objects
abbrev pub IsAbove : List ObjectRanges → (number : ℕ) → Type 0
IsAbove objects number = All (λ (object : ObjectRanges). object.number < number) objects
