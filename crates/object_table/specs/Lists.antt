-- For this crate's own clauses: the ordered lists of numbers that answer which objects may be removed, and which may be victims.
use Rattle.std.specs.Prelude.{ℕ, ◌<◌, ◌≤◌, ◌≡◌, Bool, IsTrue, not, ◌&&◌, nat_eq, nat_lt, if◌then◌else◌}
use Rattle.std.specs.Prelude.{Option, Some, None, IfSome, List, [], ◌∷◌, length, slice_index_or}
use Rattle.std.specs.List.{All, filter}
use Rattle.object_table.specs.declared.row.ObjectRow.{ObjectRow}
use Rattle.object_table.specs.Table.{has_number, numbers, row_of, is_candidate}

-- numbers ascend above `low`
abbrev pub Climbs : ℕ → List ℕ → Type 0
Climbs low [] = Unit {0}
Climbs low (number ∷ rest) = (low < number) × Climbs number rest

-- ascending numbers with one more, unless it is there
abbrev pub inserted : ℕ → List ℕ → List ℕ
inserted number [] = number ∷ []
inserted number (first ∷ rest) =
    (if nat_lt number first then number ∷ first ∷ rest
    else if nat_eq first number then first ∷ rest
    else first ∷ inserted number rest)

-- numbers without one of them
abbrev pub removed : ℕ → List ℕ → List ℕ
removed number [] = []
removed number (first ∷ rest) = (if nat_eq first number then rest else first ∷ removed number rest)

-- ascending numbers with one that is to be among them, or is not to be
abbrev pub relisted : Bool → ℕ → List ℕ → List ℕ
relisted is_in number list = (if is_in then inserted number list else removed number list)

-- an object has no live sector, and no acknowledged checkpoint has passed it since it lost the last
abbrev pub is_dead : ObjectRow → Bool
is_dead row = nat_eq row.live 0 && not row.is_unmapped

-- the newest acknowledged checkpoint does not map an object, and no pin, no plan of a copy and no hold keeps it
abbrev pub is_free : ObjectRow → Bool
is_free row = row.is_unmapped && nat_eq row.pins 0 && not row.is_copied && not row.is_held

-- an object that the newest acknowledged checkpoint does not map has a lower number and no live sector
abbrev pub StaysUnmapped : (checkpoint : ℕ) → ObjectRow → Type 0
StaysUnmapped checkpoint row = IsTrue row.is_unmapped → (row.live ≡ 0) × (row.number < checkpoint)

-- a row that is put in place of the one with its number is unmapped only where that is, and has then no more live sectors
abbrev pub KeepsUnmapped : (rows : List ObjectRow) → ObjectRow → Type 0
KeepsUnmapped rows new =
    IfSome (row_of new.number rows)
    (λ (old : ObjectRow). IsTrue new.is_unmapped → IsTrue old.is_unmapped × (new.live ≤ old.live))

-- what holds of the rows of a table and of its three lists of numbers: the dead, those that may be removed, and those that may be
-- victims
pub record IsListed (checkpoint : ℕ) (rows : List ObjectRow) (dead free candidates : List ℕ) : Type 0 where
  pub order : Climbs 0 (numbers rows)
  pub unmapped : All (StaysUnmapped checkpoint) rows
  pub dead_are : dead ≡ numbers (filter is_dead rows)
  pub free_are : free ≡ numbers (filter is_free rows)
  pub candidates_are : candidates ≡ numbers (filter is_candidate rows)

-- the place of the row of a number; none where it is absent
abbrev pub IsPlaceOf : ℕ → List ObjectRow → Option ℕ → Type 0
IsPlaceOf number rows None = row_of number rows ≡ None
IsPlaceOf number rows (Some at) =
    (at < length rows) × ((blank : ObjectRow) → (slice_index_or rows at blank).number ≡ number)

-- the rows with the one of the same number replaced
abbrev pub with_row : ObjectRow → List ObjectRow → List ObjectRow
with_row new [] = []
with_row new (row ∷ rows) = (if has_number new.number row then new ∷ rows else row ∷ with_row new rows)
