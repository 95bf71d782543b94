-- Contract: what a volume knows of its own objects that stand in the store, and which of them may be removed.
use Rattle.std.specs.Prelude.{ℕ, ◌+◌, ◌-◌, ◌*◌, ◌<◌, ◌≤◌, ◌≡◌, Bool, true, false, not, IsTrue, ◌&&◌, nat_eq, nat_lt}
use Rattle.std.specs.Prelude.{if◌then◌else◌, Option, Some, None, List, [], ◌∷◌, ◌++◌, map, find}
use Rattle.std.specs.List.{All, filter}
use Rattle.object_table.specs.declared.row.ObjectRow.{ObjectRow}

-- a table of objects
pub record TableState : Type 0 where
  -- a row for each object, by ascending number
  pub rows : List ObjectRow
  -- the number of the newest acknowledged checkpoint, 0 for none
  pub checkpoint : ℕ
  -- how many more objects it has room for
  pub spare : ℕ

-- ---- rows by their numbers

abbrev pub has_number : ℕ → ObjectRow → Bool
has_number number row = nat_eq row.number number

abbrev pub numbers : List ObjectRow → List ℕ
numbers rows = map (λ (row : ObjectRow). row.number) rows

-- the row of a number
abbrev pub row_of : ℕ → List ObjectRow → Option ObjectRow
row_of number rows = find (has_number number) rows

-- the live sectors of the object of a number, 0 for one that is absent
abbrev pub live_in : Option ObjectRow → ℕ
live_in None = 0
live_in (Some row) = row.live

abbrev pub live_of : ℕ → List ObjectRow → ℕ
live_of number rows = live_in (row_of number rows)

-- the rows with the one of a number changed, and all others as they were
abbrev pub changed : (ObjectRow → ObjectRow) → ℕ → List ObjectRow → List ObjectRow
changed change number [] = []
changed change number (row ∷ rows) =
    (if has_number number row then change row ∷ rows else row ∷ changed change number rows)

-- the rows without the one of a number
abbrev pub without : ℕ → List ObjectRow → List ObjectRow
without number [] = []
without number (row ∷ rows) = (if has_number number row then rows else row ∷ without number rows)

-- a number is above those of all rows, and above that of the newest acknowledged checkpoint
pub record IsNewest (table : TableState) (number : ℕ) : Type 0 where
  pub above_rows : All (λ (row : ObjectRow). row.number < number) table.rows
  pub above_checkpoint : table.checkpoint < number

-- ---- which objects may be removed

-- An object may be removed: the newest acknowledged checkpoint has a greater number, it does not map the object, no pin is on it,
-- no plan of a copy takes sectors from it, and no hold keeps it. So it is not that checkpoint, and no live sector is in it.
pub record IsRemovable (table : TableState) (number : ℕ) : Type 0 where
  pub row : ObjectRow
  pub stands : row_of number table.rows ≡ Some row
  pub below : number < table.checkpoint
  pub unmapped : IsTrue row.is_unmapped
  pub dead : row.live ≡ 0
  pub no_pins : row.pins ≡ 0
  pub not_copied : row.is_copied ≡ false
  pub not_held : row.is_held ≡ false

-- the lowest number that may be removed; none where there is no such number
abbrev pub IsLowestRemovable : TableState → Option ℕ → Type 0
IsLowestRemovable table None = (number : ℕ) → IsRemovable table number → ⊥
IsLowestRemovable table (Some lowest) =
    IsRemovable table lowest × ((number : ℕ) → IsRemovable table number → lowest ≤ number)

-- ---- which objects a collection may take sectors from

-- An object may be a victim: some sectors of the settled map are in it, they are fewer than 70 in a hundred of its payload, and
-- no hold keeps it.
abbrev pub is_candidate : ObjectRow → Bool
is_candidate row = nat_lt 0 row.live && nat_lt (row.live * 100) (70 * row.payload) && not row.is_held

-- their numbers, ascending
abbrev pub candidates : List ObjectRow → List ℕ
candidates rows = numbers (filter is_candidate rows)

-- ---- the changes

-- a row after the settled map took so many of its sectors more, or less
abbrev pub gained : ℕ → ObjectRow → ObjectRow
gained sectors row = record row { live = row.live + sectors }

abbrev pub lost : ℕ → ObjectRow → ObjectRow
lost sectors row = record row { live = row.live - sectors }

-- and after one more pin, or one less
abbrev pub pinned : ObjectRow → ObjectRow
pinned row = record row { pins = row.pins + 1 }

abbrev pub unpinned : ObjectRow → ObjectRow
unpinned row = record row { pins = row.pins - 1 }

-- and once a plan of a copy takes sectors from it, or no longer does
abbrev pub copied : (is_copied : Bool) → ObjectRow → ObjectRow
copied is_copied row = record row { is_copied = is_copied }

-- and once a hold keeps it
abbrev pub held : ObjectRow → ObjectRow
held row = record row { is_held = true }

-- a table with the row of a number changed
abbrev pub with_changed : (ObjectRow → ObjectRow) → ℕ → TableState → TableState
with_changed change number table = record table { rows = changed change number table.rows }

-- an object is added: it has no live sector yet, nothing holds it, and no acknowledged checkpoint has passed it
abbrev pub new_row : (number payload front : ℕ) → ObjectRow
new_row number payload front = record {
  number = number;
  payload = payload;
  front = front;
  live = 0;
  pins = 0;
  is_copied = false;
  is_unmapped = false;
  is_held = false;
}

abbrev pub added : ObjectRow → TableState → TableState
added row table = record table { rows = table.rows ++ row ∷ []; spare = table.spare - 1 }

-- a checkpoint that is just acknowledged maps an object exactly where that has a live sector now
abbrev pub passed : ObjectRow → ObjectRow
passed row = record row { is_unmapped = nat_eq row.live 0 }

-- a table after a checkpoint was acknowledged: it passes each object, and is one itself
abbrev pub acknowledged : (number : ℕ) → TableState → TableState
acknowledged number table = record {
  rows = map passed table.rows ++ new_row number 0 0 ∷ [];
  checkpoint = number;
  spare = table.spare - 1;
}
