-- Contract: which entry wrote a sector last, and the calls that a read takes.
use Rattle.std.specs.Prelude.{ℕ, ◌≡◌, ◌+◌, ◌==◌, Bool, false, ◌&&◌, nat_le, nat_lt, Option, Some, None, List, [], ◌∷◌, ◌++◌}
use Rattle.std.specs.Prelude.{length, map, if◌then◌else◌}
use Rattle.std.specs.List.{range_with_len}
use Rattle.lsvd_base.specs.declared.entry.Entry.{Entry}
use Rattle.lsvd_base.specs.declared.entry.Entry.TheVariants.{Write, Zero}
use Rattle.lsvd_base.specs.Laws.{first_sector, sector_count}

-- the entry covers the sector
abbrev pub covers_sector : Entry → ℕ → Bool
covers_sector entry sector = nat_le (first_sector entry) sector && nat_lt sector (first_sector entry + sector_count entry)

-- the last writer of a sector that the entry of this index covers: a zeroing is none
abbrev pub writer_of : ℕ → Entry → Option ℕ
writer_of index (Write lba body) = Some index
writer_of index (Zero lba sectors) = None

-- the last writer of a sector after the entry of this index, where it was this one before it
abbrev pub writer_after : ℕ → Entry → ℕ → Option ℕ → Option ℕ
writer_after index entry sector before = if covers_sector entry sector then writer_of index entry else before

-- the last writer of a sector after these entries, of which the first has this index
abbrev pub writer_after_all : ℕ → List Entry → ℕ → Option ℕ → Option ℕ
writer_after_all index [] sector before = before
writer_after_all index (entry ∷ entries) sector before =
    writer_after_all (index + 1) entries sector (writer_after index entry sector before)

-- The index of the last entry that covers the sector, if that is a write. None is where no entry covers it, or the
-- last that does is a zeroing.
abbrev pub last_writer : List Entry → ℕ → Option ℕ
last_writer history sector = writer_after_all 0 history sector None

-- the last writers of `sectors` sectors from lba on
abbrev pub writers : List Entry → ℕ → ℕ → List (Option ℕ)
writers history lba sectors = map (last_writer history) (range_with_len lba sectors)

-- the sector with this last writer goes on with the write of the sector before it
abbrev pub goes_on : (before writer : Option ℕ) → Bool
goes_on None writer = false
goes_on (Some index) None = false
goes_on (Some index) (Some other) = index == other

-- how many runs a sector with this last writer begins: one, if it has one and does not go on
abbrev pub run_starts : (before writer : Option ℕ) → ℕ
run_starts before None = 0
run_starts before (Some index) = if goes_on before (Some index) then 0 else 1

-- the runs of sectors with one same last writer, after a sector with this one
abbrev pub runs_after : Option ℕ → List (Option ℕ) → ℕ
runs_after before [] = 0
runs_after before (writer ∷ more) = run_starts before writer + runs_after writer more

-- the maximal runs of sectors with one same last writer
abbrev pub runs : List (Option ℕ) → ℕ
runs writers = runs_after None writers

-- the calls that a read takes: one for each maximal run of its sectors that one same write wrote last
abbrev pub read_calls : List Entry → ℕ → ℕ → ℕ
read_calls history lba sectors = runs (writers history lba sectors)

-- these are the last writers of sectors from lba on, and then they are those after the entry of this index too
abbrev pub Follows : ℕ → ℕ → Entry → List (Option ℕ) → List (Option ℕ) → Type 0
Follows lba index entry old new =
    (history : List Entry) → length history ≡ index → old ≡ writers history lba (length old)
    → new ≡ writers (history ++ entry ∷ []) lba (length old)
