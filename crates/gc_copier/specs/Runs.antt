-- For this crate's own clauses: which rows are read together, and what is written of them.
use Rattle.std.specs.Prelude.{◌≡◌, ℕ, ◌+◌, ◌-◌, ◌*◌, ◌≤◌, ◌⊎◌, max, List, [], ◌∷◌, length, take}
use Rattle.std.specs.List.{All, Contains}
use Rattle.std.specs.List.Sorted.{IsStrictlyIncreasing}
use Rattle.lsvd_bytes.specs.Places.{bytes_at, with_bytes}
use Rattle.object_format.specs.declared.copy_row.Source.{Source}
use Rattle.object_format.specs.declared.copy_row.CopyRow.{CopyRow}
use Rattle.gc_copier.specs.declared.error.CopyError.{CopyError}
use Rattle.gc_copier.specs.declared.error.CopyError.TheVariants.{Failed, OutOfMemory}
use Rattle.gc_copier.specs.declared.runs.Run.{Run}
use Rattle.gc_copier.specs.Plan.{SourceState, HasSource, numbers_of}
use Rattle.gc_copier.specs.Copying.{AreTold, AreData, data_in}

-- ---- runs

-- a row's data lie in so many sectors of a source from this one on
pub record IsInRun (first : Source) (sectors : ℕ) (row : CopyRow) : Type 0 where
  pub number : row.source.number ≡ first.number
  pub from : first.place ≤ row.source.place
  pub to : row.source.place + row.sectors ≤ first.place + sectors

-- a run of so many sectors has this many with one more row, and no more than a run may have
pub record IsLonger (first : Source) (sectors : ℕ) (row : CopyRow) (more : ℕ) : Type 0 where
  pub has : IsInRun first more row
  pub is : more ≡ max sectors (row.source.place - first.place + row.sectors)
  pub most : more ≤ 2048

-- a run of the first of some rows: it has their data, and no more sectors than they reach
pub record IsRun (first : Source) (rows : List CopyRow) (run : Run) : Type 0 where
  pub count : run.rows ≤ length rows
  pub most : run.sectors ≤ 2048
  pub has : All (IsInRun first run.sectors) (take run.rows rows)
  pub reach : (end : ℕ) → first.place ≤ end
      → All (λ (row : CopyRow). row.source.place + row.sectors ≤ end) (take run.rows rows) → first.place + run.sectors ≤ end

-- ---- what may be read

-- a row's data may be read from a source into a payload of so many bytes
pub record IsReadable (source : SourceState) (size : ℕ) (row : CopyRow) : Type 0 where
  pub object : 512 * (source.front + row.source.place + row.sectors) ≤ source.receipt.size
  pub room : 512 * (row.place + row.sectors) ≤ size

-- a payload of so many bytes has room for a row's data at their place
abbrev pub HasRoom : (size : ℕ) → CopyRow → Type 0
HasRoom size row = 512 * (row.place + row.sectors) ≤ size

-- a row's data lie in so many bytes of its source from the sector `place` on
pub record IsPartOf (place size : ℕ) (row : CopyRow) : Type 0 where
  pub from : place ≤ row.source.place
  pub to : 512 * (row.source.place - place + row.sectors) ≤ size

-- rows have their sources, and room in a payload of so many bytes
pub record CanRead (sources : List SourceState) (size : ℕ) (rows : List CopyRow) : Type 0 where
  pub ascending : IsStrictlyIncreasing (numbers_of sources)
  pub have : All (HasSource sources) rows
  pub room : All (HasRoom size) rows

-- ---- what is written

-- a payload with the data of rows written one after the other, from bytes that begin at the sector `place` of their source
abbrev pub spread_over : (place : ℕ) (piece : List ℕ) → List CopyRow → (payload : List ℕ) → List ℕ
spread_over place piece [] payload = payload
spread_over place piece (row ∷ rows) payload =
    spread_over place piece rows
    (with_bytes (512 * row.place) (bytes_at (512 * (row.source.place - place)) (512 * row.sectors) piece) payload)

-- the data of rows of one source were written into a payload one after the other
abbrev pub AreWritten : SourceState → List CopyRow → (old new : List ℕ) → Type 0
AreWritten source [] old new = new ≡ old
AreWritten source (row ∷ rows) old new =
    (bytes : List ℕ) × (length bytes ≡ 512 * row.sectors) × AreTold source row bytes
    × AreWritten source rows (with_bytes (512 * row.place) bytes old) new

-- the data of two rows stand apart in a payload, or the rows are one
abbrev pub AreApart : CopyRow → CopyRow → Type 0
AreApart row other = (other ≡ row) ⊎ (other.place + other.sectors ≤ row.place) ⊎ (row.place + row.sectors ≤ other.place)

-- A row that stands apart from these has its data in a payload, where it is one of these or had them there before.
pub record Fills (sources : List SourceState) (rows : List CopyRow) (old new : List ℕ) : Type 0 where
  pub each : (row : CopyRow) → All (AreApart row) rows → Contains rows row ⊎ AreData sources row (data_in row old)
      → AreData sources row (data_in row new)

-- ---- errors

-- the store failed at one of the sources
abbrev pub IsFailure : List SourceState → CopyError → Type 0
IsFailure sources (Failed number) = Contains (numbers_of sources) number
IsFailure sources OutOfMemory = ⊥
