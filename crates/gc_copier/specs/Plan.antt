-- Contract: what is seen of the plan of a copy: which sectors are copied, and from where.
use Rattle.std.specs.Prelude.{◌≡◌, ℕ, ◌+◌, ◌*◌, ◌<◌, ◌≤◌, List, [], ◌∷◌, map}
use Rattle.std.specs.List.{All, Contains, sum_by}
use Rattle.std.specs.List.Sorted.{IsStrictlyIncreasing}
use Rattle.lsvd_objstore.specs.Store.{ReceiptState}
use Rattle.object_format.specs.declared.copy_row.CopyRow.{CopyRow}
use Rattle.gc_copier.specs.declared.source.PlanSource.{PlanSource}

-- an object that data are taken from, as it is seen
pub record SourceState : Type 0 where
  pub number : ℕ
  -- how many sectors it has before its payload
  pub front : ℕ
  -- what the store gave for it
  pub receipt : ReceiptState

-- what is seen of a source, and of several
abbrev pub seen : {R : Type 0} → (R → ReceiptState) → PlanSource R → SourceState
seen state source = record { number = source.number; front = source.front; receipt = state source.receipt }

abbrev pub all_seen : {R : Type 0} → (R → ReceiptState) → List (PlanSource R) → List SourceState
all_seen state sources = map (seen state) sources

-- the plan of a copy: the rows of the copy object to come, and the objects that their data are taken from
pub record PlanState : Type 0 where
  pub rows : List CopyRow
  pub sources : List SourceState

-- ---- what a plan is

-- the sectors of rows
abbrev pub sectors_of : List CopyRow → ℕ
sectors_of rows = sum_by (λ (row : CopyRow). row.sectors) rows

-- the numbers of sources
abbrev pub numbers_of : List SourceState → List ℕ
numbers_of sources = map (λ (source : SourceState). source.number) sources

-- a row has sectors, none of them before this one, its data stand at this sector of the payload, and its source is of level 0
pub record StandsAt (lba at : ℕ) (row : CopyRow) : Type 0 where
  pub some : 0 < row.sectors
  pub from : lba ≤ row.lba
  pub place : row.place ≡ at
  pub level : row.source.level ≡ 0

-- each of some rows begins at or past the end of the one before, and so do its data, which stand just at that end
abbrev pub StandInOrder : (lba at : ℕ) → List CopyRow → Type 0
StandInOrder lba at [] = Unit {0}
StandInOrder lba at (row ∷ rows) = StandsAt lba at row × StandInOrder (row.lba + row.sectors) (at + row.sectors) rows

-- the source of a row is one of these, and its object has the row's sectors in its payload
pub record HasSource (sources : List SourceState) (row : CopyRow) : Type 0 where
  pub source : SourceState
  pub is : Contains sources source
  pub number : source.number ≡ row.source.number
  pub inside : 512 * (source.front + row.source.place + row.sectors) ≤ source.receipt.size

-- rows and sources are those of a plan
pub record IsPlan (rows : List CopyRow) (sources : List SourceState) : Type 0 where
  pub order : StandInOrder 0 0 rows
  pub few : sectors_of rows ≤ 131071
  pub ascending : IsStrictlyIncreasing (numbers_of sources)
  pub have : All (HasSource sources) rows
