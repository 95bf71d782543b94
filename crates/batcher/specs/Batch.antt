-- Contract: the sectors of data of a batch's entries, when it is full, and how many of them the next object takes.
use Rattle.std.specs.Prelude.{ℕ, ◌≡◌, ◌/◌, ◌<◌, ◌≤◌, ◌⊎◌, nat_le, IsSome, IsNone, Option, Some, None, List, length, take}
use Rattle.std.specs.Prelude.{if◌then◌else◌}
use Rattle.std.specs.List.{sum_by}
use Rattle.lsvd_base.specs.declared.entry.Entry.{Entry}
use Rattle.lsvd_base.specs.declared.entry.Entry.TheVariants.{Write, Zero}
use Rattle.batcher.specs.declared.full.Full.{Full}
use Rattle.batcher.specs.declared.full.Full.TheVariants.{Sectors, Entries}

-- the sectors of data that an entry carries: a zeroing carries none
abbrev pub data_sectors : Entry → ℕ
data_sectors (Write lba body) = length body / 512
data_sectors (Zero lba sectors) = 0

-- the most entries of a batch
abbrev pub max_entries : ℕ
max_entries = 16384

-- Why a batch takes no further entry: its entries carry as many sectors of data as the volume's batch has, or they are
-- the most of a batch. None where it takes one.
abbrev pub fullness : (batch sectors entries : ℕ) → Option Full
fullness batch sectors entries =
    if nat_le batch sectors then Some (Sectors sectors)
    else (if nat_le max_entries entries then Some (Entries entries) else None)

-- the same of the first of some entries
abbrev pub fullness_of_first : (batch : ℕ) → List Entry → ℕ → Option Full
fullness_of_first batch entries n = fullness batch (sum_by data_sectors (take n entries)) n

-- how many entries the next object takes: the fewest from the first on that are full, or all where they are never full
pub record IsSealedCount (batch : ℕ) (entries : List Entry) (n : ℕ) : Type 0 where
  pub within : n ≤ length entries
  pub fewest : (fewer : ℕ) → fewer < n → IsNone (fullness_of_first batch entries fewer)
  pub full_or_all : IsSome (fullness_of_first batch entries n) ⊎ (n ≡ length entries)
