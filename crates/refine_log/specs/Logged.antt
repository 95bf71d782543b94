-- Contract: when the list of the log on the cache has the entries past the frontier's end.
use Rattle.std.specs.Prelude.{◌≡◌, ℕ, ◌+◌, ◌-◌, ◌≤◌, IfSome, List, drop}
use Rattle.std.specs.List.{AllByRecursion}
use Rattle.cache_log.specs.Rows.{seq_of, position_of}
use Rattle.cache_log.specs.Log.{LogState, AreRowsOf}
use Rattle.plain_disk.specs.State.{PlainState, frontier_end, logged_entries}

-- what the list of a log has from a seq on
abbrev pub listed_from : {A : Type 0} → (seq : ℕ) → LogState → List A → List A
listed_from seq log items = drop (seq - log.first) items

-- The log's list has the entries past the frontier's end, each as its record, and where the disk tells what it holds these are
-- its entries. Their data begin one sector past their records.
pub record HasLoggedEntries (data_at : ℕ → ℕ) (log : LogState) (plain : PlainState) : Type 0 where
  pub first : log.first ≤ frontier_end plain
  pub rows : AreRowsOf (listed_from (frontier_end plain) log log.rows) (logged_entries plain)
  pub entries : IfSome log.entries (λ list. listed_from (frontier_end plain) log list ≡ logged_entries plain)
  pub placed : AllByRecursion (λ row. data_at (seq_of row) ≡ position_of row + 1) log.rows
