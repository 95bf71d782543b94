-- For this crate's own clauses: rows in pages, and what a change makes of them.
use Rattle.std.specs.Prelude.{ℕ, ◌+◌, ◌<◌, ◌≤◌, ◌≡◌, ◌++◌, length}
use Rattle.page_list.specs.Items.{ListState, insert_room}
use Rattle.extent_map.specs.declared.extent.Extent.{Extent}
use Rattle.extent_map.specs.Cut.{rows_before, rows_from}
use Rattle.extent_map.specs.Extents.{place_at, place_after_set, IsShortest, Fits, AllFit}

module _ {P : Type 0} (on : ℕ → P → P) (number : P → ℕ) where
  -- rows in pages that a change may add N rows to
  pub record MayGrow (n : ℕ) (rows : ListState (Extent P)) : Type 0 where
    pub room : n ≤ insert_room rows
    pub shortest : IsShortest on rows.items
    pub fits : AllFit number rows.items

  -- a row was put in place of what rows in pages had on its sectors; they took room for two rows at most
  pub record IsSet (row : Extent P) (old new : ListState (Extent P)) : Type 0 where
    pub places : (k : ℕ) → place_at on new.items k ≡ place_after_set on row.lba row.sectors row.place (place_at on old.items) k
    pub shortest : IsShortest on new.items
    pub fits : AllFit number new.items
    pub count : length new.items ≤ length old.items + 2
    pub room : insert_room old ≤ insert_room new + 2

module _ {P : Type 0} where
  -- a row covers a sector, and fits
  pub record IsRow (number : P → ℕ) (row : Extent P) : Type 0 where
    pub some : 0 < row.sectors
    pub fits : Fits number row

  -- what is between two sectors was taken out of rows in pages; they took room for one row at most
  pub record IsTakenOut (on : ℕ → P → P) (lba end : ℕ) (old new : ListState (Extent P)) : Type 0 where
    pub rows : new.items ≡ rows_before lba old.items ++ rows_from on end (rows_from on lba old.items)
    pub count : length new.items ≤ length old.items + 1
    pub room : insert_room old ≤ insert_room new + 1
