-- Contract: what a function on sectors has to do with its shortest list of rows.
use Rattle.std.specs.Prelude.{ℕ, ◌+◌, ◌≡◌, ◌≤◌, ◌↔◌, IsTrue, List, [], ◌∷◌, length}
use Rattle.extent_map.specs.declared.extent.Extent.{Extent}
use Rattle.extent_map.specs.Extents.{place_at, IsShortest, is_within, is_met}

module _ {P : Type 0} where
  -- the first of these rows begins at this sector or past it
  abbrev pub StartsFrom : ℕ → List (Extent P) → Type 0
  StartsFrom at [] = Unit {0}
  StartsFrom at (row ∷ rows) = at ≤ row.lba

  -- each row ends before the next one begins, or where it does
  abbrev pub IsInOrder : List (Extent P) → Type 0
  IsInOrder [] = Unit {0}
  IsInOrder (row ∷ rows) = StartsFrom (row.lba + row.sectors) rows × IsInOrder rows

-- shortest lists of rows that give each sector the same place are one list
abbrev pub HasOneShortestList : {P : Type 0} → (ℕ → P → P) → Type 0
HasOneShortestList {P} on =
    (a b : List (Extent P)) → IsShortest on a → IsShortest on b
    → ((k : ℕ) → place_at on a k ≡ place_at on b k)
    → a ≡ b

-- rows in order that give each sector the place that a shortest list gives it are no fewer
abbrev pub HasNoShorterList : {P : Type 0} → (ℕ → P → P) → Type 0
HasNoShorterList {P} on =
    (a b : List (Extent P)) → IsShortest on a → IsInOrder b
    → ((k : ℕ) → place_at on a k ≡ place_at on b k)
    → length a ≤ length b

-- sectors meet a row exactly where one of them is a sector of the row
abbrev pub MeetsBySectors : Type 0 → Type 0
MeetsBySectors P =
    (lba sectors : ℕ) (row : Extent P)
    → IsTrue (is_met lba sectors row)
    ↔ ((k : ℕ) × IsTrue (is_within lba sectors k) × IsTrue (is_within row.lba row.sectors k))
