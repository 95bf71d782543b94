-- Contract: a list of rows as a function from sectors to places, and which lists are the shortest of their function.
use Rattle.std.specs.Prelude.{ℕ, ◌+◌, ◌-◌, ◌^◌, ◌<◌, ◌≤◌, ◌≡◌, ◌⊎◌, Bool, ◌&&◌, nat_le, nat_lt, max, min, count_by, if◌then◌else◌}
use Rattle.std.specs.Prelude.{Option, Some, None, List, [], ◌∷◌, slice_get}
use Rattle.extent_map.specs.declared.extent.Extent.{Extent}

-- the sector k is one of the N sectors from lba on
abbrev pub is_within : ℕ → ℕ → ℕ → Bool
is_within lba sectors k = nat_le lba k && nat_lt k (lba + sectors)

-- how a map's places go on
module _ {P : Type 0} (on : ℕ → P → P) where
  -- the number of a place rises by one with each sector, or it is 0 and stays so, as that of zeros, which stand nowhere
  abbrev pub NumbersGoOn : (P → ℕ) → Type 0
  NumbersGoOn number = (n : ℕ) (p : P) → (number (on n p) ≡ number p + n) ⊎ ((number p ≡ 0) × (number (on n p) ≡ 0))

  -- a test says of the place N sectors on from a place what it says of that place
  abbrev pub IsSteady : (P → Bool) → Type 0
  IsSteady test = (n : ℕ) (p : P) → test (on n p) ≡ test p

  -- the place that rows give a sector, where a row covers it
  abbrev pub place_at : List (Extent P) → ℕ → Option P
  place_at [] k = None
  place_at (row ∷ rows) k =
      (if is_within row.lba row.sectors k then Some (on (k - row.lba) row.place) else place_at rows k)

  -- the places after the sectors from lba on were set to the places from this one on
  abbrev pub place_after_set : ℕ → ℕ → P → (ℕ → Option P) → ℕ → Option P
  place_after_set lba sectors place old k = (if is_within lba sectors k then Some (on (k - lba) place) else old k)

  -- a row ends before the next one begins, or where they touch, the next one does not go on with its places
  pub record ComesBefore (row next : Extent P) : Type 0 where
    pub in_order : row.lba + row.sectors ≤ next.lba
    pub apart : row.lba + row.sectors ≡ next.lba → on row.sectors row.place ≡ next.place → ⊥

  -- the same of the first of these rows
  abbrev pub ComesBeforeFirst : Extent P → List (Extent P) → Type 0
  ComesBeforeFirst row [] = Unit {0}
  ComesBeforeFirst row (next ∷ rows) = ComesBefore row next

  -- the shortest list of rows in order that gives its places: each row covers a sector, the rows ascend, and none
  -- goes on with the one before it
  abbrev pub IsShortest : List (Extent P) → Type 0
  IsShortest [] = Unit {0}
  IsShortest (row ∷ rows) = (0 < row.sectors) × ComesBeforeFirst row rows × IsShortest rows

module _ {P : Type 0} where
  -- the places after the sectors from lba on were cleared
  abbrev pub place_after_clear : ℕ → ℕ → (ℕ → Option P) → ℕ → Option P
  place_after_clear lba sectors old k = (if is_within lba sectors k then None else old k)

  -- a place, or none where it passes a test
  abbrev pub place_unless : (P → Bool) → Option P → Option P
  place_unless test None = None
  place_unless test (Some place) = (if test place then None else Some place)

  -- the places after those of the sectors from lba on whose places pass a test were cleared
  abbrev pub place_after_clear_if : ℕ → ℕ → (P → Bool) → (ℕ → Option P) → ℕ → Option P
  place_after_clear_if lba sectors test old k = (if is_within lba sectors k then place_unless test (old k) else old k)

  -- the places of the sectors from lba on, and no others
  abbrev pub place_in_range : ℕ → ℕ → (ℕ → Option P) → ℕ → Option P
  place_in_range lba sectors old k = (if is_within lba sectors k then old k else None)

  -- a row and the sectors from lba on share a sector: the greater of their first sectors is before the ends of both
  abbrev pub is_met : ℕ → ℕ → Extent P → Bool
  is_met lba sectors row = nat_lt (max lba row.lba) (min (lba + sectors) (row.lba + row.sectors))

  -- how many rows the sectors from lba on meet: those that share a sector with them
  abbrev pub met : ℕ → ℕ → List (Extent P) → ℕ
  met lba sectors rows = count_by (is_met lba sectors) rows

  -- a row ends below 2^63, and so do its places
  pub record Fits (number : P → ℕ) (row : Extent P) : Type 0 where
    pub sectors : row.lba + row.sectors < 2 ^ 63
    pub places : number row.place + row.sectors < 2 ^ 63

  -- all rows do
  abbrev pub AllFit : (P → ℕ) → List (Extent P) → Type 0
  AllFit number [] = Unit {0}
  AllFit number (row ∷ rows) = Fits number row × AllFit number rows

  -- no sector of a range has a place
  abbrev pub IsBare : ℕ → ℕ → (ℕ → Option P) → Type 0
  IsBare lba sectors old = (k : ℕ) → lba ≤ k → k < lba + sectors → old k ≡ None

module _ {P : Type 0} (on : ℕ → P → P) where
  -- the first row of a range, none where it has no rows: its rows are the shortest list that gives just its sectors
  -- their places
  pub record IsFirstOfRange (lba sectors : ℕ) (old : ℕ → Option P) (first : Option (Extent P)) : Type 0 where
    pub rows : List (Extent P)
    pub shortest : IsShortest on rows
    pub places : (k : ℕ) → place_at on rows k ≡ place_in_range lba sectors old k
    pub is_first : first ≡ slice_get rows 0

  -- a row of sectors of a range, of which those before the row have no place, and those of the row have its places
  pub record StartsRange (lba sectors : ℕ) (old : ℕ → Option P) (row : Extent P) : Type 0 where
    pub some : 0 < row.sectors
    pub from : lba ≤ row.lba
    pub to : row.lba + row.sectors ≤ lba + sectors
    pub none_before : (k : ℕ) → lba ≤ k → k < row.lba → old k ≡ None
    pub places : (k : ℕ) → row.lba ≤ k → k < row.lba + row.sectors → old k ≡ Some (on (k - row.lba) row.place)
