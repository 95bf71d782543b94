-- For this crate's own clauses: rows that go on with one another and are joined, and rows before a sector.
use Rattle.std.specs.Prelude.{ℕ, ◌+◌, ◌≤◌, ◌≡◌, ◌⊎◌, List, [], ◌∷◌, ◌++◌}
use Rattle.extent_map.specs.declared.extent.Extent.{Extent}

module _ {P : Type 0} (on : ℕ → P → P) where
  -- the next row touches a row and goes on with its places
  pub record GoesOn (row next : Extent P) : Type 0 where
    pub touches : row.lba + row.sectors ≡ next.lba
    pub places : on row.sectors row.place ≡ next.place

module _ {P : Type 0} where
  -- each of these rows ends at this sector or before it
  abbrev pub EndBy : ℕ → List (Extent P) → Type 0
  EndBy at [] = Unit {0}
  EndBy at (row ∷ rows) = (row.lba + row.sectors ≤ at) × EndBy at rows

  -- a row and the next one, which goes on with it, as one row
  abbrev pub joined : Extent P → Extent P → Extent P
  joined row next = record row { sectors = row.sectors + next.sectors }

module _ {P : Type 0} (on : ℕ → P → P) where
  -- a row was joined with the first of the rows after it where that goes on with it, and these are left
  abbrev pub TakesNext : Extent P → List (Extent P) → Extent P → List (Extent P) → Type 0
  TakesNext row [] new left = (new ≡ row) × (left ≡ [])
  TakesNext row (next ∷ rows) new left =
      (GoesOn on row next × (new ≡ joined row next) × (left ≡ rows))
      ⊎ ((GoesOn on row next → ⊥) × (new ≡ row) × (left ≡ next ∷ rows))

  -- a row was put after others: joined with the last of them where it goes on with that, or else by itself
  abbrev pub IsPutAfter : List (Extent P) → Extent P → List (Extent P) → List (Extent P) → Type 0
  IsPutAfter front row back new =
      ((rest : List (Extent P)) × (last : Extent P) × (front ≡ rest ++ last ∷ []) × GoesOn on last row
      × (new ≡ rest ++ joined last row ∷ back))
      ⊎ (((rest : List (Extent P)) (last : Extent P) → front ≡ rest ++ last ∷ [] → GoesOn on last row → ⊥)
      × (new ≡ front ++ row ∷ back))
