-- Contract: what contracts see of a map.
use Rattle.std.specs.Prelude.{ℕ, List, refl}
use Rattle.std.specs.Coded.{Coded, code_by, coded×, coded_list, coded_ℕ}
use Rattle.extent_map.specs.declared.extent.Extent.{Extent}

-- a map
pub record MapState (P : Type 0) : Type 0 where
  -- its rows, from the lowest sector on
  pub rows : List (Extent P)
  -- how many changes it has room for
  pub spare : ℕ

module _ {P : Type 0} where
  abbrev pub extent_of : ℕ × (ℕ × P) → Extent P
  extent_of x = record { lba = x.0; sectors = x.1.0; place = x.1.1 }

  abbrev pub extent_code : Coded P → Coded (Extent P)
  extent_code c =
      code_by (ℕ × (ℕ × P)) (coded× coded_ℕ (coded× coded_ℕ c)) (λ e. (e.lba, (e.sectors, e.place))) extent_of (λ _. refl)

  abbrev pub map_state : List (Extent P) × ℕ → MapState P
  map_state x = record { rows = x.0; spare = x.1 }

  -- a map is stored as the pair of its rows and its room
  abbrev pub map_state_code : Coded P → Coded (MapState P)
  map_state_code c =
      code_by (List (Extent P) × ℕ) (coded× (coded_list (extent_code c)) coded_ℕ) (λ m. (m.rows, m.spare)) map_state (λ _. refl)
