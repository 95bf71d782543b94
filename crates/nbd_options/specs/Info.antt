-- Contract: the data of an option that asks for information about an export.
use Rattle.std.specs.Prelude.{ℕ, ◌≡◌, ◌+◌, ◌*◌, ◌^◌, ◌<◌, ◌≤◌, List, ◌++◌, length}
use Rattle.std.specs.Int.{w16, w32, to_be_bytes}
use Rattle.lsvd_bytes.specs.Places.{number_at}

-- the length of a name, the name, the count of the types of information that are asked for, and two bytes for each
abbrev pub info_data : (name : List ℕ) → (count : ℕ) → (types : List ℕ) → List ℕ
info_data name count types = to_be_bytes w32 (length name) ++ name ++ to_be_bytes w16 count ++ types

-- bytes ask so for information
pub record AsksFor (bytes name types : List ℕ) : Type 0 where
  pub count : ℕ
  pub spelled : bytes ≡ info_data name count types
  pub name_fits : length name < 2 ^ 32
  pub count_fits : count < 2 ^ 16
  pub two_each : length types ≡ 2 * count

-- bytes do not ask for information
abbrev pub AsksForNothing : List ℕ → Type 0
AsksForNothing bytes = (name types : List ℕ) → AsksFor bytes name types → ⊥

-- one of the types is this one
abbrev pub HasType : List ℕ → ℕ → Type 0
HasType types kind = (i : ℕ) × (2 * i + 2 ≤ length types) × (number_at w16 (2 * i) types ≡ kind)
