-- For this crate's own clauses: where objects under way stand in their list.
use Rattle.std.specs.Prelude.{ℕ, suc, ◌==◌, nat_lt, if◌then◌else◌, Bool, false, Option, Some, None, List, [], ◌∷◌}
use Rattle.std.specs.List.{slice_get}
use Rattle.replay_rig.specs.Puts.{PutView}

-- where the first object stands whose number is not below this one
abbrev pub place_of_put : (number : ℕ) → List PutView → ℕ
place_of_put number [] = 0
place_of_put number (put ∷ puts) = if nat_lt put.number number then suc (place_of_put number puts) else 0

-- an object has this number
abbrev pub is_of_number : (number : ℕ) → Option PutView → Bool
is_of_number number None = false
is_of_number number (Some put) = put.number == number

-- the object at a place has this number
abbrev pub stands_at_place : (place number : ℕ) → List PutView → Bool
stands_at_place place number puts = is_of_number number (slice_get puts place)
