-- Contract: the places of a checkpoint's rows, and how they go on.
use Rattle.std.specs.Prelude.{ℕ, ◌+◌}
use Rattle.ckpt_format.specs.declared.place.StoredPlace.{StoredPlace}

-- the place N sectors on in the payload
abbrev pub stored_on : ℕ → StoredPlace → StoredPlace
stored_on sectors at = record at { place = at.place + sectors }

-- the sector of the payload
abbrev pub stored_number : StoredPlace → ℕ
stored_number at = at.place
