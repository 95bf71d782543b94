-- Contract: what owns the sectors of a clone's opening.
use Rattle.std.specs.Prelude.{ℕ, ◌≡◌, List, map, option_map}
use Rattle.extent_map.specs.declared.extent.Extent.{Extent}
use Rattle.extent_map.specs.Extents.{place_at}
use Rattle.ckpt_format.specs.declared.place.StoredPlace.{StoredPlace}
use Rattle.ckpt_format.specs.Places.{stored_on}
use Rattle.clone_opening.specs.Raised.{raised_place, raised}

-- what owns a sector of the clone's opening is what owns it in the base, one level further
abbrev pub RaisesEachOwner : Type 0
RaisesEachOwner =
    (rows : List (Extent StoredPlace)) (k : ℕ)
    → place_at stored_on (map raised rows) k ≡ option_map raised_place (place_at stored_on rows k)
