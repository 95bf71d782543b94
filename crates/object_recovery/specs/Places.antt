-- Contract: where the places in the map of a recovered list lie.
use Rattle.std.specs.Prelude.{◌≡◌, ℕ, ◌<◌, Some}
use Rattle.volume_maps.specs.declared.place.ObjectPlace.{ObjectPlace}
use Rattle.volume_maps.specs.Maps.{settled_at}
use Rattle.object_uploads.specs.State.{QueueState}
use Rattle.object_uploads.specs.Queue.{stored_at}
use Rattle.object_uploads.specs.Collection.{IsInsideObject}

-- Each sector that the objects' map has is one of the volume's, and stands in an object that was adopted, or taken up of an
-- ancestor, inside it.
abbrev pub HasPlacesInside : (sectors : ℕ) → QueueState → Type 0
HasPlacesInside sectors queue =
    (k : ℕ) (place : ObjectPlace) → settled_at queue.maps k ≡ Some place
    → (k < sectors) × IsInsideObject (stored_at queue place) place.sector
