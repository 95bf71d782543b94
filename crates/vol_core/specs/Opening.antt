-- Contract: a volume that was opened at a later object shows the plain volume from its first object on.
use Rattle.std.specs.Prelude.{◌≡◌, ℕ, ◌≤◌, IfSome, []}
use Rattle.volume_maps.specs.declared.place.ObjectPlace.{ObjectPlace}
use Rattle.volume_maps.specs.Maps.{settled_at}
use Rattle.object_uploads.specs.Stream.{IsPlacedIn}
use Rattle.plain_disk.specs.State.{PlainState, stream_in, frontier_of, folded_to}
use Rattle.plain_disk.specs.Valid.{IsPlainVolume}
use Rattle.vol_core.specs.Volume.{VolumeState}
use Rattle.vol_core.specs.Shows.{Shows}

-- each place in the map of a volume's objects that is in one up to a number, or in an ancestor's, is where that object has the
-- plain volume's sector
abbrev pub ArePlacedTo : VolumeState → PlainState → (number : ℕ) → Type 0
ArePlacedTo volume plain number =
    (k : ℕ) → IfSome (settled_at volume.objects.uploads.queue.maps k) (λ (place : ObjectPlace).
    (place.level ≡ 0 → place.number ≤ number) → IsPlacedIn (stream_in plain) k place)

-- Where a volume shows what a plain volume becomes when the entries of its first objects are folded into its image, up to one
-- that is not past the frontier, and no object is on its way, it shows that plain volume, if its map has the places of those
-- objects.
abbrev pub ShowsFromFirst : Type 0
ShowsFromFirst =
    (volume : VolumeState) (plain : PlainState) (number : ℕ)
    → IsPlainVolume plain → plain.number ≤ number → number ≤ frontier_of plain → volume.objects.uploads.queue.sealed ≡ []
    → ArePlacedTo volume plain number → Shows volume (folded_to number plain) → Shows volume plain
