-- Contract: a read through the maps is a read of the plain volume.
use Rattle.std.specs.Prelude.{◌≡◌, ℕ, ◌<◌, ◌↔◌, true, Some, List}
use Rattle.std.specs.List.{slice_get}
use Rattle.extent_map.specs.declared.extent.Extent.{Extent}
use Rattle.extent_map.specs.Extents.{place_at, place_in_range, IsShortest}
use Rattle.cache_log.specs.Log.{LogState}
use Rattle.volume_maps.specs.declared.place.ObjectPlace.{ObjectPlace}
use Rattle.volume_maps.specs.declared.place.VolumePlace.{VolumePlace}
use Rattle.volume_maps.specs.declared.place.VolumePlace.TheVariants.{Object}
use Rattle.volume_maps.specs.Places.{volume_on}
use Rattle.volume_maps.specs.Maps.{volume_place_at}
use Rattle.object_uploads.specs.Order.{IsUploads}
use Rattle.obj_log.specs.State.{ObjLogState}
use Rattle.plain_disk.specs.Writers.{read_calls}
use Rattle.plain_disk.specs.State.{PlainState, image_now, logged_entries}
use Rattle.plain_disk.specs.Reads.{is_read_from}
use Rattle.plain_disk.specs.Valid.{IsPlainVolume}
use Rattle.refine_log.specs.Shows.{ShowsLog}
use Rattle.refine_log.specs.Logged.{HasLoggedEntries}
use Rattle.refine_objects.specs.Shows.{ShowsObjects}
use Rattle.vol_core.specs.Places.{IsHeldAt, data_rows_in_log}

-- what a volume has of a plain volume that it shows, for its reads
pub record ShowsReads (data_at : ℕ → ℕ) (objects : ObjLogState) (log : LogState) (plain : PlainState) : Type 0 where
  pub ordered : IsUploads objects.uploads
  pub valid : IsPlainVolume plain
  pub objects_are : ShowsObjects data_at objects plain
  pub log_is : ShowsLog log plain.cache.log
  pub logged : HasLoggedEntries data_at log plain

-- each sector that the plain volume holds is where the maps have it
abbrev pub PlacesHoldSectors : Type 0
PlacesHoldSectors =
    (data_at : ℕ → ℕ) (objects : ObjLogState) (log : LogState) (plain : PlainState) (k : ℕ) (sector : List ℕ)
    → ShowsReads data_at objects log plain → slice_get (image_now plain) k ≡ Some sector
    → IsHeldAt log objects.uploads.queue (volume_place_at objects.uploads.queue.maps k) sector

-- a sector's place is in the object of a number exactly where the plain volume reads the sector from that object
abbrev pub PlacesAreOfObjectsRead : Type 0
PlacesAreOfObjectsRead =
    (data_at : ℕ → ℕ) (objects : ObjLogState) (log : LogState) (plain : PlainState) (k number : ℕ)
    → ShowsReads data_at objects log plain → k < plain.geometry.sectors
    → ((place : ObjectPlace) × (volume_place_at objects.uploads.queue.maps k ≡ Some (Object place)) × (place.level ≡ 0)
    × (place.number ≡ number))
    ↔ (is_read_from plain number k ≡ true)

-- The shortest list of rows of a range has as many rows of data in the log as the range has maximal runs of sectors that one same
-- write past the frontier's end wrote last.
abbrev pub RowsAreRuns : Type 0
RowsAreRuns =
    (data_at : ℕ → ℕ) (objects : ObjLogState) (log : LogState) (plain : PlainState) (lba sectors : ℕ)
    (rows : List (Extent VolumePlace))
    → ShowsReads data_at objects log plain → IsShortest volume_on rows
    → ((k : ℕ) → place_at volume_on rows k ≡ place_in_range lba sectors (volume_place_at objects.uploads.queue.maps) k)
    → data_rows_in_log rows ≡ read_calls (logged_entries plain) lba sectors
