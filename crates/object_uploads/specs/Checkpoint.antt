-- Contract: what a checkpoint that is sealed holds: the objects' map as it is once all objects before the checkpoint are settled.
use Rattle.std.specs.Prelude.{◌≡◌, ℕ, ◌+◌, Option, Some, option_map, List}
use Rattle.extent_map.specs.declared.extent.Extent.{Extent}
use Rattle.extent_map.specs.Extents.{place_at}
use Rattle.object_format.specs.declared.expected.Expected.{Expected}
use Rattle.ckpt_format.specs.declared.place.StoredPlace.{StoredPlace}
use Rattle.ckpt_format.specs.Places.{stored_on}
use Rattle.ckpt_format.specs.Checkpoint.{IsCheckpoint}
use Rattle.volume_maps.specs.declared.place.ObjectPlace.{ObjectPlace}
use Rattle.object_uploads.specs.declared.rows.SealedRows.TheVariants.{Checkpoint}
use Rattle.object_uploads.specs.State.{UploadsState}
use Rattle.object_uploads.specs.Queue.{end_of_last, sealed_at}
use Rattle.object_uploads.specs.Changes.{IsSealedNext}

-- the place in a map that a row's place stands for
abbrev pub mapped_place : StoredPlace → ObjectPlace
mapped_place place = record { level = place.level; number = place.number; sector = place.place }

-- bytes are a checkpoint whose rows say of each sector what a map says of it
pub record HoldsPlaces (bytes : List ℕ) (expected : Expected) (end : ℕ) (places : ℕ → Option ObjectPlace) : Type 0 where
  pub rows : List (Extent StoredPlace)
  pub is_checkpoint : IsCheckpoint bytes expected end rows
  pub same : (k : ℕ) → option_map mapped_place (place_at stored_on rows k) ≡ places k

-- what is expected of the next object
abbrev pub expected_next : UploadsState → Expected
expected_next uploads = record {
  uuid = uploads.uuid;
  number = uploads.window.last + 1;
  sectors = uploads.sectors;
  ancestors = uploads.ancestors;
  end_before = Some (end_of_last uploads.queue.end uploads.queue.sealed);
}

-- a checkpoint was sealed under the next number, with the end before it
pub record HasSealedCheckpoint (old new : UploadsState) : Type 0 where
  pub bytes : List ℕ
  pub holds : HoldsPlaces bytes (expected_next old) (end_of_last old.queue.end old.queue.sealed) (sealed_at old.queue)
  pub sealed : IsSealedNext bytes Checkpoint (end_of_last old.queue.end old.queue.sealed) old new
