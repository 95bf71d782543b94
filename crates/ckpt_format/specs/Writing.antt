-- Contract: how a checkpoint is written.
use Rattle.std.specs.Prelude.{ℕ, List}
use Rattle.extent_map.specs.declared.extent.Extent.{Extent}
use Rattle.object_format.specs.declared.expected.Expected.{Expected}
use Rattle.ckpt_format.specs.declared.place.StoredPlace.{StoredPlace}

-- what contracts see of a checkpoint that is being written
pub record CheckpointSoFar : Type 0 where
  -- what is expected of it
  pub expected : Expected
  -- its end
  pub end_seq : ℕ
  -- how many rows it will have
  pub count : ℕ
  -- the rows so far
  pub rows : List (Extent StoredPlace)
