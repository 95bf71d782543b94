-- Contract: when the list is that of a stream.
use Rattle.std.specs.Prelude.{◌≡◌, ℕ}
use Rattle.object_stream.specs.Stream.{Stream, end_at, last_number, unsealed}
use Rattle.object_uploads.specs.Stream.{AreOfStream}
use Rattle.obj_log.specs.State.{ObjLogState}
use Rattle.obj_log.specs.Changes.{expected_of_volume}

-- The list is that of a stream: the objects on their way to the store are the stream's, of a volume as large as the batch's, and
-- the batch has the entries that are in no object. The data of each entry begin at the sector of the log that is told.
pub record IsOfStream (data_at : ℕ → ℕ) (stream : Stream) (log : ObjLogState) : Type 0 where
  pub objects : AreOfStream (expected_of_volume log) data_at stream log.uploads
  pub sectors : log.uploads.sectors ≡ log.batch.geometry.sectors
  pub first : log.batch.first ≡ end_at stream (last_number stream)
  pub entries : log.batch.entries ≡ unsealed stream
