-- Contract: what is seen of the list of a volume's entries and objects.
use Rattle.batcher.specs.State.{BatchState}
use Rattle.object_uploads.specs.State.{UploadsState}

-- the entries that are in no object yet, and the objects on their way to the store
pub record ObjLogState : Type 0 where
  pub batch : BatchState
  pub uploads : UploadsState
