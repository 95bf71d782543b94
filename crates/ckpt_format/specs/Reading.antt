-- Contract: how a checkpoint is read, and for which reason bytes are none.
use Rattle.std.specs.Prelude.{ℕ, ◌≡◌, ◌<◌, Option, Some, None, List, [], ◌∷◌, ◌++◌, length}
use Rattle.extent_map.specs.declared.extent.Extent.{Extent}
use Rattle.object_format.specs.declared.expected.Expected.{Expected}
use Rattle.object_format.specs.declared.reason.BadObject.{BadObject}
use Rattle.object_format.specs.declared.reason.BadObject.TheVariants as reasons
use Rattle.object_format.specs.Tests.{code_of, PassesObjectTest}
use Rattle.ckpt_format.specs.declared.place.StoredPlace.{StoredPlace}
use Rattle.ckpt_format.specs.Rows.{AreCheckpointRows}
use Rattle.ckpt_format.specs.Checkpoint.{IsCheckpoint}

-- ---- why not

-- The bytes pass the test that a reason stands for. Those of the header are the same for each kind of object; the last is that
-- the bytes are a checkpoint, which those of another kind of object are not.
abbrev pub PassesCheckpointTest : List ℕ → Expected → BadObject → Type 0
PassesCheckpointTest bytes expected reasons.Length = PassesObjectTest bytes (length bytes) expected reasons.Length
PassesCheckpointTest bytes expected reasons.Magic = PassesObjectTest bytes (length bytes) expected reasons.Magic
PassesCheckpointTest bytes expected reasons.Kind = PassesObjectTest bytes (length bytes) expected reasons.Kind
PassesCheckpointTest bytes expected reasons.Uuid = PassesObjectTest bytes (length bytes) expected reasons.Uuid
PassesCheckpointTest bytes expected reasons.Number = PassesObjectTest bytes (length bytes) expected reasons.Number
PassesCheckpointTest bytes expected reasons.Seqs = PassesObjectTest bytes (length bytes) expected reasons.Seqs
PassesCheckpointTest bytes expected reasons.Counts = PassesObjectTest bytes (length bytes) expected reasons.Counts
PassesCheckpointTest bytes expected reasons.Rows =
    (end_seq : ℕ) × (rows : List (Extent StoredPlace)) × IsCheckpoint bytes expected end_seq rows

-- the first test that they do not pass is that of this reason
pub record IsCheckpointRefusedAs (bytes : List ℕ) (expected : Expected) (reason : BadObject) : Type 0 where
  pub earlier : (other : BadObject) → code_of other < code_of reason → PassesCheckpointTest bytes expected other
  pub failed : ¬ PassesCheckpointTest bytes expected reason

-- ---- row by row

-- what contracts see of a checkpoint that is being read
pub record CheckpointReading : Type 0 where
  -- the bytes of the object
  pub object : List ℕ
  -- what is expected of it
  pub expected : Expected
  -- its end
  pub end_seq : ℕ
  -- the rows that were given
  pub given : List (Extent StoredPlace)
  -- the rows that the bytes have after them, which are not judged yet
  pub rest : List (Extent StoredPlace)

-- Nothing was given yet of these bytes, whose header is that of a checkpoint. If they are a checkpoint, its rows are the rest.
pub record IsBegun (bytes : List ℕ) (under : Expected) (reading : CheckpointReading) : Type 0 where
  pub object : reading.object ≡ bytes
  pub expected : reading.expected ≡ under
  pub given : reading.given ≡ []
  pub rest : (end_seq : ℕ) (rows : List (Extent StoredPlace)) → IsCheckpoint bytes under end_seq rows
      → (end_seq ≡ reading.end_seq) × (rows ≡ reading.rest)

-- the first row of the rest was given, and keeps with those before it the spelling of a checkpoint's rows
pub record GivesRow (row : Extent StoredPlace) (old new : CheckpointReading) : Type 0 where
  pub first : old.rest ≡ row ∷ new.rest
  pub after : new ≡ record old { given = old.given ++ row ∷ []; rest = new.rest }
  pub spelling : AreCheckpointRows old.expected (old.given ++ row ∷ [])

-- all rows were given, and the bytes are the checkpoint of just these
pub record IsAtEnd (old new : CheckpointReading) : Type 0 where
  pub none : old.rest ≡ []
  pub unchanged : new ≡ old
  pub is_checkpoint : IsCheckpoint old.object old.expected old.end_seq old.given

-- what is given: a row, or none at the end
abbrev pub Gives : (old new : CheckpointReading) → Option (Extent StoredPlace) → Type 0
Gives old new None = IsAtEnd old new
Gives old new (Some row) = GivesRow row old new
