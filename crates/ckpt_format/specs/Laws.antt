-- Contract: what written checkpoints have to do with those that are read, and with other objects.
use Rattle.std.specs.Prelude.{ℕ, ◌≡◌, ◌↔◌, IsTrue, List, [], ◌++◌, length}
use Rattle.extent_map.specs.declared.extent.Extent.{Extent}
use Rattle.object_format.specs.declared.header.Header.{Header}
use Rattle.object_format.specs.declared.expected.Expected.{Expected}
use Rattle.object_format.specs.declared.rows.Rows.TheVariants.{Checkpoint}
use Rattle.object_format.specs.Header.{HasWidths, begins_at, IsObjectHeader}
use Rattle.object_format.specs.Object.{IsObject}
use Rattle.ckpt_format.specs.declared.place.StoredPlace.{StoredPlace}
use Rattle.ckpt_format.specs.Rows.{AreCheckpointRows}
use Rattle.ckpt_format.specs.Checkpoint.{checkpoint_header, checkpoint_bytes, IsCheckpoint}

-- a checkpoint may be written: its numbers have their widths, it goes on at the end before, and its rows keep their one spelling
pub record MayBeWritten (expected : Expected) (end_seq : ℕ) (rows : List (Extent StoredPlace)) : Type 0 where
  pub widths : HasWidths (checkpoint_header expected end_seq (length rows))
  pub goes_on : IsTrue (begins_at end_seq expected.end_before)
  pub rows_are : AreCheckpointRows expected rows

-- what is written is a checkpoint
abbrev pub WritesCheckpoints : Type 0
WritesCheckpoints =
    (expected : Expected) (end_seq : ℕ) (rows : List (Extent StoredPlace)) → MayBeWritten expected end_seq rows
    → IsCheckpoint (checkpoint_bytes expected end_seq rows) expected end_seq rows

-- bytes are a checkpoint with one header and with one list of rows, whatever is expected of them
abbrev pub HasOneReading : Type 0
HasOneReading =
    (bytes : List ℕ) (expected another : Expected) (end_seq end_too : ℕ) (rows others : List (Extent StoredPlace))
    → IsCheckpoint bytes expected end_seq rows → IsCheckpoint bytes another end_too others
    → (checkpoint_header expected end_seq (length rows) ≡ checkpoint_header another end_too (length others)) × (rows ≡ others)

-- what is written is read as the same rows, whatever is expected of it
abbrev pub ReadsWhatIsWritten : Type 0
ReadsWhatIsWritten =
    (expected another : Expected) (end_seq end_too : ℕ) (rows others : List (Extent StoredPlace))
    → MayBeWritten expected end_seq rows
    → IsCheckpoint (checkpoint_bytes expected end_seq rows) another end_too others
    → (end_too ≡ end_seq) × (others ≡ rows)

-- no checkpoint begins another object, of any kind: where further bytes after it make one, there are none
abbrev pub BeginsNoObject : Type 0
BeginsNoObject =
    (bytes more : List ℕ) (expected another : Expected) (end_seq : ℕ) (rows : List (Extent StoredPlace)) (header : Header)
    → IsCheckpoint bytes expected end_seq rows → IsObjectHeader (bytes ++ more) (length (bytes ++ more)) another header
    → more ≡ []

-- a checkpoint without rows is an object of the store whose rows are none
abbrev pub IsObjectWithoutRows : Type 0
IsObjectWithoutRows =
    (bytes : List ℕ) (expected : Expected) (end_seq : ℕ)
    → IsCheckpoint bytes expected end_seq []
    ↔ IsObject bytes (length bytes) expected (checkpoint_header expected end_seq 0) Checkpoint
