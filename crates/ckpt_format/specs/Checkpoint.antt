-- Contract: the checkpoints of the store: a header, the rows of the volume's map, and zeros up to a whole sector.
use Rattle.std.specs.Prelude.{ℕ, ◌≡◌, List, ◌++◌, length, replicate}
use Rattle.extent_map.specs.declared.extent.Extent.{Extent}
use Rattle.object_format.specs.declared.kind.Kind.TheVariants.{Checkpoint}
use Rattle.object_format.specs.declared.header.Header.{Header}
use Rattle.object_format.specs.declared.expected.Expected.{Expected}
use Rattle.object_format.specs.Layout.{padding}
use Rattle.object_format.specs.Header.{header_bytes, IsObjectHeader}
use Rattle.ckpt_format.specs.declared.place.StoredPlace.{StoredPlace}
use Rattle.ckpt_format.specs.Rows.{rows_bytes, AreCheckpointRows}

-- the header of the expected checkpoint with this end and this many rows: it holds no entries and has no payload
abbrev pub checkpoint_header : Expected → (end_seq : ℕ) → (count : ℕ) → Header
checkpoint_header expected end_seq count = record {
  kind = Checkpoint;
  uuid = expected.uuid;
  number = expected.number;
  first_seq = end_seq;
  end_seq = end_seq;
  rows = count;
  payload = 0;
}

-- its bytes
abbrev pub checkpoint_bytes : Expected → (end_seq : ℕ) → List (Extent StoredPlace) → List ℕ
checkpoint_bytes expected end_seq rows =
    header_bytes (checkpoint_header expected end_seq (length rows))
    ++ rows_bytes rows
    ++ replicate (padding (checkpoint_header expected end_seq (length rows))) 0

-- The bytes are a checkpoint under the expected number, with this end and these rows: the header is one that may stand there, the
-- rows keep their one spelling, and the bytes are these and no others.
pub record IsCheckpoint (bytes : List ℕ) (expected : Expected) (end_seq : ℕ) (rows : List (Extent StoredPlace)) : Type 0 where
  pub head : IsObjectHeader bytes (length bytes) expected (checkpoint_header expected end_seq (length rows))
  pub rows_are : AreCheckpointRows expected rows
  pub whole : bytes ≡ checkpoint_bytes expected end_seq rows
