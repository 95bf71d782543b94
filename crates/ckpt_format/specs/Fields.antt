-- For this crate's own clauses: what the fields of a cursor over rows and of a writer stand for.
use Rattle.std.specs.Prelude.{ℕ, ◌≡◌, ◌+◌, ◌-◌, ◌*◌, ◌<◌, ◌≤◌, IsTrue, Option, None, List, [], ◌∷◌, ◌++◌, length, drop, replicate}
use Rattle.std.specs.Prelude.{slice_index}
use Rattle.extent_map.specs.declared.extent.Extent.{Extent}
use Rattle.object_format.specs.declared.kind.Kind.TheVariants.{Checkpoint}
use Rattle.object_format.specs.declared.header.Header.{Header}
use Rattle.object_format.specs.declared.expected.Expected.{Expected}
use Rattle.object_format.specs.Layout.{length_of}
use Rattle.object_format.specs.Header.{header_bytes, HasWidths, begins_at, IsObjectHeader}
use Rattle.object_format.specs.Rows.{rows_in}
use Rattle.object_format.specs.Laws.{last_of}
use Rattle.ckpt_format.specs.declared.place.StoredPlace.{StoredPlace}
use Rattle.ckpt_format.specs.Rows.{row_in, rows_bytes, HasRowWidths, AreCheckpointRows}
use Rattle.ckpt_format.specs.Checkpoint.{checkpoint_header}
use Rattle.ckpt_format.specs.Reading.{CheckpointReading}
use Rattle.ckpt_format.specs.Writing.{CheckpointSoFar}

-- the rows that the bytes of an object have from the row with this index on, as many as this
abbrev pub rows_at : (index count : ℕ) → List ℕ → List (Extent StoredPlace)
rows_at index count bytes = rows_in 36 row_in count (drop (64 + 36 * index) bytes)

-- all bytes after this many rows are zeros
abbrev pub EndsInZeros : (count : ℕ) → List ℕ → Type 0
EndsInZeros count bytes = drop (64 + 36 * count) bytes ≡ replicate (length (drop (64 + 36 * count) bytes)) 0

-- an object with this header is a checkpoint but for its rows: it has the kind, no payload, and zeros after its rows
pub record HasCheckpointForm (bytes : List ℕ) (header : Header) : Type 0 where
  pub kind : header.kind ≡ Checkpoint
  pub none : header.payload ≡ 0
  pub zeros : EndsInZeros header.rows bytes

-- ---- a cursor

abbrev pub reading_at : List ℕ → Expected → (end_seq count given : ℕ) → CheckpointReading
reading_at bytes expected end_seq count given = record {
  object = bytes;
  expected = expected;
  end_seq = end_seq;
  given = rows_at 0 given bytes;
  rest = rows_at given (count - given) bytes;
}

-- the bytes are a checkpoint with this many rows as far as it is known, and this is the last of the rows that were given
pub record IsCursor (bytes : List ℕ) (expected : Expected) (end_seq count given : ℕ) (before : Option (Extent StoredPlace))
    : Type 0 where
  pub are_bytes : (i : ℕ) → slice_index bytes i < 256
  pub head : IsObjectHeader bytes (length bytes) expected (checkpoint_header expected end_seq count)
  pub zeros : EndsInZeros count bytes
  pub within : given ≤ count
  pub last : before ≡ last_of None (rows_at 0 given bytes)
  pub spelling : AreCheckpointRows expected (rows_at 0 given bytes)

-- ---- a writer

abbrev pub writing_at : List ℕ → Expected → (end_seq count pushed : ℕ) → CheckpointSoFar
writing_at bytes expected end_seq count pushed = record {
  expected = expected;
  end_seq = end_seq;
  count = count;
  rows = rows_at 0 pushed bytes;
}

abbrev pub AllHaveWidths : List (Extent StoredPlace) → Type 0
AllHaveWidths [] = Unit {0}
AllHaveWidths (row ∷ rows) = HasRowWidths row × AllHaveWidths rows

-- the header and the rows so far are written, and there is room for all of the object
pub record IsWriter (bytes : List ℕ) (capacity : ℕ) (expected : Expected) (end_seq count pushed : ℕ) : Type 0 where
  pub written : bytes ≡ header_bytes (checkpoint_header expected end_seq count) ++ rows_bytes (rows_at 0 pushed bytes)
  pub room : length_of (checkpoint_header expected end_seq count) ≤ capacity
  pub within : pushed ≤ count
  pub widths : HasWidths (checkpoint_header expected end_seq count)
  pub row_widths : AllHaveWidths (rows_at 0 pushed bytes)
  pub goes_on : IsTrue (begins_at end_seq expected.end_before)
