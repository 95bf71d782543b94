-- Contract: the definitions of the stream of objects at lists, as the plain program has them.
use Rattle.std.specs.Prelude.{ℕ, Bool, false, IsTrue, None, List, slice_index_or}
use Rattle.object_stream.specs.declared.plain_stream.PlainStream.{PlainStream}
use Rattle.object_stream.specs.Stream.{Stream}
use Rattle.object_stream.specs.Landed.{Numbers}

-- The stream that a plain stream lists: a sector past its opening list has no owner there. It tells owners alone, and no places
-- that its ancestors' objects have.
abbrev pub stream_of : PlainStream → Stream
stream_of plain = record {
  number = plain.number;
  end = plain.end;
  opening = λ k. slice_index_or plain.opening.items k None;
  inherited = λ k. 0;
  entries = plain.entries.items;
  objects = plain.objects.items;
}

-- the numbers at which a list has true: none past its end
abbrev pub numbers_of : List Bool → Numbers
numbers_of list number = slice_index_or list number false

-- no checkpoint has landed
abbrev pub HasNoCheckpoint : (checkpoint landed : Numbers) → Type 0
HasNoCheckpoint checkpoint landed = (number : ℕ) → IsTrue (checkpoint number) → IsTrue (landed number) → ⊥
