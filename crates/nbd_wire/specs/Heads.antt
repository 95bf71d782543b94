-- For this crate's own clauses: what the reading of the first bytes of a message does, whatever they say.
use Rattle.std.specs.Prelude.{ℕ, ◌<◌, List, length, ⊤, Option, None, Some, Result, Ok, Err}
use Rattle.std.specs.Io.KnownBytes.{Consumes, IsAtEnd, Keeps}
use Rattle.nbd_wire.specs.Reading.{ReadsAtMostOf}
use Rattle.nbd_wire.specs.declared.wire_end.WireEnd.{WireEnd}
use Rattle.nbd_wire.specs.declared.wire_end.WireEnd.TheVariants.{Ended, Closed, LinkFault}

-- some bytes are left, but fewer than this many
abbrev pub IsCutOff : ℕ → Option (List ℕ) → Type 0
IsCutOff size None = ⊤
IsCutOff size (Some left) = (0 < length left) × (length left < size)

-- these are the next bytes; or the input was at its end, or it ends before that many
abbrev pub ReadsHead : {T : Type 0} → List ℕ → Option (List ℕ) → Option (List ℕ) → Result T WireEnd → Type 0
ReadsHead head old new (Ok value) = Consumes old new head
ReadsHead head old new (Err Ended) = IsAtEnd old × Keeps old new
ReadsHead head old new (Err Closed) = IsCutOff (length head) old × ReadsAtMostOf (length head) old new
ReadsHead head old new (Err LinkFault) = ReadsAtMostOf (length head) old new
