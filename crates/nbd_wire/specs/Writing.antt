-- Contract: what the writing of a message does to the bytes that a link took, where it tells them.
use Rattle.std.specs.Prelude.{ℕ, ◌≡◌, List, ◌++◌, Option, Result, Ok, Err}
use Rattle.std.specs.Io.KnownBytes.{Appends}
use Rattle.nbd_wire.specs.declared.wire_end.WireEnd.{WireEnd}
use Rattle.nbd_wire.specs.declared.wire_end.WireEnd.TheVariants.{Ended, Closed, LinkFault}

-- a front of the bytes was written, which may be none of them
abbrev pub WritesFront : List ℕ → Option (List ℕ) → Option (List ℕ) → Type 0
WritesFront bytes old new = (front : List ℕ) × (rest : List ℕ) × (bytes ≡ front ++ rest) × Appends old new front

-- all of the bytes were written; or a write failed, and a front of them was
abbrev pub WritesMessage : {T : Type 0} → List ℕ → Option (List ℕ) → Option (List ℕ) → Result T WireEnd → Type 0
WritesMessage bytes old new (Ok value) = Appends old new bytes
WritesMessage bytes old new (Err Ended) = ⊥
WritesMessage bytes old new (Err Closed) = ⊥
WritesMessage bytes old new (Err LinkFault) = WritesFront bytes old new
