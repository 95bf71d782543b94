-- Contract: what the reading of a message does to the bytes that a link has left, where it tells them. It does not matter
-- in which pieces they come.
use Rattle.std.specs.Prelude.{ℕ, ◌≡◌, ◌<◌, ◌≤◌, Bool, true, false, List, ◌++◌, length, ⊤, Option, None, Some, Result, Ok, Err}
use Rattle.std.specs.Io.KnownBytes.{Consumes, IsAtEnd, Keeps}
use Rattle.nbd_wire.specs.declared.wire_end.WireEnd.{WireEnd}
use Rattle.nbd_wire.specs.declared.wire_end.WireEnd.TheVariants.{Ended, Closed, LinkFault}

-- a call of the link failed
abbrev pub is_link_fault : {T : Type 0} → Result T WireEnd → Bool
is_link_fault (Ok value) = false
is_link_fault (Err Ended) = false
is_link_fault (Err Closed) = false
is_link_fault (Err LinkFault) = true

-- some bytes were read, and no more than this many
abbrev pub ReadsAtMostOf : ℕ → Option (List ℕ) → Option (List ℕ) → Type 0
ReadsAtMostOf most old new = (bytes : List ℕ) × (length bytes ≤ most) × Consumes old new bytes

-- bytes are left, but they begin with no message: it is cut off by their end, or is none
abbrev pub BeginsNoMessage : {T : Type 0} → (List ℕ → T → Type 0) → Option (List ℕ) → Type 0
BeginsNoMessage IsMessage None = ⊤
BeginsNoMessage {T} IsMessage (Some left) =
    (0 < length left) × ((bytes rest : List ℕ) (message : T) → left ≡ bytes ++ rest → IsMessage bytes message → ⊥)

-- the next message of a grammar, whose messages have this many bytes, was read, and nothing past it; or the input was at
-- its end before it; or it does not begin with one
abbrev pub ReadsMessage : {T : Type 0} → ℕ → (List ℕ → T → Type 0) → Option (List ℕ) → Option (List ℕ) → Result T WireEnd → Type 0
ReadsMessage size IsMessage old new (Ok message) = (bytes : List ℕ) × IsMessage bytes message × Consumes old new bytes
ReadsMessage size IsMessage old new (Err Ended) = IsAtEnd old × Keeps old new
ReadsMessage size IsMessage old new (Err Closed) = BeginsNoMessage IsMessage old × ReadsAtMostOf size old new
ReadsMessage size IsMessage old new (Err LinkFault) = ReadsAtMostOf size old new

-- fewer bytes than this are left
abbrev pub HasFewerThan : ℕ → Option (List ℕ) → Type 0
HasFewerThan size None = ⊤
HasFewerThan size (Some left) = length left < size

-- this many bytes inside a message were read, and the value is of them; or the input was read to its end before that many
abbrev pub ReadsData : {T : Type 0} → ℕ → (List ℕ → T → Type 0) → Option (List ℕ) → Option (List ℕ) → Result T WireEnd → Type 0
ReadsData size IsOf old new (Ok value) = (bytes : List ℕ) × (length bytes ≡ size) × IsOf bytes value × Consumes old new bytes
ReadsData size IsOf old new (Err Ended) = ⊥
ReadsData size IsOf old new (Err Closed) = HasFewerThan size old × ReadsAtMostOf size old new × IsAtEnd new
ReadsData size IsOf old new (Err LinkFault) = ReadsAtMostOf size old new
