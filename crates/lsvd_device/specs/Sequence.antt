-- Contract: writes and syncs one after the other, and what a fuse lets pass of them.
use Rattle.std.specs.Prelude.{◌≡◌, ℕ, ◌+◌, ◌≤◌, min, Some, None, IfSome, List, [], ◌∷◌, length, take}
use Rattle.lsvd_device.specs.Medium.{Medium, after_write, after_sync}
use Rattle.lsvd_device.specs.Calls.{Fuse, Budget}
use Rattle.lsvd_device.specs.Device.{DiskState, moments_after}

-- a call that changes a disk
pub data Call : Type 0 where
  Write : (at : ℕ) (piece : List ℕ) → Call
  Sync : Call

-- the moments after a call that was made
abbrev pub moments_with : Call → List Medium → List Medium
moments_with (Write at piece) moments = moments_after (after_write at piece) moments
moments_with Sync moments = moments_after after_sync moments

-- the moments after calls that were all made
abbrev pub moments_with_all : List Call → List Medium → List Medium
moments_with_all [] moments = moments
moments_with_all (call ∷ calls) moments = moments_with_all calls (moments_with call moments)

-- of a number of calls those that a fuse passes
abbrev pub passed_of : Fuse → ℕ → ℕ
passed_of None calls = calls
passed_of (Some left) calls = min left calls

-- the bytes that a call writes, and those that several write
abbrev pub bytes_of : Call → ℕ
bytes_of (Write at piece) = length piece
bytes_of Sync = 0

abbrev pub bytes_of_all : List Call → ℕ
bytes_of_all [] = 0
bytes_of_all (call ∷ calls) = bytes_of call + bytes_of_all calls

-- a disk has room for the calls
abbrev pub HasRoomFor : List Call → Budget → Type 0
HasRoomFor calls budget = (length calls ≤ budget.calls) × (bytes_of_all calls ≤ budget.bytes)

-- Of calls within the room of a disk those are made that its fuse passes, and nothing else is done.
abbrev pub MakesThosePassed : List Call → DiskState → DiskState → Type 0
MakesThosePassed calls old new =
    IfSome old.budget (λ budget. HasRoomFor calls budget
    → new.moments ≡ moments_with_all (take (passed_of budget.fuse (length calls)) calls) old.moments)
