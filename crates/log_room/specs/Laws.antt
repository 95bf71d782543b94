-- Contract: what those who write records rely on.
use Rattle.std.specs.Prelude.{ℕ, ◌≡◌, ◌+◌, ◌-◌, ◌≤◌, nat_lt, if◌then◌else◌}
use Rattle.log_room.specs.Room.{Room, IsRoom, need, free, position, after_record}

-- a record that is no longer than the log lies inside it, and is not split
abbrev pub RecordLiesInside : Type 0
RecordLiesInside =
    (room : Room) (sectors : ℕ) → IsRoom room → sectors ≤ room.log
    → position room sectors + sectors ≤ room.log

-- a record that has room leaves the head inside the log, and no more in use than the log has
abbrev pub KeepsRoom : Type 0
KeepsRoom =
    (room : Room) (sectors : ℕ) → IsRoom room → need room sectors ≤ free room
    → IsRoom (after_record room sectors)

-- what was needed is no longer free
abbrev pub TakesNeed : Type 0
TakesNeed =
    (room : Room) (sectors : ℕ) → IsRoom room → need room sectors ≤ free room
    → free (after_record room sectors) + need room sectors ≡ free room

-- the sector N further on, round the log's end
abbrev pub further : Room → ℕ → ℕ
further room sectors =
    if nat_lt (room.head + sectors) room.log then room.head + sectors else room.head + sectors - room.log

-- the head moves on by the sectors that were needed, round the log's end
abbrev pub MovesByNeed : Type 0
MovesByNeed =
    (room : Room) (sectors : ℕ) → IsRoom room → need room sectors ≤ free room
    → (after_record room sectors).head ≡ further room (need room sectors)
