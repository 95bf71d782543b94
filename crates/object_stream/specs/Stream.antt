-- Contract: the stream of objects that a history becomes, and who owns each sector after any number of them.
use Rattle.std.specs.Prelude.{◌≡◌, ℕ, ◌+◌, ◌-◌, ◌<◌, ◌≤◌, ◌==◌, Bool, false, ◌&&◌, Option, Some, None, List, [], ◌∷◌, length}
use Rattle.std.specs.Prelude.{take, drop, if◌then◌else◌}
use Rattle.std.specs.List.{count_by, range_with_len}
use Rattle.std.specs.Option.{is_some}
use Rattle.lsvd_base.specs.declared.entry.Entry.{Entry}
use Rattle.object_stream.specs.declared.change.Change.{Change}
use Rattle.object_stream.specs.declared.change.Change.TheVariants.{Put, Clear}
use Rattle.object_stream.specs.declared.object.CopiedSector.{CopiedSector}
use Rattle.object_stream.specs.declared.object.Content.{Content}
use Rattle.object_stream.specs.declared.object.Content.TheVariants.{Data, Copy, Checkpoint}
use Rattle.object_stream.specs.declared.object.StreamObject.{StreamObject}
use Rattle.object_stream.specs.declared.owner.Owner.{Owner}
use Rattle.object_stream.specs.Changes.{change_at, place_in_payload}

-- who owns each sector of a volume; a sector without an owner has zeros
abbrev pub Owners : Type 0
Owners = ℕ → Option Owner

-- A stream of objects, each numbered one more than the one before it, from an object on whose owners are known. The whole
-- stream of a volume begins at object 1, a checkpoint whose end is 0 and whose owners are those of its rows, none for a
-- volume that was created.
pub record Stream : Type 0 where
  -- the number of the object that it begins at, that object's end, and the owners after it
  pub number : ℕ
  pub end : ℕ
  pub opening : Owners
  -- where the object of an ancestor that owns a sector at the beginning has it in its payload
  pub inherited : ℕ → ℕ
  -- the entries of the history from that end on
  pub entries : List Entry
  -- the objects after that one
  pub objects : List StreamObject

-- ---- the replay of one object

-- the owner of a sector after the data object of this number, whose entries do this to it
abbrev pub owner_by_change : (number : ℕ) → Option Change → Option Owner → Option Owner
owner_by_change number None before = before
owner_by_change number (Some (Put sector)) before = Some (record { level = 0; number = number })
owner_by_change number (Some Clear) before = None

-- the source of a sector in a copy, where the copy has the sector
abbrev pub source_in : List CopiedSector → ℕ → Option ℕ
source_in [] k = None
source_in (copied ∷ more) k = if copied.lba == k then Some copied.source else source_in more k

-- Where a copy of these sectors has a sector in its payload: after those below it that it has.
abbrev pub place_in_copy : List CopiedSector → (k : ℕ) → ℕ
place_in_copy pairs k = count_by (λ i. is_some (source_in pairs i)) (range_with_len 0 k)

-- Where an object of this content has one, where a data object has these entries. So it is, of the first sector past a volume,
-- how many sectors of payload the object has.
abbrev pub place_in_object : Content → List Entry → (k : ℕ) → ℕ
place_in_object Data entries k = place_in_payload entries k
place_in_object (Copy pairs) entries k = place_in_copy pairs k
place_in_object Checkpoint entries k = 0

-- the owner is the volume's own object of this number
abbrev pub is_own : (number : ℕ) → Option Owner → Bool
is_own number None = false
is_own number (Some owner) = (owner.level == 0) && (owner.number == number)

-- The owner of a sector after the copy of this number, which has the sector from this source: it changes only where it still
-- is the source.
abbrev pub owner_by_copy : (number : ℕ) → Option ℕ → Option Owner → Option Owner
owner_by_copy number None before = before
owner_by_copy number (Some source) before =
    if is_own source before then Some (record { level = 0; number = number }) else before

-- The owners after the object of this number, where a data object has these entries: it gives itself the sectors that it
-- puts, and none those that it clears; a copy gives itself those whose owner still is their source; a checkpoint changes none.
abbrev pub after_object : (number : ℕ) → Content → List Entry → Owners → Owners
after_object number Data entries before k = owner_by_change number (change_at entries k) (before k)
after_object number (Copy pairs) entries before k = owner_by_copy number (source_in pairs k) (before k)
after_object number Checkpoint entries before k = before k

-- ---- the replay of the objects up to a number

-- The owners after objects that come after the object of this number and this end, where these are the entries from that end
-- on. A data object has the entries from the end before it up to its own.
abbrev pub after_objects : (number end : ℕ) → List Entry → Owners → List StreamObject → Owners
after_objects number end entries before [] = before
after_objects number end entries before (object ∷ objects) =
    after_objects (number + 1) object.end (drop (object.end - end) entries)
    (after_object (number + 1) object.content (take (object.end - end) entries) before) objects

-- the objects of a stream up to a number
abbrev pub objects_to : Stream → ℕ → List StreamObject
objects_to stream number = take (number - stream.number) stream.objects

-- the owners after the objects up to a number
abbrev pub owners : Stream → ℕ → Owners
owners stream number = after_objects stream.number stream.end stream.entries stream.opening (objects_to stream number)

-- the end of the last of some objects, or the one before them where there is none
abbrev pub end_after : ℕ → List StreamObject → ℕ
end_after end [] = end
end_after end (object ∷ objects) = end_after object.end objects

-- the end of the object of a number
abbrev pub end_at : Stream → ℕ → ℕ
end_at stream number = end_after stream.end (objects_to stream number)

-- the entries that the object of a number has
abbrev pub entries_in_object : Stream → (number : ℕ) → List Entry
entries_in_object stream number =
    let from : ℕ = end_at stream (number - 1) in
    take (end_at stream number - from) (drop (from - stream.end) stream.entries)

-- the greatest number of a stream
abbrev pub last_number : Stream → ℕ
last_number stream = stream.number + length stream.objects

-- ---- which streams there are

-- an object of this content goes from the end before it to its own: data have at least an entry, other objects none
abbrev pub GoesTo : Content → (end_before end : ℕ) → Type 0
GoesTo Data end_before end = end_before < end
GoesTo (Copy pairs) end_before end = end ≡ end_before
GoesTo Checkpoint end_before end = end ≡ end_before

-- the ends of objects after one another, each within the entries
abbrev pub EndsFollow : (end : ℕ) → List StreamObject → Type 0
EndsFollow end [] = Unit {0}
EndsFollow end (object ∷ objects) = GoesTo object.content end object.end × EndsFollow object.end objects

-- a stream: its objects' ends follow one another, and no object has an entry that the history does not have
pub record IsStream (stream : Stream) : Type 0 where
  pub ends : EndsFollow stream.end stream.objects
  pub within : end_at stream (last_number stream) ≤ stream.end + length stream.entries

-- the entries that are in no object: those from the last end on
abbrev pub unsealed : Stream → List Entry
unsealed stream = drop (end_at stream (last_number stream) - stream.end) stream.entries
