-- Contract: what the objects on their way to the store always keep.
use Rattle.std.specs.Prelude.{◌≡◌, ℕ, ◌+◌, ◌<◌, ◌≤◌, ◌==◌, ◌&&◌, ◌⊎◌, Bool, IsTrue, false, not, Option, Some, None, IsSome}
use Rattle.std.specs.Prelude.{IfSome}
use Rattle.std.specs.Prelude.{List, [], ◌∷◌, length, map}
use Rattle.std.specs.List.{All, AllByRecursion, AllPairs, filter}
use Rattle.extent_map.specs.Extents.{IsShortest}
use Rattle.lsvd_names.specs.Names.{numbered_name}
use Rattle.lsvd_objstore.specs.Store.{ReceiptState}
use Rattle.upload_window.specs.declared.object.OpenObject.{OpenObject}
use Rattle.upload_window.specs.Window.{WindowState}
use Rattle.object_table.specs.declared.row.ObjectRow.{ObjectRow}
use Rattle.object_table.specs.Table.{row_of, numbers}
use Rattle.object_table.specs.Lists.{Climbs}
use Rattle.volume_maps.specs.declared.place.ObjectPlace.{ObjectPlace}
use Rattle.volume_maps.specs.Places.{object_on}
use Rattle.volume_maps.specs.Maps.{MapsState, settled_at}
use Rattle.volume_maps.specs.Live.{IsCounted}
use Rattle.object_uploads.specs.State.{SealedState, NumberedReceipt, InheritedObject, QueueState, UploadsState}
use Rattle.object_uploads.specs.Queue.{FirstWaits, FitSealed, is_checkpoint, receipt_in}

-- ---- the objects past the frontier

-- the first open object is that of a number, which is a checkpoint or not, and which is ready where it has its bytes a second
-- time, or started where not; none is that of an acknowledged one
abbrev pub IsOpenFirst : (number : ℕ) → Option ReceiptState → (is_checkpoint has_spare : Bool) → List OpenObject
    → (List OpenObject → Type 0) → Type 0
IsOpenFirst number (Some receipt) is_checkpoint has_spare objects Rest = Rest objects
IsOpenFirst number None is_checkpoint has_spare [] Rest = ⊥
IsOpenFirst number None is_checkpoint has_spare (object ∷ objects) Rest =
    (object.number ≡ number) × (object.is_checkpoint ≡ is_checkpoint) × (object.is_started ≡ not has_spare) × Rest objects

-- the open objects of a window are the sealed objects, from a number on, that are not acknowledged
abbrev pub AreOpen : (number : ℕ) → List SealedState → List OpenObject → Type 0
AreOpen number [] objects = objects ≡ []
AreOpen number (sealed ∷ more) objects =
    IsOpenFirst number sealed.receipt (is_checkpoint sealed.rows) sealed.has_spare objects (AreOpen (number + 1) more)

-- what the store gave for those after one of a number has each object's name
abbrev pub HaveNames : (uuid : List ℕ) (number : ℕ) → List SealedState → Type 0
HaveNames uuid number [] = Unit {0}
HaveNames uuid number (sealed ∷ more) =
    IfSome sealed.receipt (λ receipt. receipt.name ≡ numbered_name uuid (number + 1)) × HaveNames uuid (number + 1) more

-- a checkpoint past the frontier whose put was ever begun is the first object there
abbrev pub BeginsAfterLower : (frontier : ℕ) → WindowState → Type 0
BeginsAfterLower frontier window =
    All (λ object. IsTrue (object.was_started && object.is_checkpoint) → object.number ≡ frontier + 1) window.objects

-- and none is acknowledged
abbrev pub AreWaiting : List SealedState → Type 0
AreWaiting sealed = AllByRecursion (λ (s : SealedState). IsTrue (is_checkpoint s.rows) → s.receipt ≡ None) sealed

-- ---- the others

-- the removal of the object of a number is out
abbrev pub is_out : Option ℕ → (number : ℕ) → Bool
is_out None number = false
is_out (Some out) number = out == number

-- an object of the table has no live sector, and the newest acknowledged checkpoint does not map it
abbrev pub IsDeadIn : MapsState → (number : ℕ) → Type 0
IsDeadIn maps number =
    (row : ObjectRow) × (row_of number maps.objects.rows ≡ Some row) × IsTrue row.is_unmapped × (row.live ≡ 0)

-- an object of the table is one that the newest acknowledged checkpoint passed and does not map
abbrev pub IsUnmappedIn : MapsState → (number : ℕ) → Type 0
IsUnmappedIn maps number =
    (row : ObjectRow) × (row_of number maps.objects.rows ≡ Some row) × IsTrue row.is_unmapped

-- each such object is dead, and has a lower number than that checkpoint
abbrev pub UnmappedAreDead : MapsState → Type 0
UnmappedAreDead maps =
    (number : ℕ) → IsUnmappedIn maps number → IsDeadIn maps number × (number < maps.objects.checkpoint)

-- It is known what the store gave for each object from the newest acknowledged checkpoint on up to the frontier, where there is
-- such a checkpoint.
abbrev pub KnowFromCheckpoint : QueueState → Type 0
KnowFromCheckpoint queue =
    (number : ℕ) → 0 < queue.maps.objects.checkpoint → queue.maps.objects.checkpoint ≤ number → number ≤ queue.frontier
    → IsSome (receipt_in queue.receipts number)

-- The table has objects from number 1 up to the frontier alone, as the newest acknowledged checkpoint is, by ascending number.
-- What the store gave, each under its object's name, is for just these, but for one whose removal is out, which nothing maps; and
-- it has those from that checkpoint on. The table counts the live sectors, of which none is in what that checkpoint passed and
-- does not map. The objects' map is its shortest list of rows.
pub record AreKnown (uuid : List ℕ) (queue : QueueState) : Type 0 where
  pub order : Climbs 0 (numbers queue.maps.objects.rows)
  pub from_one : All (λ (object : ObjectRow). 1 ≤ object.number) queue.maps.objects.rows
  pub within : All (λ (object : ObjectRow). object.number ≤ queue.frontier) queue.maps.objects.rows
  pub checkpoint : queue.maps.objects.checkpoint ≤ queue.frontier
  pub receipts : map (λ (r : NumberedReceipt). r.number) queue.receipts
      ≡ filter (λ number. not (is_out queue.removal number)) (numbers queue.maps.objects.rows)
  pub named : All (λ (r : NumberedReceipt). r.receipt.name ≡ numbered_name uuid r.number) queue.receipts
  pub follow : KnowFromCheckpoint queue
  pub removal : IfSome queue.removal (IsDeadIn queue.maps)
  pub unmapped : UnmappedAreDead queue.maps
  pub counted : IsCounted queue.maps.settled.rows queue.maps.objects
  pub shortest : IsShortest object_on queue.maps.settled.rows

-- ---- the objects of ancestors

-- a number of a level comes after an object of an ancestor: its level is greater, or else its number
abbrev pub IsBefore : InheritedObject → (level number : ℕ) → Type 0
IsBefore earlier level number =
    (earlier.level < level) ⊎ ((earlier.level ≡ level) × (earlier.number < number))

-- so it does after each of some
abbrev pub ComesLast : (level number : ℕ) → List InheritedObject → Type 0
ComesLast level number inherited = All (λ (earlier : InheritedObject). IsBefore earlier level number) inherited

-- each of some objects of ancestors comes after all before it
abbrev pub AreAscending : List InheritedObject → Type 0
AreAscending inherited =
    AllPairs (λ (earlier later : InheritedObject). IsBefore earlier later.level later.number) inherited

-- and each is of one of so many ancestors
pub record AreInherited (ancestors : ℕ) (inherited : List InheritedObject) : Type 0 where
  pub ascend : AreAscending inherited
  pub levels : All (λ (object : InheritedObject). (1 ≤ object.level) × (object.level ≤ ancestors)) inherited

-- ---- places

-- A place that a sector may have in a volume of so many sectors, with so many ancestors: in the payload of one of the volume's
-- own objects up to a number, or of an ancestor's object, where a payload has 131,071 sectors at most.
pub record PlaceFits (sectors ancestors last k : ℕ) (place : ObjectPlace) : Type 0 where
  pub inside : k < sectors
  pub level : place.level ≤ ancestors
  pub number : place.level ≡ 0 → place.number ≤ last
  pub payload : place.sector < 131071

-- each of some places is one, and each of those in the objects' map
abbrev pub PlacesFitIn : (sectors ancestors last : ℕ) → (ℕ → Option ObjectPlace) → Type 0
PlacesFitIn sectors ancestors last places = (k : ℕ) → IfSome (places k) (PlaceFits sectors ancestors last k)

abbrev pub PlacesFit : (sectors ancestors last : ℕ) → MapsState → Type 0
PlacesFit sectors ancestors last maps = PlacesFitIn sectors ancestors last (settled_at maps)

-- ---- the whole

-- The window has those of the sealed objects that are not acknowledged, up to the last of them, and the first of them waits. What
-- the store gave for the acknowledged ones has their names, and the rows of all fit the volume. A checkpoint among them was begun
-- at most as the first, and is not acknowledged. The others are known, and the objects' map has places in these and in objects of
-- ancestors, of which there are 15 at most.
pub record IsUploads (uploads : UploadsState) : Type 0 where
  pub opened : AreOpen (uploads.queue.frontier + 1) uploads.queue.sealed uploads.window.objects
  pub last : uploads.queue.frontier + length uploads.queue.sealed ≡ uploads.window.last
  pub waits : FirstWaits uploads.queue.sealed
  pub names : HaveNames uploads.uuid uploads.queue.frontier uploads.queue.sealed
  pub fit : AllByRecursion (λ sealed. FitSealed uploads.sectors sealed.rows) uploads.queue.sealed
  pub sectors : uploads.sectors ≤ 2147483648
  pub known : AreKnown uploads.uuid uploads.queue
  pub begun : BeginsAfterLower uploads.queue.frontier uploads.window
  pub waiting : AreWaiting uploads.queue.sealed
  pub places : PlacesFit uploads.sectors uploads.ancestors uploads.queue.frontier uploads.queue.maps
  pub ancestors : uploads.ancestors ≤ 15
  pub inherited : AreInherited uploads.ancestors uploads.queue.inherited
