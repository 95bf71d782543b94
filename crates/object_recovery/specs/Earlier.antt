-- For this crate's own clauses: the objects before a checkpoint, and how far its rows reach in each.
use Rattle.std.specs.Prelude.{◌≡◌, ℕ, ◌+◌, ◌<◌, ◌≤◌, ◌==◌, Option, Some, IsSome, IfSome, List, map}
use Rattle.std.specs.Prelude.{length, max, slice_index_or, if◌then◌else◌}
use Rattle.std.specs.List.{All, AllPairs, Contains}
use Rattle.lsvd_names.specs.declared.name.NameKind.TheVariants.{Object}
use Rattle.lsvd_names.specs.declared.name.ObjName.{ObjName}
use Rattle.lsvd_names.specs.Names.{numbered_name}
use Rattle.lsvd_objstore.specs.Objects.{Objects, found}
use Rattle.lsvd_objstore.specs.Store.{ReceiptState, IsReceiptOf}
use Rattle.extent_map.specs.declared.extent.Extent.{Extent}
use Rattle.extent_map.specs.Extents.{place_at}
use Rattle.ckpt_format.specs.declared.place.StoredPlace.{StoredPlace}
use Rattle.ckpt_format.specs.Places.{stored_on}

-- an object before a checkpoint: its number, what the store gave for it, and up to which sector of its payload rows name it; 0
-- where none does
pub record EarlierObject : Type 0 where
  pub number : ℕ
  pub receipt : ReceiptState
  pub reach : ℕ

-- objects of a volume below a number, by ascending number, each with a receipt of its name
pub record AreEarlier (uuid : List ℕ) (below : ℕ) (earlier : List EarlierObject) : Type 0 where
  pub order : AllPairs (λ (a b : EarlierObject). a.number < b.number) earlier
  pub from_one : All (λ (e : EarlierObject). 1 ≤ e.number) earlier
  pub within : All (λ (e : EarlierObject). e.number < below) earlier
  pub named : All (λ (e : EarlierObject). e.receipt.name ≡ numbered_name uuid e.number) earlier

-- the store has an object of this number, and the receipt is for it
abbrev pub IsStoredThere : (uuid : List ℕ) → Objects → EarlierObject → Type 0
IsStoredThere uuid objects e =
    (bytes : List ℕ) × (found objects (numbered_name uuid e.number) ≡ Some bytes)
    × IsReceiptOf (numbered_name uuid e.number) bytes e.receipt

-- one of the objects has this number
abbrev pub HasEarlier : List EarlierObject → (number : ℕ) → Type 0
HasEarlier earlier number = (e : EarlierObject) × Contains earlier e × (e.number ≡ number)

-- they are all that the store has there, and each receipt is for what it has
pub record AreAllEarlier (uuid : List ℕ) (objects : Objects) (below : ℕ) (earlier : List EarlierObject) : Type 0 where
  pub stored : All (IsStoredThere uuid objects) earlier
  pub complete : (number : ℕ) → 1 ≤ number → number < below → IsSome (found objects (numbered_name uuid number))
      → HasEarlier earlier number

-- ---- found by their names

-- a name is that of an object before a number
abbrev pub IsBefore : (below : ℕ) → ObjName → Type 0
IsBefore below name = (name.kind ≡ Object) × (1 ≤ name.number) × (name.number < below)

-- a name is one of the first so many
abbrev pub IsAmongFirst : List ObjName → (count : ℕ) → ObjName → Type 0
IsAmongFirst names count name = (k : ℕ) × (k < count) × (k < length names) × (slice_index_or names k name ≡ name)

-- they are all with one of the first names that the store has there
pub record HasAllOfFirst (uuid : List ℕ) (names : List ObjName) (below count : ℕ) (earlier : List EarlierObject)
    (objects : Objects) : Type 0 where
  pub stored : All (IsStoredThere uuid objects) earlier
  pub complete : (number : ℕ) → 1 ≤ number → number < below → IsSome (found objects (numbered_name uuid number))
      → IsAmongFirst names count (numbered_name uuid number) → HasEarlier earlier number

-- the objects with one of the first names were searched for
pub record FindsFirst (uuid : List ℕ) (names : List ObjName) (below count : ℕ) (objects : Option Objects)
    (earlier : List EarlierObject) : Type 0 where
  pub are : AreEarlier uuid below earlier
  pub unreached : All (λ (e : EarlierObject). e.reach ≡ 0) earlier
  pub among : All (λ (e : EarlierObject). IsAmongFirst names count (numbered_name uuid e.number)) earlier
  pub told : IfSome objects (HasAllOfFirst uuid names below count earlier)

-- ---- how far rows reach

-- a place of rows is in one of the objects, before its reach
abbrev pub IsReached : List EarlierObject → StoredPlace → Type 0
IsReached earlier place = (e : EarlierObject) × Contains earlier e × (e.number ≡ place.number) × (place.place < e.reach)

-- so is each of the volume's own
abbrev pub AreReached : List (Extent StoredPlace) → List EarlierObject → Type 0
AreReached rows earlier =
    (k : ℕ) (place : StoredPlace) → place_at stored_on rows k ≡ Some place → place.level ≡ 0 → IsReached earlier place

-- what an object's reach comes from: a place of the rows right before it
abbrev pub ReachedBy : List (Extent StoredPlace) → EarlierObject → Type 0
ReachedBy rows e =
    (e.reach ≡ 0 → ⊥)
    → (k : ℕ) × (place : StoredPlace) × (place_at stored_on rows k ≡ Some place) × (place.level ≡ 0)
    × (place.number ≡ e.number) × (place.place + 1 ≡ e.reach)

-- Each place of rows in an object of the volume's own is in one of the objects, before its reach, which goes no further than the
-- rows do.
pub record ReachAll (rows : List (Extent StoredPlace)) (earlier : List EarlierObject) : Type 0 where
  pub all : AreReached rows earlier
  pub by : All (ReachedBy rows) earlier

-- an object but for its reach
abbrev pub but_reach : EarlierObject → EarlierObject
but_reach e = record e { reach = 0 }

-- the same objects, whose reaches alone differ
abbrev pub AreSameObjects : (old new : List EarlierObject) → Type 0
AreSameObjects old new = map but_reach new ≡ map but_reach old

-- an object after rows were seen that reach up to a sector of the one of a number
abbrev pub reached_to : (number end : ℕ) → EarlierObject → EarlierObject
reached_to number end e = if e.number == number then record e { reach = max e.reach end } else e

-- a row reaches into its object, which is one of them
pub record IsReachedBy (row : Extent StoredPlace) (old new : List EarlierObject) : Type 0 where
  pub there : HasEarlier old row.place.number
  pub reached : new ≡ map (reached_to row.place.number (row.place.place + row.sectors)) old

-- it does where its object is the volume's own, and no other changes them
pub record IsReachedIfOwn (row : Extent StoredPlace) (old new : List EarlierObject) : Type 0 where
  pub own : row.place.level ≡ 0 → IsReachedBy row old new
  pub other : (row.place.level ≡ 0 → ⊥) → new ≡ old

-- a row names an object of the volume's own, of this number, that is none of them
pub record NamesNone (rows : List (Extent StoredPlace)) (earlier : List EarlierObject) (number : ℕ) : Type 0 where
  pub k : ℕ
  pub place : StoredPlace
  pub row : place_at stored_on rows k ≡ Some place
  pub own : place.level ≡ 0
  pub named : place.number ≡ number
  pub none : HasEarlier earlier number → ⊥
