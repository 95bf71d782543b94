-- For this crate's own clauses: the objects of ancestors that the rows of a checkpoint name, and how they are taken up.
use Rattle.std.specs.Prelude.{◌≡◌, ℕ, ◌+◌, ◌<◌, ◌≤◌, ◌⊎◌, Option, Some, None, IfSome, List, length}
use Rattle.std.specs.Option.{IsSome}
use Rattle.std.specs.List.{All, AllPairs, Contains}
use Rattle.clone_chain.specs.declared.ancestor.Ancestor.{Ancestor}
use Rattle.lsvd_base.specs.declared.geometry.Geometry.{Geometry}
use Rattle.lsvd_names.specs.Names.{numbered_name}
use Rattle.lsvd_objstore.specs.Objects.{Objects, found}
use Rattle.lsvd_objstore.specs.Store.{ReceiptState}
use Rattle.extent_map.specs.declared.extent.Extent.{Extent}
use Rattle.extent_map.specs.Extents.{place_at}
use Rattle.object_format.specs.declared.expected.Expected.{Expected}
use Rattle.ckpt_format.specs.declared.place.StoredPlace.{StoredPlace}
use Rattle.ckpt_format.specs.Places.{stored_on}
use Rattle.ckpt_format.specs.Checkpoint.{IsCheckpoint}
use Rattle.stopped_volume.specs.Ancestors.{uuid_in_chain}
use Rattle.object_uploads.specs.State.{InheritedObject}
use Rattle.object_uploads.specs.Queue.{inherited_in}
use Rattle.object_uploads.specs.Opening.{with_inherited}
use Rattle.obj_log.specs.State.{ObjLogState}
use Rattle.object_recovery.specs.declared.inherited.Coming.{Coming}
use Rattle.object_recovery.specs.declared.inherited.Coming.TheVariants as comes
use Rattle.object_recovery.specs.declared.inherited.Inherited.{Inherited}
use Rattle.object_recovery.specs.declared.inherited.Inherited.TheVariants as of_ancestors
use Rattle.object_recovery.specs.declared.inherited.Named.{Named}
use Rattle.object_recovery.specs.Checkpoints.{expected_of}
use Rattle.object_recovery.specs.Earlier.{EarlierObject, IsStoredThere}
use Rattle.object_recovery.specs.Beginning.{HasPartsAsked, LacksReach, HasTakenUp}

-- ---- which objects rows name

-- one object comes before another: by level, and then by number
abbrev pub IsBelow : (named other : Named) → Type 0
IsBelow named other = (named.level < other.level) ⊎ ((named.level ≡ other.level) × (named.number < other.number))

-- each object comes before all after it
abbrev pub AreInOrder : List Named → Type 0
AreInOrder named = AllPairs IsBelow named

-- an object is of one of so many ancestors
abbrev pub IsOfLevelUpTo : (ancestors : ℕ) → Named → Type 0
IsOfLevelUpTo ancestors named = (1 ≤ named.level) × (named.level ≤ ancestors)

-- some objects have this one, and rows reach as far in it or further
abbrev pub HasAsFar : List Named → Named → Type 0
HasAsFar list named =
    (n : Named) × Contains list n × (n.level ≡ named.level) × (n.number ≡ named.number) × (named.reach ≤ n.reach)

-- the object that a row names, and how far the row reaches in it
abbrev pub named_by : Extent StoredPlace → Named
named_by row = record { level = row.place.level; number = row.place.number; reach = row.place.place + row.sectors }

-- a row was noted: its object is there, as far as the row reaches in it or further, and nothing else changed
pub record IsNoted (row : Extent StoredPlace) (old new : List Named) : Type 0 where
  pub order : AreInOrder new
  pub kept : (n : Named) → Contains old n → HasAsFar new n
  pub noted : HasAsFar new (named_by row)
  pub others : All (λ (n : Named). Contains old n ⊎ (n ≡ named_by row)) new

-- a place is in one of some objects, before its reach
abbrev pub IsInNamed : List Named → StoredPlace → Type 0
IsInNamed named place =
    (n : Named) × Contains named n × (n.level ≡ place.level) × (n.number ≡ place.number) × (place.place < n.reach)

-- what an object and its reach come from: a place of rows right before it
pub record ComesFrom (rows : List (Extent StoredPlace)) (named : Named) : Type 0 where
  pub k : ℕ
  pub place : StoredPlace
  pub row : place_at stored_on rows k ≡ Some place
  pub inherited : 1 ≤ place.level
  pub level : place.level ≡ named.level
  pub number : place.number ≡ named.number
  pub last : place.place + 1 ≡ named.reach

-- They are the objects of ancestors that rows name, each once, by level and then by number, and each is reached as far as the
-- rows go in it.
pub record AreNamedBy (rows : List (Extent StoredPlace)) (named : List Named) : Type 0 where
  pub order : AreInOrder named
  pub all : (k : ℕ) (place : StoredPlace) → place_at stored_on rows k ≡ Some place → 1 ≤ place.level → IsInNamed named place
  pub by : All (ComesFrom rows) named

-- ---- how one is taken up

-- an object for which the store gave this
abbrev pub found_as : Named → ReceiptState → EarlierObject
found_as named receipt = record { number = named.number; receipt = receipt; reach = named.reach }

-- The object of a volume is in the store: this is the receipt for it.
pub record IsFound (Tells : Type 0) (uuid : List ℕ) (told : Option Objects) (named : Named) (receipt : ReceiptState) :
    Type 0 where
  pub tells : Tells → IsSome receipt.told
  pub stored : IfSome told (λ objects. IsStoredThere uuid objects (found_as named receipt))

-- an object has what rows name of it
pub record HasFoundParts (Tells : Type 0) (volume : Expected) (told : Option Objects) (named : Named) (receipt : ReceiptState)
    (front : ℕ) : Type 0 where
  pub found : IsFound Tells volume.uuid told named receipt
  pub payload : ℕ
  pub parts : HasPartsAsked volume (found_as named receipt) payload front

-- an object that is in the list
abbrev pub inherited_as : Named → ReceiptState → (front : ℕ) → InheritedObject
inherited_as named receipt front =
    record { level = named.level; number = named.number; receipt = receipt; front = front }

-- it was taken up, as the last of a list
pub record TakesOne (Tells : Type 0) (volume : Expected) (told : Option Objects) (named : Named) (old new : ObjLogState) :
    Type 0 where
  pub receipt : ReceiptState
  pub front : ℕ
  pub has : HasFoundParts Tells volume told named receipt front
  pub batch : new.batch ≡ old.batch
  pub uploads : new.uploads ≡ with_inherited (inherited_as named receipt front) old.uploads

-- the store does not have it
abbrev pub IsAbsent : (uuid : List ℕ) → (told : Option Objects) → Named → Type 0
IsAbsent uuid told named = IfSome told (λ objects. found objects (numbered_name uuid named.number) ≡ None)

-- it is there, and does not have what rows name of it
pub record LacksThere (Tells : Type 0) (volume : Expected) (told : Option Objects) (named : Named) : Type 0 where
  pub receipt : ReceiptState
  pub found : IsFound Tells volume.uuid told named receipt
  pub lacks : LacksReach volume (found_as named receipt)

abbrev pub ComesAs : (Tells : Type 0) → Expected → (told : Option Objects) → Named → (old new : ObjLogState) → Coming → Type 0
ComesAs Tells volume told named old new comes.Taken = TakesOne Tells volume told named old new
ComesAs Tells volume told named old new comes.Absent = (new ≡ old) × IsAbsent volume.uuid told named
ComesAs Tells volume told named old new comes.Lacking = LacksThere Tells volume told named

-- ---- how all are

-- nothing but the objects of ancestors changed
pub record IsSameButInherited (old new : ObjLogState) : Type 0 where
  pub batch : new.batch ≡ old.batch
  pub uploads : new.uploads ≡ record old.uploads {
    queue = record old.uploads.queue { inherited = new.uploads.queue.inherited };
  }

module _ (Tells : Type 0) (geometry : Geometry) (chain : List Ancestor) (told : Option Objects) where
  -- what is expected of the objects of an ancestor with this uuid
  abbrev pub expected_there : (uuid : List ℕ) → Expected
  expected_there uuid = expected_of uuid geometry (length chain)

  -- the uuid of an ancestor's level
  abbrev pub IsUuidOf : Named → List ℕ → Type 0
  IsUuidOf named uuid = (own : List ℕ) → uuid_in_chain own chain named.level ≡ Some uuid

  -- an object was taken up: it has what rows name of it, and the list has it
  pub record IsTaken (inherited : List InheritedObject) (named : Named) : Type 0 where
    pub uuid : List ℕ
    pub of : IsUuidOf named uuid
    pub receipt : ReceiptState
    pub front : ℕ
    pub has : HasFoundParts Tells (expected_there uuid) told named receipt front
    pub there : inherited_in inherited (record { level = named.level; number = named.number })
        ≡ Some (record { receipt = receipt; front = front })

  -- an object is absent
  pub record IsAbsentThere (named : Named) : Type 0 where
    pub uuid : List ℕ
    pub of : IsUuidOf named uuid
    pub absent : IsAbsent uuid told named

  -- an object is in the store
  abbrev pub IsNotAbsent : Named → Type 0
  IsNotAbsent named = (uuid : List ℕ) × IsUuidOf named uuid
      × IfSome told (λ objects. IsSome (found objects (numbered_name uuid named.number)))

  -- the first of some objects that is absent is of the ancestor with this uuid
  pub record IsFirstAbsent (list : List Named) (uuid : List ℕ) : Type 0 where
    pub first : Named
    pub among : Contains list first
    pub of : IsUuidOf first uuid
    pub absent : IsAbsent uuid told first
    pub nearer : (n : Named) → Contains list n → IsBelow n first → IsNotAbsent n

  -- Those of some objects that are there were taken up. This is the ancestor of the first that is absent, if any is.
  pub record HasInherited (list : List Named) (inherited : List InheritedObject) (absent : Option (List ℕ)) : Type 0 where
    pub each : All (λ (n : Named). IsTaken inherited n ⊎ IsAbsentThere n) list
    pub whole : absent ≡ None → All (IsTaken inherited) list
    pub first : IfSome absent (IsFirstAbsent list)

  -- one of some objects is there, and does not have what rows name of it
  pub record LacksAmong (list : List Named) (number : ℕ) : Type 0 where
    pub named : Named
    pub among : Contains list named
    pub number_is : named.number ≡ number
    pub uuid : List ℕ
    pub of : IsUuidOf named uuid
    pub lacks : LacksThere Tells (expected_there uuid) told named

  abbrev pub TakesInherited : List Named → (old new : ObjLogState) → Inherited → Type 0
  TakesInherited list old new (of_ancestors.Taken absent) =
      IsSameButInherited old new × HasInherited list new.uploads.queue.inherited absent
  TakesInherited list old new (of_ancestors.Lacking number) = LacksAmong list number

  -- ---- with the volume's own

  -- what is known of the objects of ancestors that the rows of a checkpoint name
  pub record HasAllInherited (bytes : List ℕ) (expected : Expected) (log : ObjLogState) (absent : Option (List ℕ)) :
      Type 0 where
    pub named : List Named
    pub rows_name : (end : ℕ) (rows : List (Extent StoredPlace)) → IsCheckpoint bytes expected end rows → AreNamedBy rows named
    pub has : HasInherited named log.uploads.queue.inherited absent

  -- an object of the volume's own does not have what rows name of it
  abbrev pub LacksOwn : Expected → List EarlierObject → (number : ℕ) → Type 0
  LacksOwn volume earlier number =
      (e : EarlierObject) × Contains earlier e × (e.number ≡ number) × LacksReach volume e

  -- or one of an ancestor does not
  pub record LacksInherited (bytes : List ℕ) (expected : Expected) (number : ℕ) : Type 0 where
    pub named : List Named
    pub rows_name : (end : ℕ) (rows : List (Extent StoredPlace)) → IsCheckpoint bytes expected end rows → AreNamedBy rows named
    pub lacks : LacksAmong named number

  -- all objects were taken up that are there, or one was found that lacks what rows name of it
  abbrev pub TakesAll : (bytes : List ℕ) → Expected → List EarlierObject → (old new : ObjLogState) → Inherited → Type 0
  TakesAll bytes expected earlier old new (of_ancestors.Taken absent) =
      HasTakenUp old.uploads.uuid geometry old.uploads.ancestors old.uploads.queue.frontier old.uploads.queue.end earlier new
      × HasAllInherited bytes expected new absent
  TakesAll bytes expected earlier old new (of_ancestors.Lacking number) =
      LacksOwn (expected_of old.uploads.uuid geometry old.uploads.ancestors) earlier number
      ⊎ LacksInherited bytes expected number
