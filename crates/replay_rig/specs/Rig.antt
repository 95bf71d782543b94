-- Contract: what a script ran on, and the plain volume that it shows.
use Rattle.std.specs.Prelude.{◌≡◌, ◌==◌, ℕ, ◌+◌, ◌*◌, ◌<◌, ◌≤◌, Bool, true, false, is_some, Some, None, List, [], ◌∷◌}
use Rattle.std.specs.List.{AllByRecursion}
use Rattle.lsvd_names.specs.Names.{numbered_name}
use Rattle.lsvd_device.specs.Device.{HoldsNow}
use Rattle.lsvd_device.specs.Medium.{MayLeave}
use Rattle.lsvd_objstore.specs.Objects.{Objects, found, IsPut}
use Rattle.object_format.specs.declared.expected.Expected.{Expected}
use Rattle.object_stream.specs.Replay.{object_name}
use Rattle.stopped_volume.specs.Device.{CacheOwner, owner_with}
use Rattle.stopped_volume.specs.Objects.{landed_in}
use Rattle.stopped_volume.specs.Super.{HasVolume}
use Rattle.upload_window.specs.declared.object.OpenObject.{OpenObject}
use Rattle.upload_window.specs.Window.{IsAcknowledged}
use Rattle.plain_disk.specs.declared.log.PlainCommit.{PlainCommit}
use Rattle.plain_disk.specs.State.{PlainState, OpensFirst, history_length, frontier_of}
use Rattle.plain_disk.specs.Removals.{has}
use Rattle.plain_disk.specs.Stops.{recovered_number}
use Rattle.plain_disk.specs.Found.{SealsCheckpoints, found_in}
use Rattle.refine_log.specs.Stops.{IsFoundCommit, HasCommit}
use Rattle.refine_mount.specs.Found.{expected_for, HasHolds, HasObjects}
use Rattle.refine_mount.specs.Mounted.{end_of_object}
use Rattle.refine_store.specs.Puts.{IsObjectOf, Inherits}
use Rattle.vol_core.specs.Volume.{SteppedVolume}
use Rattle.vol_core.specs.Step.{HasBytesOf}
use Rattle.vol_core.specs.Shows.{Shows}
use Rattle.vol_core.specs.Stops.{HasOwnCommits}
use Rattle.vol_core.specs.View.{PendsAs, last_commit, volume_disk, volume_uuid}
use Rattle.replay_rig.specs.Puts.{PutView}

-- ---- what is seen

-- a volume and its store, the objects under way, whether its device was told to stop since the last mount, and how many lines it
-- answered
pub record RigState : Type 0 where
  pub volume : SteppedVolume
  pub objects : Objects
  pub puts : List PutView
  pub is_stopping : Bool
  pub lines : ℕ

-- a rig of these parts
abbrev pub rig_of : SteppedVolume → Objects → List PutView → (is_stopping : Bool) → (lines : ℕ) → RigState
rig_of volume objects puts is_stopping lines =
    record { volume = volume; objects = objects; puts = puts; is_stopping = is_stopping; lines = lines }

-- ---- what it shows

-- the uuid of the volume of a script
abbrev pub script_uuid : List ℕ
script_uuid = 0 ∷ 0 ∷ 0 ∷ 0 ∷ 0 ∷ 0 ∷ 64 ∷ 0 ∷ 128 ∷ 0 ∷ 0 ∷ 0 ∷ 0 ∷ 0 ∷ 0 ∷ 1 ∷ []

-- the owner of a script's cache in an epoch
abbrev pub owner_at : (epoch : ℕ) → CacheOwner
owner_at epoch = owner_with script_uuid epoch

-- what is expected of the objects of a plain volume of a script
abbrev pub expected_of_plain : PlainState → Expected
expected_of_plain plain = expected_for script_uuid plain

-- the first of the objects under way is an open object of which a put was ever begun, and its put is out where it is started
abbrev pub IsFirstUnderWay : (was_started : Bool) → OpenObject → List PutView → (List PutView → Type 0) → Type 0
IsFirstUnderWay false object puts Rest = Rest puts
IsFirstUnderWay true object [] Rest = ⊥
IsFirstUnderWay true object (put ∷ puts) Rest = (put.number ≡ object.number) × (put.is_out ≡ object.is_started) × Rest puts

-- the objects under way are those of the open objects of which a put was ever begun, in their order
abbrev pub AreUnderWay : List OpenObject → List PutView → Type 0
AreUnderWay [] puts = puts ≡ []
AreUnderWay (object ∷ objects) puts = IsFirstUnderWay object.was_started object puts (AreUnderWay objects)

-- an object under way has the bytes of the plain volume's object
abbrev pub HasBytesOfObject : PlainState → PutView → Type 0
HasBytesOfObject plain put = IsObjectOf (expected_of_plain plain) plain put.number put.bytes

-- an object is acknowledged and was not removed
pub record IsKeptObject (plain : PlainState) (number : ℕ) : Type 0 where
  pub some : 0 < number
  pub acknowledged : IsAcknowledged plain.window number
  pub kept : has plain.removed number ≡ false

-- the store has the objects that are acknowledged, but those that were removed, and no others
pub record HasStored (plain : PlainState) (objects : Objects) : Type 0 where
  pub there : (number : ℕ) → IsKeptObject plain number
      → (bytes : List ℕ) × (found objects (object_name (expected_of_plain plain) number) ≡ Some bytes)
      × IsObjectOf (expected_of_plain plain) plain number bytes
  pub none_else : (number : ℕ) → (IsKeptObject plain number → ⊥)
      → found objects (object_name (expected_of_plain plain) number) ≡ None

-- no removal is out, and what was given out for removal is removed: a line makes a removal whole
pub record RemovesAtOnce (plain : PlainState) : Type 0 where
  pub none_out : plain.removal ≡ None
  pub gone : plain.given_out ≡ plain.removed

-- the numbers of a volume that has answered so many lines: each adds an entry and an object at most, and makes two steps and four
-- commits at most
pub record IsYoung (rig : RigState) (plain : PlainState) : Type 0 where
  pub entries : history_length plain ≤ rig.lines
  pub objects : plain.window.last ≤ 1 + rig.lines
  pub commits : last_commit rig.volume.volume ≤ 4 * rig.lines
  pub steps : rig.volume.steps ≤ 2 * rig.lines

-- The rig shows a plain volume: its volume does, with the pending writes of the plain cache, and commits in the epoch that the
-- store has as the newest of the volume; the objects under way are the plain volume's, and the store has those that are
-- acknowledged, but what was removed, and what the volume opens with of its ancestors. The store has no hold. The plain volume is
-- followed from its first object on, also over mounts.
pub record ShowsPlain (rig : RigState) (plain : PlainState) : Type 0 where
  pub shows : Shows rig.volume.volume plain
  pub pending : PendsAs rig.volume.volume plain.cache
  pub epoch : ℕ
  pub own : HasOwnCommits (owner_at epoch) rig.volume.volume
  pub described : HasVolume script_uuid plain.geometry plain.chain epoch rig.objects
  pub inherits : Inherits script_uuid plain rig.objects
  pub begun : epoch ≤ rig.lines
  pub uuid_is : volume_uuid rig.volume.volume ≡ script_uuid
  pub opens : OpensFirst plain
  pub seals : SealsCheckpoints plain
  pub stopping : rig.is_stopping ≡ is_some plain.cache.left
  pub puts : AreUnderWay plain.window.objects rig.puts
  pub put_objects : AllByRecursion (HasBytesOfObject plain) rig.puts
  pub bytes : AllByRecursion (λ put. HasBytesOf rig.volume.volume put.number put.bytes) rig.puts
  pub stored : HasStored plain rig.objects
  pub unheld : plain.held ≡ []
  pub holds : HasHolds (expected_of_plain plain) [] rig.objects
  pub removes : RemovesAtOnce plain
  pub young : IsYoung rig plain

-- ---- stops

-- an object has landed: it was put; or it has not
abbrev pub LandsAs : (has_landed : Bool) → PutView → (old new : Objects) → Type 0
LandsAs true put old new = IsPut (numbered_name script_uuid put.number) put.bytes old new
LandsAs false put old new = new ≡ old

-- those of the objects under way that have the letter of one that has landed were put
abbrev pub Lands : List PutView → (letters : List ℕ) → (old new : Objects) → Type 0
Lands [] letters old new = new ≡ old
Lands (put ∷ puts) [] old new = new ≡ old
Lands (put ∷ puts) (letter ∷ letters) old new = (middle : Objects) × LandsAs (letter == 121) put old middle
    × Lands puts letters middle new

-- Whatever a stop leaves of the device reads as the last commit of the plain volume or as the unfinished one, of this owner,
-- wherever the objects end that a mount finds, from the frontier on. And whichever objects under way have landed in its store,
-- that has the objects of what a mount finds of the plain volume, up to the one before the first missing number, from the
-- frontier on.
pub record IsKeptByRig (owner : CacheOwner) (rig : RigState) (plain : PlainState) : Type 0 where
  pub device : HoldsNow (λ now. (left : List ℕ) → MayLeave now left
      → (found : PlainCommit) × IsFoundCommit found plain.cache.log
      × ((number : ℕ) → frontier_of plain ≤ number → number ≤ plain.window.last
      → HasCommit owner plain found (end_of_object number plain) left))
      (volume_disk rig.volume.volume).moments
  pub store : (letters : List ℕ) (objects : Objects) → Lands rig.puts letters rig.objects objects
      → HasObjects script_uuid (found_in (landed_in objects (expected_of_plain plain)) plain)
      (recovered_number (landed_in objects (expected_of_plain plain)) plain) objects
      × (frontier_of plain ≤ recovered_number (landed_in objects (expected_of_plain plain)) plain)
      × (recovered_number (landed_in objects (expected_of_plain plain)) plain ≤ plain.window.last)
