-- Contract: how a store stands for a plain volume while its objects are put and removed, and what it has of one between a stop
-- and the end of a mount.
use Rattle.std.specs.Prelude.{◌≡◌, ℕ, ◌+◌, ◌<◌, ◌≤◌, true, false, IsTrue, Option, Some, None, IfSome, List}
use Rattle.lsvd_names.specs.Names.{numbered_name}
use Rattle.lsvd_objstore.specs.Objects.{Objects, found}
use Rattle.object_stream.specs.Landed.{Numbers}
use Rattle.object_stream.specs.Replay.{object_name}
use Rattle.object_stream.specs.Stream.{Owners}
use Rattle.object_uploads.specs.State.{UploadsState}
use Rattle.object_uploads.specs.Queue.{HasBytesAt}
use Rattle.object_uploads.specs.Changes.{index_of}
use Rattle.plain_disk.specs.State.{PlainState, OpensFirst}
use Rattle.plain_disk.specs.Removals.{has}
use Rattle.plain_disk.specs.Stops.{recovered_number}
use Rattle.plain_disk.specs.Found.{SealsCheckpoints}
use Rattle.plain_disk.specs.Valid.{MayLand}
use Rattle.stopped_volume.specs.Objects.{AreWholePast}
use Rattle.stopped_volume.specs.Opening.{IsCheckpointOf}
use Rattle.stopped_volume.specs.Store.{PutState}
use Rattle.stopped_volume.specs.Store.PutState.{Begun}
use Rattle.stopped_volume.specs.Super.{HasVolume}
use Rattle.refine_mount.specs.Found.{expected_for, HasHolds}
use Rattle.refine_store.specs.Puts.{IsObjectOf, ArePuts, Inherits, MayBeLeft}

-- A store stands for a plain volume, whose objects on their way are these: it has the volume in this epoch, and each object that
-- is acknowledged, which is the plain volume's. One that was given out for removal is absent or whole. One of which the put was
-- begun is absent or has just the bytes that were sealed, which are the plain volume's object too, and no other object is there.
-- The object whose removal is out was given out for it.
pub record StoreStands (uuid : List ℕ) (epoch : ℕ) (plain : PlainState) (uploads : UploadsState) (objects : Objects) :
    Type 0 where
  pub puts : ℕ → Option (PutState × List ℕ)
  pub are : ArePuts (expected_for uuid plain) plain puts
  pub left : MayBeLeft uuid epoch plain puts objects
  pub sealed : (number : ℕ) (bytes : List ℕ) → puts number ≡ Some (Begun, bytes)
      → HasBytesAt (index_of uploads number) uploads.queue.sealed bytes
  pub out : IfSome plain.removal (λ number. has plain.given_out number ≡ true)

-- A store has a plain volume up to the object before the first missing number, of these that have landed: the volume in this
-- epoch, what it opens with of its ancestors, each object up to there that has landed, which is the plain volume's, and no
-- other up to there, none of the missing number, and the holds that keep those which the plain volume has as held. What it has
-- past that is whole and no checkpoint, and is for a mount to remove.
pub record HasVolumeUpTo (uuid : List ℕ) (epoch : ℕ) (plain : PlainState) (landed : Numbers) (objects : Objects) : Type 0 where
  pub described : HasVolume uuid plain.geometry plain.chain epoch objects
  pub opens : OpensFirst plain
  pub inherits : Inherits uuid plain objects
  pub seals : SealsCheckpoints plain
  pub may : MayLand plain landed
  pub there : (number : ℕ) → 0 < number → number ≤ recovered_number landed plain → IsTrue (landed number)
      → (bytes : List ℕ) × (found objects (object_name (expected_for uuid plain) number) ≡ Some bytes)
      × IsObjectOf (expected_for uuid plain) plain number bytes
  pub absent : (number : ℕ) → 0 < number → number ≤ recovered_number landed plain → landed number ≡ false
      → found objects (object_name (expected_for uuid plain) number) ≡ None
  pub none_first : found objects (object_name (expected_for uuid plain) 0) ≡ None
  pub missing : found objects (object_name (expected_for uuid plain) (recovered_number landed plain + 1)) ≡ None
  pub holds : HasHolds (expected_for uuid plain) plain.held objects
  pub past : AreWholePast (expected_for uuid plain) objects (recovered_number landed plain)
  pub no_checkpoint : (number end : ℕ) (owned : Owners) → recovered_number landed plain < number
      → IsCheckpointOf (expected_for uuid plain) objects number end owned → ⊥

-- it has none of the volume's objects past a number
abbrev pub HasNonePast : (uuid : List ℕ) → (number : ℕ) → Objects → Type 0
HasNonePast uuid number objects = (other : ℕ) → number < other → found objects (numbered_name uuid other) ≡ None
