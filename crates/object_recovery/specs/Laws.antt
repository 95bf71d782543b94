-- Contract: what follows from what a recovery leaves.
use Rattle.std.specs.Prelude.{◌≡◌, ℕ, ◌≤◌, Option, Some, List, length}
use Rattle.lsvd_base.specs.Image.{Image}
use Rattle.lsvd_objstore.specs.Objects.{Objects}
use Rattle.object_format.specs.declared.expected.Expected.{Expected}
use Rattle.object_format.specs.declared.reason.BadObject.{BadObject}
use Rattle.object_stream.specs.Stream.{Stream}
use Rattle.object_uploads.specs.Image.{HasImage}
use Rattle.obj_log.specs.State.{ObjLogState}
use Rattle.object_recovery.specs.Judging.{IsGoodObject, IsBadObject}
use Rattle.object_recovery.specs.Places.{HasPlacesInside}
use Rattle.object_recovery.specs.Removal.{Removes}
use Rattle.object_recovery.specs.Recovery.{HasDataUpTo, IsPastOf}

-- Where some of the objects past the last one of a stream were removed, or none, the store has the stream as before, up to the
-- same object. So a recovery that was stopped among its removals finds the same again. No further level of the volume has its own
-- uuid.
abbrev pub RemovalKeepsStream : Type 0
RemovalKeepsStream =
    (volume : Expected) (uuid_at : ℕ → Option (List ℕ)) (old new : Objects) (stream : Stream) (opening : Image)
    (number : ℕ)
    → ((level : ℕ) → 1 ≤ level → uuid_at level ≡ Some volume.uuid → ⊥) → Removes (IsPastOf volume.uuid number) old new
    → HasDataUpTo volume uuid_at old stream opening number → HasDataUpTo volume uuid_at new stream opening number

-- A list whose places lie inside objects has an image of the volume's size, also where receipts tell no bytes.
abbrev pub ListHasSomeImage : Type 0
ListHasSomeImage =
    (sectors : ℕ) (log : ObjLogState) → HasPlacesInside sectors log.uploads.queue
    → (image : Image) × (length image ≡ sectors) × HasImage image log.uploads.queue

-- An object is not both good and bad, by one last object before the first missing number.
abbrev pub NoneIsGoodAndBad : Type 0
NoneIsGoodAndBad =
    (volume : Expected) (objects : Objects) (last number : ℕ) (reason : BadObject)
    → IsGoodObject volume objects last number → IsBadObject volume objects last number reason → ⊥
