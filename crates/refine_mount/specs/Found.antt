-- Contract: what a mount finds in the store of a plain volume.
use Rattle.std.specs.Prelude.{◌≡◌, ℕ, ◌≤◌, ◌↔◌, not, IsTrue, None, List, [], length}
use Rattle.lsvd_objstore.specs.Objects.{Objects}
use Rattle.object_format.specs.declared.expected.Expected.{Expected}
use Rattle.stopped_volume.specs.Ancestors.{uuid_in_chain}
use Rattle.stopped_volume.specs.Holds.{HasHeldCheckpoints, IsKept}
use Rattle.stopped_volume.specs.Objects.{landed_in}
use Rattle.plain_disk.specs.State.{PlainState, stream_in, payload_of}
use Rattle.plain_disk.specs.Removals.{has}
use Rattle.object_recovery.specs.Checkpoints.{expected_of}
use Rattle.object_recovery.specs.Recovery.{HasDataUpTo}
use Rattle.object_recovery.specs.Table.{HasPayloadThere}

-- what is expected of the objects of a plain volume with this uuid, but for their numbers and ends
abbrev pub expected_for : (uuid : List ℕ) → PlainState → Expected
expected_for uuid plain = expected_of uuid plain.geometry (length plain.chain)

-- The holds that a store has of a volume keep just these objects, and the checkpoint of each hold is there.
pub record HasHolds (volume : Expected) (held : List ℕ) (objects : Objects) : Type 0 where
  pub checkpoints : HasHeldCheckpoints volume objects
  pub same : (number : ℕ) → IsTrue (has held number) ↔ IsKept volume objects number

-- A store has the objects of a plain volume as a mount finds them: the volume opens at its newest checkpoint, all its objects, up
-- to one of this number, are acknowledged, no removal and no plan of a copy is out, nothing is pinned, and those that were given
-- out for removal are removed. The store has each object from 1 on but these, with the payload that the volume knows, the holds
-- that keep those which the volume has as held, and the stream from the checkpoint on up to that number, which is the one before
-- the first missing number.
pub record HasObjects (uuid : List ℕ) (plain : PlainState) (number : ℕ) (objects : Objects) : Type 0 where
  pub opened : plain.checkpoint.number ≡ plain.number
  pub window : plain.window ≡ record { last = number; objects = [] }
  pub pins : plain.pins ≡ []
  pub none_out : plain.removal ≡ None
  pub no_plan : plain.plan ≡ None
  pub gone : plain.given_out ≡ plain.removed
  pub present : (other : ℕ) → 1 ≤ other → other ≤ number
      → landed_in objects (expected_for uuid plain) other ≡ not (has plain.removed other)
  pub payloads : (other payload : ℕ) → other ≤ number → HasPayloadThere (expected_for uuid plain) objects other payload
      → payload ≡ payload_of plain other
  pub holds : HasHolds (expected_for uuid plain) plain.held objects
  pub stored : HasDataUpTo (expected_for uuid plain) (uuid_in_chain uuid plain.chain) objects (stream_in plain) plain.opening
      number
