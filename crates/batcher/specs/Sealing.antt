-- Contract: what a sealed object has of a batch's entries, and what is left of them.
use Rattle.std.specs.Prelude.{ℕ, ◌≡◌, ◌+◌, ◌≤◌, Some, List, length, take, drop}
use Rattle.object_format.specs.declared.expected.Expected.{Expected}
use Rattle.object_format.specs.declared.rows.Rows.TheVariants.{Data}
use Rattle.object_format.specs.Writing.{object_header_of}
use Rattle.object_stream.specs.Changes.{change_at, change_in}
use Rattle.object_stream.specs.Replay.{HasParts}
use Rattle.batcher.specs.declared.sealing.Rest.{Rest}
use Rattle.batcher.specs.declared.sealing.SealedBatch.{SealedBatch}
use Rattle.batcher.specs.Batch.{IsSealedCount}
use Rattle.batcher.specs.Plans.{IsPlanOf}
use Rattle.batcher.specs.State.{BatchState}

-- what is expected of the next object is of this batch: its volume, and the end before it
pub record IsExpectedOf (batch : BatchState) (expected : Expected) : Type 0 where
  pub sectors : expected.sectors ≡ batch.geometry.sectors
  pub end_before : expected.end_before ≡ Some batch.first

-- the rest of a batch is planned: all entries but the first ones
pub record IsBatchRest (batch : BatchState) (rest : Rest) : Type 0 where
  pub within : rest.after ≤ length batch.entries
  pub planned : IsPlanOf batch.geometry.batch (drop rest.after batch.entries) rest.plan

-- What is sealed of a batch: an object of the grammar under the expected number, of the fewest first entries that are full,
-- which does to each sector just what these entries do.
pub record IsSealed (batch : BatchState) (expected : Expected) (sealed : SealedBatch) : Type 0 where
  pub count : IsSealedCount batch.geometry.batch batch.entries sealed.entries
  pub payload : List ℕ
  pub parts : HasParts expected sealed.object
      (object_header_of expected batch.first (batch.first + sealed.entries) (Data sealed.rows))
      (Data sealed.rows) payload
  pub changes : (k : ℕ) → change_in sealed.rows.items payload k ≡ change_at (take sealed.entries batch.entries) k
  -- what is left, with memory for as many further entries as there is
  pub after : sealed.rest.after ≡ sealed.entries
  pub rest : IsBatchRest batch sealed.rest
  pub room : batch.reserved ≤ sealed.rest.plan.changes.spare
