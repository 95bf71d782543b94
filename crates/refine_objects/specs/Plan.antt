-- Contract: what the plan of a copy that is out means: that of the plain volume.
use Rattle.std.specs.Prelude.{◌≡◌, ◌↔◌, ℕ, ◌<◌, ◌≤◌, IsTrue, true, Option, Some, None, List, length}
use Rattle.std.specs.List.{All, Contains}
use Rattle.lsvd_base.specs.declared.geometry.Geometry.{Geometry}
use Rattle.gc_copier.specs.Plan.{PlanState, numbers_of, sectors_of}
use Rattle.object_format.specs.Rows.{copy_rows_may_stand}
use Rattle.object_stream.specs.declared.object.CopiedSector.{CopiedSector}
use Rattle.object_stream.specs.Replay.{source_at}
use Rattle.object_stream.specs.Stream.{source_in}
use Rattle.volume_maps.specs.Maps.{settled_at}
use Rattle.volume_maps.specs.Live.{is_live}
use Rattle.volume_maps.specs.CopyPlan.{source_place_at}
use Rattle.object_uploads.specs.State.{QueueState}
use Rattle.object_uploads.specs.Collection.{IsStoredSource}
use Rattle.plain_disk.specs.State.{PlainState}
use Rattle.plain_disk.specs.Removals.{copies_from}

-- A plan takes just these sectors of a volume, each from its source, one of the volume's own objects, and no more of them than a
-- batch has; and its objects are just these sources, as they are in the store. A sector that the objects' map still has in its
-- source is where the plan has it from. The rows may stand in each object past the frontier.
pub record IsPlanOf (geometry : Geometry) (queue : QueueState) (pairs : List CopiedSector) (plan : PlanState) : Type 0 where
  pub takes : (k : ℕ) → source_at plan.rows k ≡ source_in pairs k
  pub count : sectors_of plan.rows ≡ length pairs
  pub few : length pairs ≤ geometry.batch
  pub named : (number : ℕ) → Contains (numbers_of plan.sources) number ↔ (copies_from (Some pairs) number ≡ true)
  pub stored : All (IsStoredSource queue) plan.sources
  pub places : (k source : ℕ) → source_at plan.rows k ≡ Some source → IsTrue (is_live source (settled_at queue.maps k))
      → settled_at queue.maps k ≡ source_place_at plan.rows k
  pub stand : (number : ℕ) → queue.frontier < number
      → IsTrue (copy_rows_may_stand geometry.sectors (sectors_of plan.rows) number None 0 plan.rows)

-- The plan of a list that is out is the plain volume's.
abbrev pub ShowsPlan : QueueState → Option PlanState → PlainState → Type 0
ShowsPlan queue None plain = plain.plan ≡ None
ShowsPlan queue (Some plan) plain =
    (pairs : List CopiedSector) × (plain.plan ≡ Some pairs) × IsPlanOf plain.geometry queue pairs plan
