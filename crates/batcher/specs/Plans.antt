-- Contract: which entries the next object takes, and what they change.
use Rattle.std.specs.Prelude.{ℕ, ◌≡◌, ◌*◌, ◌≤◌, List, length, take}
use Rattle.std.specs.List.{sum_by}
use Rattle.lsvd_base.specs.declared.entry.Entry.{Entry}
use Rattle.extent_map.specs.Extents.{place_at}
use Rattle.batcher.specs.declared.plan.SealPlan.{SealPlan}
use Rattle.batcher.specs.Batch.{data_sectors, IsSealedCount}
use Rattle.batcher.specs.Places.{place_on, place_by}

-- A plan of these entries has how many of them the next object takes, the sectors of their data, and what each sector gets from
-- them, in at most two rows for each.
pub record IsPlanOf (batch : ℕ) (entries : List Entry) (plan : SealPlan) : Type 0 where
  pub count : IsSealedCount batch entries plan.entries
  pub sum : plan.sectors ≡ sum_by data_sectors (take plan.entries entries)
  pub changes : (k : ℕ) → place_at place_on plan.changes.rows k ≡ place_by 0 (take plan.entries entries) k
  pub few : length plan.changes.rows ≤ 2 * plan.entries
