-- For this crate's own clauses: what holds of every batch, and a plan with one entry more.
use Rattle.std.specs.Prelude.{ℕ, ◌≡◌, ◌+◌, ◌^◌, ◌<◌, ◌≤◌, IsTrue, List, length}
use Rattle.std.specs.Option.{option_or}
use Rattle.std.specs.List.{All, sum_by}
use Rattle.lsvd_base.specs.declared.geometry.Geometry.{Geometry}
use Rattle.lsvd_base.specs.declared.entry.Entry.{Entry}
use Rattle.lsvd_base.specs.Limits.{is_within_limits}
use Rattle.lsvd_base.specs.Range.{is_in_range}
use Rattle.extent_map.specs.Extents.{place_at}
use Rattle.batcher.specs.declared.plan.SealPlan.{SealPlan}
use Rattle.batcher.specs.Batch.{data_sectors}
use Rattle.batcher.specs.Places.{place_on, extent_place, extent_of}
use Rattle.batcher.specs.Plans.{IsPlanOf}

-- the volume takes each entry
abbrev pub AreInRange : Geometry → List Entry → Type 0
AreInRange geometry entries = All (λ entry. IsTrue (is_in_range geometry entry)) entries

-- the fields of a batch: its entries are those of a volume, their seqs fit, and the sum and the plan are theirs
pub record IsBatch (geometry : Geometry) (first : ℕ) (entries : List Entry) (sectors : ℕ) (plan : SealPlan) : Type 0 where
  pub limits : IsTrue (is_within_limits geometry)
  pub seqs : first + length entries < 2 ^ 64
  pub in_range : AreInRange geometry entries
  pub counted : sectors ≡ sum_by data_sectors entries
  pub planned : IsPlanOf geometry.batch entries plan

-- a plan has one entry more, whose sectors get their places from it
pub record IsPutInPlan (old : SealPlan) (entry : Entry) (new : SealPlan) : Type 0 where
  pub count : new.entries ≡ old.entries + 1
  pub sum : new.sectors ≡ old.sectors + data_sectors entry
  pub changes : (k : ℕ) → place_at place_on new.changes.rows k ≡ option_or (extent_place (extent_of old.entries entry) k)
      (place_at place_on old.changes.rows k)
  pub few : length new.changes.rows ≤ length old.changes.rows + 2
  pub room : old.changes.spare ≤ new.changes.spare + 1
