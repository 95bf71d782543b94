-- Contract: the plans of copies, and the objects that they take sectors from.
use Rattle.std.specs.Prelude.{◌≡◌, ℕ, ◌+◌, ◌*◌, ◌≤◌, ◌↔◌, Bool, Option, Some, None, IsSome, List, [], ◌∷◌, map}
use Rattle.std.specs.List.{All, Contains}
use Rattle.std.specs.List.Sorted.{IsStrictlyIncreasing}
use Rattle.gc_copier.specs.Plan.{SourceState, PlanState, numbers_of}
use Rattle.object_format.specs.declared.copy_row.CopyRow.{CopyRow}
use Rattle.object_table.specs.Table.{with_changed, copied}
use Rattle.volume_maps.specs.declared.place.ObjectPlace.{ObjectPlace}
use Rattle.volume_maps.specs.Maps.{settled_at}
use Rattle.volume_maps.specs.CopyPlan.{PlansCopy}
use Rattle.object_uploads.specs.State.{StoredObject, QueueState, UploadsState}
use Rattle.object_uploads.specs.Queue.{stored_of, stored_at}

-- ---- places

-- an object is in the store, and a sector of its payload lies inside it
abbrev pub IsInsideObject : Option StoredObject → (at : ℕ) → Type 0
IsInsideObject None at = ⊥
IsInsideObject (Some object) at = 512 * (object.front + at + 1) ≤ object.receipt.size

-- each place in the objects' map is in such an object
abbrev pub ArePlacesInside : QueueState → Type 0
ArePlacesInside queue =
    (k : ℕ) (place : ObjectPlace) → settled_at queue.maps k ≡ Some place
    → IsInsideObject (stored_at queue place) place.sector

-- ---- sources

-- the object of a number was marked: a plan of a copy takes sectors from it, or no longer does
abbrev pub marked : (is_copied : Bool) (number : ℕ) → QueueState → QueueState
marked is_copied number queue = record queue {
  maps = record queue.maps { objects = with_changed (copied is_copied) number queue.maps.objects };
}

-- so were those of several numbers, one after the other
abbrev pub marked_in : (is_copied : Bool) → List ℕ → QueueState → QueueState
marked_in is_copied [] queue = queue
marked_in is_copied (number ∷ numbers) queue = marked_in is_copied numbers (marked is_copied number queue)

abbrev pub with_copied_all : (is_copied : Bool) → List ℕ → UploadsState → UploadsState
with_copied_all is_copied numbers uploads = record uploads { queue = marked_in is_copied numbers uploads.queue }

-- the volume's own object of a number, as it is in the store
abbrev pub IsStoredSource : QueueState → SourceState → Type 0
IsStoredSource queue source =
    stored_of queue (record { level = 0; number = source.number })
    ≡ Some (record { receipt = source.receipt; front = source.front })

-- the numbers of the objects that rows take sectors from
abbrev pub source_numbers : List CopyRow → List ℕ
source_numbers rows = map (λ (row : CopyRow). row.source.number) rows

-- the objects that rows take sectors from are in the store
abbrev pub AreStored : QueueState → List CopyRow → Type 0
AreStored queue rows =
    All (λ (row : CopyRow). IsSome (stored_of queue (record { level = 0; number = row.source.number }))) rows

-- just the objects that rows take sectors from, by ascending number, each as it is in the store
pub record AreSources (queue : QueueState) (rows : List CopyRow) (sources : List SourceState) : Type 0 where
  pub ascending : IsStrictlyIncreasing (numbers_of sources)
  pub named : (number : ℕ) → Contains (numbers_of sources) number ↔ Contains (source_numbers rows) number
  pub stored : All (IsStoredSource queue) sources

-- ---- plans

-- a copy of at most so many sectors is planned
pub record HasPlan (most : ℕ) (plan : PlanState) (uploads : UploadsState) : Type 0 where
  pub rows : PlansCopy uploads.sectors most uploads.queue.maps plan.rows
  pub some : plan.rows ≡ [] → ⊥
  pub sources : AreSources uploads.queue plan.rows plan.sources

-- or no sector is to be copied
abbrev pub HasPlanned : (most : ℕ) → UploadsState → Option PlanState → Type 0
HasPlanned most uploads None = PlansCopy uploads.sectors most uploads.queue.maps []
HasPlanned most uploads (Some plan) = HasPlan most plan uploads
