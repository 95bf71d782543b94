-- Contract: what a look plans, and what it reads of the log.
use Rattle.std.specs.Prelude.{◌≡◌, ℕ, ◌+◌, ◌*◌, ◌^◌, ◌<◌, ◌≤◌, ◌↔◌, Bool, false, Some, List, length}
use Rattle.std.specs.List.{Contains, sum_by}
use Rattle.std.specs.List.Sorted.{IsStrictlyIncreasing}
use Rattle.lsvd_device.specs.Device.{MakesCalls}
use Rattle.commit_slot.specs.Commits.{IsAsBefore}
use Rattle.extent_map.specs.declared.extent.Extent.{Extent}
use Rattle.extent_map.specs.Extents.{place_at, place_in_range, IsShortest}
use Rattle.cache_log.specs.Reads.{reads_cost}
use Rattle.cache_log.specs.Log.{LogState, HasSameEntries}
use Rattle.volume_maps.specs.declared.place.ObjectPlace.{ObjectPlace}
use Rattle.volume_maps.specs.declared.place.LogPlace.TheVariants.{Data, Zeros}
use Rattle.volume_maps.specs.declared.place.VolumePlace.{VolumePlace}
use Rattle.volume_maps.specs.declared.place.VolumePlace.TheVariants.{Log, Object}
use Rattle.volume_maps.specs.Places.{volume_on}
use Rattle.volume_maps.specs.Maps.{MapsState, volume_place_at}
use Rattle.obj_log.specs.State.{ObjLogState}
use Rattle.read_plan.specs.Plan.{PlanState, PiecesFit}
use Rattle.read_plan.specs.Places.{HoldsPlace}

-- a look may be of these sectors: some, and no more than a read has, inside the largest volume
pub record MayLook (lba sectors : ℕ) : Type 0 where
  pub some : 1 ≤ sectors
  pub most : sectors ≤ 65536
  pub inside : lba + sectors ≤ 2 ^ 31

-- ---- the plan

-- the volume's own object of this number has a sector of a range, as the maps place it
pub record HasPlaceIn (lba sectors : ℕ) (maps : MapsState) (number : ℕ) : Type 0 where
  pub k : ℕ
  pub place : ObjectPlace
  pub from : lba ≤ k
  pub to : k < lba + sectors
  pub is : volume_place_at maps k ≡ Some (Object place)
  pub own : place.level ≡ 0
  pub has_number : place.number ≡ number

-- the numbers of the volume's own objects that have sectors of a range, ascending, each once
pub record AreObjectsIn (lba sectors : ℕ) (maps : MapsState) (numbers : List ℕ) : Type 0 where
  pub ascending : IsStrictlyIncreasing numbers
  pub each : (number : ℕ) → Contains numbers number ↔ HasPlaceIn lba sectors maps number

-- the plan of a read of sectors of a volume with these objects and this log
pub record IsReadPlan (lba sectors : ℕ) (state : ObjLogState) (log : LogState) (plan : PlanState) : Type 0 where
  pub history_length : plan.history_length ≡ state.batch.first + length state.batch.entries
  pub size : length plan.bytes ≡ 512 * sectors
  pub inside : PiecesFit plan
  pub holds : (i : ℕ) → i < sectors → HoldsPlace log state.uploads.queue (volume_place_at state.uploads.queue.maps (lba + i)) i
      plan
  pub objects : AreObjectsIn lba sectors state.uploads.queue.maps plan.objects

-- ---- the reads of the log

-- the rows of a range: the shortest list that gives each of its sectors the place that the maps do
pub record AreRowsIn (lba sectors : ℕ) (maps : MapsState) (rows : List (Extent VolumePlace)) : Type 0 where
  pub shortest : IsShortest volume_on rows
  pub places : (k : ℕ) → place_at volume_on rows k ≡ place_in_range lba sectors (volume_place_at maps) k

-- the reads that a row from a place on takes: one, where it is of data in the log
abbrev pub reads_from : VolumePlace → ℕ
reads_from (Log (Data seq sector)) = 1
reads_from (Log (Zeros seq)) = 0
reads_from (Object place) = 0

abbrev pub reads_of : List (Extent VolumePlace) → ℕ
reads_of rows = sum_by (λ row. reads_from row.place) rows

-- as many reads of the log were made as rows take, or one of them failed, where they take some, and nothing else was done
pub record ReadsRows (rows : List (Extent VolumePlace)) (are_made : Bool) (old new : LogState) : Type 0 where
  pub same : HasSameEntries old new
  pub commits : IsAsBefore old.commits new.commits
  pub moments : new.commits.disk.moments ≡ old.commits.disk.moments
  pub calls : MakesCalls (reads_cost (reads_of rows)) are_made old.commits.disk new.commits.disk
  pub some : are_made ≡ false → 0 < reads_of rows

-- the same of the rows of a range
pub record ReadsRange (lba sectors : ℕ) (maps : MapsState) (are_made : Bool) (old new : LogState) : Type 0 where
  pub rows : List (Extent VolumePlace)
  pub are : AreRowsIn lba sectors maps rows
  pub reads : ReadsRows rows are_made old new
