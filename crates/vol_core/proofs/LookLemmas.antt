-- What a look needs of a volume, and what its reads of the log take.
use Rattle.std.proofs.Common.{◌≡◌, ℕ, ◌+◌, ◌<◌, ◌≤◌, Bool, true, false, ◌&&◌, List, [], ◌∷◌, get_or, refl, sym, ◌∙◌, ap, subst}
use Rattle.std.proofs.Common.{arith}
use Rattle.std.specs.Prelude.{Option, Some, None, nat_le, nat_lt}
use Rattle.std.proofs.lemmas.Bool.{and_parts, leb-true, lt-leb}
use Rattle.std.proofs.lemmas.List.Sums.{sum_by-cons}
use Rattle.std.proofs.lemmas.Option.{slice_get-get_or}
use Rattle.lsvd_base.specs.declared.geometry.Geometry.{Geometry}
use Rattle.lsvd_base.specs.Limits.{may_transfer}
use Rattle.lsvd_device.specs.Calls.{Fuse, Budget, passes, fuse_after, Takes}
use Rattle.lsvd_device.specs.Memory.{HasRoom}
use Rattle.extent_map.specs.declared.extent.Extent.{Extent}
use Rattle.cache_log.specs.Log.{LogState}
use Rattle.cache_log.specs.Reads.{reads_cost}
use Rattle.volume_maps.specs.declared.place.LogPlace.TheVariants.{Data, Zeros}
use Rattle.volume_maps.specs.declared.place.VolumePlace.{VolumePlace}
use Rattle.volume_maps.specs.declared.place.VolumePlace.TheVariants.{Log, Object}
use Rattle.volume_maps.specs.Places.{place_in}
use Rattle.volume_maps.specs.Maps.{settled_at, volume_place_at}
use Rattle.object_uploads.specs.Order.{IsUploads}
use Rattle.object_uploads.specs.State.{StoredObject}
use Rattle.object_uploads.specs.Queue.{stored_at}
use Rattle.object_uploads.specs.Image.{GivesSector}
use Rattle.obj_log.specs.State.{ObjLogState}
use Rattle.plain_disk.specs.State.{PlainState, image_now}
use Rattle.plain_disk.specs.Reads.{look_calls}
use Rattle.refine_log.specs.Fuses.{fuse_in}
use Rattle.read_plan.specs.Places.{LogHasPlaces, HasObjectSector, ObjectsHavePlaces}
use Rattle.read_plan.specs.Look.{reads_from, reads_of, ReadsRange}
use Rattle.vol_core.specs.Places.{IsHeldAt, data_row_in_log, data_rows_in_log}
use Rattle.vol_core.specs.ReadLaws.{ShowsReads}
use Rattle.vol_core.proofs.HoldLemmas.{places_hold_sectors}
use Rattle.vol_core.proofs.ReadLemmas.{rows_are_runs}
use Rattle.vol_core.proofs.ShownLemmas.{image_has_sectors}
use Rattle.vol_core.specs.Volume.{VolumeState, SteppedVolume}
use Rattle.vol_core.specs.Shows.{Shows}

-- ---- the range

-- sectors that may be read lie inside the volume
transfer_ends : (geometry : Geometry) (lba sectors : ℕ) → may_transfer geometry lba sectors ≡ true
    → lba + sectors ≤ geometry.sectors
transfer_ends geometry lba sectors may =
    leb-true (lba + sectors) geometry.sectors
    (and_parts (nat_lt 0 sectors && nat_le sectors geometry.max_write) (nat_le (lba + sectors) geometry.sectors) may).1

-- ---- what it needs

module _ (data_at : ℕ → ℕ) (objects : ObjLogState) (log : LogState) (plain : PlainState)
    (shows : ShowsReads data_at objects log plain)
    (lba sectors : ℕ) (inside : lba + sectors ≤ plain.geometry.sectors) where
  -- a sector of the range is where the maps have it
  held_in_range : (k : ℕ) → k < lba + sectors
      → IsHeldAt log objects.uploads.queue (volume_place_at objects.uploads.queue.maps k) (get_or (image_now plain) k [])
  held_in_range k high =
      places_hold_sectors data_at objects log plain k (get_or (image_now plain) k []) shows
      (slice_get-get_or (image_now plain) k [] (omega (arith, high, inside, image_has_sectors plain shows.valid)))

  log_has_places : LogHasPlaces lba sectors objects.uploads.queue.maps log
  log_has_places k seq sector low high is =
      let maps = objects.uploads.queue.maps in
      let held =
      subst (λ logged. IsHeldAt log objects.uploads.queue (place_in logged (settled_at maps k)) (get_or (image_now plain) k []))
      is
      (held_in_range k high) in
      record { row = held.row; stands = held.there; has_seq = held.numbered; from = held.from; to = held.to }

  object_has : (at : ℕ) (sector : List ℕ) (object : Option StoredObject) → GivesSector object at sector
      → HasObjectSector object at
  object_has at sector None gives = gives
  object_has at sector (Some object) gives = gives.0

  objects_have_places : ObjectsHavePlaces lba sectors objects.uploads.queue
  objects_have_places k place low high is =
      let sector = get_or (image_now plain) k [] in
      let held = subst (λ p. IsHeldAt log objects.uploads.queue p sector) is (held_in_range k high) in
      object_has place.sector sector (stored_at objects.uploads.queue place) held

  -- ---- its calls

  same_row : (place : VolumePlace) → reads_from place ≡ data_row_in_log place
  same_row (Log (Data seq sector)) = refl
  same_row (Log (Zeros seq)) = refl
  same_row (Object place) = refl

  same_rows : (rows : List (Extent VolumePlace)) → reads_of rows ≡ data_rows_in_log rows
  same_rows [] = refl
  same_rows (row ∷ rows) =
      sum_by-cons (λ (r : Extent VolumePlace). reads_from r.place) row rows
      ∙ (ap (λ n. n + reads_of rows) (same_row row.place) ∙ ap (λ n. data_row_in_log row.place + n) (same_rows rows))

  -- as many reads are made as the plain volume counts
  pub reads_are_calls : (are_made : Bool) (new : LogState)
      → (reads : ReadsRange lba sectors objects.uploads.queue.maps are_made log new)
      → reads_of reads.rows ≡ look_calls plain lba sectors
  reads_are_calls are_made new reads =
      same_rows reads.rows ∙ rows_are_runs data_at objects log plain lba sectors reads.rows shows reads.are.shortest
      reads.are.places

-- ---- a volume that shows a plain one

-- whether a read may be made is asked of the volume's own geometry
pub may_of_own : (volume : VolumeState) (steps : ℕ) (now : SteppedVolume) (geometry : Geometry) (lba sectors : ℕ)
    (asked may : Bool)
    → record { volume = volume; steps = steps } ≡ now → geometry ≡ now.volume.objects.batch.geometry
    → asked ≡ may_transfer geometry lba sectors
    → asked ≡ may → may_transfer volume.objects.batch.geometry lba sectors ≡ may
may_of_own volume steps now geometry lba sectors asked may is own asks answer =
    ap (λ g. may_transfer g lba sectors) (ap (λ (s : SteppedVolume). s.volume.objects.batch.geometry) is ∙ sym own)
    ∙ (sym asks ∙ answer)

module _ (volume : VolumeState) (plain : PlainState) (shows : Shows volume plain)
    (ordered : IsUploads volume.objects.uploads) (lba sectors : ℕ)
    (may : may_transfer volume.objects.batch.geometry lba sectors ≡ true) where
  pub read_shown : ShowsReads shows.data_at volume.objects volume.log plain
  read_shown = record {
    ordered = ordered;
    valid = shows.valid;
    objects_are = shows.objects;
    log_is = shows.log;
    logged = shows.logged;
  }

  pub may_read : may_transfer plain.geometry lba sectors ≡ true
  may_read = ap (λ g. may_transfer g lba sectors) (sym shows.objects.geometry) ∙ may

  pub read_ends : lba + sectors ≤ plain.geometry.sectors
  read_ends = transfer_ends plain.geometry lba sectors may_read

  pub log_has_read : LogHasPlaces lba sectors volume.objects.uploads.queue.maps volume.log
  log_has_read = log_has_places shows.data_at volume.objects volume.log plain read_shown lba sectors read_ends

  pub objects_have_read : ObjectsHavePlaces lba sectors volume.objects.uploads.queue
  objects_have_read = objects_have_places shows.data_at volume.objects volume.log plain read_shown lba sectors read_ends

-- ---- its fuse

-- some fuse passes the reads exactly where they were made, and is the disk's where that is told
pub record HasFuseForReads (count : ℕ) (are_made : Bool) (old new : Option Budget) : Type 0 where
  pub fuse : Fuse
  pub lets : passes fuse count ≡ are_made
  pub told : HasRoom 0 0 old → (fuse ≡ fuse_in old) × (fuse_after fuse count ≡ fuse_in new)

pub reads_have_fuse : (count : ℕ) (are_made : Bool) (old new : Option Budget) → Takes (reads_cost count) are_made old new
    → (are_made ≡ false → 0 < count) → HasFuseForReads count are_made old new
reads_have_fuse count true None new takes some = record { fuse = None; lets = refl; told = λ room. absurd room }
reads_have_fuse count false None new takes some =
    record { fuse = Some 0; lets = lt-leb count 0 (some refl); told = λ room. absurd room }
reads_have_fuse count are_made (Some budget) new takes some =
    let within = takes.2 (omega arith) (omega arith) in
    record { fuse = budget.fuse; lets = sym within.made; told = λ room. (refl, sym (ap fuse_in takes.1 ∙ within.fuse)) }
