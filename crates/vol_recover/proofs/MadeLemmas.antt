-- A volume that was mounted shows what a mount makes of the plain volume that is followed from its first object on.
use Rattle.std.proofs.Common.{◌≡◌, ℕ, ◌+◌, ◌-◌, ◌≤◌, Option, Some, None, List, [], take, drop, sym, ◌∙◌, ap, subst, arith}
use Rattle.std.specs.Prelude.{IfSome, length}
use Rattle.std.proofs.lemmas.List.{take-take}
use Rattle.lsvd_base.specs.declared.entry.Entry.{Entry}
use Rattle.lsvd_device.specs.Device.{DiskState}
use Rattle.lsvd_objstore.specs.Objects.{Objects}
use Rattle.object_stream.specs.declared.object.StreamObject.{StreamObject}
use Rattle.object_stream.specs.Landed.{Numbers}
use Rattle.object_stream.specs.Stream.{end_after, end_at, entries_in_object, place_in_object}
use Rattle.volume_maps.specs.declared.place.ObjectPlace.{ObjectPlace}
use Rattle.volume_maps.specs.Maps.{settled_at}
use Rattle.object_uploads.specs.Stream.{object_at, IsPlacedOwn, IsPlacedIn}
use Rattle.stopped_volume.specs.Device.{CacheOwner, owner_with}
use Rattle.plain_disk.specs.declared.log.PlainCommit.{PlainCommit}
use Rattle.plain_disk.specs.Log.{mounted_log, empty_from}
use Rattle.plain_disk.specs.Cache.{PlainCache, cache_with}
use Rattle.plain_disk.specs.State.{PlainState, stream_in, folded_to}
use Rattle.plain_disk.specs.Checkpoints.{landed_checkpoint}
use Rattle.plain_disk.specs.Stops.{recovered_number, recovered_end, kept_count, found_by, mounted_from, mounted_on}
use Rattle.plain_disk.specs.Valid.{IsPlainVolume}
use Rattle.plain_disk.specs.Found.{Finds, found_in}
use Rattle.plain_disk.proofs.EndLemmas.{ends_from, ends_grow}
use Rattle.plain_disk.proofs.FoundLemmas.{base_from, mounts_from_keep}
use Rattle.plain_disk.proofs.StopLemmas.{recovers_base}
use Rattle.object_recovery.specs.Checkpoints.{expected_of}
use Rattle.object_recovery.specs.Table.{KnowsObjects}
use Rattle.refine_log.specs.Fuses.{fuse_in}
use Rattle.refine_mount.specs.Mounted.{mounted_with, mounted_without, sizes_with}
use Rattle.refine_mount.proofs.AsFoundLemmas.{mounts_as_found}
use Rattle.refine_store.specs.Stored.{HasVolumeUpTo}
use Rattle.refine_store.proofs.BaseLemmas.{known_is_placed}
use Rattle.refine_store.proofs.ObjectLemmas.{get_of_first, same_part}
use Rattle.vol_core.specs.Shows.{Shows}
use Rattle.vol_core.specs.Step.{passing}
use Rattle.vol_core.specs.Volume.{VolumeState}
use Rattle.vol_core.proofs.StepLemmas.{passing_keeps}
use Rattle.vol_core.proofs.OpeningLemmas.{shows_from_first}
use Rattle.vol_mount.specs.Mounted.{MountedState, IsOfVolume, IsMountOf}
use Rattle.vol_recover.specs.Standing.{MayMountWithout, MayMountWith}

-- ---- the objects that a mount keeps

module _ (plain : PlainState) (landed : Numbers) (count : ℕ) (valid : IsPlainVolume plain)
    (within : recovered_end landed plain ≤ count) where
  abbrev kept : PlainState
  kept = found_by landed count plain

  same_end : (number : ℕ) → number ≤ recovered_number landed plain
      → end_at (stream_in kept) number ≡ end_at (stream_in plain) number
  same_end number low =
      ap (end_after plain.end)
      (take-take (number - plain.number) (recovered_number landed plain - plain.number) plain.objects (omega (arith, low)))

  same_entries : (number : ℕ) → number ≤ recovered_number landed plain
      → entries_in_object (stream_in kept) number ≡ entries_in_object (stream_in plain) number
  same_entries number low =
      let last = recovered_number landed plain in
      let from = end_at (stream_in plain) (number - 1) in
      let to = end_at (stream_in plain) number in
      let part = from - plain.end + (to - from) in
      let first = ends_from plain (number - 1) valid in
      let before = ends_grow (stream_in plain) (number - 1) last valid.stream.ends (omega (arith, low)) in
      let grown = ends_grow (stream_in plain) number last valid.stream.ends low in
      ap (λ end. take (end_at (stream_in kept) number - end) (drop (end - plain.end) kept.entries))
      (same_end (number - 1) (omega (arith, low)))
      ∙ ap (λ end. take (end - from) (drop (from - plain.end) kept.entries)) (same_end number low)
      ∙ same_part (from - plain.end) (to - from) kept.entries plain.entries
      (take-take part (count - plain.end) plain.entries (omega (arith, first, before, grown, within)))

  -- a place in one of them is where it has the sector
  own_in_kept : (k : ℕ) (place : ObjectPlace) → place.number ≤ recovered_number landed plain
      → IsPlacedOwn (stream_in plain) k place → IsPlacedOwn (stream_in kept) k place
  own_in_kept k place low placed = λ own past.
      let i = place.number - (plain.number + 1) in
      let same : object_at (stream_in kept) place.number ≡ object_at (stream_in plain) place.number =
      get_of_first (recovered_number landed plain - plain.number) i plain.objects (omega (arith, past, low)) in
      let Placed : Option StreamObject → List Entry → Type 0 =
      λ found list. IfSome found (λ object. place.sector ≡ place_in_object object.content list k) in
      subst (Placed (object_at (stream_in kept) place.number)) (sym (same_entries place.number low))
      (subst (λ found. Placed found (entries_in_object (stream_in plain) place.number)) (sym same) (placed own past))

  placed_in_kept : (k : ℕ) (place : ObjectPlace) → (place.level ≡ 0 → place.number ≤ recovered_number landed plain)
      → IsPlacedIn (stream_in plain) k place → IsPlacedIn (stream_in kept) k place
  placed_in_kept k place low placed = (λ own past. own_in_kept k place (low own) placed.0 own past, placed.1)

-- what follows of each value follows of one that is told
if_so : {A : Type 0} (P Q : A → Type 0) (told : Option A) → ((value : A) → P value → Q value) → IfSome told P → IfSome told Q
if_so P Q None follows is = tt
if_so P Q (Some value) follows is = follows value is

-- ---- a volume that shows what was made, opened at the newest checkpoint

-- what a mount finds of a plain volume that is followed from its first object on
pub finds_of : (uuid : List ℕ) (epoch : ℕ) (plain : PlainState) (landed : Numbers) (objects : Objects) → IsPlainVolume plain
    → HasVolumeUpTo uuid epoch plain landed objects → Finds landed plain
finds_of uuid epoch plain landed objects valid has =
    let first = has.opens.number in
    let some = valid.checkpoint.numbered in
    record { valid = valid; may = has.may; opened = omega (arith, first, some) }

module _ (uuid : List ℕ) (epoch : ℕ) (plain : PlainState) (landed : Numbers) (objects : Objects) (volume : VolumeState)
    (valid : IsPlainVolume plain) (has : HasVolumeUpTo uuid epoch plain landed objects)
    (sealed : volume.objects.uploads.queue.sealed ≡ [])
    (knows : KnowsObjects (expected_of uuid plain.geometry (length plain.chain)) objects (landed_checkpoint landed plain).number
    volume.objects.uploads.queue) where
  abbrev base : ℕ
  base = (landed_checkpoint landed plain).number

  -- the plain volume with the objects that a mount keeps, its first N entries, and any log and cache
  module _ (log count : ℕ) (cache : PlainCache) (within : recovered_end landed plain ≤ count) where
    abbrev made : PlainState
    made = record (found_by landed count plain) { geometry = sizes_with log plain.geometry; cache = cache }

    placed_to_base : (k : ℕ) → IfSome (settled_at volume.objects.uploads.queue.maps k) (λ (place : ObjectPlace).
        (place.level ≡ 0 → place.number ≤ base) → IsPlacedIn (stream_in made) k place)
    placed_to_base k =
        if_so (λ (place : ObjectPlace). (place.level ≡ 0 → place.number ≤ base) → IsPlacedIn (stream_in plain) k place)
        (λ (place : ObjectPlace). (place.level ≡ 0 → place.number ≤ base) → IsPlacedIn (stream_in made) k place)
        (settled_at volume.objects.uploads.queue.maps k)
        (λ place placed low. placed_in_kept plain landed count valid within k place
        (λ own. let most = low own in omega (arith, most, recovers_base plain landed)) (placed low))
        (known_is_placed uuid epoch plain landed objects volume.objects.uploads valid has knows k)

    shows_made : IsPlainVolume made → Shows volume (folded_to base made) → Shows volume made
    shows_made made_valid shows =
        shows_from_first volume made base made_valid (base_from landed plain (finds_of uuid epoch plain landed objects valid has))
        (recovers_base plain landed) sealed placed_to_base shows

-- ---- with the cache

pub with_cache_shows : (owner : CacheOwner) (plain : PlainState) (found : PlainCommit) (landed : Numbers) (objects : Objects)
    (disk : DiskState) (mounted : MountedState) → MayMountWith owner plain found landed objects disk
    → IsOfVolume owner plain.geometry plain.chain mounted
    → IsMountOf (expected_of owner.uuid plain.geometry (length plain.chain)) (Some objects)
    (mounted_with found (recovered_number landed plain) (found_in landed plain)) (recovered_number landed plain) mounted
    → Shows mounted.volume.volume
    (passing (fuse_in mounted.volume.volume.log.commits.disk.budget) (mounted_from landed found plain))
with_cache_shows owner plain found landed objects disk mounted may of_volume is =
    let volume : VolumeState = mounted.volume.volume in
    let fuse = fuse_in volume.log.commits.disk.budget in
    let made : PlainState = mounted_from landed found plain in
    let finds = finds_of owner.uuid owner.epoch plain landed objects may.valid may.volume in
    let as_found = (mounts_as_found plain landed found plain.geometry.log may.valid may.volume.may finds.opened).0 in
    let made_valid = (mounts_from_keep plain landed may.valid may.volume.may).0 found may.commit may.later in
    shows_made owner.uuid owner.epoch plain landed objects volume may.valid may.volume of_volume.none_sealed is.knows
    plain.geometry.log (kept_count landed found plain)
    (record (cache_with (mounted_log found (recovered_end landed plain) plain.cache.log)) { left = fuse }) (omega arith)
    (passing_keeps fuse made made_valid)
    (subst (λ (s : PlainState). Shows volume (passing fuse s)) (sym as_found) is.shows)

-- ---- without it

pub without_shows : (uuid : List ℕ) (log epoch : ℕ) (plain : PlainState) (landed : Numbers) (objects : Objects)
    (mounted : MountedState) → MayMountWithout uuid log epoch plain landed objects
    → IsOfVolume (owner_with uuid (epoch + 1)) (sizes_with log plain.geometry) plain.chain mounted
    → IsMountOf (expected_of uuid (sizes_with log plain.geometry) (length plain.chain)) (Some objects)
    (mounted_without log (recovered_number landed plain) (found_in landed plain)) (recovered_number landed plain) mounted
    → Shows mounted.volume.volume
    (passing (fuse_in mounted.volume.volume.log.commits.disk.budget) (mounted_on log landed plain))
without_shows uuid log epoch plain landed objects mounted may of_volume is =
    let volume : VolumeState = mounted.volume.volume in
    let fuse = fuse_in volume.log.commits.disk.budget in
    let made : PlainState = mounted_on log landed plain in
    let finds = finds_of uuid epoch plain landed objects may.valid may.volume in
    let as_found =
    (mounts_as_found plain landed plain.cache.log.last log may.valid may.volume.may finds.opened).1 in
    let made_valid = (mounts_from_keep plain landed may.valid may.volume.may).1 log may.stored.limits in
    shows_made uuid epoch plain landed objects volume may.valid may.volume of_volume.none_sealed is.knows log
    (recovered_end landed plain) (record (cache_with (empty_from log (recovered_end landed plain))) { left = fuse }) (omega arith)
    (passing_keeps fuse made made_valid)
    (subst (λ (s : PlainState). Shows volume (passing fuse s)) (sym as_found) is.shows)
