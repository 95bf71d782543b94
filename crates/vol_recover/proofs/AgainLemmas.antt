-- What a mount leaves that failed or was stopped may be mounted again.
use Rattle.std.proofs.Common.{◌≡◌, ℕ, ◌+◌, ◌<◌, ◌≤◌, ◌⊎◌, Bool, true, false, ◌&&◌, nat_le, None, List, [], ◌∷◌, inl, inr}
use Rattle.std.proofs.Common.{refl, sym, ◌∙◌, ◌^◌, ap, subst, arith, length}
use Rattle.std.proofs.lemmas.Bool.Decides.{nat_tests}
use Rattle.clone_chain.specs.declared.ancestor.Ancestor.{Ancestor}
use Rattle.lsvd_base.specs.declared.geometry.Geometry.{Geometry}
use Rattle.lsvd_device.specs.Device.{DiskState}
use Rattle.lsvd_device.specs.Medium.{Medium, MayLeave}
use Rattle.lsvd_device.specs.Stop.{HasNow}
use Rattle.lsvd_objstore.specs.Objects.{Objects, found}
use Rattle.object_format.specs.declared.expected.Expected.{Expected}
use Rattle.object_stream.specs.Landed.{Numbers}
use Rattle.object_stream.specs.Replay.{object_name}
use Rattle.object_stream.proofs.LandedLemmas.{one_first_missing}
use Rattle.stopped_volume.specs.Device.{CacheOwner}
use Rattle.stopped_volume.specs.Objects.{landed_in, AreWholePast}
use Rattle.stopped_volume.specs.Super.{HasVolume}
use Rattle.plain_disk.specs.declared.log.PlainCommit.{PlainCommit}
use Rattle.plain_disk.specs.Log.{mounted_log, empty_from}
use Rattle.plain_disk.specs.Cache.{PlainCache, cache_with}
use Rattle.plain_disk.specs.Checkpoints.{landed_checkpoint}
use Rattle.plain_disk.specs.State.{PlainState, OpensFirst, frontier_end, history_length}
use Rattle.plain_disk.specs.Stops.{recovered_number, recovered_end, kept_count, found_by, mounted_from, mounted_on}
use Rattle.plain_disk.specs.Found.{found_in, landed_to, IsFoundAgain, SealsCheckpoints}
use Rattle.plain_disk.specs.Valid.{IsPlainVolume}
use Rattle.plain_disk.proofs.AgainLemmas.{found_again}
use Rattle.plain_disk.proofs.CheckpointLemmas.{both_true}
use Rattle.plain_disk.proofs.FoundLemmas.{mounts_from_keep, commits_are_later}
use Rattle.plain_disk.proofs.OpeningLemmas.{mounts_keep_opening}
use Rattle.plain_disk.proofs.MarkedLemmas.{mounts_seal}
use Rattle.object_recovery.specs.Checkpoints.{expected_of}
use Rattle.object_recovery.specs.Removal.{Removes}
use Rattle.object_recovery.specs.Recovery.{IsLastLanded, IsPastOf, MayRemovePast}
use Rattle.refine_log.specs.Stops.{HasCommit}
use Rattle.refine_mount.specs.Found.{HasObjects}
use Rattle.refine_mount.specs.Mounted.{end_of_object, mounted_with, sizes_with}
use Rattle.refine_mount.specs.Stops.{StopKeepsMount}
use Rattle.refine_mount.proofs.AsFoundLemmas.{mounts_as_found}
use Rattle.refine_store.specs.Puts.{IsObjectOf}
use Rattle.refine_store.specs.Stored.{HasVolumeUpTo}
use Rattle.refine_store.proofs.KeepLemmas.{mounts_keep_object}
use Rattle.refine_store.proofs.VolumeLemmas.{volume_has_objects}
use Rattle.vol_mount.specs.Epochs.{BeginsEpoch}
use Rattle.vol_recover.specs.Standing.{MayMountWith, StoppedWithCache, StoppedWithoutCache}
use Rattle.vol_recover.proofs.MadeLemmas.{finds_of}
use Rattle.vol_recover.proofs.StandLemmas.{removal_keeps_up_to, next_is_up_to}
use Rattle.vol_recover.proofs.StopLemmas.{found_is_stored}

-- ---- what a mount was to make

not_both : (a b : Bool) → (a && b) ≡ false → b ≡ true → a ≡ false
not_both true b both is = (let no : true ≡ false = sym is ∙ both in absurd (cc))
not_both false b both is = refl

le_true : (a b : ℕ) → a ≤ b → nat_le a b ≡ true
le_true a b is = grind (arith, nat_tests)

-- The volume that a mount makes, of which the store has the volume up to the same number: a mount finds the objects again that
-- were found.
module _ (uuid : List ℕ) (epoch next : ℕ) (plain : PlainState) (landed : Numbers) (objects : Objects)
    (has_it : HasVolumeUpTo uuid epoch plain landed objects) (log count : ℕ) (cache : PlainCache) where
  abbrev volume : Expected
  volume = expected_of uuid plain.geometry (length plain.chain)

  abbrev number : ℕ
  number = recovered_number landed plain

  abbrev made : PlainState
  made = record (found_by landed count plain) { geometry = sizes_with log plain.geometry; cache = cache }

  pub again_up_to : HasVolume uuid (sizes_with log plain.geometry) plain.chain next objects → OpensFirst made
      → SealsCheckpoints made
      → IsFoundAgain landed number (landed_checkpoint landed plain) made
      → ((other : ℕ) (bytes : List ℕ) → other ≤ number → IsObjectOf volume plain other bytes → IsObjectOf volume made other bytes)
      → HasVolumeUpTo uuid next made (landed_to number landed) objects
  again_up_to described opens seals again keeps =
      let same : recovered_number (landed_to number landed) made ≡ number = again.number in
      record {
        described = described;
        opens = opens;
        inherits = has_it.inherits;
        seals = seals;
        holds = has_it.holds;
        may = again.may;
        there = λ other some most there_too.
            (let low : other ≤ number = omega (arith, most, same) in
            let there = has_it.there other some low (both_true (landed other) (nat_le other number) there_too).0 in
            (there.0, there.1, keeps other there.0 low there.2));
        absent = λ other some most none.
            (let low : other ≤ number = omega (arith, most, same) in
            has_it.absent other some low (not_both (landed other) (nat_le other number) none (le_true other number low)));
        none_first = has_it.none_first;
        missing = subst (λ n. found objects (object_name volume (n + 1)) ≡ None) (sym same) has_it.missing;
        past = subst (AreWholePast volume objects) (sym same) has_it.past;
        no_checkpoint = λ other end owned past is. has_it.no_checkpoint other end owned (omega (arith, past, same)) is;
      }

-- the volume is described with a log of any length
described_with : (uuid : List ℕ) (geometry : Geometry) (chain : List Ancestor) (epoch : ℕ) (objects : Objects) (log : ℕ)
    → HasVolume uuid geometry chain epoch objects → HasVolume uuid (sizes_with log geometry) chain epoch objects
described_with uuid geometry chain epoch objects log has = record {
  volume = has.volume;
  says = has.says;
  sizes = ap (sizes_with log) has.sizes;
  chain_is = has.chain_is;
  epochs = has.epochs;
  whole = has.whole;
  holds = has.holds;
}

-- ---- removals that were stopped

-- the object before the first missing number is one
one_last : (uuid : List ℕ) (plain : PlainState) (number last : ℕ) (objects : Objects) → HasObjects uuid plain number objects
    → IsLastLanded (expected_of uuid plain.geometry (length plain.chain)) objects last → last ≡ number
one_last uuid plain number last objects has is =
    let stored = has.stored.stored in
    let landed : Numbers = landed_in objects (expected_of uuid plain.geometry (length plain.chain)) in
    let same : last + 1 ≡ number + 1 =
    one_first_missing stored.checkpoint landed (last + 1) (number + 1) (is stored.checkpoint stored.checkpoints) stored.missing
    in
    omega (arith, same)

-- so it is of what a mount finds
last_found : (uuid : List ℕ) (epoch : ℕ) (plain : PlainState) (landed : Numbers) (last : ℕ) (objects : Objects)
    → IsPlainVolume plain → HasVolumeUpTo uuid epoch plain landed objects
    → IsLastLanded (expected_of uuid plain.geometry (length plain.chain)) objects last → last ≡ recovered_number landed plain
last_found uuid epoch plain landed last objects valid has is =
    one_last uuid (found_in landed plain) (recovered_number landed plain) last objects
    (volume_has_objects uuid epoch plain landed objects valid has) is

may_remove_keeps : (uuid : List ℕ) (epoch : ℕ) (plain : PlainState) (landed : Numbers) (old new : Objects) → IsPlainVolume plain
    → HasVolumeUpTo uuid epoch plain landed old
    → MayRemovePast (Unit {0}) (expected_of uuid plain.geometry (length plain.chain)) old new
    → HasVolumeUpTo uuid epoch plain landed new
may_remove_keeps uuid epoch plain landed old new valid has (inl same) =
    subst (HasVolumeUpTo uuid epoch plain landed) (sym same) has
may_remove_keeps uuid epoch plain landed old new valid has (inr (last, is, removes)) =
    removal_keeps_up_to uuid old new epoch plain landed valid
    (subst (λ n. Removes (IsPastOf uuid n) old new) (last_found uuid epoch plain landed last old valid has (is tt)) removes) has

-- ---- a mount with the cache

-- a device that has what a stop leaves reads as the commit that was found, or as that which was made
module _ (owner : CacheOwner) (plain : PlainState) (found : PlainCommit) (number : ℕ) where
  abbrev mounted : PlainState
  mounted = mounted_with found number plain

  abbrev HasFound : Medium → Type 0
  HasFound now = HasCommit owner plain found (end_of_object number plain) now.bytes

  abbrev HasMade : Medium → Type 0
  HasMade now = HasCommit owner mounted mounted.cache.log.last (end_of_object number mounted) now.bytes

  found_or_made : (medium : Medium) → StopKeepsMount owner plain found number medium → (moments : List Medium)
      → HasNow (λ now. MayLeave medium now.bytes) moments → HasNow HasFound moments ⊎ HasNow HasMade moments
  found_or_made medium keeps [] may = absurd may
  found_or_made medium keeps (now ∷ past) may = keeps now.bytes may

module _ (owner : CacheOwner) (plain : PlainState) (found : PlainCommit) (landed : Numbers) (old new : Objects)
    (disk left : DiskState) (may : MayMountWith owner plain found landed old disk)
    (volume : HasVolumeUpTo owner.uuid owner.epoch plain landed new) where
  abbrev last : ℕ
  last = recovered_number landed plain

  abbrev base : ℕ
  base = (landed_checkpoint landed plain).number

  abbrev made_with : PlainState
  made_with = mounted_from landed found plain

  found_may : HasNow (HasFound owner (found_in landed plain) found last) left.moments
      → MayMountWith owner plain found landed new left
  found_may there = record {
    valid = may.valid;
    commit = may.commit;
    later = may.later;
    left = record {
      stored =
          found_is_stored owner.uuid plain.geometry.log owner.epoch plain landed new may.valid volume may.valid.limits
          may.left.stored.low;
      log_is = may.left.log_is;
      device = there;
    };
    volume = volume;
  }

  made_may : HasNow (HasMade owner (found_in landed plain) found last) left.moments
      → MayMountWith owner made_with made_with.cache.log.last (landed_to last landed) new left
  made_may there =
      let finds = finds_of owner.uuid owner.epoch plain landed new may.valid volume in
      let valid : IsPlainVolume made_with = (mounts_from_keep plain landed may.valid volume.may).0 found may.commit may.later in
      let again = (found_again plain landed finds).0 found valid in
      let log = plain.geometry.log in
      let of_volume = expected_of owner.uuid plain.geometry (length plain.chain) in
      let there_again : HasVolumeUpTo owner.uuid owner.epoch made_with (landed_to last landed) new =
      again_up_to owner.uuid owner.epoch owner.epoch plain landed new volume log (kept_count landed found plain)
      (cache_with (mounted_log found (recovered_end landed plain) plain.cache.log)) volume.described
      (mounts_keep_opening plain landed found log volume.opens).0
      (mounts_seal plain landed found log may.valid volume.seals).0 again
      (λ other bytes low is. (mounts_keep_object of_volume plain landed found log other bytes may.valid volume.opens volume.may
      low is).0) in
      let commit = (commits_are_later (frontier_end made_with) (history_length made_with) made_with.cache.log valid.log).0 in
      let low = subst (λ n. n < 2 ^ 63) (sym again.number) may.left.stored.low in
      let Reads : PlainState → ℕ → Type 0 =
      λ s n. HasNow (λ now. HasCommit owner s s.cache.log.last (end_of_object n s) now.bytes) left.moments in
      let as_found = (mounts_as_found plain landed found log may.valid volume.may finds.opened).0 in
      let reads : Reads (found_in (landed_to last landed) made_with) (recovered_number (landed_to last landed) made_with) =
      subst (Reads (found_in (landed_to last landed) made_with)) (sym again.number)
      (subst (λ s. Reads s last) (sym again.found) (subst (λ s. Reads s last) (sym as_found) there)) in
      record {
        valid = valid;
        commit = commit.within;
        later = omega arith;
        left = record {
          stored = found_is_stored owner.uuid log owner.epoch made_with (landed_to last landed) new valid there_again
              valid.limits low;
          log_is = refl;
          device = reads;
        };
        volume = there_again;
      }

pub stopped_with_cache : StoppedWithCache
stopped_with_cache owner plain found landed old new disk left medium may removed keeps is_left =
    let volume = may_remove_keeps owner.uuid owner.epoch plain landed old new may.valid may.volume removed in
    elim (found_or_made owner (found_in landed plain) found (recovered_number landed plain) medium keeps left.moments is_left) [
      | inl there ↦ inl (found_may owner plain found landed old new disk left may volume there)
      | inr there ↦ inr (made_may owner plain found landed old new disk left may volume there)
    ]

-- ---- a mount without it

pub stopped_without_cache : StoppedWithoutCache
stopped_without_cache uuid log epoch plain landed old new is_uuid may (inl removed) =
    let volume = may_remove_keeps uuid epoch plain landed old new may.valid may.volume removed in
    inl (record {
      valid = may.valid;
      stored = found_is_stored uuid log epoch plain landed new may.valid volume may.stored.limits may.stored.low;
      volume = volume;
    })
stopped_without_cache uuid log epoch plain landed old new is_uuid may (inr (last, is, begins)) =
    let number = recovered_number landed plain in
    let begun : BeginsEpoch uuid number (epoch + 1) old new =
    subst (λ n. BeginsEpoch uuid n (epoch + 1) old new)
    (last_found uuid epoch plain landed last old may.valid may.volume (is tt)) begins in
    let (middle, all, next) = begun in
    let had = removal_keeps_up_to uuid old middle epoch plain landed may.valid all.removes may.volume in
    let has = next_is_up_to uuid epoch middle new next plain landed may.valid had in
    let finds = finds_of uuid (epoch + 1) plain landed new may.valid has in
    let found = plain.cache.log.last in
    let made : PlainState = mounted_on log landed plain in
    let valid : IsPlainVolume made = (mounts_from_keep plain landed may.valid has.may).1 log may.stored.limits in
    let again = (found_again plain landed finds).1 log valid in
    let end = recovered_end landed plain in
    let volume : HasVolumeUpTo uuid (epoch + 1) made (landed_to number landed) new =
    again_up_to uuid (epoch + 1) (epoch + 1) plain landed new has log end (cache_with (empty_from log end))
    (described_with uuid plain.geometry plain.chain (epoch + 1) new log has.described)
    (mounts_keep_opening plain landed found log has.opens).1 (mounts_seal plain landed found log may.valid has.seals).1 again
    (λ other bytes low is. (mounts_keep_object (expected_of uuid plain.geometry
    (length plain.chain)) plain landed found log other bytes may.valid
    has.opens has.may low is).1) in
    inr (record {
      valid = valid;
      stored = found_is_stored uuid log (epoch + 1) made (landed_to number landed) new valid volume may.stored.limits
          (subst (λ n. n < 2 ^ 63) (sym again.number) may.stored.low);
      volume = volume;
    })
