-- A volume that was created or mounted stands with its store.
use Rattle.std.proofs.Common.{◌≡◌, ℕ, ◌+◌, ◌^◌, ◌<◌, ◌≤◌, ◌⊎◌, eqb, Option, Some, None, List, inl, inr, refl, sym, ◌∙◌}
use Rattle.std.proofs.Common.{subst, ap, arith, length}
use Rattle.lsvd_base.specs.declared.geometry.Geometry.{Geometry}
use Rattle.lsvd_names.specs.Spelling.{IsUuid}
use Rattle.lsvd_objstore.specs.Objects.{Objects, found}
use Rattle.lsvd_names.specs.Names.{super_name, epoch_name, numbered_name, hold_name}
use Rattle.object_format.specs.declared.expected.Expected.{Expected}
use Rattle.object_stream.specs.Landed.{Numbers}
use Rattle.object_stream.specs.Stream.{Owners}
use Rattle.object_uploads.specs.State.{UploadsState}
use Rattle.stopped_volume.specs.Expected.{expected_alone}
use Rattle.stopped_volume.specs.Objects.{IsWhole}
use Rattle.stopped_volume.specs.Opening.{IsCheckpointOf}
use Rattle.stopped_volume.specs.Store.{PutState, MayHoldPut}
use Rattle.stopped_volume.specs.Super.{HasVolume}
use Rattle.super_recovery.specs.Put.{PutsEpoch}
use Rattle.super_recovery.proofs.LawLemmas.{says_the_same, next_epoch_is_begun}
use Rattle.plain_disk.specs.State.{PlainState, stream_in, created_volume}
use Rattle.plain_disk.specs.Stops.{recovered_number, mounted_from, mounted_on}
use Rattle.plain_disk.specs.Found.{found_in}
use Rattle.plain_disk.specs.Removals.{absent_of}
use Rattle.plain_disk.specs.Valid.{IsKeptByHold, IsPlainVolume}
use Rattle.plain_disk.proofs.CheckpointLemmas.{any_tells, same_number}
use Rattle.plain_disk.proofs.MountLemmas.{held_is_found}
use Rattle.object_recovery.specs.Checkpoints.{expected_of}
use Rattle.object_recovery.specs.Removal.{Removes}
use Rattle.object_recovery.specs.Recovery.{IsPastOf, RemovesAllPast}
use Rattle.refine_log.specs.Fuses.{fuse_in}
use Rattle.refine_store.specs.Puts.{Inherits, MayBeLeft}
use Rattle.refine_store.specs.Stored.{StoreStands, HasVolumeUpTo, HasNonePast}
use Rattle.refine_store.proofs.HoldLemmas.{KeepsHolds, holds_stay}
use Rattle.refine_store.proofs.StandLemmas.{mounted_stands, stands_with_any_cache}
use Rattle.vol_core.specs.Shows.{Shows}
use Rattle.vol_core.specs.Step.{passing}
use Rattle.vol_core.specs.Volume.{VolumeState}
use Rattle.vol_mount.specs.Epochs.{BeginsEpoch}
use Rattle.vol_recover.specs.Creating.{HasNewVolume}
use Rattle.vol_recover.specs.Standing.{IsMadeWithStore, CreatedStands, MountedWithStands, MountedWithoutStands}
use Rattle.vol_recover.proofs.MadeLemmas.{with_cache_shows, without_shows}
use Rattle.vol_recover.proofs.NewLemmas.{epoch_is_no_object, hold_is_no_epoch}
use Rattle.clone_chain.specs.declared.ancestor.Ancestor.{Ancestor}
use Rattle.stopped_volume.specs.Ancestors.{KeepsOtherVolumes}
use Rattle.stopped_volume.proofs.InheritedLemmas.{inherited_is_kept}
use Rattle.lsvd_names.specs.declared.name.ObjName.{ObjName}

-- ---- a store that keeps the objects up to a number

-- a name that holds bytes still holds those that it held
still_held : (old new : Option (List ℕ)) (bytes : List ℕ) → (new ≡ old) ⊎ (new ≡ None) → new ≡ Some bytes → old ≡ Some bytes
still_held old new bytes (inl same) holds = sym same ∙ holds
still_held old new bytes (inr gone) holds = (let none : None ≡ Some bytes = sym gone ∙ holds in absurd (cc))

still_none : (old new : Option (List ℕ)) → (new ≡ old) ⊎ (new ≡ None) → old ≡ None → new ≡ None
still_none old new (inl same) none = same ∙ none
still_none old new (inr gone) none = gone

-- the objects up to a number and the holds stay, and each object past it stays or goes; no other volume changes
pub record KeepsUpTo (uuid : List ℕ) (number : ℕ) (old new : Objects) : Type 0 where
  pub same : (other : ℕ) → other ≤ number → found new (numbered_name uuid other) ≡ found old (numbered_name uuid other)
  pub later : (other : ℕ) → (found new (numbered_name uuid other) ≡ found old (numbered_name uuid other))
      ⊎ (found new (numbered_name uuid other) ≡ None)
  pub holds : (other : ℕ) → found new (hold_name uuid other) ≡ found old (hold_name uuid other)
  pub others : KeepsOtherVolumes uuid old new

-- what is inherited stays with it
still_inherits : (uuid : List ℕ) (plain : PlainState) (old new : Objects) → KeepsOtherVolumes uuid old new
    → Inherits uuid plain old → Inherits uuid plain new
still_inherits uuid plain old new others inherits =
    inherited_is_kept uuid plain.chain (stream_in plain).opening (stream_in plain).inherited plain.opening old new others inherits

module _ (uuid : List ℕ) (old new : Objects) (epoch next : ℕ) (plain : PlainState) (landed : Numbers)
    (valid : IsPlainVolume plain)
    (keeps : KeepsUpTo uuid (recovered_number landed plain) old new) (has : HasVolumeUpTo uuid epoch plain landed old)
    (described : HasVolume uuid plain.geometry plain.chain next new) where
  abbrev volume : Expected
  volume = expected_of uuid plain.geometry (length plain.chain)

  held_before : (other : ℕ) (bytes : List ℕ) → found new (numbered_name uuid other) ≡ Some bytes
      → found old (numbered_name uuid other) ≡ Some bytes
  held_before other bytes holds =
      still_held (found old (numbered_name uuid other)) (found new (numbered_name uuid other)) bytes (keeps.later other) holds

  checkpoint_before : (number end : ℕ) (owned : Owners) → IsCheckpointOf volume new number end owned
      → IsCheckpointOf volume old number end owned
  checkpoint_before number end owned is = record {
    bytes = is.bytes;
    present = held_before number is.bytes is.present;
    rows = is.rows;
    is_checkpoint = is.is_checkpoint;
    says = is.says;
  }

  -- the checkpoint of a hold is not past the number
  keeps_holds : KeepsHolds volume old new
  keeps_holds = record {
    names = keeps.holds;
    checkpoints = λ other held.
        (let number = recovered_number landed plain in
        let is = (has.holds.same other).1 (other, held, inl refl) in
        keeps.same other
        (any_tells (λ n. eqb n other) (IsKeptByHold number (absent_of landed plain.given_out)) (other ≤ number) plain.held is
        (held_is_found plain landed valid has.may)
        (λ n same kept. omega (arith, same_number n other same, kept.acknowledged))));
  }

  pub keeps_up_to : HasVolumeUpTo uuid next plain landed new
  keeps_up_to = record {
    described = described;
    opens = has.opens;
    inherits = still_inherits uuid plain old new keeps.others has.inherits;
    seals = has.seals;
    holds = holds_stay volume plain.held old new keeps_holds has.holds;
    may = has.may;
    there = λ other some most landed_there.
        (let there = has.there other some most landed_there in (there.0, keeps.same other most ∙ there.1, there.2));
    absent = λ other some most not_landed. keeps.same other most ∙ has.absent other some most not_landed;
    none_first = keeps.same 0 (omega arith) ∙ has.none_first;
    missing =
        (let other = recovered_number landed plain + 1 in
        still_none (found old (numbered_name uuid other)) (found new (numbered_name uuid other)) (keeps.later other)
        has.missing);
    past = λ other bytes past holds. has.past other bytes past (held_before other bytes holds);
    no_checkpoint = λ number end owned past is. has.no_checkpoint number end owned past (checkpoint_before number end owned is);
  }

-- ---- objects past a number are removed

module _ (uuid : List ℕ) (number : ℕ) (old new : Objects) (removes : Removes (IsPastOf uuid number) old new) where
  removal_keeps : KeepsUpTo uuid number old new
  removal_keeps = record {
    same = λ other low. removes.others (numbered_name uuid other) (λ past. absurd (omega (arith, past.1.1, low)));
    later = λ other. removes.removed (numbered_name uuid other);
    holds = λ other. removes.others (hold_name uuid other) (λ past. (let e = past.1.0 in cc));
    others = λ name apart. removes.others name (λ past. apart past.0);
  }

  pub removal_keeps_volume : (geometry : Geometry) (chain : List Ancestor) (epoch : ℕ) → HasVolume uuid geometry chain epoch old
      → HasVolume uuid geometry chain epoch new
  removal_keeps_volume geometry chain epoch has =
      (says_the_same uuid old new (record {
        of_super = removes.others (super_name uuid) (λ past. (let e = past.1.0 in cc));
        of_epochs = λ n. removes.others (epoch_name uuid n) (λ past. (let e = past.1.0 in cc));
        of_holds = λ n. removes.others (hold_name uuid n) (λ past. (let e = past.1.0 in cc));
      })).has geometry chain epoch has

pub removal_keeps_up_to : (uuid : List ℕ) (old new : Objects) (epoch : ℕ) (plain : PlainState) (landed : Numbers)
    → IsPlainVolume plain → Removes (IsPastOf uuid (recovered_number landed plain)) old new
    → HasVolumeUpTo uuid epoch plain landed old → HasVolumeUpTo uuid epoch plain landed new
removal_keeps_up_to uuid old new epoch plain landed valid removes has =
    let number = recovered_number landed plain in
    keeps_up_to uuid old new epoch epoch plain landed valid (removal_keeps uuid number old new removes) has
    (removal_keeps_volume uuid number old new removes plain.geometry plain.chain epoch has.described)

-- where all are, none is left: each was whole, so that a name may have its number
pub none_is_past : (uuid : List ℕ) (epoch : ℕ) (plain : PlainState) (landed : Numbers) (old new : Objects) → IsUuid uuid
    → HasVolumeUpTo uuid epoch plain landed old
    → RemovesAllPast uuid (recovered_number landed plain) old new → HasNonePast uuid (recovered_number landed plain) new
none_is_past uuid epoch plain landed old new is_uuid has removed other past =
    by_held (found old (numbered_name uuid other)) refl
  where
    by_held : (held : Option (List ℕ)) → found old (numbered_name uuid other) ≡ held → found new (numbered_name uuid other) ≡ None
    by_held None was =
        still_none (found old (numbered_name uuid other)) (found new (numbered_name uuid other))
        (removed.removes.removed (numbered_name uuid other)) was
    by_held (Some bytes) was =
        let whole : IsWhole (expected_alone (expected_of uuid plain.geometry
        (length plain.chain)) other) bytes = has.past other bytes past was in
        let head = whole.2.head in
        let fits : other < 2 ^ 64 = subst (λ n. n < 2 ^ 64) head.number head.widths.number in
        removed.gone (numbered_name uuid other) (record { uuid = is_uuid; number = tt; fits = fits }) (refl, (refl, past))

-- ---- the next epoch

module _ (uuid : List ℕ) (epoch : ℕ) (old new : Objects) (begun : PutsEpoch uuid (epoch + 1) old new) where
  same_object : (number : ℕ) → found new (numbered_name uuid number) ≡ found old (numbered_name uuid number)
  same_object number = begun.others (numbered_name uuid number) (epoch_is_no_object uuid number (epoch + 1))

  same_hold : (number : ℕ) → found new (hold_name uuid number) ≡ found old (hold_name uuid number)
  same_hold number = begun.others (hold_name uuid number) (hold_is_no_epoch uuid number (epoch + 1))

  same_others : KeepsOtherVolumes uuid old new
  same_others name apart = begun.others name (λ same. apart (ap (λ (n : ObjName). n.uuid) same))

  pub next_is_up_to : (plain : PlainState) (landed : Numbers) → IsPlainVolume plain → HasVolumeUpTo uuid epoch plain landed old
      → HasVolumeUpTo uuid (epoch + 1) plain landed new
  next_is_up_to plain landed valid has =
      keeps_up_to uuid old new epoch (epoch + 1) plain landed valid
      (record {
        same = λ other low. same_object other;
        later = λ other. inl (same_object other);
        holds = same_hold;
        others = same_others;
      }) has
      (next_epoch_is_begun uuid plain.geometry plain.chain epoch old new has.described begun)

  next_is_left : (plain : PlainState) (puts : ℕ → Option (PutState × List ℕ)) → MayBeLeft uuid epoch plain puts old
      → MayBeLeft uuid (epoch + 1) plain puts new
  next_is_left plain puts left = record {
    described = next_epoch_is_begun uuid plain.geometry plain.chain epoch old new left.described begun;
    opens = left.opens;
    inherits = still_inherits uuid plain old new same_others left.inherits;
    seals = left.seals;
    holds =
        holds_stay (expected_of uuid plain.geometry (length plain.chain)) plain.held old new
        (record { names = same_hold; checkpoints = λ other held. same_object other }) left.holds;
    held = record {
      puts_are = λ other state bytes is.
          subst (MayHoldPut state bytes) (sym (same_object other)) (left.held.puts_are other state bytes is);
      none_else = λ other is. same_object other ∙ left.held.none_else other is;
    };
  }

  next_stands : (plain : PlainState) (uploads : UploadsState) → StoreStands uuid epoch plain uploads old
      → StoreStands uuid (epoch + 1) plain uploads new
  next_stands plain uploads stands = record {
    puts = stands.puts;
    are = stands.are;
    left = next_is_left plain stands.puts stands.left;
    sealed = stands.sealed;
    out = stands.out;
  }

-- ---- creations and mounts

-- a volume shows a plain one, whatever calls its device passes
made_with_store : (uuid : List ℕ) (epoch : ℕ) (plain : PlainState) (volume : VolumeState) (objects : Objects)
    → Shows volume (passing (fuse_in volume.log.commits.disk.budget) plain)
    → StoreStands uuid epoch plain volume.objects.uploads objects
    → IsMadeWithStore uuid epoch plain volume objects
made_with_store uuid epoch plain volume objects shows stands = record {
  shows = shows;
  stands =
      stands_with_any_cache uuid epoch plain (record plain.cache { left = fuse_in volume.log.commits.disk.budget })
      volume.objects.uploads objects stands;
}

pub created_stands : CreatedStands
created_stands uuid geometry disk old new stepped created new_to =
    let has : HasNewVolume uuid geometry new = created.stands new_to in
    made_with_store uuid 0 (created_volume geometry) stepped.volume new created.volume.is.shows
    (has.2 stepped.volume.objects.uploads)

pub mounted_with_stands : MountedWithStands
mounted_with_stands owner plain found landed old new disk mounted is_uuid may mounts of_volume removed =
    let uuid : List ℕ = owner.uuid in
    let epoch : ℕ = owner.epoch in
    let number = recovered_number landed plain in
    let is = mounts (found_in landed plain) found number may.left in
    let all : RemovesAllPast uuid number old new = subst (λ n. RemovesAllPast uuid n old new) is.number_is removed in
    let has = removal_keeps_up_to uuid old new epoch plain landed may.valid all.removes may.volume in
    let none = none_is_past uuid epoch plain landed old new is_uuid may.volume all in
    made_with_store uuid epoch (mounted_from landed found plain) mounted.volume.volume new
    (with_cache_shows owner plain found landed old disk mounted may of_volume is)
    (mounted_stands uuid epoch plain landed found plain.geometry.log mounted.volume.volume.objects.uploads new
    may.valid has none).0

pub mounted_without_stands : MountedWithoutStands
mounted_without_stands uuid log epoch plain landed old new mounted is_uuid may mounts of_volume begins =
    let number = recovered_number landed plain in
    let is = mounts (found_in landed plain) number may.stored in
    let begun : BeginsEpoch uuid number (epoch + 1) old new =
    subst (λ n. BeginsEpoch uuid n (epoch + 1) old new) is.number_is begins in
    let (middle, all, next) = begun in
    let uploads : UploadsState = mounted.volume.volume.objects.uploads in
    let has = removal_keeps_up_to uuid old middle epoch plain landed may.valid all.removes may.volume in
    let none = none_is_past uuid epoch plain landed old middle is_uuid may.volume all in
    let stands =
    (mounted_stands uuid epoch plain landed plain.cache.log.last log uploads middle may.valid has none).1 in
    made_with_store uuid (epoch + 1) (mounted_on log landed plain) mounted.volume.volume new
    (without_shows uuid log epoch plain landed old mounted may of_volume is)
    (next_stands uuid epoch middle new next (mounted_on log landed plain) uploads stands)
