-- Whatever a stop leaves of the device and of the store of a rig has its plain volume.
use Rattle.std.proofs.Common.{◌≡◌, ℕ, ◌≤◌, List, [], ◌∷◌, subst, arith}
use Rattle.lsvd_base.specs.declared.geometry.Geometry.{Geometry}
use Rattle.lsvd_device.specs.Device.{HoldsNow}
use Rattle.lsvd_device.specs.Medium.{Medium, MayLeave}
use Rattle.lsvd_objstore.specs.Objects.{Objects}
use Rattle.cache_log.specs.Committed.{IsOnDisk}
use Rattle.object_stream.specs.Landed.{Numbers}
use Rattle.stopped_volume.specs.Objects.{landed_in}
use Rattle.stopped_volume.specs.Device.{CacheOwner}
use Rattle.plain_disk.specs.declared.log.PlainCommit.{PlainCommit}
use Rattle.plain_disk.specs.State.{PlainState, stream_in, history_length, frontier_of, frontier_end}
use Rattle.plain_disk.specs.Stops.{recovered_number}
use Rattle.plain_disk.specs.Found.{Finds, HasFoundCounts, found_in}
use Rattle.plain_disk.specs.Valid.{IsPlainVolume}
use Rattle.plain_disk.proofs.FoundLemmas.{found_has_counts}
use Rattle.plain_disk.proofs.EndLemmas.{ends_grow, ends_within}
use Rattle.plain_disk.proofs.StopLemmas.{recovers_frontier}
use Rattle.refine_log.specs.Stops.{HasCommitted, IsFoundCommit, HasCommit, StopKeeps}
use Rattle.refine_log.specs.StopLaws.{ShowsStops}
use Rattle.refine_log.proofs.StopLemmas.{now_keeps}
use Rattle.refine_mount.specs.Found.{HasObjects}
use Rattle.refine_mount.specs.Mounted.{end_of_object}
use Rattle.refine_store.specs.Stored.{HasVolumeUpTo}
use Rattle.refine_store.proofs.LeftLemmas.{left_has_volume}
use Rattle.refine_store.proofs.VolumeLemmas.{volume_has_objects}
use Rattle.vol_recover.proofs.MadeLemmas.{finds_of}
use Rattle.vol_core.specs.Volume.{VolumeState}
use Rattle.replay_rig.specs.Rig.{RigState, script_uuid, owner_at, expected_of_plain, ShowsPlain, Lands, IsKeptByRig}
use Rattle.replay_rig.proofs.Crashing.{puts_now, are_puts, may_be_left}

-- ---- stops of the device

-- what the log of a rig has of its plain volume, for stops
pub rig_stops : (rig : RigState) (plain : PlainState) (h : ShowsPlain rig plain) → IsOnDisk rig.volume.volume.log
    → ShowsStops (owner_at h.epoch) h.shows.data_at rig.volume.volume.log plain
rig_stops rig plain h on_disk =
    let volume : VolumeState = rig.volume.volume in
    record {
      valid = h.shows.valid;
      log_is = h.shows.log;
      logged = h.shows.logged;
      committed = subst (λ (g : Geometry). HasCommitted (owner_at h.epoch) g volume.log) h.shows.objects.geometry h.own;
      on_disk = on_disk;
    }

-- an object from the frontier on ends from the frontier's end on, and within the entries
pub ends_past : (plain : PlainState) (number : ℕ) → IsPlainVolume plain → frontier_of plain ≤ number → number ≤ plain.window.last
    → (frontier_end plain ≤ end_of_object number plain) × (end_of_object number plain ≤ history_length plain)
ends_past plain number valid from to =
    let last = valid.last in (
      ends_grow (stream_in plain) (frontier_of plain) number valid.stream.ends from,
      ends_within plain number valid (omega (arith, to, last)),
    )

-- ---- stops of the store

-- which objects have landed, and the number that a mount recovers
abbrev pub landed_left : Objects → PlainState → Numbers
landed_left new plain = landed_in new (expected_of_plain plain)

abbrev pub number_left : Objects → PlainState → ℕ
number_left new plain = recovered_number (landed_left new plain) plain

module _ (rig : RigState) (plain : PlainState) (letters : List ℕ) (new : Objects) (h : ShowsPlain rig plain)
    (lands : Lands rig.puts letters rig.objects new) where
  pub up_to : HasVolumeUpTo script_uuid h.epoch plain (landed_left new plain) new
  up_to =
      left_has_volume script_uuid h.epoch plain (puts_now plain rig.puts new) new h.shows.valid
      (are_puts rig plain letters new h lands) (may_be_left rig plain letters new h lands)

  pub finds : Finds (landed_left new plain) plain
  finds = finds_of script_uuid h.epoch plain (landed_left new plain) new h.shows.valid up_to

  pub counts : HasFoundCounts (landed_left new plain) plain
  counts = found_has_counts plain (landed_left new plain) finds

  pub has_left : HasObjects script_uuid (found_in (landed_left new plain) plain) (number_left new plain) new
  has_left = volume_has_objects script_uuid h.epoch plain (landed_left new plain) new h.shows.valid up_to

  pub left_from : frontier_of plain ≤ number_left new plain
  left_from = recovers_frontier plain (landed_left new plain) h.shows.valid up_to.may

-- ---- the whole

now_as : (P Q : Medium → Type 0) (moments : List Medium) → ((medium : Medium) → P medium → Q medium) → HoldsNow P moments
    → HoldsNow Q moments
now_as P Q [] follows holds = tt
now_as P Q (now ∷ past) follows holds = follows now holds

pub kept_by_rig : (rig : RigState) (plain : PlainState) → (h : ShowsPlain rig plain) → IsOnDisk rig.volume.volume.log
    → IsKeptByRig (owner_at h.epoch) rig plain
kept_by_rig rig plain h on_disk =
    let valid = h.shows.valid in
    let owner : CacheOwner = owner_at h.epoch in
    record {
      device =
          now_as (StopKeeps owner plain (λ found. IsFoundCommit found plain.cache.log))
          (λ now. (left : List ℕ) → MayLeave now left
          → (found : PlainCommit) × IsFoundCommit found plain.cache.log
          × ((number : ℕ) → frontier_of plain ≤ number → number ≤ plain.window.last
          → HasCommit owner plain found (end_of_object number plain) left))
          rig.volume.volume.log.commits.disk.moments
          (λ now keeps left may.
          let is = keeps left may in
          (is.0, is.1, λ number from to. is.2 (end_of_object number plain) (ends_past plain number valid from to).0))
          (now_keeps owner h.shows.data_at rig.volume.volume.log plain (rig_stops rig plain h on_disk));
      store = λ letters objects lands. (
        has_left rig plain letters objects h lands,
        left_from rig plain letters objects h lands,
        (counts rig plain letters objects h lands).sealed,
      );
    }

-- and so of the same rig
pub kept_as : (rig seen : RigState) (plain : PlainState) → rig ≡ seen → (h : ShowsPlain seen plain)
    → IsOnDisk rig.volume.volume.log
    → IsKeptByRig (owner_at h.epoch) seen plain
kept_as rig seen plain same h on_disk =
    kept_by_rig seen plain h (subst (λ (r : RigState). IsOnDisk r.volume.volume.log) same on_disk)
