-- A volume that stands with its store, each of whose entries is in an object, is left whole where it is let go.
use Rattle.std.proofs.Common.{◌≡◌, ℕ, ◌-◌, ◌≤◌, List, [], ◌∷◌, length, take, drop, max, length-drop, sym, ◌∙◌, ap, subst}
use Rattle.std.proofs.Common.{arith}
use Rattle.std.proofs.lemmas.List.{take_all}
use Rattle.lsvd_device.specs.Device.{HoldsNow}
use Rattle.lsvd_device.specs.Medium.{Medium}
use Rattle.lsvd_objstore.specs.Objects.{Objects}
use Rattle.log_room.specs.Room.{Room}
use Rattle.object_stream.specs.Landed.{Numbers}
use Rattle.object_stream.specs.Stream.{end_at, last_number}
use Rattle.upload_window.specs.Window.{WindowState, below_lowest}
use Rattle.stopped_volume.specs.Device.{owner_with}
use Rattle.plain_disk.specs.declared.log.PlainCommit.{PlainCommit}
use Rattle.plain_disk.specs.State.{PlainState, stream_in, history_length, frontier_of, frontier_end}
use Rattle.plain_disk.specs.Stops.{recovered_end}
use Rattle.plain_disk.specs.Valid.{IsPlainVolume, MayLand, StopKeepsAcknowledged}
use Rattle.plain_disk.proofs.EndLemmas.{ends_from}
use Rattle.refine_log.specs.Stops.{IsFoundCommit}
use Rattle.refine_store.specs.Laws.{LeftHasVolume}
use Rattle.vol_core.specs.Stops.{HasOwnCommits}
use Rattle.vol_core.specs.Volume.{VolumeState, SteppedVolume}
use Rattle.vol_recover.specs.Standing.{StandsWithStore, StopMayMount, StopLeavesStore, StopLeavesBoth}
use Rattle.volume_owner.specs.Calls.{IsDrained}
use Rattle.volume_commands.specs.Closing.{IsLetGo}
use Rattle.volume_commands.specs.Lasting.{landed_of, ComesBackWith, IsLeftWhole}

-- ---- in the objects

-- each entry of a volume that was drained is in an object that a mount finds
module _ (kept : StopKeepsAcknowledged) (left_has : LeftHasVolume) (uuid : List ℕ) (epoch : ℕ) (plain : PlainState)
    (volume : VolumeState) (objects : Objects) (with_store : StandsWithStore uuid epoch plain volume objects)
    (drained : IsDrained volume) where
  abbrev landed : Numbers
  landed = landed_of uuid plain objects

  valid : IsPlainVolume plain
  valid = with_store.shows.valid

  may_land : MayLand plain landed
  may_land =
      let stands = with_store.stands in (left_has uuid epoch plain stands.puts objects valid stands.are stands.left).may

  -- none is on its way
  all_acknowledged : frontier_of plain ≡ last_number (stream_in plain)
  all_acknowledged =
      let none = sym (ap (λ (w : WindowState). w.objects) with_store.shows.objects.window) ∙ drained.on_way in
      ap (λ os. below_lowest os plain.window.last) none ∙ valid.last

  none_unsealed : drop (end_at (stream_in plain) (last_number (stream_in plain)) - plain.end) plain.entries ≡ []
  none_unsealed = sym with_store.shows.objects.stream.entries ∙ drained.unsealed

  pub drained_in_objects : history_length plain ≤ recovered_end landed plain
  drained_in_objects =
      let last : ℕ = end_at (stream_in plain) (last_number (stream_in plain)) in
      let none : length (drop (last - plain.end) plain.entries) ≡ 0 = ap (λ es. length es) none_unsealed in
      let long = length-drop (last - plain.end) plain.entries in
      let from = ends_from plain (last_number (stream_in plain)) valid in
      let reach : frontier_end plain ≤ recovered_end landed plain = (kept plain landed [] valid may_land).1 in
      let all : last ≤ recovered_end landed plain =
      subst (λ n. end_at (stream_in plain) n ≤ recovered_end landed plain) all_acknowledged reach in
      omega (arith, none, long, from, all)

-- ---- whole

now_as : (P Q : Medium → Type 0) (moments : List Medium) → ((medium : Medium) → P medium → Q medium) → HoldsNow P moments
    → HoldsNow Q moments
now_as P Q [] follows holds = tt
now_as P Q (now ∷ past) follows holds = follows now holds

module _ (leaves_store : StopLeavesStore) (leaves_both : StopLeavesBoth) (stepped : SteppedVolume) (epoch : ℕ)
    (plain : PlainState) (objects : Objects) (let_go : IsLetGo stepped)
    (own : HasOwnCommits (owner_with stepped.volume.objects.uploads.uuid epoch) stepped.volume)
    (with_store : StandsWithStore stepped.volume.objects.uploads.uuid epoch plain stepped.volume objects)
    (in_objects : history_length plain ≤ recovered_end (landed_of stepped.volume.objects.uploads.uuid plain objects) plain)
  where
    abbrev uuid : List ℕ
    uuid = stepped.volume.objects.uploads.uuid

    abbrev landed_now : Numbers
    landed_now = landed_of uuid plain objects

    whole_at : (count : ℕ) → history_length plain ≤ count → take (count - plain.end) plain.entries ≡ plain.entries
    whole_at count enough = take_all (count - plain.end) plain.entries (omega (arith, enough))

    comes_back : (found : PlainCommit) → ComesBackWith uuid plain objects found
    comes_back found = whole_at (max (recovered_end landed_now plain) found.head.seq) (omega (arith, in_objects))

    pub is_left_whole : IsLeftWhole (owner_with uuid epoch) plain objects stepped.volume.log.commits.disk
    is_left_whole =
        let IsFound : PlainCommit → Type 0 = λ found. IsFoundCommit found plain.cache.log in
        record {
          log_is = sym with_store.shows.valid.size ∙ ap (λ (r : Room). r.log) with_store.shows.log.room ∙ let_go.log;
          without = λ log limits. (
            leaves_store stepped epoch plain objects log let_go.is_volume with_store limits,
            whole_at (recovered_end landed_now plain) in_objects,
          );
          with_cache =
              now_as (StopMayMount (owner_with uuid epoch) plain IsFound objects)
              (StopMayMount (owner_with uuid epoch) plain (ComesBackWith uuid plain objects) objects)
              stepped.volume.log.commits.disk.moments
              (λ medium may disk is_left.
              let mount = may disk is_left in (mount.0, comes_back mount.0, mount.2))
              (leaves_both stepped epoch plain objects let_go.is_volume (let_go.keeps (owner_with uuid epoch) own) with_store);
        }
