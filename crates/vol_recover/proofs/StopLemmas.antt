-- What a stop leaves of a volume that stands with its store may be mounted.
use Rattle.std.proofs.Common.{◌≡◌, ℕ, ◌^◌, ◌<◌, ◌≤◌, Option, Some, None, OnSome, List, [], ◌∷◌, inl, inr, refl, sym, ap}
use Rattle.std.proofs.Common.{subst, arith}
use Rattle.std.specs.Prelude.{IsTrue, IfSome, length}
use Rattle.lsvd_base.specs.Limits.{is_within_limits}
use Rattle.lsvd_device.specs.Device.{HoldsNow, HoldsSince}
use Rattle.lsvd_device.specs.Medium.{Medium, MayLeave}
use Rattle.lsvd_device.specs.Stop.{HasNow}
use Rattle.lsvd_objstore.specs.Objects.{Objects}
use Rattle.lsvd_objstore.specs.Store.{ReceiptState}
use Rattle.object_stream.specs.Landed.{Numbers}
use Rattle.commit_slot.proofs.Passing.{passes_as}
use Rattle.upload_window.specs.Window.{WindowState}
use Rattle.stopped_volume.specs.Device.{CacheOwner, owner_with}
use Rattle.stopped_volume.specs.Objects.{landed_in}
use Rattle.plain_disk.specs.declared.log.PlainCommit.{PlainCommit}
use Rattle.plain_disk.specs.Log.{PlainLog, commit_from}
use Rattle.plain_disk.specs.State.{PlainState, history_length, frontier_end}
use Rattle.plain_disk.specs.Found.{Finds, found_in}
use Rattle.plain_disk.specs.Stops.{recovered_number, recovered_end}
use Rattle.plain_disk.specs.Valid.{IsLaterCommit, IsPlainLog, IsPlainVolume}
use Rattle.plain_disk.proofs.EndLemmas.{frontier_ends}
use Rattle.plain_disk.proofs.FoundLemmas.{found_is, found_has_counts, commits_are_later}
use Rattle.plain_disk.proofs.StopLemmas.{recovers_end}
use Rattle.object_recovery.specs.Checkpoints.{expected_of}
use Rattle.refine_log.specs.Stops.{IsFoundCommit, HasCommit, StopKeeps}
use Rattle.refine_mount.specs.Mounted.{end_of_object, sizes_with}
use Rattle.refine_mount.proofs.AsFoundLemmas.{found_has_commit}
use Rattle.refine_store.specs.Stored.{HasVolumeUpTo}
use Rattle.refine_store.proofs.LeftLemmas.{left_has_volume}
use Rattle.refine_store.proofs.VolumeLemmas.{volume_has_objects}
use Rattle.vol_core.specs.declared.event.Event.{Event}
use Rattle.vol_core.specs.Shows.{IsVolume}
use Rattle.vol_core.specs.Stops.{MayBeLeftBy}
use Rattle.vol_core.specs.Volume.{SteppedVolume}
use Rattle.vol_mount.specs.Mounting.{IsStored}
use Rattle.vol_recover.specs.Standing.{StandsWithStore, MayMountWithout, StopMayMount, StopLeavesStore, StopLeavesBoth}
use Rattle.vol_recover.specs.Standing.{StepLeavesBoth}
use Rattle.vol_recover.proofs.MadeLemmas.{finds_of}

-- ---- what a mount finds

-- a store that has a plain volume up to a number has what a mount finds of it
pub found_is_stored : (uuid : List ℕ) (log epoch : ℕ) (plain : PlainState) (landed : Numbers) (objects : Objects)
    → IsPlainVolume plain → HasVolumeUpTo uuid epoch plain landed objects
    → IsTrue (is_within_limits (sizes_with log plain.geometry)) → recovered_number landed plain < 2 ^ 63
    → IsStored uuid (sizes_with log plain.geometry) plain.chain (found_in landed plain) (recovered_number landed plain)
    (Some objects)
found_is_stored uuid log epoch plain landed objects valid has limits low = record {
  valid = found_is plain landed (finds_of uuid epoch plain landed objects valid has);
  sizes = refl;
  chain_is = refl;
  limits = limits;
  objects_are = volume_has_objects uuid epoch plain landed objects valid has;
  low = low;
}

-- ---- which commit is found

-- a commit of all entries comes after the last
next_is_later : (end count : ℕ) (log : PlainLog) → end ≤ count → IsPlainLog end count log
    → IsLaterCommit log.size end count log.last (commit_from end log)
next_is_later end count log inside is =
    let counted = is.counted in
    let head = is.last.head in
    record {
      within = record { order = omega arith; tail = omega arith; head = omega arith; place = is.room.head };
      tail = is.last.tail;
      head = omega arith;
    }

-- so does each commit that a stop may leave
abbrev IsLaterOf : PlainState → PlainCommit → Type 0
IsLaterOf plain found = IsLaterCommit plain.cache.log.size (frontier_end plain) (history_length plain) plain.cache.log.last found

found_is_later : (plain : PlainState) (found : PlainCommit) → IsPlainVolume plain → IsFoundCommit found plain.cache.log
    → IsLaterOf plain found
found_is_later plain found valid (inl last) =
    subst (IsLaterOf plain) (sym last)
    (commits_are_later (frontier_end plain) (history_length plain) plain.cache.log valid.log).0
found_is_later plain found valid (inr unfinished) =
    subst (λ (commit : Option PlainCommit). IfSome commit (IsLaterOf plain)) (sym unfinished)
    (commits_are_later (frontier_end plain) (history_length plain) plain.cache.log valid.log).1

left_is_later : {R : Type 0} (event : Event R) (plain : PlainState) (found : PlainCommit) → IsPlainVolume plain
    → MayBeLeftBy event plain found → IsLaterOf plain found
left_is_later event plain found valid (inl there) = found_is_later plain found valid there
left_is_later event plain found valid (inr (may, next)) =
    subst (IsLaterOf plain) (sym next)
    (next_is_later (frontier_end plain) (history_length plain) plain.cache.log (frontier_ends plain valid) valid.log)

-- ---- stops

module _ (stepped : SteppedVolume) (epoch : ℕ) (plain : PlainState) (objects : Objects) (is : IsVolume stepped)
    (with_store : StandsWithStore stepped.volume.objects.uploads.uuid epoch plain stepped.volume objects) where
  abbrev uuid : List ℕ
  uuid = stepped.volume.objects.uploads.uuid

  abbrev owner : CacheOwner
  owner = owner_with stepped.volume.objects.uploads.uuid epoch

  abbrev landed : Numbers
  landed = landed_in objects (expected_of uuid plain.geometry (length plain.chain))

  abbrev number : ℕ
  number = recovered_number landed plain

  valid : IsPlainVolume plain
  valid = with_store.shows.valid

  up_to : HasVolumeUpTo uuid epoch plain landed objects
  up_to =
      let stands = with_store.stands in left_has_volume uuid epoch plain stands.puts objects valid stands.are stands.left

  finds : Finds landed plain
  finds = finds_of uuid epoch plain landed objects valid up_to

  -- the numbers of a volume are bounded by its steps
  low : number < 2 ^ 63
  low =
      let last : stepped.volume.objects.uploads.window.last ≡ plain.window.last =
      ap (λ (w : WindowState). w.last) with_store.shows.objects.window in
      omega (arith, (found_has_counts plain landed finds).sealed, last, is.small.objects, is.steps)

  pub may_mount_without : (log : ℕ) → IsTrue (is_within_limits (sizes_with log plain.geometry))
      → MayMountWithout uuid log epoch plain landed objects
  may_mount_without log limits = record {
    valid = valid;
    stored = found_is_stored uuid log epoch plain landed objects valid up_to limits low;
    volume = up_to;
  }

  -- what bytes read as of the volume they read as of what a mount finds, where its objects end
  found_reads : (found : PlainCommit) (left : List ℕ)
      → ((count : ℕ) → frontier_end plain ≤ count → HasCommit owner plain found count left)
      → HasCommit owner (found_in landed plain) found (end_of_object number (found_in landed plain)) left
  found_reads found left reads =
      let ends = recovered_end landed plain in
      subst (λ count. HasCommit owner (found_in landed plain) found count left)
      (sym (found_has_counts plain landed finds).end)
      (found_has_commit owner plain landed found ends left valid up_to.may finds.opened (omega arith)
      (reads ends (recovers_end plain landed valid up_to.may)))

  module _ (P : PlainCommit → Type 0) (later : (found : PlainCommit) → P found → IsLaterOf plain found) (medium : Medium)
      (keeps : StopKeeps owner plain P medium) where
    found_now : (moments : List Medium) → HasNow (λ now. MayLeave medium now.bytes) moments
        → (found : PlainCommit) × P found
        × HasNow (λ now. HasCommit owner (found_in landed plain) found (end_of_object number (found_in landed plain)) now.bytes)
        moments
    found_now [] may = absurd may
    found_now (now ∷ past) may =
        (let commit = keeps now.bytes may in (commit.0, commit.1, found_reads commit.0 now.bytes commit.2))

    pub stop_may_mount : StopMayMount owner plain P objects medium
    stop_may_mount = λ disk may.
        let commit = found_now disk.moments may in (
          commit.0,
          commit.1,
          record {
            valid = valid;
            commit = (later commit.0 commit.1).within;
            later = (later commit.0 commit.1).tail;
            left = record {
              stored = found_is_stored uuid plain.geometry.log epoch plain landed objects valid up_to valid.limits low;
              log_is = refl;
              device = commit.2;
            };
            volume = up_to;
          },
        )

pub stop_leaves_store : StopLeavesStore
stop_leaves_store stepped epoch plain objects log is with_store limits =
    may_mount_without stepped epoch plain objects is with_store log limits

now_as : (P Q : Medium → Type 0) (moments : List Medium) → ((medium : Medium) → P medium → Q medium) → HoldsNow P moments
    → HoldsNow Q moments
now_as P Q [] follows holds = tt
now_as P Q (now ∷ past) follows holds = follows now holds

pub stop_leaves_both : StopLeavesBoth
stop_leaves_both stepped epoch plain objects is keeps with_store =
    let P : PlainCommit → Type 0 = λ found. IsFoundCommit found plain.cache.log in
    now_as (StopKeeps (owner_with stepped.volume.objects.uploads.uuid epoch) plain P)
    (StopMayMount (owner_with stepped.volume.objects.uploads.uuid epoch) plain P objects) stepped.volume.log.commits.disk.moments
    (stop_may_mount stepped epoch plain objects is with_store P
    (λ found there. found_is_later plain found with_store.shows.valid there)) (keeps plain with_store.shows)

-- what follows from one fact, where a value is told
as_told : {A : Type 0} (P Q : Type 0) (told : Option A) → (P → Q) → OnSome told P → OnSome told Q
as_told P Q None follows is = tt
as_told P Q (Some x) follows is = follows is

pub step_leaves_both : {R : Type 0} (state : R → ReceiptState) → StepLeavesBoth state
step_leaves_both state event reply old new epoch plain objects is own step with_store =
    let P : PlainCommit → Type 0 = MayBeLeftBy event plain in
    let Keeps : Medium → Type 0 = StopKeeps (owner_with old.volume.objects.uploads.uuid epoch) plain P in
    let May : Medium → Type 0 = StopMayMount (owner_with old.volume.objects.uploads.uuid epoch) plain P objects in
    let before = old.volume.log.commits.disk.moments in
    let after = new.volume.log.commits.disk.moments in
    as_told (HoldsSince Keeps before after) (HoldsSince May before after) old.volume.log.all
    (passes_as Keeps May before after (stop_may_mount old epoch plain objects is with_store P
    (λ found there. left_is_later event plain found with_store.shows.valid there)))
    ((step.step.stops (owner_with old.volume.objects.uploads.uuid epoch) own).since plain with_store.shows)
