-- What a stop keeps at each moment of a step.
use Rattle.std.proofs.Common.{◌≡◌, ℕ, Bool, true, [], refl, sym, ◌∙◌, subst, inl, inr}
use Rattle.std.specs.Prelude.{Option, Some, None, OnSome, Result, Ok, Err}
use Rattle.lsvd_base.specs.declared.entry.Entry.{Entry}
use Rattle.lsvd_base.specs.declared.entry.Entry.TheVariants as entries
use Rattle.lsvd_base.specs.declared.geometry.Geometry.{Geometry}
use Rattle.lsvd_device.specs.Device.{IsDisk}
use Rattle.commit_slot.specs.Commits.{IsAsBefore}
use Rattle.cache_log.specs.declared.error.AppendError.{AppendError}
use Rattle.cache_log.specs.declared.error.AppendError.TheVariants.{NoRoom, DeviceFault}
use Rattle.cache_log.specs.Log.{LogState, HasSameEntries}
use Rattle.cache_log.specs.Committed.{IsOnDisk}
use Rattle.volume_maps.specs.Maps.{MapsState}
use Rattle.read_plan.specs.Look.{ReadsRange}
use Rattle.object_uploads.specs.Order.{IsUploads}
use Rattle.refine_objects.proofs.ShowLemmas.{shown_have_counts}
use Rattle.obj_log.specs.State.{ObjLogState}
use Rattle.obj_log.specs.Changes.{IsSame}
use Rattle.vol_core.specs.declared.reply.EntryRefusal.{EntryRefusal}
use Rattle.vol_core.specs.declared.reply.EntryRefusal.TheVariants as refusals
use Rattle.plain_disk.specs.State.{PlainState}
use Rattle.stopped_volume.specs.Device.{CacheOwner}
use Rattle.plain_disk.specs.declared.log.PlainCommit.{PlainCommit}
use Rattle.refine_log.specs.Stops.{HasCommitted, IsFoundOrNext, StopKeepsSince}
use Rattle.refine_log.specs.StopLaws.{ShowsStops}
use Rattle.refine_log.proofs.StopLemmas.{now_keeps}
use Rattle.refine_log.proofs.CommittedLemmas.{same_has_committed}
use Rattle.vol_core.specs.declared.reply.Reply.{Reply}
use Rattle.vol_core.specs.declared.reply.Reply.TheVariants as told
use Rattle.vol_core.specs.declared.event.Event.{Event}
use Rattle.vol_core.specs.Volume.{VolumeState}
use Rattle.vol_core.specs.Stops.{may_commit, MayBeLeftBy, HasOwnCommits, KeepsNow, StepKeeps}
use Rattle.vol_core.specs.Shows.{Shows}
use Rattle.vol_core.specs.Step.{HandsBack, HasItsBytes}
use Rattle.vol_core.specs.Calls.{CommitsFrom, ComesToLog, IsRefusedEntry, Enters, event_of}
use Rattle.vol_core.proofs.StepLemmas.{with_objects}
use Rattle.vol_core.proofs.FlushLemmas.{with_log}
use Rattle.vol_core.proofs.CommitStops.{commit_owns, enter_owns, kept_as, commit_keeps_stops, enter_keeps_stops}
use Rattle.vol_core.proofs.EnterSteps.{with_both, taken_for, reserved_shows}
use Rattle.vol_core.proofs.LoggedLemmas.{logged_alike}

-- what holds anyway holds where a value is told
on_some : {A : Type 0} (R : Type 0) (told : Option A) → R → OnSome told R
on_some R None is = tt
on_some R (Some x) is = is

-- ---- a volume that shows a plain one

-- what its log has of the plain volume
pub shows_stops : (owner : CacheOwner) (volume : VolumeState) (plain : PlainState) → IsOnDisk volume.log
    → HasOwnCommits owner volume
    → (shows : Shows volume plain) → ShowsStops owner shows.data_at volume.log plain
shows_stops owner volume plain on_disk own shows = record {
  valid = shows.valid;
  log_is = shows.log;
  logged = shows.logged;
  committed = subst (λ geometry. HasCommitted owner geometry volume.log) shows.objects.geometry own;
  on_disk = on_disk;
}

pub stands_now : (volume : VolumeState) → IsOnDisk volume.log → (owner : CacheOwner) → HasOwnCommits owner volume
    → KeepsNow owner volume
stands_now volume on_disk owner own plain shows =
    now_keeps owner shows.data_at volume.log plain (shows_stops owner volume plain on_disk own shows)

-- ---- nothing is written

-- a log whose device holds what it held
pub record IsStill (old new : LogState) : Type 0 where
  pub same : HasSameEntries old new
  pub commits : IsAsBefore old.commits new.commits
  pub moments : new.commits.disk.moments ≡ old.commits.disk.moments

pub still : (log : LogState) → IsStill log log
still log = record {
  same = record { entries = refl; rows = refl; all = refl; held = refl; room = refl; start = refl; first = refl };
  commits = record { same_number = refl; same_body = refl; same_unfinished = refl };
  moments = refl;
}

-- the list has the uuid, the ancestors and the geometry that it had
pub record IsOfSameVolume (old new : ObjLogState) : Type 0 where
  pub uuid : new.uploads.uuid ≡ old.uploads.uuid
  pub ancestors : new.uploads.ancestors ≡ old.uploads.ancestors
  pub geometry : new.batch.geometry ≡ old.batch.geometry

pub own_after : (owner : CacheOwner) (old new : VolumeState) → IsOfSameVolume old.objects new.objects
    → HasCommitted owner old.objects.batch.geometry new.log → HasOwnCommits owner new
own_after owner old new same own = subst (λ geometry. HasCommitted owner geometry new.log) (sym same.geometry) own

-- no moment comes after it
none_since : (owner : CacheOwner) (old new : LogState) (plain : PlainState) (P : PlainCommit → Type 0)
    → new.commits.disk.moments ≡ old.commits.disk.moments
    → StopKeepsSince owner old plain P new.commits.disk
none_since owner old new plain P moments = on_some _ old.all (record { since = []; moments = moments; each = tt })

pub still_keeps : {R : Type 0} (event : Event R) (old new : VolumeState) → IsOfSameVolume old.objects new.objects
    → IsStill old.log new.log
    → StepKeeps event old new
still_keeps event old new same is owner own = record {
  own =
      own_after owner old new same
      (same_has_committed owner old.objects.batch.geometry old.log new.log own is.same is.commits);
  since = λ plain shows. none_since owner old.log new.log plain (MayBeLeftBy event plain) is.moments;
}

-- the log of a look was read, or nothing was done
pub read_is_still : (lba sectors : ℕ) (maps : MapsState) (are_made : Bool) (old new : LogState)
    → ReadsRange lba sectors maps are_made old new
    → IsStill old new
read_is_still lba sectors maps are_made old new is =
    record { same = is.reads.same; commits = is.reads.commits; moments = is.reads.moments }

-- ---- only the objects change

pub objects_keep : {R : Type 0} (event : Event R) (old : VolumeState) (objects : ObjLogState)
    → IsOfSameVolume old.objects objects
    → StepKeeps event old (with_objects objects old)
objects_keep event old objects same = still_keeps event old (with_objects objects old) same (still old.log)

-- ---- a flush

-- an event that may make a commit may leave it
may_leave : {R : Type 0} (event : Event R) (plain : PlainState) → may_commit event ≡ true → (found : PlainCommit)
    → IsFoundOrNext plain found
    → MayBeLeftBy event plain found
may_leave event plain may found (inl is) = inl is
may_leave event plain may found (inr is) = inr (may, is)

pub flushing_keeps : {R : Type 0} (event : Event R) → may_commit event ≡ true
    → (old : VolumeState) (log : LogState) (is_made : Bool) (end : ℕ)
    → IsUploads old.objects.uploads
    → IsOnDisk old.log → end ≡ old.objects.uploads.queue.end → CommitsFrom end is_made old.log log
    → StepKeeps event old (with_log log old)
flushing_keeps event may old log is_made end uploads on_disk end_is commits owner own = record {
  own = commit_owns owner old.objects.batch.geometry end is_made old.log log own commits;
  since = λ plain shows.
      let counts = shown_have_counts shows.data_at old.objects plain uploads shows.valid shows.objects in
      kept_as owner old.log plain (IsFoundOrNext plain) (MayBeLeftBy event plain) log.commits.disk
      (may_leave event plain may)
      (commit_keeps_stops owner shows.data_at old.log plain (shows_stops owner old plain on_disk own shows) end
      (end_is ∙ counts.end) is_made log commits);
}

-- ---- an entry

-- memory for a record changes nothing of it
reserved_owns : (owner : CacheOwner) (geometry : Geometry) (log : LogState) (reserved : ℕ) → HasCommitted owner geometry log
    → HasCommitted owner geometry (taken_for log reserved)
reserved_owns owner geometry log reserved own = record { last = own.last; unfinished = own.unfinished; in_range = own.in_range }

reserved_stops : (owner : CacheOwner) (data_at : ℕ → ℕ) (log : LogState) (plain : PlainState) (reserved : ℕ)
    → ShowsStops owner data_at log plain
    → ShowsStops owner data_at (taken_for log reserved) plain
reserved_stops owner data_at log plain reserved is =
    let disk = is.on_disk in
    record {
      valid = is.valid;
      log_is = reserved_shows log reserved plain.cache.log is.log_is;
      logged = logged_alike data_at log (taken_for log reserved) plain refl refl refl is.logged;
      committed = reserved_owns owner plain.geometry log reserved is.committed;
      on_disk = record {
        commits = disk.commits;
        sectors = disk.sectors;
        used = disk.used;
        numbered = disk.numbered;
        held = disk.held;
        start = disk.start;
        ends = disk.ends;
        all = disk.all;
        entries = disk.entries;
        stands = disk.stands;
        holds = disk.holds;
      };
    }

reserved_is_still : (log : LogState) (reserved : ℕ) → IsStill log (taken_for log reserved)
reserved_is_still log reserved = record {
  same = record { entries = refl; rows = refl; all = refl; held = refl; room = refl; start = refl; first = refl };
  commits = record { same_number = refl; same_body = refl; same_unfinished = refl };
  moments = refl;
}

room_is_of_same : (old new : ObjLogState) → IsSame old new → IsOfSameVolume old new
room_is_of_same old new same = record {
  uuid = same.uploads.uuid;
  ancestors = same.uploads.ancestors;
  geometry = same.geometry;
}

unchanged_keeps : {R : Type 0} (event : Event R) (old : VolumeState) (objects : ObjLogState) (log : LogState)
    → objects ≡ old.objects → log ≡ old.log
    → StepKeeps event old (with_both objects log old)
unchanged_keeps event old objects log same_objects same_log =
    still_keeps event old (with_both objects log old)
    (subst (IsOfSameVolume old.objects) (sym same_objects) (record { uuid = refl; ancestors = refl; geometry = refl }))
    (subst (IsStill old.log) (sym same_log) (still old.log))

entry_may_commit : (R : Type 0) (entry : Entry) → may_commit (event_of {R = R} entry) ≡ true
entry_may_commit R (entries.Write lba body) = refl
entry_may_commit R (entries.Zero lba sectors) = refl

module _ {R : Type 0} (entry : Entry) (old : VolumeState)
    (uploads : IsUploads old.objects.uploads)
    (on_disk : IsOnDisk old.log) where
  abbrev event : Event R
  event = event_of entry

  -- it came to the log
  came_keeps : (result : Result ℕ AppendError) (ready objects : ObjLogState) (log : LogState) → IsDisk log.commits.disk
      → IsOfSameVolume old.objects objects
      → ComesToLog entry result old.objects ready old.log log → StepKeeps event old (with_both objects log old)
  came_keeps result ready objects log is_disk same comes owner own =
      let geometry : Geometry = old.objects.batch.geometry in
      let end : ℕ = old.objects.uploads.queue.end in
      let before : LogState = taken_for old.log comes.reserved in
      record {
        own =
            own_after owner old (with_both objects log old) same
            (enter_owns owner geometry entry end result before log comes.in_range
            (reserved_owns owner geometry old.log comes.reserved own) comes.log);
        since = λ plain shows.
            let counts = shown_have_counts shows.data_at old.objects plain uploads shows.valid shows.objects in
            kept_as owner old.log plain (IsFoundOrNext plain) (MayBeLeftBy event plain) log.commits.disk
            (may_leave event plain (entry_may_commit R entry))
            (enter_keeps_stops owner shows.data_at before plain
            (reserved_stops owner shows.data_at old.log plain comes.reserved (shows_stops owner old plain on_disk own shows)) end
            counts.end entry result log is_disk comes.log);
      }

  refused_keeps : (why : EntryRefusal) (objects : ObjLogState) (log : LogState) → IsDisk log.commits.disk
      → IsRefusedEntry entry why old.objects objects old.log log
      → StepKeeps event old (with_both objects log old)
  refused_keeps refusals.Range objects log is_disk is = unchanged_keeps event old objects log is.1 is.2
  refused_keeps (refusals.Full full) objects log is_disk is = unchanged_keeps event old objects log is.2 is.3
  refused_keeps (refusals.NoRoom needed free) objects log is_disk is =
      came_keeps (Err (NoRoom needed free)) objects objects log is_disk (room_is_of_same old.objects objects is.same) is
  refused_keeps refusals.Fault objects log is_disk is =
      came_keeps (Err DeviceFault) objects objects log is_disk (room_is_of_same old.objects objects is.same) is
  refused_keeps refusals.OutOfMemory objects log is_disk is =
      still_keeps event old (with_both objects log old) (room_is_of_same old.objects objects is.0)
      (subst (IsStill old.log) (sym is.1) (reserved_is_still old.log log.reserved))

  pub entering_keeps_stops : (reply : Reply R) (objects : ObjLogState) (log : LogState) → IsOnDisk log
      → Enters entry reply old.objects objects old.log log → StepKeeps event old (with_both objects log old)
  entering_keeps_stops (told.Entered count) objects log after enters =
      let same = enters.comes.same in
      came_keeps (Ok enters.at) enters.ready objects log after.commits.is_disk
      (record {
        uuid = enters.added.uuid ∙ same.uploads.uuid;
        ancestors = enters.added.ancestors ∙ same.uploads.ancestors;
        geometry = enters.added.geometry ∙ same.geometry;
      }) enters.comes
  entering_keeps_stops (told.NotEntered back why) objects log after enters =
      refused_keeps why objects log after.commits.is_disk enters.1
  entering_keeps_stops reply objects log after enters = absurd enters

-- ---- what an entry hands back

pub entering_hands_back : {R : Type 0} (entry : Entry) (reply : Reply R) (objects after : ObjLogState) (old new : LogState)
    → Enters entry reply objects after old new → HandsBack (event_of entry) reply × HasItsBytes (event_of entry) reply
entering_hands_back (entries.Write lba body) (told.Entered count) objects after old new enters = (tt, tt)
entering_hands_back (entries.Write lba body) (told.NotEntered back why) objects after old new enters = (enters.0, tt)
entering_hands_back (entries.Write lba body) reply objects after old new enters = absurd enters
entering_hands_back (entries.Zero lba sectors) (told.Entered count) objects after old new enters = (tt, tt)
entering_hands_back (entries.Zero lba sectors) (told.NotEntered back why) objects after old new enters = (enters.0, tt)
entering_hands_back (entries.Zero lba sectors) reply objects after old new enters = absurd enters
