use Rattle.std.proofs.Common.{◌≡◌, ℕ, Option, refl, sym, subst}
use Rattle.lsvd_device.specs.Device.{DiskState}
use Rattle.commit_slot.specs.Commits.{with_budget}
use Rattle.cache_log.specs.Log.{LogState}
use Rattle.gc_copier.specs.Plan.{PlanState}
use Rattle.obj_log.specs.State.{ObjLogState}
use Rattle.plain_disk.specs.State.{PlainState}
use Rattle.refine_log.specs.Fuses.{fuse_in}
use Rattle.refine_objects.proofs.ShowLemmas.{shown_with_other_cache}
use Rattle.refine_objects.proofs.TableLemmas.{table_shown_with_other_cache}
use Rattle.refine_objects.proofs.PlanCalls.{others_keep_plan}
use Rattle.vol_core.specs.Volume.{VolumeState, volume_with, with_budget_of}
use Rattle.vol_core.specs.Shows.{Shows, IsSmall}
use Rattle.vol_core.specs.Step.{passing}
use Rattle.vol_core.proofs.StepLemmas.{passing_keeps}

-- on a device that passes other calls a volume shows what it showed, but for these
pub shows_passing : (disk : DiskState) (volume : VolumeState) (plain : PlainState) → Shows volume plain
    → Shows (with_budget_of disk volume) (passing (fuse_in disk.budget) plain)
shows_passing disk volume plain shows = record {
  valid = passing_keeps (fuse_in disk.budget) plain shows.valid;
  data_at = shows.data_at;
  objects = shown_with_other_cache shows.data_at volume.objects plain _ plain.pins shows.objects;
  table = table_shown_with_other_cache volume.objects.uploads.queue plain _ shows.table;
  plan =
      others_keep_plan volume.objects.uploads.queue volume.plan plain (passing (fuse_in disk.budget) plain) refl refl
      shows.table shows.plan;
  log = record {
    room = shows.log.room;
    last = shows.log.last;
    unfinished = shows.log.unfinished;
    records = shows.log.records;
    is_room = shows.log.is_room;
    from = shows.log.from;
    follow = shows.log.follow;
    end = shows.log.end;
    numbered = shows.log.numbered;
    counted = shows.log.counted;
    start = shows.log.start;
    order = shows.log.order;
    stands = shows.log.stands;
  };
  logged = record {
    first = shows.logged.first;
    rows = shows.logged.rows;
    entries = shows.logged.entries;
    placed = shows.logged.placed;
  };
  fuse = refl;
}

-- the same of a log that was lent
pub shows_lent : (objects : ObjLogState) (out : Option PlanState) (log new : LogState) (plain : PlainState)
    → new ≡ record log { commits = with_budget new.commits.disk.budget log.commits }
    → Shows (volume_with objects log out) plain
    → Shows (volume_with objects new out) (passing (fuse_in new.commits.disk.budget) plain)
shows_lent objects out log new plain is shows =
    subst (λ l. Shows (volume_with objects l out) (passing (fuse_in new.commits.disk.budget) plain)) (sym is)
    (shows_passing new.commits.disk (volume_with objects log out) plain shows)

pub small_lent : (objects : ObjLogState) (out : Option PlanState) (log new : LogState) (steps : ℕ)
    → new ≡ record log { commits = with_budget new.commits.disk.budget log.commits }
    → IsSmall (volume_with objects log out) steps
    → IsSmall (volume_with objects new out) steps
small_lent objects out log new steps is small =
    subst (λ l. IsSmall (volume_with objects l out) steps) (sym is)
    (record { entries = small.entries; objects = small.objects; commits = small.commits; pins = small.pins })
