use Rattle.std.proofs.Common.{◌≡◌, true, false, Err, ◌∙◌, sym, subst, inl, inr}
use Rattle.lsvd_fault.specs.Faults.{Counts}
use Rattle.object_recovery.proofs.RemovalLemmas.{becomes_so}
use Rattle.vol_core.specs.Creating.{CostsFormat}
use Rattle.vol_recover.specs.declared.creating.CreateError.TheVariants.{Exists, DeviceFault}
use Rattle.vol_recover.specs.Creating.{PutsEpochToo, PutsNoSuper, PutsSome, PutsVolume, IsOfStore, CreationOf, is_put_fault}
use Rattle.vol_recover.proofs.CreateLemmas.{some_put, all_put, becomes_may_put}
use Rattle.vol_recover.proofs.CreationLemmas.{absent_stays, not_formatted, formatted_then, created_of_list}
use Rattle.vol_recover.proofs.NewLemmas.{stands_new, stands_none_or_new}
use Rattle.vol_recover.proofs.creating.create.Goals as goal

-- ---- not all was put before the super object

pub returns-in-Err : goal.returns-in-Err
returns-in-Err g c =
    let uuid = c.args.uuid in
    let geometry = c.args.geometry in
    let old = g.S.Store.state c.args.store.now in
    let new = g.S.Store.state c.prepare.new.store in
    let ended = c.in-Err.ensures in
    let failed = ended.none in
    record {
      made = tt;
      none = record {
        exists = failed.exists;
        puts = failed.puts;
        calls = not_formatted uuid c.in-Err.error (g.D.Disk.state c.args.disk) failed.no_device;
        is_disk = c.requires.is_disk;
      };
      untouched = ended.untouched;
      moments =
          stands_none_or_new uuid geometry old.objects new.objects c.requires.limits
          (becomes_so (PutsNoSuper uuid geometry) (PutsSome uuid geometry) old.objects new.objects (λ a b so. inl so)
          failed.no_super);
      faults = ended.faults;
    }

-- ---- the cache was not made

pub returns-in-Err-create_cache : goal.returns-in-Err-create_cache
returns-in-Err-create_cache g c =
    let uuid = c.args.uuid in
    let geometry = c.args.geometry in
    let old = g.S.Store.state c.args.store.now in
    let new = g.S.Store.state c.prepare.new.store in
    let disk = g.D.Disk.state c.args.disk in
    let prepared = c.in-Ok.ensures in
    let list = c.in-Ok.objects in
    let is_new = prepared.made.is_new in
    let failed = c.in-Err-create_cache.ensures.failed in
    subst (λ error. CreationOf g.D.Disk.state uuid geometry disk old new (Err (c.in-Err-create_cache.disk, error)))
    (sym c.into.ensures)
    (record {
      made = tt;
      none = record {
        exists = λ (is : DeviceFault ≡ Exists). (let none : ⊥ = cc in absurd none);
        puts = prepared.made.puts;
        calls = subst (λ u. CostsFormat u false disk (g.D.Disk.state c.in-Err-create_cache.disk)) is_new.uuid_is failed.calls;
        is_disk = failed.is_disk;
      };
      untouched = prepared.untouched;
      moments =
          stands_none_or_new uuid geometry old.objects new.objects c.requires.limits
          (becomes_so (PutsEpochToo uuid geometry) (PutsSome uuid geometry) old.objects new.objects
          (λ a b so. inl (inr (inr so))) prepared.made.puts);
      faults = prepared.faults;
    })

-- ---- the whole volume was put

pub returns-in-Ok-complete : goal.returns-in-Ok-complete
returns-in-Ok-complete g c =
    let uuid = c.args.uuid in
    let geometry = c.args.geometry in
    let old = g.S.Store.state c.args.store.now in
    let middle = g.S.Store.state c.prepare.new.store in
    let new = g.S.Store.state c.complete.new.store in
    let prepared = c.in-Ok.ensures in
    let list = c.in-Ok.objects in
    let is_new = prepared.made.is_new in
    let completed = c.in-Ok-complete.ensures in
    let created =
    created_of_list uuid geometry list (g.D.Disk.state c.args.disk) c.in-Ok-create_cache.volume is_new
    c.in-Ok-create_cache.ensures.made in
    let puts = all_put uuid geometry old.objects middle.objects new.objects prepared.made.puts completed.ok in
    record {
      made = record {
        volume = created;
        puts = puts;
        absent = prepared.made.absent;
        stands = stands_new uuid geometry old.objects new.objects c.requires.limits puts;
      };
      none = tt;
      untouched = absent_stays uuid old.objects new.objects prepared.made.absent;
      moments =
          stands_none_or_new uuid geometry old.objects new.objects c.requires.limits
          (becomes_so (PutsVolume uuid geometry) (PutsSome uuid geometry) old.objects new.objects (λ a b so. inr so) puts);
      faults = completed.faults ∙ prepared.faults;
    }

-- ---- the super object was not acknowledged

pub returns-in-Err-complete : goal.returns-in-Err-complete
returns-in-Err-complete g c =
    let uuid = c.args.uuid in
    let geometry = c.args.geometry in
    let old = g.S.Store.state c.args.store.now in
    let middle = g.S.Store.state c.prepare.new.store in
    let new = g.S.Store.state c.complete.new.store in
    let disk = g.D.Disk.state c.args.disk in
    let left = g.D.Disk.state c.into_disk.result in
    let prepared = c.in-Ok.ensures in
    let list = c.in-Ok.objects in
    let is_new = prepared.made.is_new in
    let error = c.in-Err-complete.error in
    let failed = c.in-Err-complete.ensures in
    let created =
    created_of_list uuid geometry list disk c.in-Ok-create_cache.volume is_new c.in-Ok-create_cache.ensures.made in
    let some = some_put uuid geometry old.objects middle.objects new.objects prepared.made.puts failed.err in
    record {
      made = tt;
      none = record {
        exists = λ is. absurd (subst IsOfStore is failed.why);
        puts = becomes_may_put uuid geometry error old.objects new.objects failed.why some;
        calls =
            formatted_then uuid error disk left failed.why
            (subst (λ d. CostsFormat uuid true disk d) (sym c.into_disk.ensures.same) created.calls);
        is_disk = c.into_disk.ensures.is_disk;
      };
      untouched = absent_stays uuid old.objects new.objects prepared.made.absent;
      moments =
          stands_none_or_new uuid geometry old.objects new.objects c.requires.limits some;
      faults = subst (λ n. Counts (is_put_fault error) n new.faults) prepared.faults failed.faults;
    }
