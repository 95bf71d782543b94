use Rattle.std.proofs.Common.{◌≡◌, ◌<◌, true, inl, inr, refl, sym, ◌∙◌, ap, subst, arith}
use Rattle.std.proofs.Math.Path.{subst₂}
use Rattle.std.specs.Prelude.{not, max}
use Rattle.lsvd_fault.specs.Faults.{Counts}
use Rattle.lsvd_device.specs.Device.{IsDisk}
use Rattle.lsvd_objstore.specs.Store.{Becomes}
use Rattle.obj_log.specs.State.{ObjLogState}
use Rattle.stopped_volume.specs.Device.{owner_with}
use Rattle.stopped_volume.specs.Store.{TellsBytes}
use Rattle.object_recovery.specs.Removal.{Removes}
use Rattle.object_recovery.specs.Recovery.{IsPastOf, RemovesAllPast}
use Rattle.vol_core.specs.Shows.{max_number}
use Rattle.vol_mount.specs.Costs.{CostsMount}
use Rattle.vol_mount.specs.Mounting.{KeepsLeft}
use Rattle.vol_mount.specs.Mounts.{PassesAll, MakesWithCache}
use Rattle.vol_mount.specs.Passing.{PassesLeft}
use Rattle.vol_mount.specs.Refusals.{is_device_fault, is_store_fault_of}
use Rattle.vol_mount.specs.Steps.{IsOpenedOf, IsNotOpened, mounted_of}
use Rattle.vol_mount.proofs.StoreLemmas.{same_objects, becomes_from, may_leave_same, may_leave_less}
use Rattle.vol_mount.proofs.ExtentLemmas.{extent_of}
use Rattle.vol_mount.proofs.RecoveryLemmas.{last_landed, good_objects, why_faulted}
use Rattle.vol_mount.proofs.CostLemmas.{costs_nothing}
use Rattle.vol_mount.proofs.LeftLemmas.{keeps_same, refuses_none_too, device_faulted, faults_refuse_no_left, device_opened}
use Rattle.vol_mount.proofs.LeftLemmas.{opens_without_store, opening_keeps, opening_refuses_none}
use Rattle.vol_mount.proofs.KeptLemmas.{completing_keeps, completing_costs, last_is, kept_shows_some, kept_is_small}
use Rattle.vol_mount.proofs.KeptLemmas.{kept_of_volume, numbers_next, mounts_left, passes_left, history_is}
use Rattle.vol_mount.proofs.kept.mount_with_cache.Given as given
use Rattle.vol_mount.proofs.kept.mount_with_cache.Goals.{In-Ok-open_log, In-Err-open_log}
use Rattle.vol_mount.proofs.kept.mount_with_cache.Goals as goal

-- ---- the list was not recovered

pub returns-in-Err : goal.returns-in-Err
returns-in-Err g c =
    let old = g.S.Store.state c.args.store.now in
    let new = g.S.Store.state c.recover_list.new.store in
    let disk = g.D.Disk.state c.args.disk in
    let error = c.in-Err.error in
    let Tells : Type 0 = TellsBytes g.S.Receipt.Receipt.state in
    let same = same_objects old new c.in-Err.ensures.unchanged in
    record {
      made = tt;
      none = record {
        why = λ tells. inl (c.in-Err.ensures.why tells);
        no_refusal = λ tells.
            refuses_none_too c.args.volume.uuid c.args.volume.geometry c.args.volume.chain c.args.volume.epoch old.objects disk
            error
            (c.in-Err.ensures.no_refusal tells);
        store = λ none. same;
        some = may_leave_same Tells c.args.volume.uuid c.args.volume.geometry c.args.volume.chain old.objects new.objects same;
        device = inl refl;
        stops = λ tells. keeps_same c.args.volume.uuid c.args.volume.geometry c.args.volume.chain c.args.volume.epoch
            old.objects disk;
        costs =
            subst (λ made. CostsMount c.args.volume.geometry.log made disk disk) (sym (ap not c.in-Err.ensures.no_fault))
            (costs_nothing c.args.volume.geometry disk disk refl);
        is_disk = c.requires.is_disk;
      };
      faults = c.in-Err.ensures.faults;
    }

-- ---- the log was not opened

not_opened : (g : given.Over) (c : In-Err-open_log g)
    → IsNotOpened (owner_with c.args.volume.uuid c.args.volume.epoch) c.args.volume.geometry
    c.in-Ok.recovered.log.uploads.queue.end
    c.greatest_number.result c.in-Err-open_log.refused.1 (g.D.Disk.state c.args.disk) (g.D.Disk.state c.in-Err-open_log.refused.0)
not_opened g c =
    let same : c.end.result ≡ c.in-Ok.recovered.log.uploads.queue.end = cc (c.end.ensures, c.uploads.ensures, c.log.ensures) in
    subst (λ end. IsNotOpened (owner_with c.args.volume.uuid c.args.volume.epoch) c.args.volume.geometry end
    c.greatest_number.result
    c.in-Err-open_log.refused.1 (g.D.Disk.state c.args.disk) (g.D.Disk.state c.in-Err-open_log.refused.0))
    same c.in-Err-open_log.ensures.err

pub returns-in-Err-open_log : goal.returns-in-Err-open_log
returns-in-Err-open_log g c =
    let uuid = c.args.volume.uuid in
    let geometry = c.args.volume.geometry in
    let chain = c.args.volume.chain in
    let epoch = c.args.volume.epoch in
    let old = g.S.Store.state c.args.store.now in
    let new = g.S.Store.state c.recover_list.new.store in
    let disk = g.D.Disk.state c.args.disk in
    let left = g.D.Disk.state c.in-Err-open_log.refused.0 in
    let error = c.in-Err-open_log.refused.1 in
    let recovered = c.in-Ok.recovered in
    let list : ObjLogState = recovered.log in
    let greatest = c.greatest_number.result in
    let Tells : Type 0 = TellsBytes g.S.Receipt.Receipt.state in
    let same = same_objects old new c.in-Ok.ensures.unchanged in
    let refused = not_opened g (goal.at.returns-in-Err-open_log g c).In-Err-open_log in
    let none = opens_without_store error uuid geometry epoch list.uploads.queue.end greatest disk refused.why in
    record {
      made = tt;
      none = record {
        why = λ tells.
            inr (
              good_objects uuid geometry chain old.objects list recovered.checkpoint c.in-Ok.ensures.list
                  (c.in-Ok.ensures.told tells),
              (
                greatest,
                list.uploads.queue.end,
                extent_of uuid geometry chain old.objects recovered greatest c.in-Ok.ensures.list (c.in-Ok.ensures.told tells)
                    c.in-Ok.ensures.has_names c.greatest_number.ensures,
                refused.why,
              ),
            );
        no_refusal = λ tells.
            opening_refuses_none uuid geometry chain epoch old.objects disk c.requires.size c.requires.log c.requires.is_disk
            c.requires.limits list recovered.checkpoint c.in-Ok.ensures.list (c.in-Ok.ensures.told tells) error greatest
            refused.why;
        store = λ none. same;
        some = may_leave_same Tells uuid geometry chain old.objects new.objects same;
        device =
            device_opened (PassesAll Tells (owner_with uuid epoch) geometry chain old.objects disk) geometry error disk left
            refused.device;
        stops = λ tells.
            opening_keeps uuid geometry chain epoch old.objects disk c.requires.size c.requires.log c.requires.is_disk left
            refused.settled;
        costs = refused.costs;
        is_disk = c.in-Err-open_log.ensures.is_disk;
      };
      faults = subst (λ b. Counts b old.faults new.faults) (sym none) c.in-Ok.ensures.faults;
    }

-- ---- it was opened

opened : (g : given.Over) (c : In-Ok-open_log g)
    → IsOpenedOf (owner_with c.args.volume.uuid c.args.volume.epoch) c.args.volume.geometry
    c.in-Ok.recovered.log.uploads.queue.end
    (g.D.Disk.state c.args.disk) c.in-Ok-open_log.log
opened g c =
    let same : c.end.result ≡ c.in-Ok.recovered.log.uploads.queue.end = cc (c.end.ensures, c.uploads.ensures, c.log.ensures) in
    subst (λ end. IsOpenedOf (owner_with c.args.volume.uuid c.args.volume.epoch) c.args.volume.geometry end (g.D.Disk.state
    c.args.disk)
    c.in-Ok-open_log.log)
    same c.in-Ok-open_log.ensures.ok

list_low : (g : given.Over) (c : In-Ok-open_log g) → c.in-Ok.recovered.log.uploads.window.last < max_number
list_low g c =
    let less = c.greatest_number.ensures.no_less in
    let low = c.in-Ok-open_log.ensures.low.1 in
    omega (arith, less, low)

passes : (g : given.Over) (c : In-Ok-open_log g) → TellsBytes g.S.Receipt.Receipt.state
    → PassesLeft (owner_with c.args.volume.uuid c.args.volume.epoch) c.args.volume.geometry c.args.volume.chain (g.S.Store.state
    c.args.store.now).objects
    (g.D.Disk.state c.args.disk) c.in-Ok.recovered.log.uploads.window.last
    (max c.in-Ok.recovered.log.uploads.queue.end (opened g c).commits.body.head.seq)
passes g c tells =
    let told = (g.S.Store.state c.args.store.now).objects in
    let recovered = c.in-Ok.recovered in
    let greatest = c.greatest_number.result in
    passes_left c.args.volume.uuid c.args.volume.geometry c.args.volume.chain c.args.volume.epoch recovered.log
    recovered.checkpoint greatest told
    (g.D.Disk.state c.args.disk) c.in-Ok-open_log.log c.in-Ok.ensures.list (c.in-Ok.ensures.told tells)
    (extent_of c.args.volume.uuid c.args.volume.geometry c.args.volume.chain told recovered greatest c.in-Ok.ensures.list
    (c.in-Ok.ensures.told tells)
    c.in-Ok.ensures.has_names c.greatest_number.ensures)
    c.greatest_number.ensures.no_less c.in-Ok-open_log.ensures.low (opened g c)

-- ---- the list was not completed

pub returns : goal.returns
returns g c =
    let uuid = c.args.volume.uuid in
    let geometry = c.args.volume.geometry in
    let chain = c.args.volume.chain in
    let epoch = c.args.volume.epoch in
    let old = g.S.Store.state c.args.store.now in
    let middle = g.S.Store.state c.recover_list.new.store in
    let new = g.S.Store.state c.complete.new.store in
    let disk = g.D.Disk.state c.args.disk in
    let left = g.D.Disk.state c.into_disk.result in
    let error = c.in-Err-complete.error in
    let fault = c.in-Err-complete.ensures.err in
    let checkpoint = c.in-Ok.recovered.checkpoint in
    let list : ObjLogState = c.in-Ok.recovered.log in
    let last = list.uploads.window.last in
    let Tells : Type 0 = TellsBytes g.S.Receipt.Receipt.state in
    let before = (goal.at.returns g c).In-Ok-open_log in
    let log = opened g before in
    let some =
    subst (λ u. Becomes (Removes (IsPastOf u last)) middle.objects new.objects) c.in-Ok.ensures.list.list.uuid_is
    c.in-Err-complete.ensures.some in
    let made = not (is_device_fault error) in
    record {
      made = tt;
      none = record {
        why = λ tells. inl (why_faulted error uuid geometry chain old.objects fault);
        no_refusal = λ tells. faults_refuse_no_left error uuid geometry chain epoch old.objects disk fault;
        store = λ none. absurd (none fault);
        some =
            may_leave_less Tells uuid geometry chain last old.objects new.objects
            (λ tells. last_landed uuid geometry chain old.objects list checkpoint (list_low g before)
            (c.in-Ok.ensures.told tells))
            (becomes_from (Removes (IsPastOf uuid last)) old.objects middle.objects new.objects
            (same_objects old middle c.in-Ok.ensures.unchanged) some);
        device =
            device_faulted (PassesAll Tells
            (owner_with uuid epoch) geometry chain old.objects disk) geometry error disk left fault
            (λ tells. (last, max list.uploads.queue.end log.commits.body.head.seq, passes g before tells));
        stops = λ tells.
            subst (λ d. KeepsLeft (owner_with uuid epoch) geometry chain old.objects disk d) (sym c.into_disk.ensures.same)
            (completing_keeps uuid geometry chain epoch list checkpoint old.objects disk c.in-Ok-open_log.log c.requires.limits
            c.requires.size c.requires.log c.requires.is_disk c.in-Ok.ensures.list log (c.in-Ok.ensures.told tells)
            c.complete.new.log.commits.disk (subst IsDisk c.into_disk.ensures.same c.into_disk.ensures.is_disk)
            c.in-Err-complete.ensures.stops);
        costs =
            subst (λ d. CostsMount geometry.log made disk d) (sym c.into_disk.ensures.same)
            (completing_costs uuid geometry chain epoch list.uploads.queue.end disk c.complete.new.log.commits.disk
            c.in-Ok-open_log.log made log c.in-Err-complete.ensures.calls);
        is_disk = c.into_disk.ensures.is_disk;
      };
      faults =
          subst (λ n. Counts (is_store_fault_of error) n new.faults) c.in-Ok.ensures.faults c.in-Err-complete.ensures.faults;
    }

-- ---- it was completed

pub assemble-requires-clause-shows : goal.assemble-requires-clause-shows
assemble-requires-clause-shows g c =
    let before = (goal.at.assemble-requires-clause-shows g c).In-Ok-open_log in
    kept_shows_some c.args.volume.uuid c.args.volume.geometry c.args.volume.chain c.args.volume.epoch c.in-Ok.recovered.log
    c.in-Ok.recovered.checkpoint
    (g.D.Disk.state c.args.disk) c.in-Ok-open_log.log
    c.complete.new.log c.in-Ok-complete.objects c.requires.limits c.in-Ok.ensures.list (opened g before)
    c.in-Ok-complete.ensures.ok

pub assemble-requires-clause-small : goal.assemble-requires-clause-small
assemble-requires-clause-small g c =
    let before = (goal.at.assemble-requires-clause-small g c).In-Ok-open_log in
    kept_is_small c.args.volume.uuid c.args.volume.geometry c.args.volume.chain c.args.volume.epoch c.in-Ok.recovered.log
    c.in-Ok.recovered.checkpoint
    (g.D.Disk.state c.args.disk) c.in-Ok-open_log.log
    c.complete.new.log c.in-Ok-complete.objects c.requires.limits c.in-Ok.ensures.list (opened g before)
    c.in-Ok-complete.ensures.ok (list_low g before)

pub returns-in-Ok-complete : goal.returns-in-Ok-complete
returns-in-Ok-complete g c =
    let uuid = c.args.volume.uuid in
    let geometry = c.args.volume.geometry in
    let chain = c.args.volume.chain in
    let epoch = c.args.volume.epoch in
    let old = g.S.Store.state c.args.store.now in
    let middle = g.S.Store.state c.recover_list.new.store in
    let new = g.S.Store.state c.complete.new.store in
    let disk = g.D.Disk.state c.args.disk in
    let list : ObjLogState = c.in-Ok.recovered.log in
    let checkpoint = c.in-Ok.recovered.checkpoint in
    let before = c.in-Ok-open_log.log in
    let log = c.complete.new.log in
    let objects = c.in-Ok-complete.objects in
    let limits = c.requires.limits in
    let is = c.in-Ok.ensures.list in
    let done = c.in-Ok-complete.ensures.ok in
    let Tells : Type 0 = TellsBytes g.S.Receipt.Receipt.state in
    let at = goal.at.returns-in-Ok-complete g c in
    let is_open = opened g at.In-Ok-open_log in
    let number = last_is uuid geometry chain epoch list checkpoint disk before log objects limits is is_open done in
    let entries = history_is uuid geometry chain epoch list checkpoint disk before log objects limits is is_open done in
    let removed =
    becomes_from (RemovesAllPast uuid list.uploads.window.last) old.objects middle.objects new.objects
    (same_objects old middle c.in-Ok.ensures.unchanged)
    (subst (λ u. Becomes (RemovesAllPast u list.uploads.window.last) middle.objects new.objects) is.list.uuid_is
    c.in-Ok-complete.ensures.removed) in
    let made : MakesWithCache Tells (owner_with uuid epoch) geometry chain old.objects new.objects disk (mounted_of objects log) =
    record {
      volume = kept_of_volume uuid geometry chain epoch list checkpoint disk before log objects limits is is_open done;
      passes = λ tells.
          subst₂ (λ n k. PassesLeft (owner_with uuid epoch) geometry chain old.objects disk n k) (sym number) (sym entries)
          (passes g at.In-Ok-open_log tells);
      mounts = λ tells.
          mounts_left uuid geometry chain epoch list checkpoint disk before log objects limits is is_open done old.objects
          c.requires.size c.requires.log c.requires.is_disk (c.in-Ok.ensures.told tells);
      removed = subst (λ n. Becomes (RemovesAllPast uuid n) old.objects new.objects) (sym number) removed;
      stops = λ tells.
          completing_keeps uuid geometry chain epoch list checkpoint old.objects disk before limits c.requires.size c.requires.log
          c.requires.is_disk is is_open (c.in-Ok.ensures.told tells) log.commits.disk done.is_disk c.in-Ok-complete.ensures.stops;
      costs =
          completing_costs uuid geometry chain epoch list.uploads.queue.end disk log.commits.disk before true is_open
          c.in-Ok-complete.ensures.calls;
      synced = done.synced;
      number = numbers_next uuid geometry chain epoch list checkpoint disk before log objects limits is is_open done;
    } in
    record {
      made =
          subst (MakesWithCache Tells (owner_with uuid epoch) geometry chain old.objects new.objects disk)
          (sym c.assemble.ensures) made;
      none = tt;
      faults = c.in-Ok-complete.ensures.faults ∙ c.in-Ok.ensures.faults;
    }
