use Rattle.std.proofs.Common.{◌+◌, true, false, refl, sym, ◌∙◌, ap, subst}
use Rattle.std.proofs.Math.Path.{subst₂}
use Rattle.lsvd_fault.specs.Faults.{Counts}
use Rattle.commit_slot.specs.Formatting.{format_cost, format_calls}
use Rattle.commit_slot.specs.Sequence.{Costs}
use Rattle.cache_log.specs.Committed.{first_body, IsFormattedLog}
use Rattle.object_uploads.specs.State.{UploadsState}
use Rattle.stopped_volume.specs.Store.{TellsBytes}
use Rattle.vol_mount.specs.Costs.{CostsNewLog, FailsToFormat}
use Rattle.vol_mount.specs.Mounts.{MakesWithoutCache, LeavesWithoutCache}
use Rattle.vol_mount.specs.Passing.{PassesStored}
use Rattle.vol_mount.specs.Refusals.{is_store_fault_of}
use Rattle.vol_mount.specs.Steps.{mounted_of}
use Rattle.vol_mount.proofs.EpochLemmas.{may_have_begun}
use Rattle.vol_mount.proofs.RecoveryLemmas.{last_landed}
use Rattle.vol_mount.proofs.LostLemmas.{lost_shows_some, lost_is_small, lost_of_volume, mounts_stored, history_is}
use Rattle.vol_mount.proofs.lost.mount_without_cache.Given as given
use Rattle.vol_mount.proofs.lost.mount_without_cache.Goals.{In-Ok-format}
use Rattle.vol_mount.proofs.lost.mount_without_cache.Goals as goal

-- ---- the epoch was not begun

pub returns-in-Err : goal.returns-in-Err
returns-in-Err g c =
    let disk = g.D.Disk.state c.args.disk in
    let refused = c.in-Err.ensures.err in
    record {
      made = tt;
      none = record {
        why = refused.why;
        no_refusal = refused.no_refusal;
        store = refused.store;
        some = refused.some;
        costs = subst (λ b. FailsToFormat c.args.volume.uuid (c.args.volume.epoch + 1) b disk disk) (sym refused.no_fault) refl;
        is_disk = c.requires.is_disk;
      };
      faults = c.in-Err.ensures.faults;
    }

-- ---- the device was formatted, or not

formatted : (g : given.Over) (c : In-Ok-format g)
    → IsFormattedLog c.args.volume.uuid (c.args.volume.epoch + 1) c.in-Ok.objects.uploads.queue.end (g.D.Disk.state c.args.disk)
    c.in-Ok-format.log
formatted g c =
    subst₂ (λ uuid end. IsFormattedLog uuid (c.args.volume.epoch + 1) end (g.D.Disk.state c.args.disk) c.in-Ok-format.log)
    c.into_bytes.ensures (c.end-end.ensures ∙ ap (λ (u : UploadsState). u.queue.end) c.uploads.ensures)
    c.in-Ok-format.ensures.ok

pub assemble-requires-clause-shows : goal.assemble-requires-clause-shows
assemble-requires-clause-shows g c =
    lost_shows_some c.args.volume.uuid c.args.volume.geometry c.args.volume.chain (c.args.volume.epoch + 1) c.in-Ok.objects
    c.in-Ok.ensures.ok.checkpoint
    (g.D.Disk.state c.args.disk) c.in-Ok-format.log
    c.requires.limits c.requires.log c.in-Ok.ensures.ok.list (formatted g c)

pub assemble-requires-clause-small : goal.assemble-requires-clause-small
assemble-requires-clause-small g c =
    lost_is_small c.args.volume.uuid c.args.volume.geometry c.args.volume.chain (c.args.volume.epoch + 1) c.in-Ok.objects
    c.in-Ok.ensures.ok.checkpoint
    (g.D.Disk.state c.args.disk) c.in-Ok-format.log
    c.requires.limits c.requires.log c.in-Ok.ensures.ok.list (formatted g c) c.args.volume.epoch c.in-Ok.ensures.ok.low

pub returns-in-Ok-format : goal.returns-in-Ok-format
returns-in-Ok-format g c =
    let uuid = c.args.volume.uuid in
    let geometry = c.args.volume.geometry in
    let chain = c.args.volume.chain in
    let next = c.args.volume.epoch + 1 in
    let old = g.S.Store.state c.args.store.now in
    let new = g.S.Store.state c.begin_epoch.new.store in
    let disk = g.D.Disk.state c.args.disk in
    let list = c.in-Ok.objects in
    let checkpoint = c.in-Ok.ensures.ok.checkpoint in
    let log = c.in-Ok-format.log in
    let recovers = c.in-Ok.ensures.ok in
    let before = (goal.at.returns-in-Ok-format g c).In-Ok-format in
    let is = formatted g before in
    let limits = c.requires.limits in
    let Tells : Type 0 = TellsBytes g.S.Receipt.Receipt.state in
    let history = history_is uuid geometry chain next list checkpoint disk log limits c.requires.log recovers.list is in
    let made : MakesWithoutCache Tells uuid geometry chain c.args.volume.epoch old.objects new.objects disk
    (mounted_of list log) =
    record {
      volume = lost_of_volume uuid geometry chain next list checkpoint disk log limits c.requires.log recovers.list is;
      passes = λ tells.
          subst (λ n. PassesStored uuid geometry chain c.args.volume.epoch old.objects list.uploads.window.last n) (sym history)
          (recovers.passes tells);
      mounts = λ tells.
          mounts_stored uuid geometry chain next list checkpoint disk log limits c.requires.log recovers.list is old.objects
          (recovers.told tells);
      begun = c.in-Ok.ensures.begun;
      synced = c.in-Ok-format.ensures.ok.synced;
      number = c.in-Ok-format.ensures.ok.commits.same_number;
      costs = record {
        end = c.end-end.result;
        calls =
            subst (λ u. Costs format_cost (format_calls (first_body u next c.end-end.result)) true disk log.commits.disk)
            c.into_bytes.ensures c.in-Ok-format.ensures.calls;
      };
    } in
    record {
      made =
          subst (MakesWithoutCache Tells uuid geometry chain c.args.volume.epoch old.objects new.objects disk)
          (sym c.assemble.ensures)
          made;
      none = tt;
      faults = c.in-Ok.ensures.faults;
    }

pub returns-in-Err-format : goal.returns-in-Err-format
returns-in-Err-format g c =
    let uuid = c.args.volume.uuid in
    let geometry = c.args.volume.geometry in
    let chain = c.args.volume.chain in
    let next = c.args.volume.epoch + 1 in
    let old = g.S.Store.state c.args.store.now in
    let new = g.S.Store.state c.begin_epoch.new.store in
    let disk = g.D.Disk.state c.args.disk in
    let left = g.D.Disk.state c.in-Err-format.disk in
    let list = c.in-Ok.objects in
    let recovers = c.in-Ok.ensures.ok in
    let Tells : Type 0 = TellsBytes g.S.Receipt.Receipt.state in
    let fails : CostsNewLog uuid next false disk left = record {
      end = c.end-end.result;
      calls =
          subst (λ u. Costs format_cost (format_calls (first_body u next c.end-end.result)) false disk left) c.into_bytes.ensures
          c.in-Err-format.ensures.err;
    } in
    record {
      made = tt;
      none =
          subst (LeavesWithoutCache Tells uuid geometry chain c.args.volume.epoch old.objects new.objects disk left) (sym
          c.into.ensures)
          (record {
            why = λ tells. tt;
            no_refusal = λ tells plain number stored. refl;
            store = λ none. absurd (none tt);
            some =
                may_have_begun Tells uuid geometry chain list.uploads.window.last next old.objects new.objects
                (λ tells. last_landed uuid geometry chain old.objects list c.in-Ok.ensures.ok.checkpoint recovers.low.last
                (recovers.told tells))
                c.in-Ok.ensures.begun;
            costs = fails;
            is_disk = c.in-Err-format.ensures.is_disk;
          });
      faults =
          subst (λ e. Counts (is_store_fault_of e) old.faults new.faults) (sym c.into.ensures) c.in-Ok.ensures.faults;
    }
