use Rattle.std.proofs.Common.{inl, inr, refl, sym, ◌∙◌, subst}
use Rattle.std.specs.Prelude.{◌≡◌, ◌⊎◌, false, List}
use Rattle.clone_chain.specs.declared.ancestor.Ancestor.{Ancestor}
use Rattle.lsvd_base.specs.declared.geometry.Geometry.{Geometry}
use Rattle.lsvd_fault.specs.Faults.{Counts}
use Rattle.lsvd_objstore.specs.Store.{StoreState}
use Rattle.commit_slot.specs.Slots.{log_of}
use Rattle.stopped_volume.specs.Store.{TellsBytes}
use Rattle.object_recovery.proofs.FindLemmas.{same_store}
use Rattle.vol_mount.specs.Mounts.{MountsWithoutCache}
use Rattle.vol_mount.specs.Refusals.{IsUnfitting, IsWhyNotStored, refuses, is_store_fault_of}
use Rattle.vol_recover.specs.Describing.{OfVolume, IsTheVolume}
use Rattle.vol_recover.specs.Mounting.{IsDescribed}
use Rattle.vol_recover.proofs.Results.{counted_objects, counted_then}
use Rattle.vol_recover.proofs.mounting.mount_lost.Given as given
use Rattle.vol_recover.proofs.mounting.mount_lost.Goals as goal
use Rattle.vol_recover.proofs.mounting.mount_lost.Goals.{In-Ok}

-- ---- no volume is described

pub returns-in-Err : goal.returns-in-Err
returns-in-Err g c =
    let old = g.S.Store.state c.args.store.now in
    let new = g.S.Store.state c.describe.new.store in
    let error = c.in-Err.error in
    let none = c.in-Err.ensures in
    record {
      is =
          inl (
            record {
              why = none.why;
              no_refusal = λ tells.
                  subst (λ log. OfVolume c.args.uuid log old.objects (λ geometry chain epoch. refuses error ≡ false))
                  c.log_sectors.ensures (none.no_refusal tells);
            },
            record {
              device = refl;
              is_disk = c.requires.is_disk;
              objects = counted_objects old new none.unchanged;
              no_fault = none.no_fault;
              faults = none.faults;
            },
          );
    }

-- ---- this one is

described : (g : given.Over) (c : In-Ok g)
    → IsDescribed (TellsBytes g.S.Receipt.Receipt.state) c.args.uuid (log_of (g.D.Disk.state c.args.disk).size)
    (g.S.Store.state c.args.store.now).objects c.in-Ok.described.geometry c.in-Ok.described.chain
    c.in-Ok.described.epoch
described g c =
    let objects = (g.S.Store.state c.args.store.now).objects in
    let geometry : Geometry = c.in-Ok.described.geometry in
    record {
      log_is = c.in-Ok.ensures.log ∙ c.log_sectors.ensures;
      says = c.in-Ok.ensures.told;
      same = λ tells.
          subst (λ log. IsTheVolume c.args.uuid log objects geometry c.in-Ok.described.chain c.in-Ok.described.epoch)
          c.log_sectors.ensures
          (c.in-Ok.ensures.same tells);
    }

pub returns-then-not-is_within_limits : goal.returns-then-not-is_within_limits
returns-then-not-is_within_limits g c =
    let old = g.S.Store.state c.args.store.now in
    let middle = g.S.Store.state c.describe.new.store in
    let new = g.S.Store.state c.refuse_log-error.new.store in
    let geometry : Geometry = c.in-Ok.described.geometry in
    let chain : List Ancestor = c.in-Ok.described.chain in
    let error = c.refuse_log-error.result in
    let is = c.refuse_log-error.ensures in
    let same = same_store old middle c.in-Ok.ensures.unchanged c.in-Ok.ensures.faults in
    let unchanged = counted_then old middle new c.in-Ok.ensures.unchanged is.unchanged in
    record {
      is =
          inr (
            geometry,
            chain,
            c.in-Ok.described.epoch,
            described g (goal.at.returns-then-not-is_within_limits g c).In-Ok,
            inl (
              sym c.if-not-is_within_limits.ensures,
              (
                λ tells.
                    subst (λ (s : StoreState). IsUnfitting c.args.uuid geometry chain s.objects error
                    ⊎ IsWhyNotStored c.args.uuid geometry chain s.objects error) same
                    (subst (λ u. IsUnfitting u geometry chain middle.objects error
                    ⊎ IsWhyNotStored u geometry chain middle.objects error)
                    c.in-Ok.ensures.uuid (is.why tells)),
                record {
                  device = refl;
                  is_disk = c.requires.is_disk;
                  objects = counted_objects old new unchanged;
                  no_fault = is.no_fault;
                  faults =
                      subst (λ (s : StoreState). Counts (is_store_fault_of error) s.faults new.faults) same is.faults;
                },
              ),
            ),
          );
    }

pub returns : goal.returns
returns g c =
    let old = g.S.Store.state c.args.store.now in
    let middle = g.S.Store.state c.describe.new.store in
    let new = g.S.Store.state c.mount_without_cache.new.store in
    let geometry : Geometry = c.in-Ok.described.geometry in
    let chain : List Ancestor = c.in-Ok.described.chain in
    let epoch = c.in-Ok.described.epoch in
    let same = same_store old middle c.in-Ok.ensures.unchanged c.in-Ok.ensures.faults in
    record {
      is =
          inr (
            geometry,
            chain,
            epoch,
            described g (goal.at.returns g c).In-Ok,
            inr (
              sym c.if-not-is_within_limits.ensures,
              subst (λ s. MountsWithoutCache g.D.Disk.state
                  (TellsBytes g.S.Receipt.Receipt.state) c.args.uuid geometry chain epoch
                  (g.D.Disk.state c.args.disk) s new c.mount_without_cache.result) same
                  (subst (λ u. MountsWithoutCache g.D.Disk.state (TellsBytes g.S.Receipt.Receipt.state) u geometry chain epoch
                  (g.D.Disk.state c.args.disk) middle new c.mount_without_cache.result) c.in-Ok.ensures.uuid
                  c.mount_without_cache.ensures),
            ),
          );
    }
