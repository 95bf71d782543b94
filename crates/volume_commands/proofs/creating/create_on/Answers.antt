use Rattle.std.proofs.Common.{subst}
use Rattle.lsvd_base.specs.declared.geometry.Geometry.{Geometry}
use Rattle.vol_recover.specs.Creating.{CreatedWithStore}
use Rattle.volume_commands.specs.declared.error.CommandError.TheVariants as errors
use Rattle.volume_commands.proofs.Created.{refuses_existing, creation_counts_none}
use Rattle.volume_commands.proofs.Served.{told_as}
use Rattle.volume_commands.proofs.creating.create_on.Goals as goal

pub returns-in-Ok : goal.returns-in-Ok
returns-in-Ok g c =
    let before = (g.S.Store.state c.args.store.now).objects in
    let after = (g.S.Store.state c.create.new.store).objects in
    record {
      creates = record {
        volume = c.in-Ok.volume;
        created =
            subst (λ (s : Geometry). CreatedWithStore c.args.uuid s (g.D.Disk.state c.args.disk) before after c.in-Ok.volume)
            c.geometry.ensures c.in-Ok.ensures.made;
        disk_is = c.let_go.ensures.same;
        let_go = c.let_go.ensures.let_go;
      };
      why = λ why is. (let bad : ⊥ = cc in absurd bad);
      fault = λ is disks stores. (let bad : ⊥ = cc in bad);
    }

pub returns-in-Err : goal.returns-in-Err
returns-in-Err g c =
    let before = g.S.Store.state c.args.store.now in
    let after = g.S.Store.state c.create.new.store in
    let sizes = c.geometry.result in
    let error = c.in-Err.error in
    let none = c.in-Err.ensures.none in
    record {
      creates = tt;
      why = λ why is.
          refuses_existing c.args.uuid sizes (g.D.Disk.state c.args.disk) (g.D.Disk.state c.in-Err.disk) before.objects
          after.objects error why none (told_as _ (errors.Refused why) _ c.into.ensures is);
      fault = λ is disks stores.
          creation_counts_none g.D.Disk.state (λ store. (g.S.Store.state store).faults) c.args.uuid sizes c.args.disk
          c.in-Err.disk c.args.store.now c.create.new.store before.objects after.objects error none c.in-Err.ensures.faults
          (told_as _ errors.Fault _ c.into.ensures is) disks stores;
    }
