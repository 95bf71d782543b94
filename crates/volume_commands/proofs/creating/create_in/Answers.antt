use Rattle.std.proofs.Common.{ap, subst}
use Rattle.std.specs.Prelude.{Option}
use Rattle.lsvd_device.specs.Device.{IsDisk}
use Rattle.lsvd_objstore.specs.Objects.{Objects}
use Rattle.lsvd_objstore.specs.Store.{StoreState}
use Rattle.volume_commands.specs.Creating.{CreatesOn}
use Rattle.volume_commands.specs.World.{IsBlank}
use Rattle.volume_commands.proofs.Places.{on_done}
use Rattle.volume_commands.proofs.creating.create_in.Goals as goal

-- the disk that the world gave, a blank one, goes back to it as the creation left it
pub returns-clause-creates : goal.returns-clause-creates
returns-clause-creates g c =
    let disk = g.W.Disk.Disk.state c.in_ok-disk.disk in
    let left = g.W.Disk.Disk.state c.create_on-disk.result.0 in
    let after = (g.W.Store.Store.state c.create_on-disk.new.store).objects in
    let same = ap (λ (s : StoreState). s.objects) c.has_super.ensures.unchanged in
    on_done c.create_on-disk.result.1 (λ creates. record {
      disk = disk;
      blank = subst (λ n. IsDisk disk × IsBlank n disk) c.device_bytes.ensures.bytes c.in_ok-disk.ensures.given;
      disk_left = left;
      creates = subst (λ (o : Option Objects). CreatesOn c.args.request.now c.args.uuid disk left o after) same creates;
      cache_now = c.close_disk.ensures.stands;
    }) c.create_on-disk.ensures.creates
