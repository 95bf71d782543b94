use Rattle.volume_owner.specs.Acts.{moment_of}
use Rattle.volume_server.proofs.OwnerDeviceLemmas.{not_done}
use Rattle.volume_server.proofs.owner_device.OwnerDeviceBlockDevice.read.Goals as goal

pub returns-in-Ok : goal.returns-in-Ok
returns-in-Ok g c = (c.in-Ok.ensures.size, (c.in-Ok.ensures.given, c.in-Ok.ensures.call))

pub returns-in-Err : goal.returns-in-Err
returns-in-Err g c =
    let old = moment_of c.args.self.now.owner (g.S.Store.state c.args.store.now) in
    let new = moment_of c.read.new.self (g.S.Store.state c.read.new.store) in
    rw c.told.ensures (not_done g.R.Receipt.state _ c.in-Err.error old new c.requires.fits c.in-Err.ensures.range
    c.in-Err.ensures.call)
