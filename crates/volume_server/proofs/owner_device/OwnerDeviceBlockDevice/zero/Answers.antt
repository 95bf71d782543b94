use Rattle.volume_owner.specs.Acts.{moment_of}
use Rattle.volume_server.proofs.OwnerDeviceLemmas.{not_done, leaves_room}
use Rattle.volume_server.proofs.owner_device.OwnerDeviceBlockDevice.zero.Goals as goal

pub returns-in-Ok : goal.returns-in-Ok
returns-in-Ok g c = record {
  enters = c.in-Ok.ensures.call;
  room = leaves_room g.R.Receipt.state _ _ _ _ _ _ c.in-Ok.ensures.call c.requires.room;
}

pub returns-in-Err : goal.returns-in-Err
returns-in-Err g c =
    let old = moment_of c.args.self.now.owner (g.S.Store.state c.args.store.now) in
    let new = moment_of c.zero.new.self (g.S.Store.state c.zero.new.store) in
    record {
      enters = rw c.told.ensures (not_done g.R.Receipt.state _ c.in-Err.error old new c.requires.fits c.in-Err.ensures.range
          c.in-Err.ensures.call);
      room = leaves_room g.R.Receipt.state _ _ _ _ _ _ c.in-Err.ensures.call c.requires.room;
    }
