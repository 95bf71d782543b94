use Rattle.std.specs.Prelude.{Ok, Err}
use Rattle.volume_server.proofs.OwnerDeviceLemmas.{flushes}
use Rattle.volume_server.proofs.owner_device.OwnerDeviceBlockDevice.flush.Goals as goal

pub returns-in-Ok : goal.returns-in-Ok
returns-in-Ok g c = flushes g.R.Receipt.state (Ok c.in-Ok.field-0) _ _ (g.S.Store.state c.args.arg2.now) c.in-Ok.ensures

pub returns-in-Err : goal.returns-in-Err
returns-in-Err g c = flushes g.R.Receipt.state (Err c.in-Err.failed) _ _ (g.S.Store.state c.args.arg2.now) c.in-Err.ensures
