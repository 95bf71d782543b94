use Rattle.nbd_tests.proofs.volume.device_of.Goals as goal

-- a volume that was just created is idle
pub new-device-requires : goal.new-device-requires
new-device-requires c = c.a_new_volume_is_idle.ensures.created _ _ _ c.in-Ok.ensures.made.volume.is
