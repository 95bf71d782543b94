use Rattle.volume_maps.proofs.maps.VolumeMaps.removable.Goals as goal

pub returns : goal.returns
returns c = rw (← c.self.view_is) c.removable.ensures
