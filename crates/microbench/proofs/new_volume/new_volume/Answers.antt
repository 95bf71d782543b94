use Rattle.microbench.proofs.new_volume.new_volume.Goals as goal

pub returns-in-Ok : goal.returns-in-Ok
returns-in-Ok c = c.a_new_volume_is_idle.ensures.created _ _ c.in-Ok.volume c.in-Ok.ensures.made.is
