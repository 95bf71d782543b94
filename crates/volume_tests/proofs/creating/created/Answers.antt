use Rattle.volume_tests.proofs.creating.created.Goals as goal

-- a volume that was just created is idle
pub returns-in-Ok : goal.returns-in-Ok
returns-in-Ok c = c.a_new_volume_is_idle.ensures.created _ _ c.in-Ok.volume c.in-Ok.ensures.made.volume.is
