use Rattle.std.proofs.Common.{◌∙◌}
use Rattle.volume_commands.specs.Collecting.{IsCollectedText}
use Rattle.volume_commands.specs.declared.error.CommandError.TheVariants as errors
use Rattle.volume_commands.proofs.Served.{of_other}
use Rattle.volume_commands.proofs.Told.{nothing_told}
use Rattle.volume_commands.proofs.collection.collect_mounted.Goals as goal

-- ---- it was not collected

pub returns-in-Err-clause-told : goal.returns-in-Err-clause-told
returns-in-Err-clause-told g c = nothing_told IsCollectedText c.in-Err.error (g.O.Sink.contents c.args.out.now)

pub returns-in-Err-clause-refused : goal.returns-in-Err-clause-refused
returns-in-Err-clause-refused g c why is =
    c.collect-volume.ensures.refused why (c.in-Err.is ∙ of_other c.in-Err.error (errors.Refused why) is)

pub returns-in-Err-clause-fault : goal.returns-in-Err-clause-fault
returns-in-Err-clause-fault g c is disks stores =
    absurd (c.collect-volume.ensures.fault (c.in-Err.is ∙ of_other c.in-Err.error errors.Fault is) disks stores)
