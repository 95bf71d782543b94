use Rattle.volume_commands.proofs.Served.{same_refusal}
use Rattle.volume_commands.proofs.work.on_mounted.Goals as goal

pub returns-in-Err-Refused-clause-why : goal.returns-in-Err-Refused-clause-why
returns-in-Err-Refused-clause-why g c why is =
    c.in-Err-Refused.ensures.why why (same_refusal _ c.in-Err-Refused.why why c.in-Err-Refused.field-0-is is)
