use Rattle.std.proofs.Common.{refl}
use Rattle.volume_commands.proofs.Served.{refused_in, same_refusal}
use Rattle.volume_commands.proofs.creating.answer_create.Goals as goal

pub returns-in-Err-Refused-clause-told : goal.returns-in-Err-Refused-clause-told
returns-in-Err-Refused-clause-told g c =
    let refuses =
    c.in-Err-Refused.ensures.why c.in-Err-Refused.why (refused_in _ c.in-Err-Refused.why c.in-Err-Refused.field-0-is) in
    (refuses.there.is, refl)

pub returns-in-Err-Refused-clause-why : goal.returns-in-Err-Refused-clause-why
returns-in-Err-Refused-clause-why g c why is =
    c.in-Err-Refused.ensures.why why (same_refusal _ c.in-Err-Refused.why why c.in-Err-Refused.field-0-is is)
