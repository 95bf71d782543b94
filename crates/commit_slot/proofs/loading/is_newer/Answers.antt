use Rattle.std.proofs.Common.{rules, arith}
use Rattle.commit_body.specs.Body.{IsBody}
use Rattle.commit_slot.proofs.SlotStates.{same_number}
use Rattle.commit_slot.proofs.loading.is_newer.Goals as goal

pub returns-in-Some-clause-older : goal.returns-in-Some-clause-older
returns-in-Some-clause-older c = λ no body n is.
    let found : IsBody c.args.sector.now c.args.log c.args.slot c.in-Some.field-0-0 c.in-Some.n = search rules in
    let same = (same_number c.args.sector.now c.args.log c.args.slot c.args.slot n c.in-Some.n body c.in-Some.field-0-0 is
    found).1 in
    grind (arith, no, same)
