use Rattle.std.proofs.Common.{subst, arith}
use Rattle.std.specs.Prelude.{IfOk, IfErr}
use Rattle.super_format.specs.Super.{IsSuper}
use Rattle.super_format.specs.Tests.{IsSuperReason}
use Rattle.super_recovery.proofs.FrontLemmas.{says_of_whole, why_of_whole}
use Rattle.super_recovery.proofs.finding.super_in.Goals as goal

pub returns-clause-says : goal.returns-clause-says
returns-clause-says c =
    says_of_whole c.args.front.now c.args.uuid (omega arith) c.read.result
    (subst (λ xs. IfOk c.read.result (IsSuper xs c.args.uuid)) c.as_slice-bytes.ensures.value c.read.ensures.ok)

pub returns-clause-why : goal.returns-clause-why
returns-clause-why c =
    why_of_whole c.args.front.now c.args.uuid (omega arith) c.read.result
    (subst (λ xs. IfErr c.read.result (IsSuperReason xs c.args.uuid)) c.as_slice-bytes.ensures.value c.read.ensures.refused)
