use Rattle.std.specs.Prelude.{IfSome}
use Rattle.super_recovery.specs.Faults.{of_read}
use Rattle.super_recovery.specs.Found.{IsWhyVolumeRefused}
use Rattle.super_recovery.proofs.FindLemmas.{told_absent}
use Rattle.super_recovery.proofs.FrontLemmas.{told_says, told_why_not}
use Rattle.super_recovery.proofs.Results.{passed_on}
use Rattle.super_recovery.proofs.finding.find_super.Goals as goal

pub returns-in_default-clause-why : goal.returns-in_default-clause-why
returns-in_default-clause-why g c = λ tells.
    told_absent (g.S.Store.state c.args.store.now).objects c.args.uuid c.super_of.result 408 c.super_of.ensures.is
    (rw c.in_default.is at (c.in_ok-front.ensures.read tells))

pub returns-in_err-volume-clause-why : goal.returns-in_err-volume-clause-why
returns-in_err-volume-clause-why g c = λ tells.
    let told = (g.S.Store.state c.args.store.now).objects in
    let error = c.in_err-volume.field-0.0 in
    passed_on (λ e. IfSome told (λ objects. IsWhyVolumeRefused c.args.uuid objects e)) c.from_residual-in_err-volume.result
    (of_read error) c.from_residual-in_err-volume.ensures.1
    (told_why_not told c.args.uuid c.super_of.result c.in-Some.front error c.super_of.ensures.is
    (rw c.in-Some.is at (c.in_ok-front.ensures.read tells)) c.in_err-volume.ensures.why)

pub returns-clause-says : goal.returns-clause-says
returns-clause-says g c = λ tells.
    told_says (g.S.Store.state c.args.store.now).objects c.args.uuid c.super_of.result c.in-Some.front c.in_ok-volume.volume
    c.super_of.ensures.is (rw c.in-Some.is at (c.in_ok-front.ensures.read tells)) c.in_ok-volume.ensures.says
