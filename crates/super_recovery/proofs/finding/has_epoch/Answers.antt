use Rattle.super_recovery.proofs.FrontLemmas.{told_epoch}
use Rattle.super_recovery.proofs.finding.has_epoch.Goals as goal

pub returns-clause-has : goal.returns-clause-has
returns-clause-has g c = λ tells.
    told_epoch (g.S.Store.state c.args.store.now).objects c.args.uuid c.args.number c.epoch.result c.in-Some.front
    c.is_epoch.result c.epoch.ensures.is (rw c.in-Some.is at (c.in_ok-front.ensures.read tells)) c.is_epoch.ensures
