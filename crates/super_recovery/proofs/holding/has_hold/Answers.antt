use Rattle.super_recovery.proofs.FrontLemmas.{told_hold}
use Rattle.super_recovery.proofs.holding.has_hold.Goals as goal

pub returns-clause-has : goal.returns-clause-has
returns-clause-has g c = λ tells.
    told_hold (g.S.Store.state c.args.store.now).objects c.args.uuid c.args.number c.hold.result c.in-Some.front
    c.is_hold.result c.hold.ensures.is (rw c.in-Some.is at (c.in_ok-front.ensures.read tells)) c.is_hold.ensures
