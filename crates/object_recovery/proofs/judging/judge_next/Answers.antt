use Rattle.object_recovery.proofs.JudgeLemmas.{told_next}
use Rattle.object_recovery.proofs.judging.judge_next.Goals as goal

pub returns-clause-judged : goal.returns-clause-judged
returns-clause-judged g c = λ tells.
    told_next (g.S.Store.state c.args.store.now).objects c.args.volume.now c.args.reached.now c.in-Some.judged
    c.refused_with.result
    c.requires c.refused_with.ensures ((rw c.in-Some.is at c.in_ok-judged.ensures.judged) tells)
