use Rattle.std.proofs.Common.{◌≡◌, Some, sym, ap, refl, subst, arith}
use Rattle.object_uploads.specs.State.{QueueState}
use Rattle.object_uploads.specs.Invariant.{count_out}
use Rattle.object_uploads.proofs.QueueRemoved.{out_is_absent, known_back}
use Rattle.object_uploads.proofs.queue.Queue.remove_failed.Goals as goal

pub give_back-requires-clause-absent : goal.give_back-requires-clause-absent
give_back-requires-clause-absent g c =
    let out = subst (λ (q : QueueState). q.removal ≡ Some c.args.number) (sym c.self.view_is) c.requires in
    out_is_absent _ c.args.number c.self.invariant.2 out

pub invariant_of-self : goal.invariant_of-self
invariant_of-self g c =
    let before = c.self.invariant in
    let out = subst (λ (q : QueueState). q.removal ≡ Some c.args.number) (sym c.self.view_is) c.requires in (
      before.0,
      before.1,
      known_back _ _ c.args.number (g.R.Receipt.state c.args.receipt) before.2 out refl c.give_back.ensures.list refl refl,
      before.3,
      omega (arith, before.4, c.give_back.ensures.spare, ap count_out out),
      before.5,
      before.6,
      before.7,
    )

pub returns-clause-known : goal.returns-clause-known
returns-clause-known g c =
    let before = c.self.invariant in
    let out = subst (λ (q : QueueState). q.removal ≡ Some c.args.number) (sym c.self.view_is) c.requires in
    known_back _ _ c.args.number (g.R.Receipt.state c.args.receipt) before.2 out refl c.give_back.ensures.list refl refl
