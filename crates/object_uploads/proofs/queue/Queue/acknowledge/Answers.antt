use Rattle.std.proofs.Common.{rules, ◌≡◌, ◌<◌, sym, refl, subst, length, slice_index_or}
use Rattle.std.specs.Prelude.{IfSome}
use Rattle.object_uploads.specs.State.{QueueState}
use Rattle.object_uploads.specs.Queue.{with_receipt}
use Rattle.object_uploads.proofs.QueueLemmas.{set_with, length-with}
use Rattle.object_uploads.proofs.RoomLemmas.{kept_with}
use Rattle.object_uploads.proofs.QueueKept.{known_as}
use Rattle.object_uploads.specs.Receipts.{AreSealedStates}
use Rattle.object_uploads.proofs.TellLemmas.{seen_given}
use Rattle.object_uploads.proofs.queue.Queue.acknowledge.Goals as goal

pub unwrap-requires : goal.unwrap-requires
unwrap-requires g c =
    let low = subst (λ (q : QueueState). c.args.index < length q.sealed) (sym c.self.view_is) c.requires in
    search rules

pub invariant_of-self : goal.invariant_of-self
invariant_of-self g c =
    let list = c.self.inside.sealed.items in
    let at = subst (λ r. IfSome r (λ x. x.now ≡ slice_index_or list c.args.index x.now)) c.unwrap.ensures
    c.get_mut.ensures.value in
    let change = with_receipt (g.R.Receipt.state c.args.receipt) in
    let set = set_with c.args.index change list c.unwrap.result.now c.acknowledge.new.self at c.acknowledge.ensures in
    let before = c.self.invariant in
    let kept = kept_with c.args.index change list _ _ _ _ _ _ _ _ set (λ s. refl) before.0 before.1 before.3 before.4
    before.5 before.6 in
    let state = g.R.Receipt.state in (
      kept.0,
      kept.1,
      known_as _ _ before.2 refl refl refl refl,
      kept.2,
      kept.3,
      kept.4,
      kept.5,
      subst (AreSealedStates state) (sym set) (seen_given state c.args.index c.args.receipt list before.7),
    )

pub returns : goal.returns
returns g c =
    let list = c.self.inside.sealed.items in
    let at = subst (λ r. IfSome r (λ x. x.now ≡ slice_index_or list c.args.index x.now)) c.unwrap.ensures
    c.get_mut.ensures.value in
    let set = set_with c.args.index (with_receipt (g.R.Receipt.state c.args.receipt)) list c.unwrap.result.now
    c.acknowledge.new.self at c.acknowledge.ensures in
    rw (set, length-with c.args.index (with_receipt (g.R.Receipt.state c.args.receipt)) list, sym c.self.view_is) refl
