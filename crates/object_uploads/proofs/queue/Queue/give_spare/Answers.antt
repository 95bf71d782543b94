use Rattle.std.proofs.Common.{rules, true, ◌≡◌, ◌<◌, sym, refl, subst, length, slice_index_or}
use Rattle.std.specs.Prelude.{IfSome}
use Rattle.object_uploads.specs.State.{QueueState}
use Rattle.object_uploads.specs.Queue.{with_spare, HasBytesAt}
use Rattle.object_uploads.proofs.QueueLemmas.{set_with, length-with, bytes_of_lent}
use Rattle.object_uploads.proofs.RoomLemmas.{kept_with}
use Rattle.object_uploads.proofs.QueueKept.{known_as}
use Rattle.object_uploads.specs.Receipts.{AreSealedStates}
use Rattle.object_uploads.proofs.CopyImage.{all_with}
use Rattle.object_uploads.proofs.TellLemmas.{SealedIsSeen}
use Rattle.object_uploads.proofs.queue.Queue.give_spare.Goals as goal

pub unwrap-requires : goal.unwrap-requires
unwrap-requires g c =
    let low = subst (λ (q : QueueState). c.args.index < length q.sealed) (sym c.self.view_is) c.requires.inside in
    search rules

pub give_spare-requires : goal.give_spare-requires
give_spare-requires g c =
    let list = c.self.inside.sealed.items in
    let low = subst (λ (q : QueueState). c.args.index < length q.sealed) (sym c.self.view_is) c.requires.inside in
    let has = subst (λ (q : QueueState). HasBytesAt c.args.index q.sealed c.args.bytes) (sym c.self.view_is) c.requires.bytes in
    let at = subst (λ r. IfSome r (λ x. x.now ≡ slice_index_or list c.args.index x.now)) c.unwrap.ensures
    c.get_mut.ensures.value in
    bytes_of_lent c.args.index list c.unwrap.result.now c.args.bytes low at has

pub invariant_of-self : goal.invariant_of-self
invariant_of-self g c =
    let list = c.self.inside.sealed.items in
    let at = subst (λ r. IfSome r (λ x. x.now ≡ slice_index_or list c.args.index x.now)) c.unwrap.ensures
    c.get_mut.ensures.value in
    let set = set_with c.args.index (with_spare true) list c.unwrap.result.now c.give_spare.new.self at c.give_spare.ensures in
    let before = c.self.invariant in
    let kept = kept_with c.args.index (with_spare true) list _ _ _ _ _ _ _ _ set (λ s. refl) before.0 before.1 before.3 before.4
    before.5 before.6 in
    let state = g.R.Receipt.state in (
      kept.0,
      kept.1,
      known_as _ _ before.2 refl refl refl refl,
      kept.2,
      kept.3,
      kept.4,
      kept.5,
      subst (AreSealedStates state) (sym set)
          (all_with (SealedIsSeen state) c.args.index (with_spare true) list (λ s is. is) before.7),
    )

pub returns : goal.returns
returns g c =
    let list = c.self.inside.sealed.items in
    let at = subst (λ r. IfSome r (λ x. x.now ≡ slice_index_or list c.args.index x.now)) c.unwrap.ensures
    c.get_mut.ensures.value in
    let set = set_with c.args.index (with_spare true) list c.unwrap.result.now c.give_spare.new.self at c.give_spare.ensures in
    rw (set, length-with c.args.index (with_spare true) list, sym c.self.view_is) refl
