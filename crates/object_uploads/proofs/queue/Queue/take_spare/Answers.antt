use Rattle.std.proofs.Common.{rules, false, true, ◌≡◌, sym, ◌∙◌, refl, subst, slice_index_or}
use Rattle.std.specs.Prelude.{IfSome}
use Rattle.object_uploads.specs.State.{QueueState}
use Rattle.object_uploads.specs.Queue.{with_spare}
use Rattle.object_uploads.specs.Invariant.{IsOpenAt}
use Rattle.object_uploads.proofs.QueueLemmas.{set_with, length-with, lent_has}
use Rattle.object_uploads.proofs.RoomLemmas.{kept_with}
use Rattle.object_uploads.proofs.QueueKept.{known_as}
use Rattle.object_uploads.proofs.OpenLemmas.{inside, lent_open, spare_there, some_is}
use Rattle.object_uploads.specs.Receipts.{AreSealedStates}
use Rattle.object_uploads.proofs.CopyImage.{all_with}
use Rattle.object_uploads.proofs.TellLemmas.{SealedIsSeen}
use Rattle.object_uploads.proofs.queue.Queue.take_spare.Goals as goal

pub unwrap-requires : goal.unwrap-requires
unwrap-requires g c =
    let opened = subst (λ (q : QueueState). IsOpenAt c.args.index q.sealed true) (sym c.self.view_is) c.requires in
    let low = inside c.args.index c.self.inside.sealed.items true opened in
    search rules

pub unwrap-requires-2 : goal.unwrap-requires-2
unwrap-requires-2 g c =
    let list = c.self.inside.sealed.items in
    let opened = subst (λ (q : QueueState). IsOpenAt c.args.index q.sealed true) (sym c.self.view_is) c.requires in
    let at = subst (λ r. IfSome r (λ x. x.now ≡ slice_index_or list c.args.index x.now)) c.unwrap.ensures
    c.get_mut.ensures.value in
    let there = spare_there c.unwrap.result.now (lent_open c.args.index list c.unwrap.result.now true opened at) in
    rw (c.take_spare.ensures.spare, there) refl

pub invariant_of-self : goal.invariant_of-self
invariant_of-self g c =
    let list = c.self.inside.sealed.items in
    let at = subst (λ r. IfSome r (λ x. x.now ≡ slice_index_or list c.args.index x.now)) c.unwrap.ensures
    c.get_mut.ensures.value in
    let set = set_with c.args.index (with_spare false) list c.unwrap.result.now c.take_spare.new.self at
    c.take_spare.ensures.taken in
    let before = c.self.invariant in
    let kept = kept_with c.args.index (with_spare false) list _ _ _ _ _ _ _ _ set (λ s. refl) before.0 before.1 before.3 before.4
    before.5 before.6 in
    let state = g.R.Receipt.state in (
      kept.0,
      kept.1,
      known_as _ _ before.2 refl refl refl refl,
      kept.2,
      kept.3,
      kept.4,
      kept.5,
      subst (AreSealedStates state) (sym set)
          (all_with (SealedIsSeen state) c.args.index (with_spare false) list (λ s is. is) before.7),
    )

pub returns-clause-bytes : goal.returns-clause-bytes
returns-clause-bytes g c =
    let list = c.self.inside.sealed.items in
    let opened = subst (λ (q : QueueState). IsOpenAt c.args.index q.sealed true) (sym c.self.view_is) c.requires in
    let low = inside c.args.index list true opened in
    let at = subst (λ r. IfSome r (λ x. x.now ≡ slice_index_or list c.args.index x.now)) c.unwrap.ensures
    c.get_mut.ensures.value in
    let there = spare_there c.unwrap.result.now (lent_open c.args.index list c.unwrap.result.now true opened at) in
    let same = some_is c.unwrap-2.result c.unwrap.result.now.bytes (sym c.unwrap-2.ensures
    ∙ (c.take_spare.ensures.spare ∙ there)) in
    rw (sym c.self.view_is) (lent_has c.args.index list c.unwrap.result.now c.unwrap-2.result low at same)

pub returns-clause-taken : goal.returns-clause-taken
returns-clause-taken g c =
    let list = c.self.inside.sealed.items in
    let at = subst (λ r. IfSome r (λ x. x.now ≡ slice_index_or list c.args.index x.now)) c.unwrap.ensures
    c.get_mut.ensures.value in
    let set = set_with c.args.index (with_spare false) list c.unwrap.result.now c.take_spare.new.self at
    c.take_spare.ensures.taken in
    rw (set, length-with c.args.index (with_spare false) list, sym c.self.view_is) refl
