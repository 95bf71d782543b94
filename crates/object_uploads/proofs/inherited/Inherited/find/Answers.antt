use Rattle.std.proofs.Common.{rules, List, Ok, Err, sym, ◌∙◌, ap, subst}
use Rattle.std.specs.Prelude.{find}
use Rattle.std.proofs.lemmas.Fn.{always_returns_same}
use Rattle.object_stream.specs.declared.owner.Owner.{Owner}
use Rattle.object_uploads.specs.State.{InheritedObject}
use Rattle.object_uploads.specs.Queue.{is_of_owner}
use Rattle.object_uploads.specs.Order.{AreAscending}
use Rattle.object_uploads.proofs.InheritedLemmas.{ranks, searched, lent_is}
use Rattle.object_uploads.proofs.inherited.Inherited.find.Goals as goal

-- the closure gives an object's rank
pub returns-in-Ok : goal.returns-in-Ok
returns-in-Ok g c =
    let owner : Owner = record { level = c.args.level; number = c.args.number } in
    let order = subst AreAscending (sym c.deref.ensures.value) c.self.invariant.0 in
    let by_rank = c.in-Ok.ensures.position (ranks owner) (always_returns_same _ _ _ (λ a r f' k. search rules)) in
    let found = searched owner c.deref.result.now order (Ok c.in-Ok.at) c.in-Ok.ensures.bound by_rank c.index.result.now in
    lent_is owner c.in-Ok.at c.self.inside.list.items c.deref.result.now c.index.result.now c.deref.ensures.value c.index.ensures
    found
    ∙ ap (λ (list : List InheritedObject). find (is_of_owner owner) list) c.self.view_is

pub returns-in-Err : goal.returns-in-Err
returns-in-Err g c =
    let owner : Owner = record { level = c.args.level; number = c.args.number } in
    let order = subst AreAscending (sym c.deref.ensures.value) c.self.invariant.0 in
    let by_rank = c.in-Err.ensures.position (ranks owner) (always_returns_same _ _ _ (λ a r f' k. search rules)) in
    let none = searched owner c.deref.result.now order (Err c.in-Err.field-0) c.in-Err.ensures.bound by_rank in
    sym none ∙ (ap (λ (list : List InheritedObject). find (is_of_owner owner) list) c.deref.ensures.value
    ∙ ap (λ (list : List InheritedObject). find (is_of_owner owner) list) c.self.view_is)
