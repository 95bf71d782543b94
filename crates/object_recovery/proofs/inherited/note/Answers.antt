use Rattle.std.proofs.Common.{rules, ◌≡◌, ℕ, Ok, Err, ◌∙◌, sym, ap, subst, get_or, set, refl}
use Rattle.std.proofs.lemmas.Fn.{always_returns_same}
use Rattle.object_recovery.specs.declared.inherited.Named.{Named}
use Rattle.object_recovery.specs.Inherited.{AreInOrder, named_by, IsNoted}
use Rattle.object_recovery.proofs.NamedLemmas.{IsPlaceOf, ranks, searched, noted_there, noted_new}
use Rattle.object_recovery.proofs.inherited.note.Goals as goal

-- the closure gives an object's rank
pub returns-in-Ok : goal.returns-in-Ok
returns-in-Ok c =
    let row = c.args.row.now in
    let list = c.args.named.now.items in
    let at = c.in-Ok.at in
    let was = c.index_mut-object.result.now in
    let level = row.place.level in
    let number = row.place.number in
    let order = subst AreInOrder (sym c.deref.ensures.value) c.requires.order in
    let by_rank = c.in-Ok.ensures.position (ranks level number) (always_returns_same _ _ _ (λ a r f' k. search rules)) in
    let found : IsPlaceOf level number list (Ok at) =
    subst (λ l. IsPlaceOf level number l (Ok at)) c.deref.ensures.value
    (searched level number c.deref.result.now order (Ok at) c.in-Ok.ensures.bound by_rank) in
    let there : get_or list at was ≡ was = sym c.index_mut-object.ensures.value in
    let its = found.1 was in
    let changed : ℕ → Named = λ reach. record { level = was.level; number = was.number; reach = reach } in
    subst (λ reach. IsNoted row list (set list at (changed reach))) (sym c.max-object.ensures)
    (noted_there row list c.requires.order at was found.0 there (ap (λ (n : Named). n.level) (sym there) ∙ its.0)
    (ap (λ (n : Named). n.number) (sym there) ∙ its.1))

pub returns-in_ok-insert-in-Err : goal.returns-in_ok-insert-in-Err
returns-in_ok-insert-in-Err c =
    let row = c.args.row.now in
    let list = c.args.named.now.items in
    let at = c.in-Err.at in
    let level = row.place.level in
    let number = row.place.number in
    let order = subst AreInOrder (sym c.deref.ensures.value) c.requires.order in
    let by_rank = c.in-Err.ensures.position (ranks level number) (always_returns_same _ _ _ (λ a r f' k. search rules)) in
    let found : IsPlaceOf level number list (Err at) =
    subst (λ l. IsPlaceOf level number l (Err at)) c.deref.ensures.value
    (searched level number c.deref.result.now order (Err at) c.in-Err.ensures.bound by_rank) in
    let between = found.1 (named_by row) refl refl in
    subst (IsNoted row list) (sym c.in_ok-insert-in-Err.ensures.items)
    (noted_new row list c.requires.order at found.0 between.0 between.1)
