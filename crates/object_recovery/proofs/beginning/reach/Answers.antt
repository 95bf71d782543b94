use Rattle.std.proofs.Common.{rules, ℕ, ◌+◌, max, Ok, Err, ◌∙◌, ap, get_or, set}
use Rattle.std.proofs.lemmas.List.Elements.{Contains-get_or}
use Rattle.std.proofs.lemmas.List.Sorted.{answers_always}
use Rattle.object_recovery.specs.Earlier.{EarlierObject}
use Rattle.object_recovery.proofs.EarlierLemmas.{searched, set_reached}
use Rattle.object_recovery.proofs.beginning.reach.Goals as goal

-- the closure gives an object's number
pub returns-in-Ok-clause-reached : goal.returns-in-Ok-clause-reached
returns-in-Ok-clause-reached g c = λ yes.
    let old = c.args.earlier.now in
    let place = c.args.row.now.place in
    let end = place.place + c.args.row.now.sectors in
    let at = c.in-Ok.at in
    let e = c.index-earlier-at.result in
    let by_number = c.in-Ok.ensures.position (λ o. o.number) (answers_always _ _ _ (λ f a r g called. search rules)) in
    let found = searched place.number old c.requires.order (Ok at) c.in-Ok.ensures.bound by_number in
    let reach_is = c.max-object-inside.ensures in
    let reached : ℕ → EarlierObject → EarlierObject = λ reach o. record o { reach = reach } in
    let same = ap (λ reach. reached reach (get_or old at e))
    (reach_is ∙ ap (λ (o : EarlierObject). max o.reach end) c.object.view_is)
    in
    let own = ap (reached c.max-object-inside.result) c.object.view_is in
    record {
      own = λ level. record {
        there = (get_or old at e, Contains-get_or old at e found.0, found.1 e);
        reached = ap (set old at) (own ∙ same) ∙ set_reached place.number end old at e c.requires.order found.0 (found.1 e);
      };
      other = λ other. absurd (other (search rules));
    }

pub returns-in-Err-clause-absent : goal.returns-in-Err-clause-absent
returns-in-Err-clause-absent g c = λ no.
    let old = c.args.earlier.now in
    let by_number = c.in-Err.ensures.position (λ o. o.number) (answers_always _ _ _ (λ f a r g called. search rules)) in
    searched c.args.row.now.place.number old c.requires.order (Err c.in-Err.field-0) c.in-Err.ensures.bound by_number
