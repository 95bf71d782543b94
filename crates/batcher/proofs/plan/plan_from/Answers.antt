use Rattle.std.proofs.Common.{◌-◌, ◌≡◌, min, length, take, drop, ap, ◌∙◌, subst, arith, length-drop}
use Rattle.std.proofs.lemmas.List.{take_min}
use Rattle.batcher.specs.Batch.{max_entries}
use Rattle.batcher.specs.Plans.{IsPlanOf}
use Rattle.batcher.proofs.Fulls.{IsOffered, plan_offered, most_is_plan, offered_room}
use Rattle.batcher.proofs.plan.plan_from.Goals as goal

pub loop-index-preserved : goal.loop-index-preserved
loop-index-preserved c =
    let entry = c.index.result.now in
    let offered : IsOffered c.args.geometry.now.batch c.loop-index.plan entry c.offer.new.self =
    record { full = c.offer.ensures.full; put = c.offer.ensures.put } in
    record {
      planned = plan_offered c.args.geometry.now.batch c.args.entries.now.items c.args.from c.loop-index.index entry
          c.loop-index.plan c.offer.new.self
          c.loop-index.invariant.planned offered c.loop-index.auto.index (omega arith) c.index.ensures;
      room = omega (
        arith,
        c.loop-index.invariant.room,
        offered_room c.args.geometry.now.batch entry c.loop-index.plan
            c.offer.new.self offered,
      );
    }

pub returns-clause-plan : goal.returns-clause-plan
returns-clause-plan c =
    let rest = drop c.args.from c.args.entries.now.items in
    let all : c.loop-index.index - c.args.from ≡ min max_entries (length rest) =
    omega (arith, length-drop c.args.from c.args.entries.now.items, c.min-most.ensures, c.len.ensures, c.requires.from) in
    most_is_plan c.args.geometry.now.batch rest c.loop-index.plan
    (subst (λ list. IsPlanOf c.args.geometry.now.batch list c.loop-index.plan) (ap (λ n. take n rest) all
    ∙ take_min max_entries rest)
    c.loop-index.invariant.planned)
