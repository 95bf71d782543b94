use Rattle.std.proofs.Common.{rules, tests}
use Rattle.std.proofs.lemmas.Iterator.{IsFirst-from_position, YieldsList-from_slice}
use Rattle.clone_chain.proofs.LevelLemmas.{HasUuid, HasOther, IsAnswer, search_found, search_none}
use Rattle.clone_chain.proofs.ancestor.place_of.Goals.{After-position}
use Rattle.clone_chain.proofs.ancestor.place_of.Goals as goal

answer : (c : After-position) → IsAnswer c.args.ancestors.now c.args.uuid c.position.result
answer c =
    IsFirst-from_position _ _ c.position.result (HasUuid c.args.uuid) (HasOther c.args.uuid) c.position.ensures.ran
    (YieldsList-from_slice c.args.ancestors.now cc) (λ x q k. search (rules, tests)) (λ x q k. search (rules, tests))

pub returns-clause-found : goal.returns-clause-found
returns-clause-found c = search_found c.args.ancestors.now c.args.uuid c.position.result (answer c)

pub returns-clause-none : goal.returns-clause-none
returns-clause-none c = search_none c.args.ancestors.now c.args.uuid c.position.result (answer c)
