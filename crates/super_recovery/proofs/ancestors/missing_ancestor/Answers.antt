use Rattle.std.proofs.Common.{List, ◌∙◌, subst, arith}
use Rattle.std.proofs.lemmas.List.{take_all}
use Rattle.std.specs.Prelude.{IfSome}
use Rattle.clone_chain.specs.declared.ancestor.Ancestor.{Ancestor}
use Rattle.stopped_volume.specs.Ancestors.{HasAncestors}
use Rattle.super_recovery.proofs.ancestors.missing_ancestor.Goals as goal

pub returns-clause-none : goal.returns-clause-none
returns-clause-none g c =
    let items : List Ancestor = c.ancestors-ancestor-items.result.now in
    subst (λ (list : List Ancestor). IfSome (g.S.Store.state c.args.store.now).objects (λ objects. HasAncestors objects list))
    (take_all c.loop-ancestor.ancestor-index items (omega arith) ∙ c.ancestors-ancestor-items.ensures.value)
    c.loop-ancestor.invariant.nearer
