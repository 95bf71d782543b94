use Rattle.std.proofs.Common.{List, ◌∷◌, sym, ◌∙◌, ap, subst, arith}
use Rattle.clone_chain.specs.declared.ancestor.Ancestor.{Ancestor}
use Rattle.clone_chain.specs.Chain.{IsNoAncestor, IsChain}
use Rattle.clone_chain.proofs.LevelLemmas.{chain_extended}
use Rattle.clone_chain.proofs.chain.Chain.extend.Goals as goal

pub invariant_of-result : goal.invariant_of-result
invariant_of-result c =
    let first : Ancestor = record { uuid = c.args.uuid; checkpoint = c.args.checkpoint } in
    let chain = c.self.inside.ancestors.items in
    let none = subst (λ (xs : List Ancestor). IsNoAncestor xs c.args.uuid) (sym c.self.view_is) c.requires in
    subst IsChain (sym (c.in_ok-ancestors.ensures ∙ ap (λ xs. first ∷ xs) c.as_slice.ensures.value))
    (chain_extended first chain none (omega (arith, c.self.invariant.few, c.len-count.ensures, c.if-count-eq-MAX_ANCESTORS.false))
    c.self.invariant)
