use Rattle.std.proofs.Common.{sym, ◌∙◌, arith}
use Rattle.std.proofs.lemmas.Bool.{false≢true}
use Rattle.clone_chain.proofs.LevelLemmas.{not_apart_if_some, apart_if_none}
use Rattle.clone_chain.proofs.ancestor.are_apart.Goals as goal

pub returns-then-is_some : goal.returns-then-is_some
returns-then-is_some c = (
  λ is. absurd (false≢true is),
  λ apart. absurd (not_apart_if_some c.args.ancestors.now c.loop-place.place c.index-ancestors-place.result c.place_of.result
      (omega (arith, c.loop-place-test.true)) c.index-ancestors-place.is c.place_of.ensures.found (sym c.is_some.ensures
      ∙ c.if-is_some.true) apart),
)

pub loop-place-preserved : goal.loop-place-preserved
loop-place-preserved c =
    apart_if_none c.args.ancestors.now c.loop-place.place c.index-ancestors-place.result c.place_of.result
    (omega (arith, c.loop-place-test.true)) c.index-ancestors-place.is c.place_of.ensures.none (sym c.is_some.ensures
    ∙ c.if-is_some.false)
    c.loop-place.invariant
