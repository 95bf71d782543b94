use Rattle.std.proofs.Common.{◌≡◌, ◌<◌, ◌++◌, [], ◌∷◌, IsTrue, length, take, get_or, refl, sym, ◌∙◌, ap, subst, arith, rules}
use Rattle.std.proofs.lemmas.Bool.{false≢true}
use Rattle.std.proofs.lemmas.List.{get_or-map, map_more, take_all}
use Rattle.gc_copier.specs.Plan.{seen, all_seen}
use Rattle.gc_copier.proofs.source.are_same.Goals as goal

pub loop-index-init : goal.loop-index-init
loop-index-init g c = refl

pub returns-then-not-is_same : goal.returns-then-not-is_same
returns-then-not-is_same g c =
    let state = g.R.Receipt.state in
    let sources = c.args.sources.now in
    let others = c.args.others.now in
    let at = c.loop-index.index in
    let mine = c.index-sources-index.result in
    let its = c.index-others-index.result in
    let inside : at < length others = omega (arith, c.loop-index-test.true, c.if-sources-others.false) in (
      λ no. absurd (false≢true no),
      λ same. subst IsTrue c.if-not-is_same.true (c.is_same.ensures.1 (
          ap (seen state) c.index-sources-index.is
          ∙ sym (get_or-map (seen state) sources at mine (seen state mine) c.loop-index-test.true)
          ∙ ap (λ all. get_or all at (seen state mine)) same
          ∙ get_or-map (seen state) others at its (seen state mine) inside
          ∙ ap (seen state) (sym c.index-others-index.is)
          )),
    )

pub loop-index-preserved : goal.loop-index-preserved
loop-index-preserved g c =
    let state = g.R.Receipt.state in
    let sources = c.args.sources.now in
    let others = c.args.others.now in
    let at = c.loop-index.index in
    let mine = c.index-sources-index.result in
    let its = c.index-others-index.result in
    let inside : at < length others = omega (arith, c.loop-index-test.true, c.if-sources-others.false) in
    let one : seen state (get_or sources at mine) ≡ seen state (get_or others at its) =
    ap (seen state) (sym c.index-sources-index.is) ∙ c.is_same.ensures.0 c.if-not-is_same.false
    ∙ ap (seen state) c.index-others-index.is in
    map_more (seen state) sources at mine c.loop-index-test.true
    ∙ ap (λ all. all ++ seen state (get_or sources at mine) ∷ []) c.loop-index.invariant
    ∙ ap (λ last. all_seen state (take at others) ++ last ∷ []) one
    ∙ sym (map_more (seen state) others at its inside)

pub returns : goal.returns
returns g c =
    let state = g.R.Receipt.state in
    let sources = c.args.sources.now in
    let others = c.args.others.now in
    let at = c.loop-index.index in (
      λ yes. ap (all_seen state) (sym (take_all at sources (search rules))) ∙ c.loop-index.invariant
          ∙ ap (all_seen state) (take_all at others (search rules)),
      λ same. refl,
    )
