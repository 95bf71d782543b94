use Rattle.std.proofs.Common.{◌≡◌, ◌+◌, [], ◌∷◌, ◌++◌, take, sym, ◌∙◌, ap, subst, arith}
use Rattle.std.proofs.lemmas.List.{take_more, take_all}
use Rattle.super_recovery.specs.Found.{IsGreatestIn}
use Rattle.super_recovery.proofs.finding.greatest_epoch.Goals as goal

pub loop-name-preserved : goal.loop-name-preserved
loop-name-preserved c =
    let names = c.args.names.now in
    let index = c.loop-name.name-index in
    let name = c.name-item.result in
    let more : take (index + 1) names ≡ take index names ++ name ∷ [] =
    take_more names index name (omega arith) ∙ ap (λ n. take index names ++ n ∷ []) (sym c.name-item.is) in
    subst (λ list. IsGreatestIn list c.greatest_with-greatest.result) (sym more)
    (c.greatest_with-greatest.ensures (take index names) c.loop-name.invariant)

pub returns : goal.returns
returns c =
    let names = c.args.names.now in
    subst (λ list. IsGreatestIn list c.loop-name.greatest) (take_all c.loop-name.name-index names (omega arith))
    c.loop-name.invariant
