use Rattle.std.proofs.Common.{inl, inr, ◌≡◌, ◌+◌, [], ◌∷◌, ◌++◌, take, sym, ◌∙◌, ap, subst, arith}
use Rattle.std.proofs.lemmas.Bool.{both_ways, cases_lt}
use Rattle.std.proofs.lemmas.List.{take_more, take_all}
use Rattle.object_recovery.specs.State.{IsGreatestNumber}
use Rattle.object_recovery.proofs.GreatestLemmas.{greatest_of_none, greatest_with, greatest_still}
use Rattle.object_recovery.proofs.removal.greatest_number.Goals.{then-is_past, else-is_past}
use Rattle.object_recovery.proofs.removal.greatest_number.Goals as goal

pub loop-name-init : goal.loop-name-init
loop-name-init c = greatest_of_none c.args.least

pub loop-name-preserved : goal.loop-name-preserved
loop-name-preserved c =
    let names = c.args.names.now in
    let index = c.loop-name.name-index in
    let name = c.name-item.result in
    let greatest = c.loop-name.greatest in
    let more : take (index + 1) names ≡ take index names ++ name ∷ [] =
    take_more names index name c.loop-name-test.true ∙ ap (λ n. take index names ++ n ∷ []) (sym c.name-item.is) in
    elim c.if-is_past.branch [
      | then-is_past w ↦
          rw w.greatest-is (subst (λ list. IsGreatestNumber list c.args.least name.number) (sym more)
          (greatest_with (take index names) name c.args.least greatest c.loop-name.invariant
          (c.is_past.ensures.0 w.if-is_past.true)))
      | else-is_past w ↦
          rw w.greatest-is (subst (λ list. IsGreatestNumber list c.args.least greatest) (sym more)
          (greatest_still (take index names) name c.args.least greatest c.loop-name.invariant (λ kind.
          elim (cases_lt greatest name.number) [
            | inl past ↦ absurd (both_ways _ w.if-is_past.false (c.is_past.ensures.1 (kind, past)))
            | inr low ↦ omega (arith, low)
          ])))
    ]

pub returns : goal.returns
returns c =
    let names = c.args.names.now in
    subst (λ list. IsGreatestNumber list c.args.least c.loop-name.greatest) (take_all c.loop-name.name-index names (omega arith))
    c.loop-name.invariant
