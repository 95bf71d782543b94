use Rattle.std.proofs.Common.{ℕ, ◌<◌, List, length, sym, ◌∙◌, arith}
use Rattle.std.proofs.lemmas.Bool.{both_ways}
use Rattle.vol_check.specs.Report.{own_object}
use Rattle.vol_check.specs.Steps.{Has}
use Rattle.vol_check.proofs.FilterLemmas.{pass, more, all}
use Rattle.vol_check.proofs.lists.unnamed_below.Goals.{then-number-below+then-not-has_own+in_ok-put_last, else-number-below}
use Rattle.vol_check.proofs.lists.unnamed_below.Goals.{else-number-below-via-then-number-below+else-not-has_own}
use Rattle.vol_check.proofs.lists.unnamed_below.Goals.{else-number-below-via-else-number-below}
use Rattle.vol_check.proofs.lists.unnamed_below.Goals as goal

pub loop-number-preserved : goal.loop-number-preserved
loop-number-preserved c =
    let numbers : List ℕ = c.args.numbers.now in
    let index : ℕ = c.loop-number.number-index in
    let list : List ℕ = c.loop-number.list.items in
    let Such : ℕ → Type 0 = λ number. (number < c.args.below) × (Has c.args.named.now (own_object number) → ⊥) in
    let inside : index < length numbers = c.loop-number-test.true in
    let before = c.loop-number.invariant in
    elim c.if-number-below.branch [
      | then-number-below+then-not-has_own+in_ok-put_last w ↦
          rw (w.list-is, w.in_ok-put_last.ensures)
          (more numbers c.requires Such index inside list before
          (w.if-number-below.true, λ has. both_ways w.has_own.result w.if-not-has_own.true (w.has_own.ensures ∙ has)))
      | else-number-below w ↦
          rw w.list-is (pass numbers c.requires Such index inside list before (elim w.else-number-below.branch [
            | else-number-below-via-then-number-below+else-not-has_own w' ↦
                λ such. such.1 (sym w'.has_own.ensures ∙ w'.if-not-has_own.false)
            | else-number-below-via-else-number-below w' ↦ λ such. omega (arith, such.0, w'.if-number-below.false)
          ]))
    ]

pub returns : goal.returns
returns c =
    let numbers : List ℕ = c.args.numbers.now in
    let Such : ℕ → Type 0 = λ number. (number < c.args.below) × (Has c.args.named.now (own_object number) → ⊥) in
    all numbers c.requires Such c.loop-number.number-index c.loop-number.list.items (omega arith) c.loop-number.invariant
