use Rattle.std.proofs.Common.{◌≡◌, ◌+◌, ◌-◌, ◌/◌, true, false, length, get_or, arith, refl, sym, subst, ◌∙◌}
use Rattle.std.proofs.lemmas.Fn.{says_at}
use Rattle.page_list.proofs.Halves.{halved_more, Halved}
use Rattle.page_list.proofs.Probes.{probed}
use Rattle.page_list.proofs.search.search.Goals as goal

pub loop-low-preserved-then-test : goal.loop-low-preserved-then-test
loop-low-preserved-then-test g c =
    let low = c.loop-low.low in
    let high = c.loop-low.high in
    let middle = low + (high - low) / 2 in
    let is : c.count.new.self - c.args.steps.now ≡ c.loop-low.steps - c.args.steps.now + 1 = omega arith in
    record {
      order = omega arith;
      bound = omega arith;
      passes = λ p d says some.
          let said = says c.index-xs-middle.result c.test.result (says_at g.F.Fn c.test.ensures refl) in
          probed c.args.xs.now (middle + 1 - 1) middle c.index-xs-middle.result d p true (omega arith) (omega arith)
          c.index-xs-middle.is (sym said ∙ c.if-test.true);
      fails = c.loop-low.invariant.fails;
      steps =
          subst (Halved (length c.args.xs.now) (high - (middle + 1))) (sym is)
          (halved_more (length c.args.xs.now) (high - low) (high - (middle + 1)) (c.loop-low.steps - c.args.steps.now)
          (omega arith) (omega arith) c.loop-low.invariant.steps);
      rises = omega arith;
    }

pub loop-low-preserved : goal.loop-low-preserved
loop-low-preserved g c =
    let low = c.loop-low.low in
    let high = c.loop-low.high in
    let middle = low + (high - low) / 2 in
    let is : c.count.new.self - c.args.steps.now ≡ c.loop-low.steps - c.args.steps.now + 1 = omega arith in
    record {
      order = omega arith;
      bound = omega arith;
      passes = c.loop-low.invariant.passes;
      fails = λ p d says some.
          let said = says c.index-xs-middle.result c.test.result (says_at g.F.Fn c.test.ensures refl) in
          probed c.args.xs.now middle middle c.index-xs-middle.result d p false refl some c.index-xs-middle.is (sym said
          ∙ c.if-test.false);
      steps =
          subst (Halved (length c.args.xs.now) (middle - low)) (sym is)
          (halved_more (length c.args.xs.now) (high - low) (middle - low) (c.loop-low.steps - c.args.steps.now) (omega arith)
          (omega arith) c.loop-low.invariant.steps);
      rises = omega arith;
    }

pub returns-clause-fails : goal.returns-clause-fails
returns-clause-fails g c p d says inside =
    let is : c.loop-low.high ≡ c.loop-low.low = omega arith in
    subst (λ i. p (get_or c.args.xs.now i d) ≡ false) is (c.loop-low.invariant.fails p d says (omega arith))
