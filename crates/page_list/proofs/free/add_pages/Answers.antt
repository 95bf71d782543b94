use Rattle.std.proofs.Common.{◌≡◌, ◌++◌, [], ◌∷◌, refl, le_refl, le_trans, ◌∙◌, arith}
use Rattle.std.proofs.lemmas.Result.{IfOk-from_err}
use Rattle.page_list.proofs.More.{one_empty_more}
use Rattle.page_list.proofs.free.add_pages.Goals as goal

pub loop-init : goal.loop-init
loop-init g c = (omega arith, refl, le_refl _)

pub returns-in_err-page : goal.returns-in_err-page
returns-in_err-page g c =
    let count = c.loop.invariant.0 in
    record {
      ok = IfOk-from_err c.from_residual.result _ c.from_residual.ensures.0;
      more = omega (arith, count);
      bound = omega (arith, count, c.loop-test.true);
      empty = c.loop.invariant.1;
      capacity = c.loop.invariant.2;
    }

pub loop-preserved : goal.loop-preserved
loop-preserved g c =
    let ok = c.push.ensures.succeeds
    (omega (arith, c.requires, c.loop.invariant.0, c.loop.invariant.2, c.loop.free.ok.0, c.loop-test.true)) in
    let pushed : c.push.new.self.items ≡ c.loop.free.items ++ c.in_ok-page.page ∷ [] = rw (c.push.ensures.items, ok) refl in
    let more = one_empty_more c.loop.free.items c.push.new.self.items c.in_ok-page.page pushed c.in_ok-page.ensures in (
      omega (arith, more.0, c.loop.invariant.0),
      more.1 ∙ c.loop.invariant.1,
      le_trans c.loop.invariant.2 c.push.ensures.capacity,
    )

pub returns : goal.returns
returns g c =
    let count = c.loop.invariant.0 in
    let all : c.loop.counter ≡ c.args.count = omega (arith, c.loop-test.false, c.loop.auto.counter-end) in
    record {
      ok = omega (arith, count, all);
      more = omega (arith, count);
      bound = omega (arith, count, all);
      empty = c.loop.invariant.1;
      capacity = c.loop.invariant.2;
    }
