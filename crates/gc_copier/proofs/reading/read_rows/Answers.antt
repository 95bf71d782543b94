use Rattle.std.proofs.Common.{◌≡◌, ◌-◌, ◌≤◌, ◌∙◌, length, take, drop, sym, subst, rules, arith}
use Rattle.std.proofs.lemmas.List.{nil_from_length, length-take, length-drop}
use Rattle.std.proofs.lemmas.Result.{err_from_is_err_and}
use Rattle.gc_copier.specs.Plan.{all_seen}
use Rattle.gc_copier.specs.Runs.{Fills}
use Rattle.gc_copier.proofs.AskLemmas.{asks_none, asks_both, asks_fewer}
use Rattle.gc_copier.proofs.FillLemmas.{fills_none}
use Rattle.gc_copier.proofs.FrontLemmas.{fills_rest, can_read_rest}
use Rattle.gc_copier.proofs.reading.read_rows.Goals as goal

pub loop-rest-init : goal.loop-rest-init
loop-rest-init g c = record {
  rows = c.requires.rows;
  within = omega arith;
  scratch = c.requires.scratch;
  then_all = λ new fills. fills;
  asks = asks_none _ _ _ _;
}

pub loop-rest-preserved : goal.loop-rest-preserved
loop-rest-preserved g c =
    let sources = all_seen g.S.Receipt.Receipt.state c.args.sources.now in
    let before = c.loop-rest.invariant in
    let rest = c.loop-rest.rest.now in
    let count = c.in_ok-count.count in
    let fits = before.within in
    let some = c.in_ok-count.ensures.some in
    let most = c.in_ok-count.ensures.most in
    let left : length (take (length rest - count) (drop count rest)) ≡ length rest - count =
    length-take (length rest - count) (drop count rest) ∙ (let size = length-drop count rest in omega (arith, size)) in
    record {
      rows = can_read_rest sources (length c.loop-rest.payload) (length c.read_front.new.payload) rest count
          c.read_front.auto.payload before.rows;
      within = omega (arith, fits, left);
      scratch = c.read_front.auto.scratch ∙ before.scratch;
      then_all = λ new fills. before.then_all new
          (fills_rest sources rest count c.loop-rest.payload c.read_front.new.payload new c.in_ok-count.ensures.read fills);
      asks = asks_both sources _ 1 _ _ _ _ _ _ _ _ (omega (arith, fits, left, some, most)) before.asks c.in_ok-count.ensures.asks;
    }

pub returns-in_err-count-clause-failed : goal.returns-in_err-count-clause-failed
returns-in_err-count-clause-failed g c =
    let p = err_from_is_err_and c.from_residual.result c.from_residual.ensures.1 in
    rw (p.1, p.2) c.in_err-count.ensures.failed

pub returns-in_err-count-clause-asks : goal.returns-in_err-count-clause-asks
returns-in_err-count-clause-asks g c =
    let p = err_from_is_err_and c.from_residual.result c.from_residual.ensures.1 in
    let fits = c.loop-rest.invariant.within in
    let some : 1 ≤ length c.loop-rest.rest.now = search rules in
    rw (p.1, p.2)
    (asks_both (all_seen g.S.Receipt.Receipt.state c.args.sources.now) _ 1 _ _ _ _ _ _ _ _ (omega (arith, fits, some))
    c.loop-rest.invariant.asks c.in_err-count.ensures.asks)

pub returns-clause-read : goal.returns-clause-read
returns-clause-read g c =
    let sources = all_seen g.S.Receipt.Receipt.state c.args.sources.now in
    let rest = c.loop-rest.rest.now in
    let payload = c.loop-rest.payload in
    let none : length rest ≡ 0 = search rules in
    c.loop-rest.invariant.then_all payload
    (subst (λ rows. Fills sources rows payload payload) (sym (nil_from_length rest none)) (fills_none sources payload))

pub returns-clause-asks : goal.returns-clause-asks
returns-clause-asks g c = asks_fewer _ _ _ _ _ _ _ _ (omega arith) c.loop-rest.invariant.asks
