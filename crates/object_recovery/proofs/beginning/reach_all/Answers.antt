use Rattle.std.proofs.Common.{◌≡◌, ◌++◌, ◌∷◌, [], None, Ok, sym, subst, ap, ◌∙◌}
use Rattle.ckpt_format.specs.Reading.{CheckpointReading}
use Rattle.object_recovery.specs.Earlier.{ReachAll, NamesNone}
use Rattle.object_recovery.proofs.EarlierLemmas.{ascend_same, same_if_own, none_same, reach_more, names_none}
use Rattle.object_recovery.proofs.RowLemmas.{last_stands_so}
use Rattle.object_recovery.proofs.MappedLemmas.{given_more, all_given}
use Rattle.object_recovery.proofs.beginning.reach_all.Goals as goal

pub reach-requires-clause-order : goal.reach-requires-clause-order
reach-requires-clause-order g c =
    ascend_same c.args.earlier.now c.loop-row.earlier c.loop-row.invariant.same c.requires.order

pub reach-requires-clause-inside : goal.reach-requires-clause-inside
reach-requires-clause-inside g c =
    let gives = rw c.in-Ok-Some.field-0-is at c.in-Ok-Some.ensures.gives in
    (last_stands_so c.loop-row.rows.expected c.loop-row.rows.given c.in-Ok-Some.row gives.spelling).in_payload

pub returns-then-not-reach-clause-missing : goal.returns-then-not-reach-clause-missing
returns-then-not-reach-clause-missing g c = λ end rows is.
    let before = c.loop-row.invariant in
    let gives = rw c.in-Ok-Some.field-0-is at c.in-Ok-Some.ensures.gives in
    let given = c.loop-row.rows.given in
    let rest = c.next_row.new.self.rest in
    let row = c.in-Ok-Some.row in
    let all = given_more rows given c.loop-row.rows.rest rest row gives.first (before.rest end rows is) in
    let some = (last_stands_so c.loop-row.rows.expected given row gives.spelling).some in
    subst (λ list. NamesNone list c.args.earlier.now row.place.number) (sym all)
    (names_none given rest row c.args.earlier.now gives.spelling.shortest some (c.reach.ensures.own c.if-not-reach.true)
    (none_same c.args.earlier.now c.loop-row.earlier row.place.number before.same (c.reach.ensures.absent c.if-not-reach.true)))

pub loop-row-preserved : goal.loop-row-preserved
loop-row-preserved g c =
    let before = c.loop-row.invariant in
    let gives = rw c.in-Ok-Some.field-0-is at c.in-Ok-Some.ensures.gives in
    let old = c.loop-row.rows in
    let new = c.next_row.new.self in
    let row = c.in-Ok-Some.row in
    let given : new.given ≡ old.given ++ row ∷ [] = ap (λ (r : CheckpointReading). r.given) gives.after in
    let reached = c.reach.ensures.reached c.if-not-reach.false in
    let some = (last_stands_so old.expected old.given row gives.spelling).some in
    record {
      object = ap (λ (r : CheckpointReading). r.object) gives.after ∙ before.object;
      expected = ap (λ (r : CheckpointReading). r.expected) gives.after ∙ before.expected;
      rest = λ end rows is.
          given_more rows old.given old.rest new.rest row gives.first (before.rest end rows is)
          ∙ ap (λ list. list ++ new.rest) (sym given);
      same =
          same_if_own row c.loop-row.earlier c.reach.new.earlier reached ∙ before.same;
      reach =
          subst (λ list. ReachAll list c.reach.new.earlier) (sym given)
          (reach_more old.given row c.loop-row.earlier c.reach.new.earlier gives.spelling.shortest some reached before.reach);
    }

pub returns-in_default-next_row-clause-all : goal.returns-in_default-next_row-clause-all
returns-in_default-next_row-clause-all g c = λ end rows is.
    let before = c.loop-row.invariant in
    let result : c.next_row.result ≡ Ok None = cc in
    let ends = rw result at c.next_row.ensures.gives in
    let all = all_given rows c.loop-row.rows.given c.loop-row.rows.rest ends.none (before.rest end rows is) in
    subst (λ list. ReachAll list c.loop-row.earlier) (sym all) before.reach
