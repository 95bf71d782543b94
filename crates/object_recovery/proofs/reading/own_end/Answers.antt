use Rattle.std.proofs.Common.{subst, sym, rules}
use Rattle.object_format.specs.Header.{IsObjectHeader}
use Rattle.stopped_volume.specs.Expected.{expected_alone}
use Rattle.object_recovery.specs.Read.{IsReadOf}
use Rattle.object_recovery.proofs.EndLemmas.{other_reason, headless, end_alone, bad_alone, head_read}
use Rattle.object_recovery.proofs.reading.own_end.Goals as goal
use Rattle.object_recovery.proofs.reading.own_end.Goals.{in-Whole, in-Bad}

pub returns-then-ne-clause-end : goal.returns-then-ne-clause-end
returns-then-ne-clause-end g c =
    other_reason (g.S.Receipt.Receipt.state c.args.receipt.now) c.args.expected.now c.args.reason (search rules)
    c.requires.refused

pub returns-in_default-clause-end : goal.returns-in_default-clause-end
returns-in_default-clause-end g c =
    let receipt = g.S.Receipt.Receipt.state c.args.receipt.now in
    let expected = c.args.expected.now in
    headless receipt expected c.as_slice.result.now (head_read receipt c.args.bytes.now.items c.as_slice.result.now
    (sym c.as_slice.ensures.value) c.requires.head)
    (g.met.S.Receipt.Receipt.told_whole c.args.receipt.now)
    (λ header is. c.in_default.ensures.none header
    (subst (λ n. IsObjectHeader c.as_slice.result.now n (expected_alone expected expected.number) header) (sym c.len.ensures) is))

pub returns-clause-end : goal.returns-clause-end
returns-clause-end g c =
    let receipt = g.S.Receipt.Receipt.state c.args.receipt.now in
    let expected = c.args.expected.now in
    let IsRead = IsReadOf receipt (expected_alone expected expected.number) in
    elim c.match-branch-2.branch [
      | in-Whole w ↦ rw w.result-is (end_alone receipt expected w.in-Whole.rows w.in-Whole.end
          (subst IsRead w.in-Whole.is c.in_ok-end.ensures.read))
      | in-Bad w ↦ rw w.result-is (bad_alone receipt expected _ _ (subst IsRead w.in-Bad.is c.in_ok-end.ensures.read))
    ]
