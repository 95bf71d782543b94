use Rattle.std.proofs.Common.{subst, sym, arith}
use Rattle.object_format.specs.Header.{IsObjectHeader}
use Rattle.object_format.specs.Tests.{IsObjectRefusedAs}
use Rattle.object_recovery.specs.Read.{AreFirstOf, IsWhyNotRead, HasNoHeader}
use Rattle.object_recovery.proofs.ReadLemmas.{why_no_header, no_header}
use Rattle.object_recovery.proofs.reading.read_head.Goals as goal

pub returns-in-Err-clause-bad : goal.returns-in-Err-clause-bad
returns-in-Err-clause-bad g c =
    let receipt = g.S.Receipt.Receipt.state c.args.receipt.now in
    let expected = c.args.expected.now in
    let bytes = c.as_slice.result.now in
    let size = c.len-size.ensures in
    subst (IsWhyNotRead receipt expected) (sym c.bad_object.ensures)
    (why_no_header receipt expected bytes c.in-Err.reason
    (subst (AreFirstOf receipt.told) (sym c.as_slice.ensures.value) c.in_ok-read_up_to.ensures.first)
    (omega (arith, c.as_slice.ensures.len, c.in_ok-read_up_to.ensures.count, c.min.ensures, size))
    (g.met.S.Receipt.Receipt.told_whole c.args.receipt.now)
    (λ header is. c.in-Err.ensures.none header (subst (λ n. IsObjectHeader bytes n expected header) (sym size) is))
    (subst (λ n. IsObjectRefusedAs bytes n expected c.in-Err.reason) size c.in-Err.ensures.refused))

pub returns-in-Err-clause-none : goal.returns-in-Err-clause-none
returns-in-Err-clause-none g c =
    let receipt = g.S.Receipt.Receipt.state c.args.receipt.now in
    let expected = c.args.expected.now in
    let bytes = c.as_slice.result.now in
    let size = c.len-size.ensures in
    subst (HasNoHeader receipt expected) (sym c.bad_object.ensures)
    (no_header receipt expected bytes c.in-Err.reason
    (subst (AreFirstOf receipt.told) (sym c.as_slice.ensures.value) c.in_ok-read_up_to.ensures.first)
    (omega (arith, c.as_slice.ensures.len, c.in_ok-read_up_to.ensures.count, c.min.ensures, size))
    (g.met.S.Receipt.Receipt.told_whole c.args.receipt.now)
    (λ header is. c.in-Err.ensures.none header (subst (λ n. IsObjectHeader bytes n expected header) (sym size) is)))
