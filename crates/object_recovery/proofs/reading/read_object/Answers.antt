use Rattle.std.proofs.Common.{subst, sym, arith}
use Rattle.object_format.specs.Header.{IsObjectHeader}
use Rattle.object_format.specs.Tests.{IsObjectRefusedAs}
use Rattle.object_recovery.specs.Read.{AreFirstOf}
use Rattle.object_recovery.proofs.ReadLemmas.{why_no_header}
use Rattle.object_recovery.proofs.reading.read_object.Goals as goal

pub own_end-requires-clause-refused : goal.own_end-requires-clause-refused
own_end-requires-clause-refused g c =
    let receipt = g.S.Receipt.Receipt.state c.args.receipt.now in
    let expected = c.args.expected.now in
    let bytes = c.as_slice.result.now in
    let size = c.len-size.ensures in
    let why = why_no_header receipt expected bytes c.in-Err.reason
    (subst (AreFirstOf receipt.told) (sym c.as_slice.ensures.value) c.in_ok-read_up_to.ensures.first)
    (omega (arith, c.as_slice.ensures.len, c.in_ok-read_up_to.ensures.count, c.min.ensures, size))
    (g.met.S.Receipt.Receipt.told_whole c.args.receipt.now)
    (λ header is. c.in-Err.ensures.none header (subst (λ n. IsObjectHeader bytes n expected header) (sym size) is))
    (subst (λ n. IsObjectRefusedAs bytes n expected c.in-Err.reason) size c.in-Err.ensures.refused) in
    why.1

pub returns-clause-read : goal.returns-clause-read
returns-clause-read g c =
    let receipt = g.S.Receipt.Receipt.state c.args.receipt.now in
    let expected = c.args.expected.now in
    let bytes = c.as_slice.result.now in
    let size = c.len-size.ensures in
    let why = why_no_header receipt expected bytes c.in-Err.reason
    (subst (AreFirstOf receipt.told) (sym c.as_slice.ensures.value) c.in_ok-read_up_to.ensures.first)
    (omega (arith, c.as_slice.ensures.len, c.in_ok-read_up_to.ensures.count, c.min.ensures, size))
    (g.met.S.Receipt.Receipt.told_whole c.args.receipt.now)
    (λ header is. c.in-Err.ensures.none header (subst (λ n. IsObjectHeader bytes n expected header) (sym size) is))
    (subst (λ n. IsObjectRefusedAs bytes n expected c.in-Err.reason) size c.in-Err.ensures.refused) in
    (why.1, c.in_ok-end-in-Err.ensures.end)
