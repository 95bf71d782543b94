use Rattle.std.proofs.Common.{◌≡◌, ◌*◌, ◌≤◌, take, length, subst, sym, ap, ◌∙◌, arith, rules}
use Rattle.object_format.specs.Layout.{front_sectors}
use Rattle.object_format.specs.Header.{IsObjectHeader}
use Rattle.object_format.specs.Object.{IsObject}
use Rattle.object_format.specs.Tests.{IsObjectReason}
use Rattle.object_format.specs.declared.rows_reading.RowsReadError.TheVariants.{Bad}
use Rattle.object_recovery.specs.declared.error.RecoverError.TheVariants.{BadObject}
use Rattle.object_recovery.specs.Read.{AreFirstOf, IsWhyNotRead}
use Rattle.object_recovery.proofs.ReadLemmas.{why_no_checkpoint, why_no_rows, read_as, longer_header}
use Rattle.object_recovery.proofs.reading.read_front.Goals as goal

pub returns-then-header-ne0-clause-bad : goal.returns-then-header-ne0-clause-bad
returns-then-header-ne0-clause-bad g c =
    let receipt = g.S.Receipt.Receipt.state c.args.receipt.now in
    subst (IsWhyNotRead receipt c.args.expected.now) (sym c.bad_object.ensures)
    (why_no_checkpoint receipt c.args.expected.now c.args.bytes.now.items c.args.header.now c.requires (search rules)
    (search rules))

pub read_rows-requires-clause-header : goal.read_rows-requires-clause-header
read_rows-requires-clause-header g c =
    let bytes = c.args.bytes.now.items in
    let kept = c.in_ok-read_up_to.ensures.kept in
    let same : take (length bytes) c.as_slice.result.now ≡ bytes = ap (take (length bytes)) c.as_slice.ensures.value ∙ kept in
    longer_header bytes c.as_slice.result.now c.len-size.result c.args.expected.now c.args.header.now c.requires.few same
    (subst (λ n. IsObjectHeader bytes n c.args.expected.now c.args.header.now) (sym c.len-size.ensures) c.requires.header_is)

pub returns-in-Ok-clause-ok : goal.returns-in-Ok-clause-ok
returns-in-Ok-clause-ok g c =
    let receipt = g.S.Receipt.Receipt.state c.args.receipt.now in
    let bytes = c.as_slice.result.now in
    read_as receipt c.args.expected.now bytes c.args.header.now c.in-Ok.rows
    (subst (AreFirstOf receipt.told) (sym c.as_slice.ensures.value) c.in_ok-read_up_to.ensures.first)
    (subst (λ n. IsObject bytes n c.args.expected.now c.args.header.now c.in-Ok.rows) c.len-size.ensures c.in-Ok.ensures.ok)

pub returns-in-Err-Bad-clause-bad : goal.returns-in-Err-Bad-clause-bad
returns-in-Err-Bad-clause-bad g c =
    let receipt = g.S.Receipt.Receipt.state c.args.receipt.now in
    let bytes = c.as_slice.result.now in
    let header = c.args.header.now in
    let reason = rw c.in-Err-Bad.field-0-is at c.in-Err-Bad.ensures in
    let long : 512 * front_sectors header ≤ length bytes =
    omega (arith, c.as_slice.ensures.len, c.in_ok-read_up_to.ensures.count, c.front_sectors.ensures) in
    let before = c.args.bytes.now.items in
    let same : take (length before) bytes ≡ before = ap (take (length before)) c.as_slice.ensures.value
    ∙ c.in_ok-read_up_to.ensures.kept in
    subst (IsWhyNotRead receipt c.args.expected.now) {x = BadObject c.args.expected.now.number c.in-Err-Bad.reason}
    (sym c.bad_object-in-Err-Bad.ensures)
    (why_no_rows receipt c.args.expected.now bytes header c.in-Err-Bad.reason
    (subst (AreFirstOf receipt.told) (sym c.as_slice.ensures.value) c.in_ok-read_up_to.ensures.first)
    (longer_header before bytes receipt.size c.args.expected.now header c.requires.few same c.requires.header_is) long
    (subst (λ n. IsObjectReason bytes n c.args.expected.now (Bad c.in-Err-Bad.reason)) c.len-size.ensures reason.refused))
