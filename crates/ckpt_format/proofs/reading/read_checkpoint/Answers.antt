use Rattle.std.proofs.Common.{arith}
use Rattle.std.proofs.lemmas.Bool.{both_ways}
use Rattle.std.proofs.lemmas.Result.{err_from_is_err_and}
use Rattle.ckpt_format.proofs.CheckpointLemmas.{refused_as_header, refused_as_rows, has_form, begins, is_begun}
use Rattle.ckpt_format.proofs.reading.read_checkpoint.Goals as goal

pub returns-in_err-header-clause-refused : goal.returns-in_err-header-clause-refused
returns-in_err-header-clause-refused c =
    let p = err_from_is_err_and c.from_residual.result c.from_residual.ensures.1 in
    rw (p.1, p.2)
    (refused_as_header c.args.bytes.now c.args.expected.now _ c.in_err-header.ensures.refused c.in_err-header.ensures.none)

pub returns-then-not-has_checkpoint_form-clause-none : goal.returns-then-not-has_checkpoint_form-clause-none
returns-then-not-has_checkpoint_form-clause-none c end_seq rows is =
    both_ways _ c.if-not-has_checkpoint_form.true
    (c.has_checkpoint_form.ensures.1
    (has_form c.args.bytes.now c.args.expected.now c.in_ok-header.header end_seq rows c.in_ok-header.ensures.ok is))

pub returns-then-not-has_checkpoint_form-clause-refused : goal.returns-then-not-has_checkpoint_form-clause-refused
returns-then-not-has_checkpoint_form-clause-refused c =
    refused_as_rows c.args.bytes.now c.args.expected.now c.in_ok-header.header c.in_ok-header.ensures.ok
    (λ end_seq rows is. both_ways _ c.if-not-has_checkpoint_form.true
    (c.has_checkpoint_form.ensures.1
    (has_form c.args.bytes.now c.args.expected.now c.in_ok-header.header end_seq rows c.in_ok-header.ensures.ok is)))

pub returns-clause-begun : goal.returns-clause-begun
returns-clause-begun c =
    let form = c.has_checkpoint_form.ensures.0 c.if-not-has_checkpoint_form.false in
    is_begun c.args.bytes.now c.args.expected.now c.in_ok-header.header
    (begins c.args.bytes.now c.args.expected.now c.in_ok-header.header (λ i. omega (arith, c.type_inv.bytes i))
    c.in_ok-header.ensures.ok form)
