use Rattle.std.proofs.Common.{sym, ◌∙◌, arith, rules}
use Rattle.std.proofs.lemmas.Result.{err_from_is_err_and}
use Rattle.nbd_options.proofs.NegotiationLemmas.{none_answered, more_answered, last_answered, none_more, too_many, all_broken}
use Rattle.nbd_options.proofs.negotiation.answer_options.Goals as goal

pub loop-init : goal.loop-init
loop-init g c = record {
  answered = none_answered c.args.export.now c.in_ok-zeroes.zeroes _ _ _ _ (c.in_ok-zeroes.ensures.bytes c.args.export.now);
  none_failed = search rules;
}

pub returns-in_err-zeroes-clause-bytes : goal.returns-in_err-zeroes-clause-bytes
returns-in_err-zeroes-clause-bytes g c =
    let p = err_from_is_err_and c.from_residual.result c.from_residual.ensures.1 in
    rw (p.1, p.2) (c.in_err-zeroes.ensures.bytes c.args.export.now)

pub returns-in_err-answer-clause-bytes : goal.returns-in_err-answer-clause-bytes
returns-in_err-answer-clause-bytes g c =
    let p = err_from_is_err_and c.from_residual-in_err-answer.result c.from_residual-in_err-answer.ensures.1 in
    rw (p.1, p.2) (none_more c.args.export.now c.in_ok-zeroes.zeroes c.loop.counter _ _ _ _ _ _ c.in_err-answer.field-0.0
    c.loop-test.true
    c.loop.invariant.answered c.in_err-answer.ensures.bytes)

pub returns-in-Some-clause-bytes : goal.returns-in-Some-clause-bytes
returns-in-Some-clause-bytes g c =
    last_answered c.args.export.now c.in_ok-zeroes.zeroes c.loop.counter c.in_ok-answer.answer c.in-Some.end _ _ _ _ _ _
    c.loop-test.true
    c.loop.invariant.answered (sym c.in-Some.ensures) c.in_ok-answer.ensures.bytes

pub loop-preserved : goal.loop-preserved
loop-preserved g c = record {
  answered =
      more_answered c.args.export.now c.in_ok-zeroes.zeroes c.loop.counter c.in_ok-answer.answer _ _ _ _ _ _ c.loop-test.true
      c.loop.invariant.answered (sym c.in_default.ensures) c.in_ok-answer.ensures.bytes;
  none_failed = search rules;
}

pub returns-in_err-read_option_head-clause-bytes : goal.returns-in_err-read_option_head-clause-bytes
returns-in_err-read_option_head-clause-bytes g c =
    let p = err_from_is_err_and c.from_residual-in_err-read_option_head.result
    c.from_residual-in_err-read_option_head.ensures.1 in
    let answered = c.loop.invariant.answered in
    rw (p.1, p.2) (all_broken c.args.export.now answered.flags answered.exchanges _ _ _ _ _ _ c.in_err-read_option_head.field-0.0
    (omega (arith, answered.counted, c.loop-test.false)) answered.come c.in_err-read_option_head.ensures.bytes
    (sym (g.met.K.Link.one_output c.read_option_head.new.link) ∙ c.read_option_head.ensures.other
    ∙ g.met.K.Link.one_output c.loop.link))

pub returns-clause-bytes : goal.returns-clause-bytes
returns-clause-bytes g c =
    let answered = c.loop.invariant.answered in
    too_many c.args.export.now answered.flags answered.exchanges _ _ _ _ _ _ c.in_ok-read_option_head.field-0
    (omega (arith, answered.counted, c.loop-test.false)) answered.come c.in_ok-read_option_head.ensures.bytes
    (sym (g.met.K.Link.one_output c.read_option_head.new.link) ∙ c.read_option_head.ensures.other
    ∙ g.met.K.Link.one_output c.loop.link)
