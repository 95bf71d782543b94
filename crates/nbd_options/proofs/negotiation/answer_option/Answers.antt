use Rattle.std.proofs.Common.{sym, ◌∙◌}
use Rattle.std.proofs.lemmas.Result.{err_from_is_err_and}
use Rattle.nbd_options.proofs.OptionLemmas.{head_broken, data_broken, has_read, answer_broken, is_answered}
use Rattle.nbd_options.proofs.negotiation.answer_option.Goals as goal

pub returns-in_err-head-clause-bytes : goal.returns-in_err-head-clause-bytes
returns-in_err-head-clause-bytes g c =
    let p = err_from_is_err_and c.from_residual.result c.from_residual.ensures.1 in
    rw (p.1, p.2) (head_broken c.args.export.now c.args.zeroes _ _ _ _ c.in_err-head.field-0.0 c.in_err-head.ensures.bytes
    (sym (g.met.K.Link.one_output c.read_option_head.new.link) ∙ c.read_option_head.ensures.other
    ∙ g.met.K.Link.one_output c.args.link.now))

pub returns-in_err-answer-clause-bytes : goal.returns-in_err-answer-clause-bytes
returns-in_err-answer-clause-bytes g c =
    let p = err_from_is_err_and c.from_residual-in_err-answer.result c.from_residual-in_err-answer.ensures.1 in
    let head = c.in_ok-head.ensures.bytes in
    rw (p.1, p.2) (data_broken c.args.export.now c.args.zeroes _ _ _ _ _ head.0 c.in_ok-head.head head.1 head.2
    c.in_err-answer.field-0.0
    c.in_err-answer.ensures.bytes
    (sym (g.met.K.Link.one_output c.read_to_answer.new.link) ∙ c.read_to_answer.ensures.other ∙ c.read_option_head.ensures.other
    ∙ g.met.K.Link.one_output c.args.link.now))

pub returns-in_err-write_answer-clause-bytes : goal.returns-in_err-write_answer-clause-bytes
returns-in_err-write_answer-clause-bytes g c =
    let p = err_from_is_err_and c.from_residual-in_err-write_answer.result c.from_residual-in_err-write_answer.ensures.1 in
    let read = has_read c.args.export.now _ _ _ (g.K.Source.remaining c.write_answer.new.link) c.in_ok-head.head
    c.in_ok-answer.answer
    c.in_ok-head.ensures.bytes c.in_ok-answer.ensures.bytes
    (sym (g.met.K.Link.one_input c.write_answer.new.link) ∙ c.write_answer.ensures.other
    ∙ g.met.K.Link.one_input c.read_to_answer.new.link) in
    rw (p.1, p.2) (answer_broken c.args.export.now c.args.zeroes _ _ _ _ _ c.in_ok-head.head.option c.in_ok-answer.answer
    c.in_err-write_answer.field-0.0 read
    (sym (g.met.K.Link.one_output c.read_to_answer.new.link) ∙ c.read_to_answer.ensures.other ∙ c.read_option_head.ensures.other
    ∙ g.met.K.Link.one_output c.args.link.now)
    c.in_err-write_answer.ensures.bytes)

pub returns-clause-bytes : goal.returns-clause-bytes
returns-clause-bytes g c =
    let read = has_read c.args.export.now _ _ _ (g.K.Source.remaining c.write_answer.new.link) c.in_ok-head.head
    c.in_ok-answer.answer
    c.in_ok-head.ensures.bytes c.in_ok-answer.ensures.bytes
    (sym (g.met.K.Link.one_input c.write_answer.new.link) ∙ c.write_answer.ensures.other
    ∙ g.met.K.Link.one_input c.read_to_answer.new.link) in
    is_answered c.args.export.now c.args.zeroes _ _ _ _ _ c.in_ok-head.head.option c.in_ok-answer.answer read
    (sym (g.met.K.Link.one_output c.read_to_answer.new.link) ∙ c.read_to_answer.ensures.other ∙ c.read_option_head.ensures.other
    ∙ g.met.K.Link.one_output c.args.link.now)
    c.in_ok-write_answer.ensures.bytes
