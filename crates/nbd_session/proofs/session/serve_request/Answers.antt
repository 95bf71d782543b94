use Rattle.std.proofs.Common.{sym, ◌∙◌, rules}
use Rattle.std.proofs.lemmas.Result.{err_from_is_err_and}
use Rattle.nbd_session.proofs.RequestLemmas.{head_broken, data_broken, has_read, is_asked_at, disconnects, is_carried_out}
use Rattle.nbd_session.proofs.RequestLemmas.{replied, reply_broken}
use Rattle.nbd_session.proofs.session.serve_request.Goals as goal

pub returns-in_err-request-clause-serves : goal.returns-in_err-request-clause-serves
returns-in_err-request-clause-serves g c =
    let p = err_from_is_err_and c.from_residual.result c.from_residual.ensures.1 in
    rw (p.1, p.2) (head_broken g.B.BlockDevice.io _ _ _ c.in_err-request.field-0.0 c.in_err-request.ensures.bytes
    (sym (g.met.K.Link.one_output c.read_request.new.link) ∙ c.read_request.ensures.other
    ∙ g.met.K.Link.one_output c.args.link.now))

pub returns-then-is_to_disconnect-clause-serves : goal.returns-then-is_to_disconnect-clause-serves
returns-then-is_to_disconnect-clause-serves g c =
    let at = is_asked_at g.B.BlockDevice.io (g.B.BlockDevice.state c.args.device.now c.args.store.now) c.in_ok-request.request
    c.asked_of-asked.result c.geometry.result c.geometry.ensures.same c.asked_of-asked.ensures in
    disconnects g.B.BlockDevice.io _ _ _ c.in_ok-request.request c.asked_of-asked.result at (sym c.is_to_disconnect.ensures
    ∙ c.if-is_to_disconnect.true) c.in_ok-request.ensures.bytes
    (sym (g.met.K.Link.one_output c.read_request.new.link) ∙ c.read_request.ensures.other
    ∙ g.met.K.Link.one_output c.args.link.now)

pub returns-in_err-body-clause-serves : goal.returns-in_err-body-clause-serves
returns-in_err-body-clause-serves g c =
    let p = err_from_is_err_and c.from_residual-in_err-body.result c.from_residual-in_err-body.ensures.1 in
    rw (p.1, p.2, c.hand_over_before.ensures) (data_broken g.B.BlockDevice.io _ _ _ _ c.in_ok-request.request
    c.in_err-body.field-0.0 c.a_message_has_one_reading.ensures.request
    c.in_ok-request.ensures.bytes c.in_err-body.ensures.bytes
    (sym (g.met.K.Link.one_output c.read_content.new.link) ∙ c.read_content.ensures.other ∙ c.read_request.ensures.other
    ∙ g.met.K.Link.one_output c.args.link.now))

pub returns-in_err-told-clause-serves : goal.returns-in_err-told-clause-serves
returns-in_err-told-clause-serves g c =
    let p = err_from_is_err_and c.from_residual-in_err-told.result c.from_residual-in_err-told.ensures.1 in
    let at = is_asked_at g.B.BlockDevice.io (g.B.BlockDevice.state c.args.device.now c.args.store.now) c.in_ok-request.request
    c.asked_of-asked.result c.geometry.result c.geometry.ensures.same c.asked_of-asked.ensures in
    let has = has_read (g.K.Source.remaining c.args.link.now) _ (g.K.Source.remaining c.read_content.new.link)
    c.in_ok-request.request c.in_ok-body.body c.in_ok-request.ensures.bytes c.in_ok-body.ensures.bytes in
    let carried = is_carried_out g.B.BlockDevice.io _ _ c.in_ok-request.request c.in_ok-body.body c.asked_of-asked.result
    c.carry_out-outcome.result
    (g.B.BlockDevice.state c.args.device.now c.args.store.now)
    (g.B.BlockDevice.state c.carry_out-outcome.new.device c.carry_out-outcome.new.store) has at
    (sym c.is_to_disconnect.ensures ∙ c.if-is_to_disconnect.false) c.requires
    (rw (sym c.hand_over_before.ensures) c.carry_out-outcome.ensures) in
    rw (p.1, p.2) (reply_broken g.B.BlockDevice.io _ _ _ (g.K.Sink.contents c.read_content.new.link) c.in_ok-request.request
    c.carry_out-outcome.result _ _ c.in_err-told.field-0.0 carried
    (sym (g.met.K.Link.one_input c.reply-told.new.link) ∙ c.reply-told.ensures.other
    ∙ g.met.K.Link.one_input c.read_content.new.link)
    (sym (g.met.K.Link.one_output c.read_content.new.link) ∙ c.read_content.ensures.other ∙ c.read_request.ensures.other
    ∙ g.met.K.Link.one_output c.args.link.now)
    c.in_err-told.ensures.bytes)

pub returns-in_err-told-clause-count : goal.returns-in_err-told-clause-count
returns-in_err-told-clause-count g c = search rules

pub returns-clause-serves : goal.returns-clause-serves
returns-clause-serves g c =
    let at = is_asked_at g.B.BlockDevice.io (g.B.BlockDevice.state c.args.device.now c.args.store.now) c.in_ok-request.request
    c.asked_of-asked.result c.geometry.result c.geometry.ensures.same c.asked_of-asked.ensures in
    let has = has_read (g.K.Source.remaining c.args.link.now) _ (g.K.Source.remaining c.read_content.new.link)
    c.in_ok-request.request c.in_ok-body.body c.in_ok-request.ensures.bytes c.in_ok-body.ensures.bytes in
    let carried = is_carried_out g.B.BlockDevice.io _ _ c.in_ok-request.request c.in_ok-body.body c.asked_of-asked.result
    c.carry_out-outcome.result
    (g.B.BlockDevice.state c.args.device.now c.args.store.now)
    (g.B.BlockDevice.state c.carry_out-outcome.new.device c.carry_out-outcome.new.store) has at
    (sym c.is_to_disconnect.ensures ∙ c.if-is_to_disconnect.false) c.requires
    (rw (sym c.hand_over_before.ensures) c.carry_out-outcome.ensures) in
    replied g.B.BlockDevice.io _ _ _ (g.K.Sink.contents c.read_content.new.link) c.in_ok-request.request
    c.carry_out-outcome.result _ _ carried
    (sym (g.met.K.Link.one_input c.reply-told.new.link) ∙ c.reply-told.ensures.other
    ∙ g.met.K.Link.one_input c.read_content.new.link)
    (sym (g.met.K.Link.one_output c.read_content.new.link) ∙ c.read_content.ensures.other ∙ c.read_request.ensures.other
    ∙ g.met.K.Link.one_output c.args.link.now)
    c.in_ok-told.ensures.bytes
