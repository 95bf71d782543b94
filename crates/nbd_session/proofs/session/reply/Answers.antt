use Rattle.nbd_session.proofs.RequestLemmas.{writes_data, writes_error}
use Rattle.nbd_session.proofs.session.reply.Goals as goal

pub returns-in-Ok-clause-bytes : goal.returns-in-Ok-clause-bytes
returns-in-Ok-clause-bytes g c = writes_data c.args.cookie _ _ _ _ _ _ c.in-Ok.is c.as_bytes.ensures.bytes
    c.write_simple.ensures.bytes

pub returns-in-Err-clause-bytes : goal.returns-in-Err-clause-bytes
returns-in-Err-clause-bytes g c = writes_error c.args.cookie _ _ _ _ _ _ c.in-Err.is c.code.ensures
    c.write_simple-in-Err.ensures.bytes
