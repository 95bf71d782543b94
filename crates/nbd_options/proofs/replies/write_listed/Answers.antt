use Rattle.std.proofs.Common.{List, ℕ, ap, subst}
use Rattle.std.specs.Prelude.{Err}
use Rattle.std.specs.Io.KnownBytes.{Appends}
use Rattle.nbd_wire.specs.Messages.{option_reply_bytes}
use Rattle.nbd_wire.specs.Writing.{WritesMessage}
use Rattle.nbd_options.specs.Replies.{named_export, acknowledgement}
use Rattle.nbd_options.proofs.ReplyLemmas.{writes_more, tells_no_more}
use Rattle.nbd_options.proofs.replies.write_listed.Goals as goal

pub returns-in_err-write_option_reply-clause-bytes : goal.returns-in_err-write_option_reply-clause-bytes
returns-in_err-write_option_reply-clause-bytes g c =
    let P : List ℕ → Type 0 = λ bytes.
    WritesMessage {T = Unit {0}} bytes (g.K.Sink.contents c.args.link.now) (g.K.Sink.contents c.write_option_reply.new.link)
    (Err c.in_err-write_option_reply.field-0.0) in
    tells_no_more (option_reply_bytes c.args.option 2 (named_export c.args.export.now)) (acknowledgement c.args.option) _ _
    c.from_residual.result _ c.from_residual.ensures.1
    (subst P (ap (option_reply_bytes c.args.option 2) c.named_export.ensures) c.in_err-write_option_reply.ensures.bytes)

pub returns-clause-bytes : goal.returns-clause-bytes
returns-clause-bytes g c =
    let P : List ℕ → Type 0 = λ bytes.
    Appends (g.K.Sink.contents c.args.link.now) (g.K.Sink.contents c.write_option_reply.new.link) bytes in
    writes_more (option_reply_bytes c.args.option 2 (named_export c.args.export.now)) (acknowledgement c.args.option) _ _ _
    c.write_option_reply-2.result
    (subst P (ap (option_reply_bytes c.args.option 2) c.named_export.ensures) c.in_ok-write_option_reply.ensures.bytes)
    c.write_option_reply-2.ensures.bytes
