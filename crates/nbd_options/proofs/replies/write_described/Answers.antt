use Rattle.std.proofs.Common.{List, ℕ, ◌++◌, ap, subst}
use Rattle.std.specs.Prelude.{Err}
use Rattle.std.specs.Io.KnownBytes.{Appends}
use Rattle.nbd_wire.specs.Messages.{option_reply_bytes}
use Rattle.nbd_wire.specs.Writing.{WritesMessage}
use Rattle.nbd_options.specs.Replies.{export_info, block_reply, acknowledgement}
use Rattle.lsvd_fault.proofs.Streams.{appends_more}
use Rattle.nbd_options.proofs.ReplyLemmas.{writes_more, writes_no_more, tells_no_more}
use Rattle.nbd_options.proofs.replies.write_described.Goals as goal

pub returns-in_err-write_option_reply-clause-bytes : goal.returns-in_err-write_option_reply-clause-bytes
returns-in_err-write_option_reply-clause-bytes g c =
    let export = c.args.export.now in
    let info = option_reply_bytes c.args.option 3 (export_info export) in
    let blocks = block_reply export c.args.option c.args.blocks in
    let P : List ℕ → Type 0 = λ bytes.
    WritesMessage {T = Unit {0}} bytes (g.K.Sink.contents c.args.link.now) (g.K.Sink.contents c.write_option_reply.new.link)
    (Err c.in_err-write_option_reply.field-0.0) in
    let front = subst P (ap (option_reply_bytes c.args.option 3) c.export_info.ensures)
    c.in_err-write_option_reply.ensures.bytes in
    tells_no_more (info ++ blocks) (acknowledgement c.args.option) _ _ c.from_residual.result _ c.from_residual.ensures.1
    (writes_no_more info blocks _ _ _ front)

pub returns-in_err-write_blocks-clause-bytes : goal.returns-in_err-write_blocks-clause-bytes
returns-in_err-write_blocks-clause-bytes g c =
    let export = c.args.export.now in
    let info = option_reply_bytes c.args.option 3 (export_info export) in
    let blocks = block_reply export c.args.option c.args.blocks in
    let P : List ℕ → Type 0 = λ bytes.
    Appends (g.K.Sink.contents c.args.link.now) (g.K.Sink.contents c.write_option_reply.new.link) bytes in
    let written = subst P (ap (option_reply_bytes c.args.option 3) c.export_info.ensures)
    c.in_ok-write_option_reply.ensures.bytes in
    tells_no_more (info ++ blocks) (acknowledgement c.args.option) _ _ c.from_residual-in_err-write_blocks.result _
    c.from_residual-in_err-write_blocks.ensures.1
    (writes_more {T = Unit {0}} info blocks _ _ _ (Err c.in_err-write_blocks.field-0.0) written
    c.in_err-write_blocks.ensures.bytes)

pub returns-clause-bytes : goal.returns-clause-bytes
returns-clause-bytes g c =
    let export = c.args.export.now in
    let info = option_reply_bytes c.args.option 3 (export_info export) in
    let blocks = block_reply export c.args.option c.args.blocks in
    let P : List ℕ → Type 0 = λ bytes.
    Appends (g.K.Sink.contents c.args.link.now) (g.K.Sink.contents c.write_option_reply.new.link) bytes in
    let written = subst P (ap (option_reply_bytes c.args.option 3) c.export_info.ensures)
    c.in_ok-write_option_reply.ensures.bytes in
    writes_more (info ++ blocks) (acknowledgement c.args.option) _ _ _ c.write_option_reply-2.result
    (appends_more _ _ _ info blocks written c.in_ok-write_blocks.ensures.bytes) c.write_option_reply-2.ensures.bytes
