use Rattle.std.proofs.Common.{List, ℕ, ap, subst, sym, ◌∙◌}
use Rattle.nbd_wire.specs.Messages.{option_reply_bytes}
use Rattle.nbd_wire.specs.Writing.{WritesMessage}
use Rattle.nbd_options.specs.Replies.{block_reply}
use Rattle.nbd_options.proofs.replies.write_blocks.Goals as goal

pub returns-then-blocks-clause-bytes : goal.returns-then-blocks-clause-bytes
returns-then-blocks-clause-bytes g c =
    let P : List ℕ → Type 0 = λ bytes.
    WritesMessage bytes (g.K.Sink.contents c.args.link.now) (g.K.Sink.contents c.write_option_reply.new.link)
    c.write_option_reply.result in
    subst P
    (ap (option_reply_bytes c.args.option 3) c.block_info.ensures
    ∙ ap (block_reply c.args.export.now c.args.option) (sym c.if-blocks.true))
    c.write_option_reply.ensures.bytes
