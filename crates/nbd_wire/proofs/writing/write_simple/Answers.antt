use Rattle.std.proofs.Common.{List, ℕ, ◌++◌, ap, subst}
use Rattle.nbd_wire.specs.Writing.{WritesMessage}
use Rattle.nbd_wire.proofs.writing.write_simple.Goals as goal

pub returns-clause-bytes : goal.returns-clause-bytes
returns-clause-bytes g c =
    let P : List ℕ → Type 0 = λ bytes.
    WritesMessage bytes (g.K.Sink.contents c.args.link.now) (g.K.Sink.contents c.write_both.new.link) c.write_both.result in
    subst P (ap (λ head. head ++ c.args.content.now) c.simple_reply_head.ensures) c.write_both.ensures.bytes
