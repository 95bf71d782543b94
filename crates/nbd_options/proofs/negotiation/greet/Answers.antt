use Rattle.std.proofs.Common.{sym, ◌∙◌, refl}
use Rattle.std.proofs.lemmas.Result.{err_from_is_err_and}
use Rattle.nbd_options.proofs.NegotiationLemmas.{greeting_broken, flags_broken, flags_read}
use Rattle.nbd_options.proofs.negotiation.greet.Goals as goal

pub returns-in_err-write_greeting-clause-bytes : goal.returns-in_err-write_greeting-clause-bytes
returns-in_err-write_greeting-clause-bytes g c =
    let p = err_from_is_err_and c.from_residual.result c.from_residual.ensures.1 in
    rw (p.1, p.2) (λ export. greeting_broken export _ _ _ _ c.in_err-write_greeting.field-0.0
    (sym (g.met.K.Link.one_input c.write_greeting.new.link) ∙ c.write_greeting.ensures.other
    ∙ g.met.K.Link.one_input c.args.link.now)
    c.in_err-write_greeting.ensures.bytes)

pub returns-in_err-flags-clause-bytes : goal.returns-in_err-flags-clause-bytes
returns-in_err-flags-clause-bytes g c =
    let p = err_from_is_err_and c.from_residual-in_err-flags.result c.from_residual-in_err-flags.ensures.1 in
    rw (p.1, p.2) (λ export. flags_broken export _ _ _ _ _ _ c.in_err-flags.field-0.0
    (sym (g.met.K.Link.one_input c.write_greeting.new.link) ∙ c.write_greeting.ensures.other
    ∙ g.met.K.Link.one_input c.args.link.now)
    (sym (g.met.K.Link.one_output c.read_flags.new.link) ∙ c.read_flags.ensures.other
    ∙ g.met.K.Link.one_output c.write_greeting.new.link)
    c.in_ok-write_greeting.ensures.bytes c.in_err-flags.ensures.bytes)

pub returns-clause-bytes : goal.returns-clause-bytes
returns-clause-bytes g c = λ export. (
  c.in_ok-flags.flags,
  refl,
  flags_read export _ _ _ _ _ _ c.in_ok-flags.flags
      (sym (g.met.K.Link.one_input c.write_greeting.new.link) ∙ c.write_greeting.ensures.other
      ∙ g.met.K.Link.one_input c.args.link.now)
      (sym (g.met.K.Link.one_output c.read_flags.new.link) ∙ c.read_flags.ensures.other
      ∙ g.met.K.Link.one_output c.write_greeting.new.link)
      c.in_ok-write_greeting.ensures.bytes c.in_ok-flags.ensures.bytes,
)
