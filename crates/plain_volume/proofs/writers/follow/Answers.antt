use Rattle.std.proofs.Common.{Some, None, ◌∙◌, sym, ap, refl}
use Rattle.plain_disk.specs.Writers.{writer_of}
use Rattle.plain_volume.proofs.Followed.{follows, of_variants}
use Rattle.plain_volume.proofs.writers.follow.Goals as goal

pub returns-in-Write : goal.returns-in-Write
returns-in-Write c = λ history count shows.
    follows history c.args.entry.now c.args.lba c.covered-start.result.0 c.covered-start.result.1 (Some c.args.index)
    c.args.last.now c.fill.new.self
    c.covered-start.ensures.start c.covered-start.ensures.end (ap Some (sym count) ∙ sym (ap (writer_of _) c.in-Write.is)) shows
    (c.fill.ensures.after (of_variants _ _ (λ e. absurd e) (λ n e. ap Some e)))

pub returns-in-Zero : goal.returns-in-Zero
returns-in-Zero c = λ history count shows.
    follows history c.args.entry.now c.args.lba c.covered-start.result.0 c.covered-start.result.1 None c.args.last.now
    c.fill-in-Zero.new.self
    c.covered-start.ensures.start c.covered-start.ensures.end (sym (ap (writer_of _) c.in-Zero.is)) shows
    (c.fill-in-Zero.ensures.after (of_variants _ _ (λ e. refl) (λ n e. absurd e)))
