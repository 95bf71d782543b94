use Rattle.std.proofs.Common.{List, ℕ, ◌-◌, length, sym, subst, ◌∙◌, rules}
use Rattle.std.specs.Io.KnownBytes.{Consumes}
use Rattle.lsvd_fault.proofs.Streams.{consumes_more}
use Rattle.nbd_wire.proofs.ReadingLemmas.{filled_more, filled_within}
use Rattle.nbd_wire.proofs.filling.fill.Goals as goal

pub loop-filled-preserved : goal.loop-filled-preserved
loop-filled-preserved g c =
    let buf = c.loop-filled.buf in
    let filled = c.loop-filled.filled in
    let count = c.in_ok-count.count in
    let within = c.loop-filled.invariant.within in
    let P : List ℕ → Type 0 = λ bytes. Consumes (g.K.Source.remaining c.args.link.now)
    (g.K.Source.remaining c.read.new.self) bytes in
    record {
      read =
          subst P (sym (filled_more buf c.read.new.buf filled (length buf - filled) count within (search rules)))
          (consumes_more _ _ _ _ _ c.loop-filled.invariant.read c.in_ok-count.ensures.bytes.0);
      within = filled_within buf c.read.new.buf filled count within (search rules) (search rules);
      other = c.in_ok-count.ensures.other ∙ c.loop-filled.invariant.other;
      none_failed = c.in_ok-count.ensures.count ∙ c.loop-filled.invariant.none_failed;
    }
