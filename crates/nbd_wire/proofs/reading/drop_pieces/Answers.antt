use Rattle.std.proofs.Common.{◌≡◌, ℕ, ◌-◌, length, subst, ◌∙◌, arith, rules}
use Rattle.std.specs.Prelude.{⊤}
use Rattle.std.proofs.lemmas.Result.{err_from_is_err_and}
use Rattle.nbd_wire.proofs.ReadingLemmas.{IsPartRead, data_end_after, part_more}
use Rattle.nbd_wire.proofs.reading.drop_pieces.Goals as goal

pub returns-in_err-read_data-clause-bytes : goal.returns-in_err-read_data-clause-bytes
returns-in_err-read_data-clause-bytes g c =
    let p = err_from_is_err_and c.from_residual.result c.from_residual.ensures.1 in
    rw (p.1, p.2)
    (data_end_after {T = Unit {0}} {U = Unit {0}} _ _ _ (λ bytes _. c.read_data.new.buf ≡ bytes) (λ _ _. ⊤) _ _ _
    c.loop-left.invariant.part (search rules) _ c.in_err-read_data.ensures.bytes)

pub loop-left-preserved : goal.loop-left-preserved
loop-left-preserved g c =
    let read = c.in_ok-read_data.ensures.bytes in
    let whole : length c.read_data.new.buf ≡ c.min-end.result = search rules in
    let P : ℕ → Type 0 = λ n.
    IsPartRead c.args.size (c.loop-left.left - n) (g.K.Source.remaining c.args.link.now)
    (g.K.Source.remaining c.read_data.new.link) in
    record {
      part = subst P (read.1 ∙ whole) (part_more _ _ _ _ _ _ c.loop-left.invariant.part (omega (arith, read.1, whole)) read.3);
      other = search rules;
      none_failed = search rules;
    }
