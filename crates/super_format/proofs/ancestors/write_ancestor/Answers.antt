use Rattle.std.proofs.Common.{◌≡◌, ◌+◌, length, take, drop, ◌++◌, refl, sym, ◌∙◌, ap, arith, rules}
use Rattle.std.specs.Int.{w64, to_be_bytes}
use Rattle.super_format.specs.Ancestors.{ancestor_bytes}
use Rattle.super_format.proofs.PartLemmas.{written_after}
use Rattle.super_format.proofs.ancestors.write_ancestor.Goals as goal

pub returns-clause-bytes : goal.returns-clause-bytes
unfolding ancestor_bytes
returns-clause-bytes c =
    let at = c.args.at in
    let old = c.args.bytes.now in
    let number = to_be_bytes w64 c.args.ancestor.now.checkpoint in
    let size : length c.into_bytes-uuid.result ≡ 16 = search rules in
    written_after at 16 8 c.into_bytes-uuid.result number old c.write_16_bytes.new.bytes c.write_u64.new.bytes size refl
    (omega (arith, c.requires)) c.write_16_bytes.ensures c.write_u64.ensures
    ∙ ap (λ xs. take at old ++ (xs ++ number) ++ drop (at + 24) old) c.into_bytes-uuid.ensures

pub returns-clause-widths : goal.returns-clause-widths
returns-clause-widths c =
    let size : length c.into_bytes-uuid.result ≡ 16 = search rules in
    record { uuid = ap length (sym c.into_bytes-uuid.ensures) ∙ size; checkpoint = search rules }
