use Rattle.std.proofs.Common.{◌*◌, List, ℕ, refl, sym, ◌∙◌, ap, subst, arith, rules}
use Rattle.std.proofs.lemmas.Bool.{both_ways}
use Rattle.object_format.specs.Rows.{AreReadAs}
use Rattle.object_format.proofs.ObjectLemmas.{refused_as_rows, zeros_pass, zeros_if_pass, row_part_between, read_may_stand}
use Rattle.object_format.proofs.ObjectLemmas.{object_if_read}
use Rattle.object_format.proofs.rows_reading.read_rows.Goals as goal

pub returns-then-not-is_zeros-clause-refused : goal.returns-then-not-is_zeros-clause-refused
returns-then-not-is_zeros-clause-refused c = (
  refl,
  refused_as_rows c.args.bytes.now c.args.size c.args.expected.now c.args.header.now c.requires.header
      (λ rows is. both_ways _ c.if-not-is_zeros.true
      (c.is_zeros.ensures.1
      (zeros_pass c.args.bytes.now c.args.header.now _ _ c.requires.front
      c.rows_end-rows_end.ensures.is (ap (λ n. n * 512) c.front_sectors.ensures) is.zeros))),
)

pub returns-then-not-may_stand-clause-refused : goal.returns-then-not-may_stand-clause-refused
returns-then-not-may_stand-clause-refused c =
    let P : List ℕ → Type 0 = λ part. AreReadAs c.args.header.now part c.in_ok-rows.rows in (
      refl,
      refused_as_rows c.args.bytes.now c.args.size c.args.expected.now c.args.header.now c.requires.header
          (λ rows is. both_ways _ (sym c.may_stand.ensures ∙ c.if-not-may_stand.true)
          (read_may_stand c.args.bytes.now c.args.size c.args.expected.now c.args.header.now c.in_ok-rows.rows rows (search rules)
          (subst P (row_part_between c.args.bytes.now c.args.header.now _ c.rows_end-rows_end.ensures.is) c.in_ok-rows.ensures)
          is)),
    )

pub returns-clause-ok : goal.returns-clause-ok
returns-clause-ok c =
    let P : List ℕ → Type 0 = λ part. AreReadAs c.args.header.now part c.in_ok-rows.rows in
    object_if_read c.args.bytes.now c.args.size c.args.expected.now c.args.header.now c.in_ok-rows.rows
    (λ i. omega (arith, c.type_inv.bytes i)) c.requires.header c.requires.front
    (subst P (row_part_between c.args.bytes.now c.args.header.now _ c.rows_end-rows_end.ensures.is) c.in_ok-rows.ensures)
    (zeros_if_pass c.args.bytes.now c.args.header.now _ _ c.requires.front
    c.rows_end-rows_end.ensures.is (ap (λ n. n * 512) c.front_sectors.ensures) (c.is_zeros.ensures.0 c.if-not-is_zeros.false))
    (sym c.may_stand.ensures ∙ c.if-not-may_stand.false)
