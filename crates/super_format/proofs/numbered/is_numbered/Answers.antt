use Rattle.std.proofs.Common.{◌≡◌, length, arith, rules}
use Rattle.super_format.proofs.NumberedLemmas.{fields_of_numbered, numbered_if_reads}
use Rattle.super_format.proofs.numbered.is_numbered.Goals as goal

pub returns : goal.returns
returns c =
    let bytes = c.args.bytes.now in
    let magic = c.args.magic.now in
    let eight : length magic ≡ 8 = search rules in (
      λ yes.
          numbered_if_reads bytes magic c.args.uuid c.args.number (λ i. omega (arith, c.type_inv.bytes i)) c.ranges.number.fits
          (c.has_fields.ensures.0 yes),
      λ is. c.has_fields.ensures.1 (fields_of_numbered bytes magic c.args.uuid c.args.number eight is),
    )
