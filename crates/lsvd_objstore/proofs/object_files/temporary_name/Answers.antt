use Rattle.std.proofs.Common.{◌≡◌, ◌^◌, ◌-◌, ◌++◌, ◌<◌, false, [], IfOk, codes, arith}
use Rattle.std.specs.String.{string_bytes}
use Rattle.std.specs.Fmt.{digits, padded_integral, format_spec}
use Rattle.lsvd_names.proofs.Hexadecimal.{zero_padded}
use Rattle.lsvd_objstore.proofs.object_files.temporary_name.Goals as goal

pub returns : goal.returns
returns c =
    let fits : c.args.mark < 2 ^ 64 = omega arith in
    let written : IfOk c.format.result (λ text. string_bytes text ≡
    c.args.name.now ++ (codes "." ++ (padded_integral (format_spec 32 0 4 16 (2 ^ 64 - 1)) false [] (digits 16 false c.args.mark)
    ++ codes ".put"))) =
    rw (c.laid_out.ensures, c.in_radix.ensures) at c.format.ensures.ok in
    rw (zero_padded c.args.mark fits) at written
