use Rattle.std.proofs.Common.{◌≡◌, ◌^◌, ◌-◌, ◌++◌, ◌<◌, false, [], IfOk, codes, arith}
use Rattle.std.specs.String.{string_bytes}
use Rattle.std.specs.Fmt.{digits, padded_integral, format_spec}
use Rattle.uuid.specs.Text.{hyphenated_text, lower}
use Rattle.lsvd_names.proofs.Hexadecimal.{zero_padded}
use Rattle.lsvd_names.proofs.name.ObjName.print.Goals as goal

pub returns-in-Epoch : goal.returns-in-Epoch
returns-in-Epoch c =
    let name = c.args.self.now in
    let fits : name.number < 2 ^ 64 = omega arith in
    let written : IfOk c.format-in-Epoch.result (λ text. string_bytes text ≡ hyphenated_text lower name.uuid
    ++ (codes ".epoch." ++ padded_integral (format_spec 32 0 4 16 (2 ^ 64 - 1)) false [] (digits 16 false name.number))) =
    rw (c.laid_out.ensures, c.in_radix.ensures) at c.format-in-Epoch.ensures.ok in
    rw c.in-Epoch.is (rw (zero_padded name.number fits) at written)

pub returns-in-Object : goal.returns-in-Object
returns-in-Object c =
    let name = c.args.self.now in
    let fits : name.number < 2 ^ 64 = omega arith in
    let written : IfOk c.format-in-Object.result (λ text. string_bytes text ≡ hyphenated_text lower name.uuid
    ++ (codes ".obj." ++ padded_integral (format_spec 32 0 4 16 (2 ^ 64 - 1)) false [] (digits 16 false name.number))) =
    rw (c.laid_out-in-Object.ensures, c.in_radix-in-Object.ensures) at c.format-in-Object.ensures.ok in
    rw c.in-Object.is (rw (zero_padded name.number fits) at written)

pub returns-in-Hold : goal.returns-in-Hold
returns-in-Hold c =
    let name = c.args.self.now in
    let fits : name.number < 2 ^ 64 = omega arith in
    let written : IfOk c.format-in-Hold.result (λ text. string_bytes text ≡ hyphenated_text lower name.uuid
    ++ (codes ".hold." ++ padded_integral (format_spec 32 0 4 16 (2 ^ 64 - 1)) false [] (digits 16 false name.number))) =
    rw (c.laid_out-in-Hold.ensures, c.in_radix-in-Hold.ensures) at c.format-in-Hold.ensures.ok in
    rw c.in-Hold.is (rw (zero_padded name.number fits) at written)
