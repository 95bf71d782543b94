use Rattle.std.proofs.Common.{◌+◌, ◌*◌, refl, length, ap, arith}
use Rattle.std.proofs.lemmas.List.{take_more}
use Rattle.lsvd_names.specs.Spelling.{hex_digits}
use Rattle.lsvd_names.proofs.Hexadecimal.{length-hex_digits, one_more_digit, fits_more, fits_in_64_bits, bad_digit}
use Rattle.lsvd_names.proofs.digits.number_of.Goals as goal

pub returns-then-digits-ne16-clause-none : goal.returns-then-digits-ne16-clause-none
returns-then-digits-ne16-clause-none c = λ n e. omega (arith, ap length e, length-hex_digits 16 n)

pub loop-digit-init : goal.loop-digit-init
unfolding hex_digits
loop-digit-init c = record { count = omega arith; digits = refl; small = omega arith }

pub overflow_mul-number : goal.overflow_mul-number
overflow_mul-number c =
    let i = c.loop-digit.digit-index in
    let more = fits_more i c.loop-digit.number 0 c.loop-digit.invariant.small (omega arith) in
    omega (arith, fits_in_64_bits (i + 1) (c.loop-digit.number * 16 + 0) more (omega arith))

pub overflow_add-number : goal.overflow_add-number
overflow_add-number c =
    let i = c.loop-digit.digit-index in
    let digit = c.in_ok-hex_digit_of.ensures.found.0 in
    let more = fits_more i c.loop-digit.number c.in_ok-hex_digit_of.field-0 c.loop-digit.invariant.small digit in
    omega (arith, fits_in_64_bits (i + 1) (c.loop-digit.number * 16 + c.in_ok-hex_digit_of.field-0) more (omega arith))

pub returns-in_err-hex_digit_of-clause-none : goal.returns-in_err-hex_digit_of-clause-none
returns-in_err-hex_digit_of-clause-none c =
    rw c.from_residual.ensures (bad_digit c.args.digits.now c.loop-digit.digit-index (omega arith)
    c.in_err-hex_digit_of.ensures.none)

pub loop-digit-preserved : goal.loop-digit-preserved
loop-digit-preserved c =
    let i = c.loop-digit.digit-index in
    let n = c.loop-digit.number in
    let d = c.in_ok-hex_digit_of.field-0 in
    let digit = c.in_ok-hex_digit_of.ensures.found in
    let read = take_more c.args.digits.now i 0 c.loop-digit-test.true in
    let spelled = one_more_digit i n d digit.0 in
    record {
      count = c.if-digits-ne16.false;
      digits = cc (digit.1, c.loop-digit.invariant.digits, c.from.ensures);
      small = omega (arith, fits_more i n d c.loop-digit.invariant.small digit.0, c.from.ensures);
    }
