use Rattle.std.proofs.Common.{◌≡◌, ◌∙◌, length, take, ap, subst, arith}
use Rattle.std.proofs.Math.Seq.{take-length}
use Rattle.std.specs.Str.Parse.{AllDigits, digits_value}
use Rattle.replay_script.proofs.Numbers.{one_more_digit, bad_digit}
use Rattle.replay_script.proofs.number.value_of.Goals as goal

pub returns-in_err-value : goal.returns-in_err-value
returns-in_err-value c =
    rw c.from_residual.ensures
    (bad_digit c.args.digits.now c.loop-digit.digit-index (omega arith)
    (rw c.loop-digit.invariant.value at c.in_err-value.ensures))

pub loop-digit-preserved : goal.loop-digit-preserved
loop-digit-preserved c =
    let step = one_more_digit c.args.digits.now c.loop-digit.digit-index (omega arith) c.loop-digit.invariant.digits
    c.in_ok-value.ensures.0.0 in
    record {
      digits = step.0;
      value = omega (arith, step.1, c.in_ok-value.ensures.1);
      small = omega (arith, c.in_ok-value.ensures.0.1, c.in_ok-value.ensures.1);
    }

pub returns : goal.returns
returns c =
    let all : c.loop-digit.digit-index ≡ length c.args.digits.now = omega arith in
    let whole : take c.loop-digit.digit-index c.args.digits.now ≡ c.args.digits.now = ap (λ i. take i c.args.digits.now) all
    ∙ take-length c.args.digits.now in
    let value : c.loop-digit.value ≡ digits_value 10 c.args.digits.now = c.loop-digit.invariant.value
    ∙ ap (digits_value 10) whole in
    ((subst (AllDigits 10) whole c.loop-digit.invariant.digits, omega (arith, value)), value)
