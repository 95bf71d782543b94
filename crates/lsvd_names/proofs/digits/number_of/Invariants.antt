use Rattle.std.proofs.Common.{◌≡◌, ◌^◌, ◌<◌, length, take}
use Rattle.lsvd_names.specs.Spelling.{hex_digits}
use Rattle.lsvd_names.proofs.digits.number_of.Given as goal

abbrev pub invariant-loop-digit : goal.invariant-loop-digit
invariant-loop-digit l =
    record {
      count : length l.digits ≡ 16;
      digits : take l.digit-index l.digits ≡ hex_digits l.digit-index l.number;
      small : l.number < 16 ^ l.digit-index;
    }
