-- Contract: the numbers that are told for bad lines.
use Rattle.std.specs.Prelude.{ℕ}
use Rattle.transcript.specs.declared.reason.LineReason.{LineReason}
use Rattle.transcript.specs.declared.reason.LineReason.TheVariants.{UnknownCommand, WordCount, Form, NotAllowed, Letters, TooLong}

-- the number of a reason
abbrev pub code_of : LineReason → ℕ
code_of UnknownCommand = 1
code_of WordCount = 2
code_of Form = 3
code_of NotAllowed = 4
code_of Letters = 5
code_of TooLong = 6
