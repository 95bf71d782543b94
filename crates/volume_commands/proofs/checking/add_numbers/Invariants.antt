use Rattle.std.proofs.Common.{◌≡◌, ◌++◌, take}
use Rattle.volume_commands.specs.Checking.{number_words}
use Rattle.volume_commands.proofs.checking.add_numbers.Given as goal

-- the word stands there, and the numbers so far behind it
abbrev pub invariant-loop-number : goal.invariant-loop-number
invariant-loop-number l = l.text.items ≡ l.fn.text.items ++ l.word ++ number_words (take l.number-index l.numbers)
