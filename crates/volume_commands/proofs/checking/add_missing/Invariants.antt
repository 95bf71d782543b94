use Rattle.std.proofs.Common.{◌≡◌, ◌++◌, take}
use Rattle.volume_commands.specs.Checking.{missing_words}
use Rattle.volume_commands.proofs.checking.add_missing.Given as goal

-- the word stands there, and the objects so far behind it
abbrev pub invariant-loop-object : goal.invariant-loop-object
invariant-loop-object l = l.text.items ≡ l.fn.text.items ++ l.word ++ missing_words (take l.object-index l.missing)
