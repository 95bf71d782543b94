-- Contract: what is expected of a volume's object by itself.
use Rattle.std.specs.Prelude.{ℕ, None}
use Rattle.object_format.specs.declared.expected.Expected.{Expected}

-- What is expected of a volume's object of this number, where the end before it is not known; the rest is the volume's.
abbrev pub expected_alone : Expected → (number : ℕ) → Expected
expected_alone volume number = record volume { number = number; end_before = None }
