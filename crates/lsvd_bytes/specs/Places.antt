-- Contract: bytes and numbers at a place of a list of bytes.
use Rattle.std.specs.Prelude.{ℕ, ◌+◌, List, ◌++◌, length, take, drop}
use Rattle.std.specs.Int.{Width, byte_len, from_be_bytes, to_be_bytes}

-- `count` bytes from a place on
abbrev pub bytes_at : ℕ → ℕ → List ℕ → List ℕ
bytes_at at count bytes = take count (drop at bytes)

-- the number of a width from a place on
abbrev pub number_at : Width → ℕ → List ℕ → ℕ
number_at w at bytes = from_be_bytes w (bytes_at at (byte_len w) bytes)

-- the bytes after a value was written from a place on
abbrev pub with_bytes : ℕ → List ℕ → List ℕ → List ℕ
with_bytes at value bytes = take at bytes ++ value ++ drop (at + length value) bytes

-- the bytes after a number of a width was written from a place on
abbrev pub with_number : Width → ℕ → ℕ → List ℕ → List ℕ
with_number w at number bytes = with_bytes at (to_be_bytes w number) bytes
