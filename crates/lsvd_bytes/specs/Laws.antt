-- Contract: what reads and writes have to do with each other.
use Rattle.std.specs.Prelude.{ℕ, ◌≡◌, ◌+◌, ◌*◌, ◌^◌, ◌<◌, ◌≤◌, ◌⊎◌, List, length, slice_index}
use Rattle.std.specs.Int.{Width, byte_len}
use Rattle.lsvd_bytes.specs.Places.{bytes_at, number_at, with_bytes, with_number}

-- a value that was written is read again
abbrev pub ReadsBytesAgain : Type 0
ReadsBytesAgain =
    (at : ℕ) (value bytes : List ℕ) → at + length value ≤ length bytes
    → bytes_at at (length value) (with_bytes at value bytes) ≡ value

-- a number that was written is read again
abbrev pub ReadsNumberAgain : Width → Type 0
ReadsNumberAgain w =
    (at number : ℕ) (bytes : List ℕ) → at + byte_len w ≤ length bytes → number < 2 ^ (8 * byte_len w)
    → number_at w at (with_number w at number bytes) ≡ number

-- a write makes the bytes neither more nor fewer
abbrev pub KeepsLength : Type 0
KeepsLength =
    (at : ℕ) (value bytes : List ℕ) → at + length value ≤ length bytes
    → length (with_bytes at value bytes) ≡ length bytes

-- `count` bytes from `there` on end before a value that is written at `at`, or begin past its end
abbrev pub IsApart : (there count at : ℕ) → List ℕ → Type 0
IsApart there count at value = (there + count ≤ at) ⊎ (at + length value ≤ there)

-- bytes apart from those that were written are as before
abbrev pub KeepsOtherBytes : Type 0
KeepsOtherBytes =
    (at : ℕ) (value bytes : List ℕ) (there count : ℕ) → at + length value ≤ length bytes
    → IsApart there count at value
    → bytes_at there count (with_bytes at value bytes) ≡ bytes_at there count bytes

-- so is a number in such bytes
abbrev pub KeepsOtherNumbers : Type 0
KeepsOtherNumbers =
    (at : ℕ) (value bytes : List ℕ) (w : Width) (there : ℕ) → at + length value ≤ length bytes
    → IsApart there (byte_len w) at value
    → number_at w there (with_bytes at value bytes) ≡ number_at w there bytes

-- to write what was read changes nothing
abbrev pub RewritesBytes : Type 0
RewritesBytes =
    (at count : ℕ) (bytes : List ℕ) → at + count ≤ length bytes
    → with_bytes at (bytes_at at count bytes) bytes ≡ bytes

-- the same of a number, where each byte is below 256
abbrev pub RewritesNumber : Width → Type 0
RewritesNumber w =
    (at : ℕ) (bytes : List ℕ) → at + byte_len w ≤ length bytes → ((i : ℕ) → slice_index bytes i < 256)
    → with_number w at (number_at w at bytes) bytes ≡ bytes
