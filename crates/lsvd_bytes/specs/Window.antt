-- Contract: what a window shows of bytes, and what a piece that is put among them changes of that.
use Rattle.std.specs.Prelude.{ℕ, ◌≡◌, ◌+◌, ◌≤◌, List, length, take, drop}
use Rattle.lsvd_bytes.specs.Places.{with_bytes}

-- where a window shows the bytes from one on, it is changed as those bytes are by a piece that is put at another
abbrev pub Pastes : ℕ → ℕ → List ℕ → List ℕ → List ℕ → Type 0
Pastes from at piece old new =
    (bytes : List ℕ) → from + length old ≤ length bytes → at + length piece ≤ length bytes
    → old ≡ take (length old) (drop from bytes)
    → new ≡ take (length old) (drop from (with_bytes at piece bytes))
