-- For this crate's own clauses: what a buffer between a link and its socket holds.
use Rattle.std.specs.Prelude.{◌≡◌, ℕ, List, [], ◌++◌, take, drop, ◌-◌}

-- the bytes that wait in it, and for how many more there is room behind them
pub record BufferState : Type 0 where
  pub waiting : List ℕ
  pub room : ℕ

-- one in which nothing waits
abbrev pub empty_buffer : BufferState
empty_buffer = record { waiting = []; room = 65536 }

-- the bytes of a list from one place up to another
abbrev pub bytes_between : List ℕ → ℕ → ℕ → List ℕ
bytes_between bytes from to = take (to - from) (drop from bytes)

-- bytes end with these
pub record EndsWith (bytes last : List ℕ) : Type 0 where
  pub before : List ℕ
  pub joined : bytes ≡ before ++ last
