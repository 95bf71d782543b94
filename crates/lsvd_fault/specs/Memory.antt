-- Contract: what is seen of the ends in memory.
use Rattle.std.specs.Prelude.{ℕ, List}

-- a source: the bytes that are left, and the count of faults
pub record SourceState : Type 0 where
  pub left : List ℕ
  pub faults : ℕ

-- a sink: the bytes that it took, and the count of faults
pub record SinkState : Type 0 where
  pub taken : List ℕ
  pub faults : ℕ

-- a link: both, with one count
pub record LinkState : Type 0 where
  pub left : List ℕ
  pub taken : List ℕ
  pub faults : ℕ
