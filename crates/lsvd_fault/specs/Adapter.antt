-- Contract: what is seen of the ends over real readers and writers.
use Rattle.std.specs.Prelude.{ℕ, List, Option}

-- a source: the bytes that its reader has left, where it tells them, and the count of faults
pub record ReaderState : Type 0 where
  pub left : Option (List ℕ)
  pub faults : ℕ

-- a sink: the bytes that its writer holds, where it tells them, and the count of faults
pub record WriterState : Type 0 where
  pub taken : Option (List ℕ)
  pub faults : ℕ
