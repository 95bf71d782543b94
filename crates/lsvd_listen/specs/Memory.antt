-- Contract: what is seen of a listener in memory.
use Rattle.std.specs.Prelude.{ℕ, Bool, List}
use Rattle.lsvd_fault.specs.Memory.{LinkState}

-- the links that it has left, how many it gave, whether it is closed, and the count of faults
pub record MemListenerState : Type 0 where
  pub left : List LinkState
  pub given : ℕ
  pub closed : Bool
  pub faults : ℕ
