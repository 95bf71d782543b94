-- Contract: what is seen of a listener over a socket, and of the links that it gives.
use Rattle.std.specs.Prelude.{ℕ, List}

-- how many links it gave, and the count of faults
pub record SocketListenerState : Type 0 where
  pub given : ℕ
  pub faults : ℕ

-- a link: the bytes that it holds back, and its count of faults
pub record SocketLinkState : Type 0 where
  pub held : List ℕ
  pub faults : ℕ
