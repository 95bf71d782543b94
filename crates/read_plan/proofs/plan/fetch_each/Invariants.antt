use Rattle.std.proofs.Common.{◌≡◌, ℕ, List, length, take, drop}
use Rattle.std.specs.Prelude.{IsSome}
use Rattle.std.specs.List.{AllByRecursion}
use Rattle.read_plan.specs.Plan.{GivesOver, AreAsked}
use Rattle.read_plan.proofs.FetchLemmas.{IsToldPiece}
use Rattle.read_plan.proofs.plan.fetch_each.Given as goal

abbrev pub invariant-loop-piece : goal.invariant-loop-piece
invariant-loop-piece g l = record {
  size : length l.buf ≡ length l.fn.buf;
  gives : (bytes : List ℕ) → GivesOver (drop l.piece-index l.pieces) l.buf bytes
      → GivesOver l.pieces l.fn.buf bytes;
  told : ((receipt : _) → IsSome (g.R.Receipt.state receipt).told)
      → AllByRecursion IsToldPiece (take l.piece-index l.pieces);
  asked : AreAsked (take l.piece-index l.pieces) (g.S.Store.gets l.fn.store) (g.S.Store.gets l.store);
  unchanged : g.S.Store.state l.store ≡ g.S.Store.state l.fn.store;
}
