use Rattle.std.proofs.Common.{rules, ◌≡◌, ℕ, suc, ◌+◌, ◌<◌, ◌≤◌, List, length, take, drop, get_or, sym, subst, arith}
use Rattle.std.specs.List.{AllByRecursion}
use Rattle.std.proofs.lemmas.List.{take_all}
use Rattle.read_plan.specs.Plan.{PieceState, GivesOver, AreAsked, AreAskedOfFirst}
use Rattle.read_plan.proofs.FetchLemmas.{IsToldPiece, told_next, gives_next, no_other, asked_next, on_err}
use Rattle.read_plan.proofs.plan.fetch_each.Goals as goal

pub loop-piece-preserved : goal.loop-piece-preserved
loop-piece-preserved g c =
    let pieces : List PieceState = c.args.pieces.now in
    let index : ℕ = c.loop-piece.piece-index in
    let inside : index < length pieces = search rules in
    let is : c.piece-item.result ≡ get_or pieces index c.piece-item.result = search rules in
    let next : index + 1 ≡ suc index = omega arith in
    record {
      size = search rules;
      gives = λ bytes given.
          c.loop-piece.invariant.gives bytes
          (gives_next pieces index c.piece-item.result c.loop-piece.buf c.fetch.new.buf bytes inside is
          c.in_ok-fetch.ensures.bytes
          (subst (λ n. GivesOver (drop n pieces) c.fetch.new.buf bytes) next given));
      told = λ tells.
          subst (λ n. AllByRecursion IsToldPiece (take n pieces)) (sym next)
          (told_next pieces index c.piece-item.result inside is (c.fetch.ensures.told tells) (c.loop-piece.invariant.told tells));
      asked =
          subst (λ n. AreAsked (take n pieces) (g.S.Store.gets c.args.store.now) (g.S.Store.gets c.fetch.new.store)) (sym next)
          (asked_next pieces index c.piece-item.result (g.S.Store.gets c.args.store.now) (g.S.Store.gets c.loop-piece.store)
          (g.S.Store.gets c.fetch.new.store) inside is c.loop-piece.invariant.asked c.fetch.ensures.asked);
      unchanged = search rules;
    }

pub returns-in_err-fetch-clause-asked_front : goal.returns-in_err-fetch-clause-asked_front
returns-in_err-fetch-clause-asked_front g c =
    let pieces : List PieceState = c.args.pieces.now in
    let index : ℕ = c.loop-piece.piece-index in
    let inside : index < length pieces = search rules in
    let is : c.piece-item.result ≡ get_or pieces index c.piece-item.result = search rules in
    let asked = asked_next pieces index c.piece-item.result (g.S.Store.gets c.args.store.now) (g.S.Store.gets c.loop-piece.store)
    (g.S.Store.gets c.fetch.new.store) inside is c.loop-piece.invariant.asked c.fetch.ensures.asked in
    on_err c.from_residual.result
    (AreAskedOfFirst pieces (g.S.Store.gets c.args.store.now) (g.S.Store.gets c.fetch.new.store)) (suc index, asked)

pub returns-clause-asked : goal.returns-clause-asked
returns-clause-asked g c =
    let pieces : List PieceState = c.args.pieces.now in
    let past : length pieces ≤ c.loop-piece.piece-index = search rules in
    subst (λ (l : List PieceState). AreAsked l (g.S.Store.gets c.args.store.now) (g.S.Store.gets c.loop-piece.store))
    (take_all c.loop-piece.piece-index pieces past) c.loop-piece.invariant.asked

pub returns-clause-one : goal.returns-clause-one
returns-clause-one g c = λ tells bytes given.
    let past : length c.args.pieces.now ≤ c.loop-piece.piece-index = search rules in
    no_other c.args.pieces.now c.loop-piece.piece-index c.args.buf.now c.loop-piece.buf bytes past
    (c.loop-piece.invariant.told tells) c.loop-piece.invariant.gives given
